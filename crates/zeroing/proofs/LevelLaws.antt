-- With fewer levels a zeroing is refused with 4, or it is the same: the first group inside that is not the same is refused with
-- 4. By induction on the levels, and on the fields of each group. So a group that is refused with 4 has this refused too where
-- all before it were given with more levels. Assumes nothing.
use mathlib.Core.Path.{◌≡◌, refl}
use mathlib.Core.Bool.{Bool, true, false}
use mathlib.Core.Logic.{◌⊎◌, inl, inr}
use mathlib.Core.List.{List, [], ◌∷◌}
use Rattle.std.specs.Prelude.{Option, None, Some}
use Prim.Native.Nat.{ℕ, zero, suc, ◌≤◌}
use native.Mathlib.Omega.{arith}
use lib.Dec.{eqb}
use Rattle.text.specs.Bytes.{Str, cond}
use Rattle.text.specs.Lines.{Branch, Line}
use Rattle.tree.specs.Tree.{Slot, Arm, slot, group, Field, Node, Sheet}
use Rattle.codegen_types.specs.Out.{Out, ok, refused, ◌then◌}
use Rattle.codegen_types.specs.TypeString.{is_pointer, node_of}
use Rattle.calls.specs.Calls.{zero_tag}
use Rattle.codegen.specs.Zeroing.{Zeroing, zero_line, contains, push, no_push, zero_slot, zero_field, zero_fields, zero_node}
use Rattle.codegen.specs.Zeroing.{zero_fields_of_group}

-- o is given with some levels, and p with fewer
abbrev pub Less : Out Zeroing → Out Zeroing → Type 0
Less o p = (p ≡ refused 4) ⊎ (p ≡ o)

abbrev pub Fewer : (ℕ → Out Zeroing) → (ℕ → Out Zeroing) → Type 0
Fewer inner other = (id : ℕ) → Less (inner id) (other id)

pub less_refused : (o p : Out Zeroing) → Less o p → o ≡ refused 4 → p ≡ refused 4
less_refused o p (inl e) h = e
less_refused o p (inr e) h = rw (e, h) refl

less_then : (o p : Out Zeroing) (f : Zeroing → Out Zeroing) → Less o p → Less (o then f) (p then f)
less_then o p f (inl e) = inl (rw e refl)
less_then o p f (inr e) = inr (rw e refl)

less_both : (o p q r : Out Zeroing) (f : Zeroing → Zeroing → Out Zeroing) → Less o p → Less q r
    → Less (o then λ g. q then f g) (p then λ g. r then f g)
less_both o p q r f (inl e) h = inl (rw e refl)
less_both o p q r f (inr e) h = rw e (go o)
  where
    go : (o : Out Zeroing) → Less (o then λ g. q then f g) (o then λ g. r then f g)
    go (ok g) = less_then q r (f g) h
    go (refused k) = inr refl

less_slot : (seen : List Str) (clear : Bool) (line : Option Str) (more later : List Str → Out Zeroing)
    → ((seen : List Str) → Less (more seen) (later seen))
    → Less (zero_slot seen clear line more) (zero_slot seen clear line later)
less_slot seen clear None more later h = h seen
less_slot seen clear (Some line) more later h = go (contains seen line)
  where
    go : (t : Bool) → Less
        (cond t (more seen then λ z. ok (no_push clear z)) (more (line ∷ seen) then λ z. ok (push (Line line) clear z)))
        (cond t (later seen then λ z. ok (no_push clear z)) (later (line ∷ seen) then λ z. ok (push (Line line) clear z)))
    go true = less_then (more seen) (later seen) _ (h seen)
    go false = less_then (more (line ∷ seen)) (later (line ∷ seen)) _ (h (line ∷ seen))

module _ (inner other : ℕ → Out Zeroing) (fewer : Fewer inner other) where
  less-field : (seen : List Str) (a : Arm) (more later : List Str → Out Zeroing)
      → ((seen : List Str) → Less (more seen) (later seen)) → Less (zero_field inner seen a more) (zero_field other seen a later)
  less-field seen (slot s) more later h = less_slot seen (is_pointer s.ty) (zero_line s) more later h
  less-field seen (group id) more later h =
      less_both (inner id) (other id) (more seen) (later seen) (λ g z. ok (push (Branch g.result) g.clear z)) (fewer id)
      (h seen)

  less-fields : (fs : List Field) (seen : List Str) → Less (zero_fields inner seen fs) (zero_fields other seen fs)
  unfolding zero_fields
  less-fields [] seen = inr refl
  less-fields (f ∷ fs) seen =
      less-field seen f.arm (λ s. zero_fields inner s fs) (λ s. zero_fields other s fs) (less-fields fs)

  less-node : (n : Node) → Less (zero_node inner n) (zero_node other n)
  less-node n = go (eqb n.tag_count 0)
    where
      tag : Str
      tag = zero_tag n.tag_offset

      go : (t : Bool) → Less
          (cond t (zero_fields inner [] n.fields)
          (zero_fields inner (tag ∷ []) n.fields then λ z. ok (push (Line tag) false z)))
          (cond t (zero_fields other [] n.fields)
          (zero_fields other (tag ∷ []) n.fields then λ z. ok (push (Line tag) false z)))
      go true = less-fields n.fields []
      go false =
          less_then (zero_fields inner (tag ∷ []) n.fields) (zero_fields other (tag ∷ []) n.fields) _
          (less-fields n.fields (tag ∷ []))

-- the law: l levels against m
pub less_levels : (sheet : Sheet) (l m : ℕ) → l ≤ m → Fewer (zero_fields_of_group sheet m) (zero_fields_of_group sheet l)
unfolding zero_fields_of_group
less_levels sheet zero m h id = inl refl
less_levels sheet (suc l) zero h id = let z : ⊥ = omega arith in absurd z
less_levels sheet (suc l) (suc m) h id = go (node_of sheet.nodes id) (less_levels sheet l m (omega arith))
  where
    struct : (n : Node) → Fewer (zero_fields_of_group sheet m) (zero_fields_of_group sheet l) → (t : Bool)
        → Less (cond t (zero_node (zero_fields_of_group sheet m) n) (refused 14))
        (cond t (zero_node (zero_fields_of_group sheet l) n) (refused 14))
    struct n f true = less-node (zero_fields_of_group sheet m) (zero_fields_of_group sheet l) f n
    struct n f false = inr refl

    go : (o : Out Node) → Fewer (zero_fields_of_group sheet m) (zero_fields_of_group sheet l)
        → Less (o then λ n. cond (eqb n.is_struct 1) (zero_node (zero_fields_of_group sheet m) n) (refused 14))
        (o then λ n. cond (eqb n.is_struct 1) (zero_node (zero_fields_of_group sheet l) n) (refused 14))
    go (ok n) f = struct n f (eqb n.is_struct 1)
    go (refused k) f = inr refl

-- ---- a refusal with 4 goes back over the fields before it

cond_same : (t : Bool) (o : Out Zeroing) → cond t o o ≡ o
cond_same true o = refl
cond_same false o = refl

module _ (other : ℕ → Out Zeroing) where
  pub back-here : (f : Field) (fs : List Field) (seen : List Str) (id : ℕ) → f.arm ≡ group id → other id ≡ refused 4
      → zero_fields other seen (f ∷ fs) ≡ refused 4
  unfolding zero_fields
  back-here f fs seen id e h = rw (e, h) refl

  module _ (f : Field) (fs : List Field) (later : (seen : List Str) → zero_fields other seen fs ≡ refused 4)
      (seen : List Str) where
    pub back-slot : (s : Slot) → f.arm ≡ slot s → zero_fields other seen (f ∷ fs) ≡ refused 4
    unfolding zero_fields
    back-slot s e = rw e (go (zero_line s))
      where
        go : (line : Option Str) → zero_slot seen (is_pointer s.ty) line (λ s. zero_fields other s fs) ≡ refused 4
        go None = later seen
        go (Some line) = rw (later seen, later (line ∷ seen)) (cond_same (contains seen line) (refused 4))

    -- a group that was given with more levels
    pub back-group : (id : ℕ) → f.arm ≡ group id → (z : Zeroing) → Less (ok z) (other id)
        → zero_fields other seen (f ∷ fs) ≡ refused 4
    unfolding zero_fields
    back-group id e z (inl h) = back-here f fs seen id e h
    back-group id e z (inr h) = rw (e, h, later seen) refl

  -- over the tag too
  pub back-node : (n : Node) → ((seen : List Str) → zero_fields other seen n.fields ≡ refused 4)
      → zero_node other n ≡ refused 4
  back-node n later = rw (later [], later (zero_tag n.tag_offset ∷ [])) (cond_same (eqb n.tag_count 0) (refused 4))
