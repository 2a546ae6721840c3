-- Laws of walks: one turn of each walk over the rows of a type, said over plain rows, the first row's line and the rows after
-- it. Assumes nothing.
use mathlib.Core.Path.{◌≡◌, refl, sym, ap, ◌∙◌}
use mathlib.Core.Bool.{Bool, true, false}
use mathlib.Core.Logic.{◌⊎◌, inl, inr}
use Rattle.std.specs.Prelude.{Option, None, Some, Result, Ok, Err}
use Prim.Native.Nat.{ℕ, zero, suc, ◌+◌, ◌-◌, ◌≤◌}
use native.Mathlib.Omega.{arith}
use native.Mathlib.Numerals.{add-one, sub-one}
use borrow.Author.Tests.{ne_eqb, le-ltb}
use lib.Dec.{eqb}
use lib.ListN.{drop}
use Rattle.text.specs.Bytes.{Str, cond}
use Rattle.terms.specs.Kinds.{number_of}
use Rattle.terms.specs.declared.kinds.Kind.{Kind}
use Rattle.terms.specs.declared.kinds.Kind.TheVariants as kind
use Rattle.terms.specs.Refusals.{number}
use Rattle.row.specs.Rows.{rows, rest_of}
use Rattle.row.specs.Line.{Fault, fault, misplaced, line_said, line_at, fault_of}
use Rattle.row.specs.declared.BadLine.{BadLine}
use Rattle.row.specs.declared.Line.{Line}
use Rattle.row.specs.declared.Line.TheVariants.{Typ, Scope, Unbound}
use Rattle.tree.specs.Tree.{Ty, Binds, end, stop, bound}
use Rattle.tree.specs.Reader.{Rows, Reading, got, no, Reader, ◌then◌, map_r, told, times, on_type}
use Rattle.tree.specs.Read.{read_binding, read_scope, type_from, read_type}
use Rattle.tree.specs.Walked.{passed, refused_row, walked, faulty_at, misplaced_at, end_at, wrong_at}
use Rattle.tree.specs.declared.RefusedRow.{RefusedRow}
use Rattle.tree.proofs.ElseLaws.{OtherThan, good-fault, else-type, else-scope, else-unbound}

pub passed-map : {A B : Type 0} (f : A → B) (g : Reading A) → passed (g then λ a. got (f a)) ≡ passed g
passed-map f (got a rs) = refl
passed-map f (no k rs) = refl

pub passed_then :
    {A B : Type 0} (g : Reading A) (k : A → Reader B) (h : Reader (Unit {0}))
    → ((a : A) (rs : Rows) → passed (k a rs) ≡ h rs) → passed (g then k) ≡ (passed g then λ u. h)
passed_then (got a rs) k h e = e a rs
passed_then (no n rs) k h e = refl

-- ---- what belongs to a T row, by its kind

alone :
    (ty : Reader Ty) (k : Kind) (a b c : ℕ) (rest : Rows) → (k ≡ kind.List → ⊥) → (k ≡ kind.Enum → ⊥) → (k ≡ kind.Struct → ⊥)
    → (k ≡ kind.Interface → ⊥) → passed (type_from ty (number_of k) a b c rest) ≡ got tt rest
unfolding type_from
alone ty kind.List a b c rest l e s i = absurd (l refl)
alone ty kind.Enum a b c rest l e s i = absurd (e refl)
alone ty kind.Struct a b c rest l e s i = absurd (s refl)
alone ty kind.Interface a b c rest l e s i = absurd (i refl)
alone ty (kind.Unnamed u) a b c rest l e s i =
    let n = u.number in
    let past = u.past in
    rw (le-ltb n 14 (omega arith), ne_eqb n 14 (λ z. omega arith), le-ltb n 18 (omega arith)) refl
alone ty k a b c rest l e s i = refl

with_scopes :
    (ty : Reader Ty) (k : Kind) (a b c : ℕ) (rest : Rows) → (k ≡ kind.Enum) ⊎ ((k ≡ kind.Struct) ⊎ (k ≡ kind.Interface))
    → passed (type_from ty (number_of k) a b c rest) ≡ passed (times (read_scope ty) end b rest)
unfolding type_from
with_scopes ty k a b c rest (inl e) = rw e (passed-map _ (times (read_scope ty) end b rest))
with_scopes ty k a b c rest (inr (inl e)) = rw e (passed-map _ (times (read_scope ty) end b rest))
with_scopes ty k a b c rest (inr (inr e)) = rw e (passed-map _ (times (read_scope ty) end b rest))

-- ---- lines that may not stand where they stand

-- what is refused where a line must stand: the fault of a bad one, or 2
abbrev pub fault_or : Option Fault → Fault
fault_or (Some k) = k
fault_or None = misplaced

-- what holds of a fault, and of what another reader reads
pub by_told :
    {A : Type 0} (P : Reading A → Type 0) (o : Option Fault) (other : Reader A) (rs : Rows) → ((k : Fault) → P (no k rs))
    → P (other rs) → P (told o other rs)
by_told P (Some k) other rs f g = f k
by_told P None other rs f g = g

pub told_wrong : {A : Type 0} (o : Option Fault) (rs : Rows) → told {A = A} o (no misplaced) rs ≡ no (fault_or o) rs
told_wrong (Some k) rs = refl
told_wrong None rs = refl

pub walked_wrong :
    {A : Type 0} (s : Str) (letter at : ℕ) (l : Result Line BadLine)
    → refused_row {A = A} s (wrong_at letter l at) ≡ no (fault_or (fault_of letter (line_said l))) (rows (drop at s))
unfolding line_said
walked_wrong s letter at (Ok l) = rw (good-fault letter l)
walked_wrong {A} s letter at (Err b) = go (eqb b.letter letter)
  where
    go : (t : Bool)
        → refused_row {A = A} s (elim (cond {A = Result ℕ RefusedRow} t (Err (faulty_at b at)) (Ok at))
        [ Ok q ↦ misplaced_at at | Err r ↦ r ])
        ≡ no (fault_or (cond t (Some (fault (number b.refusal) b.column)) None)) (rows (drop at s))
    go true = refl
    go false = refl

-- a walk that ends has come no further
pub end-here : (letter at : ℕ) (l : Result Line BadLine) (q : ℕ) → end_at letter l at ≡ Ok q → at ≡ q
end-here letter at (Ok l) q e = cc
end-here letter at (Err b) q e = go (eqb b.letter letter) e
  where
    go : (t : Bool) → cond {A = Result ℕ RefusedRow} t (Err (faulty_at b at)) (Ok at) ≡ Ok q → at ≡ q
    go true e = cc
    go false e = cc

-- where a line with a letter may stand, a reader goes on from there, unless a bad one is refused
module _ {A : Type 0} (f : Reader A) (s : Str) (letter at : ℕ) where
  pub end-next :
      (l : Result Line BadLine) (q : ℕ) → end_at letter l at ≡ Ok q
      → told (fault_of letter (line_said l)) f (rows (drop at s)) ≡ f (rows (drop q s))
  unfolding line_said
  end-next (Ok l) q e = rw (good-fault letter l, end-here letter at (Ok l) q e)
  end-next (Err b) q e = rw (end-here letter at (Err b) q e) (go (eqb b.letter letter) e)
    where
      go : (t : Bool) → cond {A = Result ℕ RefusedRow} t (Err (faulty_at b at)) (Ok at) ≡ Ok q
          → told (cond t (Some (fault (number b.refusal) b.column)) None) f (rows (drop q s)) ≡ f (rows (drop q s))
      go true e = cc
      go false e = refl

  pub end-refused :
      (l : Result Line BadLine) (r : RefusedRow) → end_at letter l at ≡ Err r
      → told (fault_of letter (line_said l)) f (rows (drop at s)) ≡ refused_row s r
  unfolding line_said
  end-refused (Ok l) r e = cc
  end-refused (Err b) r e = go (eqb b.letter letter) e
    where
      go : (t : Bool)
          → cond {A = Result ℕ RefusedRow} t (Err (faulty_at b at)) (Ok at) ≡ Err r
          → told (cond t (Some (fault (number b.refusal) b.column)) None) f (rows (drop at s)) ≡ refused_row s r
      go true e =
          let z : faulty_at b at ≡ r = cc in
          rw (← z)
      go false e = cc

-- one turn of a loop over a reader that is repeated
module _ {A : Type 0} (one : Reader (A → A)) (none : A) (s : Str) where
  pub times_none : (n at : ℕ) → n ≤ 0 → passed (times one none n (rows (drop at s))) ≡ got tt (rows (drop at s))
  unfolding times
  times_none n at h = let z : n ≡ 0 = omega arith in rw z

  module _ (n m : ℕ) (more : n ≡ m + 1) where
    times_more : (rs : Rows) → passed (times one none n rs) ≡ (passed (one rs) then λ u rest. passed (times one none m rest))
    unfolding times
    times_more rs = rw (more, add-one) (passed_then (one rs) _ _ (λ f rest. passed-map f (times one none m rest)))

    pub times-on :
        (at q : ℕ) (r : Result ℕ RefusedRow) → walked s r ≡ passed (one (rows (drop at s))) → r ≡ Ok q
        → passed (times one none n (rows (drop at s))) ≡ passed (times one none m (rows (drop q s)))
    times-on at q r e i = times_more (rows (drop at s)) ∙ rw (← e, i)

    pub times-stop :
        (at : ℕ) (r : Result ℕ RefusedRow) (f : RefusedRow) → walked s r ≡ passed (one (rows (drop at s))) → r ≡ Err f
        → passed (times one none n (rows (drop at s))) ≡ refused_row s f
    times-stop at r f e i = times_more (rows (drop at s)) ∙ rw (← e, i)

-- what the code says of the first row, and the rows after it
module _ (rs rest : Rows) (l : Result Line BadLine) (here : line_said l ≡ line_at rs) (after : rest ≡ rest_of rs) where
  module _ (ty : Reader Ty) where
    pub binding-unbound : l ≡ Ok Unbound → got tt rest ≡ passed (read_binding ty rs)
    unfolding line_said read_binding
    binding-unbound i = rw (← here, i, ← after)

    pub binding-other :
        OtherThan 7 l
        → passed (read_binding ty rs) ≡ told (fault_of 85 (line_said l)) (λ rs. passed (ty rs)) rs
    unfolding read_binding
    binding-other o =
        rw (← here, else-unbound {A = Reader _} l _ _ o, ← here) (go (fault_of 85 (line_said l)))
      where
        go : (k : Option Fault)
            → passed {A = Binds → Binds} (told k (map_r (λ t bs. bound t bs) ty) rs) ≡ told k (λ rs. passed (ty rs)) rs
        go (Some k) = refl
        go None = passed-map _ (ty rs)

    module _ (i : ℕ) (bindings : Option ℕ) (is : l ≡ Ok (Scope i bindings)) where
      pub scope-inherit : bindings ≡ None → got tt rest ≡ passed (read_scope ty rs)
      unfolding line_said read_scope
      scope-inherit h = rw (← here, is, h, ← after)

      pub scope-bind :
          (n : ℕ) (w : Reading (Unit {0})) → bindings ≡ Some n → w ≡ passed (times (read_binding ty) stop n rest)
          → w ≡ passed (read_scope ty rs)
      unfolding line_said read_scope
      scope-bind n w h e = e ∙ sym (rw (← here, is, h, ← after) (passed-map _ (times (read_binding ty) stop n rest)))

    pub scope_other :
        OtherThan 6 l
        → no (fault_or (fault_of 83 (line_said l))) rs ≡ passed (read_scope ty rs)
    unfolding read_scope
    scope_other o =
        rw (← here, else-scope {A = Reader _} l _ _ o, ← here) (ap passed (sym (told_wrong (fault_of 83 (line_said l)) rs)))

  module _ (left : ℕ) where
    type_of-more : (left ≡ 0 → ⊥) → read_type left rs ≡ on_type (type_from (read_type (left - 1))) (no misplaced) rs
    unfolding read_type
    type_of-more h = go left h
      where
        go : (m : ℕ) → (m ≡ 0 → ⊥) → read_type m rs ≡ on_type (type_from (read_type (m - 1))) (no misplaced) rs
        go zero h = absurd (h refl)
        go (suc m) h = rw (sub-one (suc m))

    pub type_other :
        OtherThan 5 l
        → no (fault_or (fault_of 84 (line_said l))) rs ≡ passed (read_type left rs)
    unfolding read_type
    type_other o = go left
      where
        go : (m : ℕ) → no (fault_or (fault_of 84 (line_said l))) rs ≡ passed (read_type m rs)
        go zero =
            rw (← here, else-type {A = Reader _} l _ _ o, ← here) (ap passed (sym (told_wrong (fault_of 84 (line_said l)) rs)))
        go (suc m) =
            rw (← here, else-type {A = Reader _} l _ _ o, ← here) (ap passed (sym (told_wrong (fault_of 84 (line_said l)) rs)))

    module _ (k : Kind) (a b c : ℕ) (is : l ≡ Ok (Typ k a b c)) where
      pub type-deep : left ≡ 0 → no (fault 4 1) rs ≡ passed (read_type left rs)
      unfolding line_said read_type
      type-deep h = rw (h, ← here, is)

      type-here : (left ≡ 0 → ⊥) → read_type left rs ≡ type_from (read_type (left - 1)) (number_of k) a b c rest
      unfolding line_said
      type-here h = type_of-more h ∙ rw (← here, is, ← after)

      pub type-alone :
          (left ≡ 0 → ⊥) → (k ≡ kind.List → ⊥) → (k ≡ kind.Enum → ⊥) → (k ≡ kind.Struct → ⊥) → (k ≡ kind.Interface → ⊥)
          → got tt rest ≡ passed (read_type left rs)
      type-alone h l e s i = rw (type-here h) (sym (alone (read_type (left - 1)) k a b c rest l e s i))

      pub type-list :
          (w : Reading (Unit {0})) → (left ≡ 0 → ⊥) → k ≡ kind.List
          → w ≡ passed (read_type (left - 1) rest) → w ≡ passed (read_type left rs)
      unfolding type_from
      type-list w h e p = p ∙ sym (rw (type-here h, e) (passed-map _ (read_type (left - 1) rest)))

      pub type-branded :
          (w : Reading (Unit {0})) → (left ≡ 0 → ⊥) → (k ≡ kind.Enum) ⊎ ((k ≡ kind.Struct) ⊎ (k ≡ kind.Interface))
          → w ≡ passed (times (read_scope (read_type (left - 1))) end b rest) → w ≡ passed (read_type left rs)
      type-branded w h e p =
          p ∙ sym (rw (type-here h) (with_scopes (read_type (left - 1)) k a b c rest e))
