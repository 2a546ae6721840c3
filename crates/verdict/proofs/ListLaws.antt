-- Laws of listing slots: one list after another, what a field adds, and what is left of a node's fields and of a sheet's nodes.
-- Assumes nothing.
use mathlib.Core.Path.{◌≡◌, refl, sym, ap, ◌∙◌}
use mathlib.Core.Bool.{true, false}
use mathlib.Core.List.{List, [], ◌∷◌, ◌++◌, append_assoc, append-nil}
use Rattle.std.specs.List.{flat_map}
use Rattle.std.specs.Prelude.{not, Option, None, Some}
use Rattle.std.proofs.lemmas.List.Elements.{filter-append}
use Rattle.std.proofs.lemmas.Grind.{flat_map-append}
use Prim.Native.Nat.{ℕ, zero, suc, ◌+◌, ◌-◌, ◌^◌, ◌≤◌, min}
use native.Mathlib.Numerals.{add-one}
use native.Mathlib.Omega.{arith}
use lib.ListN.{length, drop, length-append, drop_of_length-le}
use lib.Seq.{drop-nil}
use Rattle.text.specs.Bytes.{Str}
use Rattle.text.specs.Text.{put, adv}
use Rattle.text.proofs.Laws.{◌⨾◌}
use Rattle.row.specs.Rows.{rows}
use Rattle.tree.specs.Tree.{Arm, slot, group, Field, Node, Sheet}
use Rattle.tree.specs.Fields.{FieldsHere}
use Rattle.nodes.specs.Index.{nth, entry_with, Indexed, EntryIs, Finds}
use Rattle.nodes.specs.declared.Entry.{Entry}
use Rattle.nodes.proofs.Laws.{nth-is}
use Rattle.field.specs.Slot.{SlotField, SlotHere}
use Rattle.field.specs.Field.{SlotIn, FieldIs, ReadsFirst, next_of}
use Rattle.field.specs.declared.Field as code
use Rattle.field.specs.declared.Field.TheVariants as field
use Rattle.field.specs.declared.Slot as code-slot
use Rattle.verdict.specs.Verdict.{verdict_of}
use Rattle.verdict.specs.Report.{Judged, judged, node_judged, disagrees, judged_line}
use Rattle.verdict.specs.Listing.{Listing, Sorts}
use Rattle.verdict.specs.declared.Verdict.{Verdict}
use Rattle.verdict.specs.declared.report.Listed.{Listed}
use Rattle.verdict.specs.declared.report.Sorted.{Sorted}

-- ---- none, and one list after another

pub lists-none : (l : Str) (a : Listed) → Listing [] l a l a
unfolding put adv
lists-none l a = record { lines = record { bytes = refl; state = refl }; count = ap (λ n. min n (2 ^ 64 - 1)) (omega arith) }

lists-more : {xs : List Judged} {l : Str} {a : Listed} {m : Str} {b : Listed} {ys : List Judged} {n : Str} {c : Listed}
    → Listing xs l a m b → Listing ys m b n c → Listing (xs ++ ys) l a n c
lists-more {xs} {ys = ys} e f = record {
  lines = rw (flat_map-append judged_line xs ys) (e.lines ⨾ f.lines);
  count = rw (length-append xs ys) (omega (arith, e.count, f.count));
}

pub sorts-none : (l m : Str) (a : Sorted) → Sorts [] l m a l m a
sorts-none l m a = record { first = lists-none l a.disagreeing; second = lists-none m a.others }

sorts-more :
    {xs : List Judged} {l m : Str} {a : Sorted} {l₁ m₁ : Str} {b : Sorted} {ys : List Judged} {l₂ m₂ : Str} {c : Sorted}
    → Sorts xs l m a l₁ m₁ b → Sorts ys l₁ m₁ b l₂ m₂ c → Sorts (xs ++ ys) l m a l₂ m₂ c
sorts-more {xs} {ys = ys} e f = record {
  first = rw (filter-append (λ j. disagrees j.verdict) xs ys) (lists-more e.first f.first);
  second = rw (filter-append (λ j. not (disagrees j.verdict)) xs ys) (lists-more e.second f.second);
}

-- ---- one slot, in the buffer of its kind

module _ (j : Judged) (l m : Str) (a : Sorted) where
  pub sorts-first : (l' : Str) (b : Listed) → disagrees j.verdict ≡ true → Listing (j ∷ []) l a.disagreeing l' b
      → Sorts (j ∷ []) l m a l' m (record { disagreeing = b; others = a.others })
  sorts-first l' b h e = record { first = rw h e; second = rw h (lists-none m a.others) }

  pub sorts-second : (m' : Str) (b : Listed) → disagrees j.verdict ≡ false → Listing (j ∷ []) m a.others m' b
      → Sorts (j ∷ []) l m a l m' (record { disagreeing = a.disagreeing; others = b })
  sorts-second m' b h e = record { first = rw h (lists-none l a.disagreeing); second = rw h e }

-- a field by its verdict
pub judged-none : (sheet : Sheet) (at : Node × Field) → None ≡ verdict_of sheet at → judged sheet at.0 at.1 ≡ []
unfolding judged
judged-none sheet at e = rw (← e)

pub judged-one : (sheet : Sheet) (at : Node × Field) (v : Verdict) (id : ℕ) (name : Str) → Some v ≡ verdict_of sheet at
    → at.0.id ≡ id → name ≡ at.1.name → judged sheet at.0 at.1 ≡ record { node = id; name = name; verdict = v } ∷ []
unfolding judged
judged-one sheet at v id name e i n = rw (← e, ← i, n) refl

-- the name that was read of a slot is the field's
pub slot-name : (s : Str) (f : Field) (r : code-slot.Slot) (name : Str) → FieldIs s (field.Slot r) f
    → ((g : SlotField) → SlotHere s r g → name ≡ g.name) → name ≡ f.name
slot-name s f r name h k = go f.arm h
  where
    go : (a : Arm) → SlotIn s r f.name f.discriminant a → name ≡ f.name
    go (slot sl) h = k _ h
    go (group id) h = absurd h

-- ---- what is left

-- of all that is to be listed, so much is left
pub record Going (all left : List Judged) (l m : Str) (a : Sorted) (l' m' : Str) (b : Sorted) : Type 0 where
  pub done : List Judged
  pub so_far : Sorts done l m a l' m' b
  pub whole : done ++ left ≡ all

pub going-start : (all : List Judged) (l m : Str) (a : Sorted) → Going all all l m a l m a
going-start all l m a = record { done = []; so_far = sorts-none l m a; whole = refl }

going-more :
    {all : List Judged} (xs left : List Judged) {l m : Str} {a : Sorted} {l₁ m₁ : Str} {b : Sorted} {l₂ m₂ : Str} {c : Sorted}
    → Going all (xs ++ left) l m a l₁ m₁ b → Sorts xs l₁ m₁ b l₂ m₂ c → Going all left l m a l₂ m₂ c
going-more xs left g e = record {
  done = g.done ++ xs;
  so_far = sorts-more g.so_far e;
  whole = append_assoc g.done xs left ∙ g.whole;
}

going-end : {all left : List Judged} {l m : Str} {a : Sorted} {l' m' : Str} {b : Sorted} → Going all left l m a l' m' b
    → left ≡ [] → Sorts all l m a l' m' b
going-end g e = rw (sym g.whole ∙ ap (λ (x : List Judged). g.done ++ x) e ∙ append-nil g.done) g.so_far

-- ---- the fields of a node, which stand at q

pub record FieldsLeft (s : Str) (sheet : Sheet) (n : Node) (q : ℕ) (l m : Str) (a : Sorted) (l' m' : Str)
    (b : Sorted) : Type 0 where
  pub fields : List Field
  pub here : FieldsHere (rows (drop q s)) fields
  pub going : Going (node_judged sheet n) (flat_map (judged sheet n) fields) l m a l' m' b

module _ (s : Str) (sheet : Sheet) (n : Node) (l m : Str) (a : Sorted) where
  pub fields-start : (q : ℕ) → FieldsHere (rows (drop q s)) n.fields → FieldsLeft s sheet n q l m a l m a
  fields-start q h = record { fields = n.fields; here = h; going = going-start (node_judged sheet n) l m a }

  module _ (q : ℕ) (l₁ m₁ : Str) (b : Sorted) (left : FieldsLeft s sheet n q l m a l₁ m₁ b) where
    pub fields-more : (r : code.Field) → ((fs : List Field) → FieldsHere (rows (drop q s)) fs → ReadsFirst s (Some r) fs)
        → (l₂ m₂ : Str) (c : Sorted) → ((f : Field) → FieldIs s r f → Sorts (judged sheet n f) l₁ m₁ b l₂ m₂ c)
        → FieldsLeft s sheet n (next_of r) l m a l₂ m₂ c
    fields-more r first l₂ m₂ c put = go left.fields (first left.fields left.here) left.going
      where
        go : (fs : List Field) → ReadsFirst s (Some r) fs
            → Going (node_judged sheet n) (flat_map (judged sheet n) fs) l m a l₁ m₁ b
            → FieldsLeft s sheet n (next_of r) l m a l₂ m₂ c
        go [] h g = absurd h
        go (f ∷ fs) h g = record {
          fields = fs;
          here = h.1;
          going = going-more (judged sheet n f) (flat_map (judged sheet n) fs) g (put f h.0);
        }

    pub fields-end : ((fs : List Field) → FieldsHere (rows (drop q s)) fs → ReadsFirst s None fs)
        → Sorts (node_judged sheet n) l m a l₁ m₁ b
    fields-end first = going-end left.going (go left.fields (first left.fields left.here))
      where
        go : (fs : List Field) → ReadsFirst s None fs → flat_map (judged sheet n) fs ≡ []
        go [] h = refl
        go (f ∷ fs) h = absurd h

-- ---- the nodes of a sheet, from the one with a number on

nth-first : {A : Type 0} (k : ℕ) (xs : List A) (x : A) → nth k xs ≡ Some x → drop k xs ≡ x ∷ drop (suc k) xs
unfolding nth
nth-first k [] x e = cc
nth-first zero (y ∷ xs) x e = let z : y ≡ x = cc in rw z
nth-first (suc k) (y ∷ xs) x e = nth-first k xs x e

nth_past : {A : Type 0} (k : ℕ) (xs : List A) → nth k xs ≡ None → drop k xs ≡ []
unfolding nth
nth_past k [] e = drop-nil k
nth_past zero (y ∷ xs) e = cc
nth_past (suc k) (y ∷ xs) e = nth_past k xs e

-- the slots of these nodes
abbrev pub judged_of : Sheet → List Node → List Judged
judged_of sheet ns = flat_map (node_judged sheet) ns

module _ (s : Str) (sheet : Sheet) (index : List ℕ) (x : Indexed s sheet.nodes index) (l m : Str) (a : Sorted) (k : ℕ)
    (l₁ m₁ : Str) (b : Sorted)
    (left : Going (judged_of sheet sheet.nodes) (judged_of sheet (drop k sheet.nodes)) l m a l₁ m₁ b) where
  nodes-end : (ns : List Node) → drop k sheet.nodes ≡ ns → ns ≡ [] → Sorts (judged_of sheet sheet.nodes) l m a l₁ m₁ b
  nodes-end ns e h = going-end left (ap (judged_of sheet) (e ∙ h))

  pub nodes-out : 64 ≤ k → Sorts (judged_of sheet sheet.nodes) l m a l₁ m₁ b
  nodes-out h =
      let z : length sheet.nodes ≤ k = omega (arith, x.few) in
      nodes-end (drop k sheet.nodes) refl (drop_of_length-le sheet.nodes z)

  pub nodes-none : None ≡ entry_with index k → Sorts (judged_of sheet sheet.nodes) l m a l₁ m₁ b
  nodes-none e = go (nth k sheet.nodes) refl (rw (← e) at (nth-is s sheet.nodes index k x))
    where
      go : (o : Option Node) → nth k sheet.nodes ≡ o → Finds s index None o → Sorts (judged_of sheet sheet.nodes) l m a l₁ m₁ b
      go (Some n) i h = absurd h
      go None i h = nodes-end (drop k sheet.nodes) refl (nth_past k sheet.nodes i)

  pub nodes-more : (e : Entry) → Some e ≡ entry_with index k → (l₂ m₂ : Str) (c : Sorted)
      → ((n : Node) → EntryIs s index e n → Sorts (node_judged sheet n) l₁ m₁ b l₂ m₂ c)
      → Going (judged_of sheet sheet.nodes) (judged_of sheet (drop (k + 1) sheet.nodes)) l m a l₂ m₂ c
  nodes-more e found l₂ m₂ c put = go (nth k sheet.nodes) refl (rw (← found) at (nth-is s sheet.nodes index k x))
    where
      go : (o : Option Node) → nth k sheet.nodes ≡ o → Finds s index (Some e) o
          → Going (judged_of sheet sheet.nodes) (judged_of sheet (drop (k + 1) sheet.nodes)) l m a l₂ m₂ c
      go (Some n) i h =
          rw add-one
          (going-more (node_judged sheet n) (judged_of sheet (drop (suc k) sheet.nodes))
          (rw (nth-first k sheet.nodes n i) at left) (put n h))
      go None i h = absurd h
