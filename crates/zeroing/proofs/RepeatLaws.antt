-- The search in the sheet for a field with the line of a type at an offset: one law for each turn of the loop over so many
-- fields. Assumes nothing.
use mathlib.Core.Path.{◌≡◌, refl, sym, ap, ◌∙◌}
use mathlib.Core.Bool.{Bool, true, false, ◌&&◌}
use mathlib.Core.List.{List, [], ◌∷◌, ◌++◌}
use Prim.Native.Nat.{ℕ, suc, ◌≤◌}
use native.Mathlib.Omega.{arith}
use lib.Dec.{eqb}
use lib.ListN.{take, drop}
use lib.Seq.{take-nil}
use Rattle.std.specs.Prelude.{None, Some}
use Rattle.terms.specs.Kinds.{number_of}
use Rattle.text.specs.Bytes.{Str, either}
use Rattle.row.specs.Rows.{rows}
use Rattle.tree.specs.Tree.{Field}
use Rattle.tree.specs.Reader.{Rows}
use Rattle.tree.specs.Fields.{FieldsHere}
use Rattle.field.specs.Field.{next_of, ReadsFirst}
use Rattle.field.specs.declared.Slot.{Slot}
use Rattle.field.specs.declared.Group.{Group}
use Rattle.field.specs.declared.Field as code
use Rattle.field.specs.declared.Field.TheVariants as read
use Rattle.zeroing.specs.Lines.{line_type, has_line, repeats}
use Rattle.zeroing.proofs.SlotLaws.{either-false, either_assoc, and-both}
use Rattle.zeroing.proofs.FieldLaws.{turn, ended_here, says_slot, says-group}

-- one more field
pub repeats_append : (c o : ℕ) (fs : List Field) (f : Field)
    → repeats c o (fs ++ (f ∷ [])) ≡ either (repeats c o fs) (has_line c o f.arm)
unfolding repeats
repeats_append c o [] f = either-false (has_line c o f.arm)
repeats_append c o (g ∷ fs) f =
    ap (either (has_line c o g.arm)) (repeats_append c o fs f)
    ∙ sym (either_assoc (has_line c o g.arm) (repeats c o fs) (has_line c o f.arm))

-- whether one of the first n fields that are read at some rows has the line
pub record Tells (c o : ℕ) (rs : Rows) (n : ℕ) (r : Bool) : Type 0 where
  pub tells : (fs : List Field) → FieldsHere rs fs → r ≡ repeats c o (take n fs)

-- one of them, and m more
head : (c o n m : ℕ) → n ≡ suc m → (f : Field) (fs : List Field)
    → repeats c o (take n (f ∷ fs)) ≡ either (has_line c o f.arm) (repeats c o (take m fs))
unfolding repeats
head c o n m more f fs = rw more refl

-- a slot is the first of them
slot-head :
    (c o n m : ℕ) → n ≡ suc m → (s : Str) (r : code.Field) (fs : List Field) → ReadsFirst s (Some r) fs → (sl : Slot)
    → r ≡ read.Slot sl → (b : Bool) → b ≡ (eqb sl.offset o && eqb (line_type (number_of sl.kind)) c)
    → repeats c o (take n fs) ≡ either b (repeats c o (take m (drop 1 fs)))
unfolding has_line
slot-head c o n m more s r fs first sl is b has =
    let t = turn s r 0 fs first in
    let w = says_slot s r t.field sl is t.said in
    rw (
      t.first,
      head c o n m more t.field (drop 1 fs),
      w.is,
      w.offset_is,
      w.kind_is,
      ← and-both (eqb sl.offset o) (eqb (line_type (number_of sl.kind)) c),
      ← has,
    ) refl

module _ {c o : ℕ} {rs : Rows} {n : ℕ} where
  pub tells_none : n ≤ 0 → Tells c o rs n false
  unfolding repeats
  tells_none z = record { tells = λ fs h. let e : n ≡ 0 = omega arith in rw e refl }

  -- no field is read, or one, after which so many are left
  module _ (s : Str) where
    pub tells-end : ((fs : List Field) → FieldsHere rs fs → ReadsFirst s None fs) → Tells c o rs n false
    unfolding repeats
    tells-end first = record { tells = λ fs h. rw (ended_here s fs (first fs h), take-nil {A = Field} n) refl }

    module _ {r : code.Field} (first : (fs : List Field) → FieldsHere rs fs → ReadsFirst s (Some r) fs) (m : ℕ)
        (more : n ≡ suc m) where
      module _ {sl : Slot} (is : r ≡ read.Slot sl) {b : Bool}
          (has : b ≡ (eqb sl.offset o && eqb (line_type (number_of sl.kind)) c)) where
        pub tells-here : b ≡ true → Tells c o rs n true
        tells-here y = record { tells = λ fs h. rw (slot-head c o n m more s r fs (first fs h) sl is b has, y) refl }

        pub tells_more : b ≡ false → {x : Bool} → Tells c o (rows (drop sl.next s)) m x → Tells c o rs n x
        tells_more y {x} later = record {
          tells = λ fs h.
              let after : Tells c o (rows (drop (next_of r) s)) m x = rw is later in
              rw (slot-head c o n m more s r fs (first fs h) sl is b has, y)
              (after.tells (drop 1 fs) (turn s r 0 fs (first fs h)).next);
        }

      pub tells-group : {g : Group} → r ≡ read.Group g → {x : Bool} → Tells c o (rows (drop g.next s)) m x
          → Tells c o rs n x
      unfolding has_line
      tells-group {g} is {x} later = record {
        tells = λ fs h.
            let after : Tells c o (rows (drop (next_of r) s)) m x = rw is later in
            let t = turn s r 0 fs (first fs h) in
            let w = says-group s r t.field g is t.said in
            rw (t.first, head c o n m more t.field (drop 1 fs), w) (after.tells (drop 1 fs) t.next);
      }
