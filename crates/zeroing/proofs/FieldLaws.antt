-- The fields of a node are read one after the other from its first field on. By induction on the number of fields passed.
-- Assumes nothing.
use mathlib.Core.Path.{◌≡◌, refl, ap}
use mathlib.Core.List.{List, [], ◌∷◌, ◌++◌}
use Prim.Native.Nat.{ℕ, zero, suc, ◌+◌, ◌^◌, ◌≤◌, ◌<◌}
use native.Mathlib.Omega.{arith}
use lib.ListN.{length, take, drop, length-drop}
use Rattle.std.specs.Prelude.{None, Some}
use Rattle.terms.specs.Kinds.{number_of}
use Rattle.text.specs.Bytes.{Str}
use Rattle.row.specs.Rows.{rows}
use Rattle.row.proofs.Laws.{rows-length}
use Rattle.tree.specs.Tree.{Arm, slot, group, Field}
use Rattle.tree.specs.Tree as tree
use Rattle.tree.specs.Fields.{FieldsHere}
use Rattle.field.specs.Field.{SlotIn, GroupIn, FieldIs, next_of, ReadsFirst}
use Rattle.field.specs.declared.Slot.{Slot}
use Rattle.field.specs.declared.Group.{Group}
use Rattle.field.specs.declared.Field as code
use Rattle.field.specs.declared.Field.TheVariants as read

-- the field after k of them is the one that was read
pub record Turn (s : Str) (r : code.Field) (k : ℕ) (all : List Field) : Type 0 where
  pub field : Field
  pub said : FieldIs s r field
  pub first : drop k all ≡ field ∷ drop (suc k) all
  pub taken : take (suc k) all ≡ take k all ++ (field ∷ [])
  pub next : FieldsHere (rows (drop (next_of r) s)) (drop (suc k) all)

module _ (s : Str) where
  -- where one is read
  pub turn : (r : code.Field) (k : ℕ) (all : List Field) → ReadsFirst s (Some r) (drop k all) → Turn s r k all
  turn r zero [] h = absurd h
  turn r zero (f ∷ fs) h = record { field = f; said = h.0; first = refl; taken = refl; next = h.1 }
  turn r (suc k) [] h = absurd h
  turn r (suc k) (x ∷ all) h =
      let t = turn r k all h in record {
        field = t.field;
        said = t.said;
        first = t.first;
        taken = ap (λ (r : List Field). x ∷ r) t.taken;
        next = t.next;
      }

  -- where none is read, all are passed
  pub ended_here : (fs : List Field) → ReadsFirst s None fs → fs ≡ []
  ended_here [] h = refl
  ended_here (f ∷ fs) h = absurd h

-- the fields passed are never more than the rows, so that their number fits
module _ (s : Str) (first k : ℕ) {n m : ℕ} (room : k + n ≤ length (rows (drop first s))) (fewer : m < n) where
  pub count_fits : length s < 2 ^ 64 → k + 1 < 2 ^ 64
  count_fits h = omega (arith, rows-length (drop first s), length-drop first s)

  pub count-more : k + 1 + m ≤ length (rows (drop first s))
  count-more = omega arith

-- ---- what was read

-- a slot by its offset and kind
pub record IsSlot (a : Arm) (offset k : ℕ) : Type 0 where
  pub sl : tree.Slot
  pub is : a ≡ slot sl
  pub offset_is : sl.offset ≡ offset
  pub kind_is : tree.kind sl.ty ≡ k

module _ (s : Str) (r : code.Field) (f : Field) where
  pub says_slot : (sl : Slot) → r ≡ read.Slot sl → FieldIs s r f → IsSlot f.arm sl.offset (number_of sl.kind)
  says_slot sl e h = go f.arm (rw e at h)
    where
      go : (a : Arm) → SlotIn s sl f.name f.discriminant a → IsSlot a sl.offset (number_of sl.kind)
      go (slot x) h = record { sl = x; is = refl; offset_is = h.slot.offset; kind_is = h.slot.kind }
      go (group i) h = absurd h

  pub says-group : (g : Group) → r ≡ read.Group g → FieldIs s r f → f.arm ≡ group g.id
  says-group g e h = go f.arm (rw e at h)
    where
      go : (a : Arm) → GroupIn s g f.name f.discriminant a → a ≡ group g.id
      go (slot x) h = absurd h
      go (group i) h = rw h.id-is refl
