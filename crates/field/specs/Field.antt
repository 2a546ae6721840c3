-- What a field by value says of the sheet: it is the field that is read at its F or G row. Assumes nothing.
use Rattle.std.specs.Prelude.{◌≡◌, List, [], ◌∷◌, ℕ, ◌<◌, drop, length}
use Rattle.std.specs.Prelude.{Option, None, Some}
use Rattle.text.specs.Bytes.{Str}
use Rattle.row.specs.Rows.{rows, rest_of}
use Rattle.row.specs.Line.{text_at}
use Rattle.tree.specs.Tree as tree
use Rattle.tree.specs.Tree.{Arm, slot, group}
use Rattle.tree.specs.Fields.{FieldsHere}
use Rattle.field.specs.Slot.{SlotHere}
use Rattle.field.specs.declared.Slot as code
use Rattle.field.specs.declared.Group.{Group}
use Rattle.field.specs.declared.Field.{Field}
use Rattle.field.specs.declared.Field.TheVariants as field

-- the numbers of g are those of a group with this name, discriminant and id, and its positions in s are those of the G row and
-- of the row after it
pub record GroupHere (s : Str) (g : Group) (name : Str) (discriminant id : ℕ) : Type 0 where
  pub name-is : text_at (rows (drop g.at s)) ≡ name
  pub after : rows (drop g.next s) ≡ rest_of (rows (drop g.at s))
  pub discriminant-is : discriminant ≡ g.discriminant
  pub id-is : id ≡ g.id

-- a slot by value against a field's arm, and a group
abbrev pub SlotIn : Str → code.Slot → Str → ℕ → Arm → Type 0
SlotIn s r name d (slot sl) = SlotHere s r (record { name = name; discriminant = d; slot = sl })
SlotIn s r name d (group id) = ⊥

abbrev pub GroupIn : Str → Group → Str → ℕ → Arm → Type 0
GroupIn s g name d (slot sl) = ⊥
GroupIn s g name d (group id) = GroupHere s g name d id

-- the field of the tree that a field by value is
abbrev pub FieldIs : Str → Field → tree.Field → Type 0
FieldIs s (field.Slot r) f = SlotIn s r f.name f.discriminant f.arm
FieldIs s (field.Group g) f = GroupIn s g f.name f.discriminant f.arm

-- where the field after it begins
abbrev pub next_of : Field → ℕ
next_of (field.Slot r) = r.next
next_of (field.Group g) = g.next

-- the first of the fields that stand at some rows, and where those after it stand; nothing where there is none
abbrev pub ReadsFirst : Str → Option Field → List tree.Field → Type 0
ReadsFirst s None [] = Unit {0}
ReadsFirst s None (f ∷ fs) = ⊥
ReadsFirst s (Some r) [] = ⊥
ReadsFirst s (Some r) (f ∷ fs) = FieldIs s r f × FieldsHere (rows (drop (next_of r) s)) fs

-- a field that was read leaves fewer rows
abbrev pub Fewer : Str → ℕ → Option Field → Type 0
Fewer s at (Some r) = length (rows (drop (next_of r) s)) < length (rows (drop at s))
Fewer s at None = Unit {0}

-- the field that was looked for, or nothing
abbrev pub FindsField : Str → Option Field → Option tree.Field → Type 0
FindsField s (Some r) (Some f) = FieldIs s r f
FindsField s (Some r) None = ⊥
FindsField s None (Some f) = ⊥
FindsField s None None = Unit {0}
