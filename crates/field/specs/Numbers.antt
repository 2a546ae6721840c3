-- A field as numbers that a caller lends: what it is, 0 for nothing, 1 for a slot and 2 for a group, and what was read of it,
-- in the order of its struct. Assumes nothing.
use Rattle.std.specs.Prelude.{List, [], ◌∷◌, ◌++◌, ℕ, eqb, ltb, length, drop, get_or, Option, Some, None}
use Rattle.terms.specs.Kinds.{number_of, kind_numbered}
use Rattle.text.specs.Bytes.{cond}
use Rattle.field.specs.declared.Slot.{Slot}
use Rattle.field.specs.declared.Group.{Group}
use Rattle.field.specs.declared.Field.{Field}
use Rattle.field.specs.declared.Field.TheVariants as field

-- how many numbers are room enough for any field
abbrev pub field_size : ℕ
field_size = 14

-- the numbers of a field
abbrev pub slot_numbers : Slot → List ℕ
slot_numbers r =
    1 ∷ r.offset ∷ r.discriminant ∷ r.explicit ∷ r.option ∷ number_of r.kind ∷ r.id ∷ number_of r.default ∷ r.bits ∷ r.at ∷ r.typ
    ∷ r.words ∷ r.count ∷ r.next ∷ []

abbrev pub group_numbers : Group → List ℕ
group_numbers g = 2 ∷ g.id ∷ g.discriminant ∷ g.at ∷ g.next ∷ []

abbrev pub field_numbers : Option Field → List ℕ
field_numbers (Some (field.Slot r)) = slot_numbers r
field_numbers (Some (field.Group g)) = group_numbers g
field_numbers None = 0 ∷ []

-- the numbers that were lent, with others in place of the first
abbrev pub begun : List ℕ → List ℕ → List ℕ
begun ns l = ns ++ drop (length ns) l

-- with a field's, if there is room for any field
unfoldable pub with_field : List ℕ → Option Field → List ℕ
with_field l f = cond (ltb (length l) field_size) l (begun (field_numbers f) l)

-- the slot and the group whose numbers these are
abbrev pub slot_in : List ℕ → Slot
slot_in l = record {
  offset = get_or l 1 0;
  discriminant = get_or l 2 0;
  explicit = get_or l 3 0;
  option = get_or l 4 0;
  kind = kind_numbered (get_or l 5 0);
  id = get_or l 6 0;
  default = kind_numbered (get_or l 7 0);
  bits = get_or l 8 0;
  at = get_or l 9 0;
  typ = get_or l 10 0;
  words = get_or l 11 0;
  count = get_or l 12 0;
  next = get_or l 13 0;
}

abbrev pub group_in : List ℕ → Group
group_in l = record { id = get_or l 1 0; discriminant = get_or l 2 0; at = get_or l 3 0; next = get_or l 4 0 }

-- the field whose numbers these are: nothing where they are too few, or the first says neither
unfoldable pub field_in : List ℕ → Option Field
field_in l =
    cond (ltb (length l) field_size) None
    (cond (eqb (get_or l 0 0) 1) (Some (field.Slot (slot_in l)))
    (cond (eqb (get_or l 0 0) 2) (Some (field.Group (group_in l))) None))
