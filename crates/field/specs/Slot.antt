-- What a slot by value says of the sheet: it is the slot that is read at its F row. Assumes nothing.
use Rattle.std.specs.Prelude.{◌≡◌, ℕ, ◌<◌, drop, length}
use Rattle.terms.specs.Kinds.{number_of}
use Rattle.text.specs.Bytes.{Str}
use Rattle.row.specs.Rows.{rows, rest_of}
use Rattle.row.specs.Line.{text_at}
use Rattle.tree.specs.Tree as tree
use Rattle.tree.specs.Tree.{Ty, plain, list, enum, struct, interface, any_pointer, parameter}
use Rattle.tree.specs.Read.{read_type, has_words, read_words}
use Rattle.tree.specs.Reader.{Has}
use Rattle.field.specs.declared.Slot.{Slot}

-- a field that is a slot: its name, its discriminant and the slot
pub record SlotField : Type 0 where
  pub name : Str
  pub discriminant : ℕ
  pub slot : tree.Slot

-- T's a by the type: the id of an enum's node; 0 for AnyPointer, but not for a parameter. A plain type's kind is below 14
abbrev pub HasId : Ty → ℕ → Type 0
HasId (plain k) a = k < 14
HasId (list t) a = Unit {0}
HasId (enum i ss) a = i ≡ a
HasId (struct i ss) a = Unit {0}
HasId (interface i ss) a = Unit {0}
HasId any_pointer a = a ≡ 0
HasId (parameter i k) a = a ≡ 0 → ⊥

-- the numbers of r are those of a slot of the tree
pub record SlotIs (r : Slot) (sl : tree.Slot) : Type 0 where
  pub offset : sl.offset ≡ r.offset
  pub explicit : sl.explicit ≡ r.explicit
  pub option : sl.option ≡ r.option
  pub kind : tree.kind sl.ty ≡ number_of r.kind
  pub id : HasId sl.ty r.id
  pub default : sl.default.kind ≡ number_of r.default
  pub bits : sl.default.bits ≡ r.bits

-- and its positions in s are those of the F row, of the row after it, where the type stands, and of the words
pub record SlotHere (s : Str) (r : Slot) (f : SlotField) : Type 0 where
  pub name : text_at (rows (drop r.at s)) ≡ f.name
  pub after : rows (drop r.typ s) ≡ rest_of (rows (drop r.at s))
  pub discriminant : f.discriminant ≡ r.discriminant
  pub slot : SlotIs r f.slot
  pub typ : Has (read_type 16 (rows (drop r.typ s))) (λ ty. ty ≡ f.slot.ty)
  pub words : Has (read_words (has_words r.explicit (number_of r.default)) (rows (drop r.words s))) (λ ws. ws ≡ f.slot.words)
  pub count : r.count ≡ length f.slot.words
