-- What the parts of a slot that are read one after the other say of the sheet: its type, its words, and all that follows its F
-- row. Assumes nothing.
use Rattle.std.specs.Prelude.{◌≡◌, Bool, true, false, ℕ, drop, Option, Some, None}
use Rattle.terms.specs.Kinds.{number_of}
use Rattle.text.specs.Bytes.{Str}
use Rattle.row.specs.Rows.{rows}
use Rattle.row.specs.Line.{text_at}
use Rattle.tree.specs.Tree as tree
use Rattle.tree.specs.Tree.{Ty, slot}
use Rattle.tree.specs.Reader.{Rows, Reading, got, no}
use Rattle.tree.specs.Read as read
use Rattle.field.specs.Slot.{HasId}
use Rattle.field.specs.Field.{FieldIs, next_of}
use Rattle.field.specs.declared.Field.{Field}
use Rattle.field.specs.declared.TypeSpan.{TypeSpan}

-- a fact of what is read and of the rows after it, if anything is read
abbrev pub Gets : {A : Type 0} → Reading A → (A → Rows → Type 0) → Type 0
Gets (got a rest) P = P a rest
Gets (no k rest) P = Unit {0}

-- r has the kind and the a of a type, and the position in s of the rows after it
pub record TypeIs (s : Str) (r : TypeSpan) (ty : Ty) (rest : Rows) : Type 0 where
  pub kind : tree.kind ty ≡ number_of r.kind
  pub id : HasId ty r.id
  pub past : rows (drop r.past s) ≡ rest

-- how many words a slot may have
abbrev pub most_words : Bool → ℕ
most_words true = 255
most_words false = 0

-- r is the field whose F row stands at a position and whose slot this is, and the field after it stands at these rows; where
-- there is no field, no slot is read
abbrev pub SlotRead : Str → Option Field → ℕ → ℕ → tree.Slot → Rows → Type 0
SlotRead s (Some r) at discriminant sl rest =
    FieldIs s r (read.field (text_at (rows (drop at s))) discriminant (slot sl)) × (rows (drop (next_of r) s) ≡ rest)
SlotRead s None at discriminant sl rest = ⊥
