-- Where the printing of a sheet stands, what is left to print there, and what a piece leaves. Assumes nothing.
use Rattle.std.specs.Prelude.{◌≡◌, List, [], ◌++◌, ℕ, ◌+◌, drop}
use Rattle.std.specs.Prelude.{Some}
use Rattle.text.specs.Bytes.{Str}
use Rattle.row.specs.Rows.{rows}
use Rattle.row.specs.Line.{text_at}
use Rattle.tree.specs.Tree.{Field, Node, Sheet}
use Rattle.tree.specs.Fields.{FieldsHere}
use Rattle.nodes.specs.Index.{Indexed, nth, sheet_of}
use Rattle.terms.specs.Refusals.{number}
use Rattle.parts.specs.Program.{each_text, field_text, node_text, refused_sheet_text}
use Rattle.parts.specs.declared.Place.{Place}
use Rattle.parts.specs.declared.Place.TheVariants.{Refused, At, End}

-- the sheet with the bytes s and these nodes
abbrev pub sheet_in : Str → List Node → Sheet
sheet_in s ns = sheet_of (text_at (rows s)) ns

-- at the fields that stand at q, of the node with a number, in the sheet with the bytes s and this index: the text is that of
-- these fields and of the nodes after
pub record LeftAt (s index : List ℕ) (number q : ℕ) (text : Str) : Type 0 where
  pub nodes : List Node
  pub indexed : Indexed s nodes index
  pub node : Node
  pub numbered : nth number nodes ≡ Some node
  pub fields : List Field
  pub here : FieldsHere (rows (drop q s)) fields
  pub is : text ≡ each_text (field_text (sheet_in s nodes) node) fields
      ++ each_text (node_text (sheet_in s nodes)) (drop (number + 1) nodes)

-- what is left to print at a place
abbrev pub Left : (s index : List ℕ) → Place → Str → Type 0
Left s index (Refused r) text = text ≡ refused_sheet_text (number r.refusal) r.line r.column
Left s index (At number q) text = LeftAt s index number q text
Left s index End text = text ≡ []

-- where `text` is left, a piece is printed, and the rest is left at the next place
pub record Goes (s index : List ℕ) (next : Place) (piece text : Str) : Type 0 where
  pub rest : Str
  pub left : Left s index next rest
  pub joined : piece ++ rest ≡ text

-- whatever is left at a place is the piece and what is left at the next
pub record Gives (s index : List ℕ) (place : Place) (piece : Str) (next : Place) : Type 0 where
  pub goes : (text : Str) → Left s index place text → Goes s index next piece text
