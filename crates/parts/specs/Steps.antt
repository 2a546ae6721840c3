-- What the functions that print promise one another: where a node's fields begin, one turn, a piece, and what the printing over a
-- buffer comes to. Only the code needs them: `PiecesHold` does not stand on them. Assumes nothing.
use Rattle.std.specs.Prelude.{◌≡◌, List, ◌++◌, ℕ, ◌+◌, ◌-◌, ◌*◌, ◌≤◌, ◌<◌, length, take, drop}
use Rattle.std.specs.Prelude.{Option, None, Some, Result, Ok, Err}
use Rattle.text.specs.Bytes.{Str}
use Rattle.row.specs.Rows.{rows}
use Rattle.tree.specs.Tree.{Node}
use Rattle.tree.specs.Read.{admitted}
use Rattle.nodes.specs.Index.{Indexed}
use Rattle.parts.specs.Program.{each_text, node_text, program_text}
use Rattle.parts.specs.Fit.{unit_most}
use Rattle.parts.specs.Left.{sheet_in, Left, Gives}
use Rattle.parts.specs.declared.Place.{Place}
use Rattle.parts.specs.declared.Place.TheVariants.{Refused, At, End}
use Rattle.parts.specs.declared.Piece.{Piece}

-- a number that falls with each field and with each node
abbrev pub most_left : Str → Place → ℕ
most_left s (Refused r) = 1
most_left s (At number q) = (64 - number) * (length s + 2) + length (rows (drop q s)) + 1
most_left s End = 0

-- a place from which the nodes from a number on are left
pub record Enters (index : List ℕ) (number : ℕ) (place : Place) : Type 0 where
  pub left : (s : Str) (nodes : List Node) → Indexed s nodes index
      → Left s index place (each_text (node_text (sheet_in s nodes)) (drop number nodes))
  pub few : (s : Str) → most_left s place ≤ (65 - number) * (length s + 2)

-- one turn at a place over the buffer l: what is taken is a piece; l is too short only if it has less than a unit has at most
abbrev pub Turns : (s index : List ℕ) → Place → (l l' : Str) → Option ℕ → Place → Type 0
Turns s index place l l' (Some n) next = Gives s index place (take n l') next
Turns s index place l l' None next = (text : Str) → Left s index place text → length l < unit_most

-- the contract of a piece: it is what is left up to the next place; with a byte in it, less is left there; and over a buffer
-- that holds a unit it has a byte, unless the next place is the end
pub record Filled (s index : List ℕ) (place : Place) (l l' : Str) (r : Piece) : Type 0 where
  pub gives : Gives s index place (take r.n l') r.next
  pub fewer : 0 < r.n → most_left s r.next < most_left s place
  pub some-bytes : (r.next ≡ End → ⊥) → unit_most ≤ length l → (text : Str) → Left s index place text → 0 < r.n

-- a place of the sheet s: what is printed of s is something, and then what is left at the place
pub record Reached (s index : List ℕ) (place : Place) : Type 0 where
  pub before : Str
  pub rest : Str
  pub left : Left s index place rest
  pub whole : before ++ rest ≡ program_text (admitted s)

-- the contract of the printing over a buffer with so many bytes: it comes to a place of the sheet, and that is the end if the
-- buffer holds a unit
abbrev pub Comes : {E : Type 0} → (s index : List ℕ) → ℕ → Result Place E → Type 0
Comes s index size (Ok place) = Reached s index place × (unit_most ≤ size → place ≡ End)
Comes s index size (Err e) = Unit {0}
