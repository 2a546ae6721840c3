-- The pieces that are handed over one after the other are the whole output. Assumes nothing.
use Rattle.std.specs.Prelude.{◌≡◌, List, [], ◌∷◌, ℕ}
use Rattle.text.specs.Bytes.{Str}
use Rattle.row.specs.Rows.{joined}
use Rattle.tree.specs.Read.{admitted}
use Rattle.parts.specs.Program.{program_text}
use Rattle.parts.specs.Left.{Left, Gives}
use Rattle.parts.specs.declared.Place.{Place}
use Rattle.parts.specs.declared.Place.TheVariants.{End}

-- the pieces from a place on, as they are handed over: each is what `hand` asks for at the place after the one before, up to the
-- end
pub data Printed (s index : List ℕ) : Place → List Str → Type 0 where
  none : Printed s index End []
  more : {place next : Place} {piece : Str} {pieces : List Str} → Gives s index place piece next
      → Printed s index next pieces → Printed s index place (piece ∷ pieces)

-- joined, they are what document 01 says of the sheet s, if that is left where they begin, as `start` says
abbrev pub PiecesHold : Type 0
PiecesHold =
    (s index : List ℕ) (place : Place) (pieces : List Str) → Left s index place (program_text (admitted s))
    → Printed s index place pieces → joined pieces ≡ program_text (admitted s)
