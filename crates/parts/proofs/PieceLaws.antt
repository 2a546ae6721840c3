-- The pieces that are handed over one after the other are what was left where they began. By induction on the pieces. Assumes
-- nothing.
use mathlib.Core.Path.{◌≡◌, sym, ap, ◌∙◌}
use mathlib.Core.List.{List, ◌++◌}
use Prim.Native.Nat.{ℕ}
use Rattle.text.specs.Bytes.{Str}
use Rattle.row.specs.Rows.{joined}
use Rattle.parts.specs.Left.{Left}
use Rattle.parts.specs.Pieces.{Printed, none, more, PiecesHold}
use Rattle.parts.specs.declared.Place.{Place}

joined_pieces :
    (s index : List ℕ) {place : Place} {pieces : List Str} (text : Str) → Left s index place text
    → Printed s index place pieces → joined pieces ≡ text
unfolding joined
joined_pieces s index text left none = sym left
joined_pieces s index text left (more {piece = piece} f later) =
    let g = f.goes text left in
    ap (λ (x : Str). piece ++ x) (joined_pieces s index g.rest g.left later) ∙ g.joined

pub pieces_hold : PiecesHold
pieces_hold s index place pieces left printed = joined_pieces s index _ left printed
