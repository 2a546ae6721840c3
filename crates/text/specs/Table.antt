-- A table of worked cases: texts of definitions, each with what it must be. Assumes nothing.
use Rattle.std.specs.Prelude.{Bool, true, List, [], ◌∷◌}
use Prim.Native.String.{String}
use Rattle.text.specs.Bytes.{Str, ascii, both, same}

pub data Row : Type 0 where
  row : Str → String → Row

-- whether every text is what it must be
abbrev pub right : List Row → Bool
right [] = true
right (row s text ∷ rows) = both (same s (ascii text)) (right rows)
