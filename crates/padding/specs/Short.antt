-- The short form of a text, as document 01 shows sheets. Assumes nothing.
use Rattle.std.specs.Prelude.{[], ◌∷◌, ◌++◌, eqb, get_or}
use Rattle.text.specs.Bytes.{Str, cond, both, unit}

-- a space in front of another is left out
unfoldable pub short : Str → Str
short [] = []
short (b ∷ s) = cond (both (eqb b 32) (eqb (get_or s 0 0) 32)) [] (unit b) ++ short s
