-- Bytes as one number, by which the code looks for byte 10. Assumes nothing.
use Rattle.std.specs.Prelude.{[], ◌∷◌, ℕ, zero, suc, ◌+◌, ◌*◌, ◌/◌, ◌%◌, eqb}
use Rattle.std.specs.Prelude.{Option, Some, Result, Ok, Err}
use Rattle.text.specs.Bytes.{Str, cond}
use Rattle.row.specs.Newline.{newline_from}

-- bytes as one number, the first lowest
unfoldable pub word_of : Str → ℕ
word_of [] = 0
word_of (b ∷ s) = word_of s * 256 + b

-- the n lowest bytes of a number, each byte 10 among them as 128 and every other as 0
unfoldable pub newline_bits : ℕ → ℕ → ℕ
newline_bits zero w = 0
newline_bits (suc n) w = newline_bits n (w / 256) * 256 + cond (eqb (w % 256) 10) 0x80 0

-- the first byte 10 by what the words of s say: where it stands, or from where on it is left to seek
abbrev pub words_said : Str → Result ℕ ℕ → Option ℕ
words_said s (Ok i) = Some i
words_said s (Err i) = newline_from s i
