-- The sheet that a text written by hand says: the numbers of each line, with any spaces between them, go into their columns.
-- Nothing is refused: admission says whether it is a sheet. Assumes nothing.
use Rattle.std.specs.Prelude.{List, [], ◌∷◌, ◌++◌, true, false, ℕ, zero, suc, ◌-◌, eqb, length, take, drop, replicate}
use Rattle.text.specs.Bytes.{Str, cond, either}
use Rattle.row.specs.Rows.{rows}
use Rattle.row.specs.Line.{byte}

-- how many numbers a line with a letter has
unfoldable pub number_count : ℕ → ℕ
number_count letter =
    cond (eqb letter (byte "N")) 7
    (cond (eqb letter (byte "F")) 4
    (cond (eqb letter (byte "G")) 2
    (cond (eqb letter (byte "T")) 4
    (cond (eqb letter (byte "S")) 3
    (cond (eqb letter (byte "V")) 2
    (cond (eqb letter (byte "W")) 1 0))))))

-- how many spaces stand in front
unfoldable pub space_len : Str → ℕ
space_len [] = 0
space_len (b ∷ t) = elim (eqb b 32) [ true ↦ suc (space_len t) | false ↦ 0 ]

-- how many bytes stand in front of the first space or byte 10
unfoldable pub word_len : Str → ℕ
word_len [] = 0
word_len (b ∷ t) = elim (either (eqb b 32) (eqb b 10)) [ true ↦ 0 | false ↦ suc (word_len t) ]

-- a word at the end of 21 columns; a longer one as it is
unfoldable pub right_justified : Str → Str
right_justified w = replicate (21 - length w) 32 ++ w

-- the next so many words, each in its columns, and the rest, of whose spaces in front one is kept
unfoldable pub words_padded : ℕ → Str → Str
words_padded zero t = drop (space_len t - 1) t
words_padded (suc n) t =
    let u = drop (space_len t) t in
    right_justified (take (word_len u) u) ++ words_padded n (drop (word_len u) u)

-- a row: its letter, its numbers and the rest
unfoldable pub padded_row : Str → Str
padded_row [] = []
padded_row (b ∷ t) = b ∷ words_padded (number_count b) t

unfoldable pub padded_rows : List Str → Str
padded_rows [] = []
padded_rows (r ∷ rs) = padded_row r ++ padded_rows rs

-- a text, row by row
unfoldable pub padded_text : Str → Str
padded_text s = padded_rows (rows s)
