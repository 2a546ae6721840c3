-- The rows of a sheet. A row is the bytes up to and with the next byte 10; a last row may lack it. Assumes nothing.
use Rattle.std.specs.Prelude.{true, false, List, [], ◌∷◌, ◌++◌, ℕ, zero, suc, ◌+◌, ◌-◌, eqb, length, take}
use Rattle.text.specs.Bytes.{Str, unit}

-- how long the first row is
unfoldable pub row_len : Str → ℕ
row_len [] = 0
row_len (b ∷ s) = elim (eqb b 10) [ true ↦ 1 | false ↦ suc (row_len s) ]

-- one more byte in front of the first row
unfoldable pub onto : ℕ → List Str → List Str
onto b [] = unit b ∷ []
onto b (r ∷ rs) = (b ∷ r) ∷ rs

unfoldable pub rows : Str → List Str
rows [] = []
rows (b ∷ s) = elim (eqb b 10) [ true ↦ unit b ∷ rows s | false ↦ onto b (rows s) ]

-- the bytes of rows
unfoldable pub joined : List Str → Str
joined [] = []
joined (r ∷ rs) = r ++ joined rs

-- the rows from the second on
unfoldable pub rest_of : List Str → List Str
rest_of [] = []
rest_of (r ∷ rs) = rs

-- so many U rows
unfoldable pub unbound_rows : ℕ → List Str
unbound_rows zero = []
unbound_rows (suc n) = (85 ∷ 10 ∷ []) ∷ unbound_rows n

-- how many bytes 10 there are
unfoldable pub newlines : Str → ℕ
newlines [] = 0
newlines (b ∷ s) = elim (eqb b 10) [ true ↦ suc (newlines s) | false ↦ newlines s ]

-- how many bytes the rows have
unfoldable pub size : List Str → ℕ
size [] = 0
size (r ∷ rs) = length r + size rs

-- the number, from 1, of the row of s at which the rows `rest` begin
unfoldable pub line_no : Str → List Str → ℕ
line_no s rest = suc (newlines (take (length s - size rest) s))
