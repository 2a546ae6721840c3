-- Worked input, by computation: its lines, numbers and sheets, what stands past its end, and calls at its sheets. Assumes
-- nothing.
use Rattle.std.specs.Prelude.{◌≡◌, Result, Ok, Err, [], ◌∷◌, ℕ, ◌+◌, refl}
use Rattle.text.specs.Bytes.{Str, ascii}
use Rattle.programs.specs.Input.{line_length, line_end, number_from, decimal_of, sheet_after}
use Rattle.programs.specs.Input.{sheets_from, sheets_of, CalledUpToErr}

-- a sheet of three bytes, and one of five of which two are there
abbrev input : Str
input = ascii "3\nabc5\nde"

pub line-ends : (line_end input 0 ≡ 1) × (line_end input 2 ≡ 6) × (line_end input 7 ≡ 9) × (line_end input 10 ≡ 10)
unfolding line_length
line-ends = (refl, refl, refl, refl)

pub numbers : (decimal_of (ascii "") ≡ 0) × (decimal_of (ascii "1 a5") ≡ 1005) × (decimal_of (ascii "123456789") ≡ 3456789)
unfolding number_from
numbers = (refl, refl, refl)

pub sheets :
    (sheet_after input 0 ≡ record { start = 2; end = 5 }) × (sheet_after input 5 ≡ record { start = 7; end = 9 })
    × (sheet_after input 9 ≡ record { start = 9; end = 9 })
unfolding line_length number_from sheet_after
sheets = (refl, refl, refl)

-- the three bytes, and the two of five; of an input without a byte 10 an empty sheet, and of an empty input none
pub all-sheets :
    (sheets_of input ≡ ascii "abc" ∷ ascii "de" ∷ []) × (sheets_of (ascii "1\na0\n1\nb") ≡ ascii "a" ∷ [] ∷ ascii "b" ∷ [])
    × (sheets_of (ascii "5") ≡ [] ∷ []) × (sheets_of [] ≡ [])
unfolding line_length number_from sheet_after sheets_from
all-sheets = (refl, refl, refl, refl)

-- a call that answers at an empty string, as an error, how many calls were before it
abbrev pub Counts : ℕ → Str → Result (Unit {0}) ℕ → ℕ → Type 0
Counts n [] answer next = (answer ≡ Err n) × (next ≡ n + 1)
Counts n (b ∷ s) answer next = (answer ≡ Ok tt) × (next ≡ n + 1)

-- both sheets of the input are taken; of a, the empty string and b the second is the error
pub calls :
    CalledUpToErr Counts 0 (sheets_of input) (Ok tt) × CalledUpToErr Counts 0 (sheets_of (ascii "1\na0\n1\nb")) (Err 1)
unfolding line_length number_from sheet_after sheets_from
calls = ((Ok tt, 1, (refl, refl), (Ok tt, 2, (refl, refl), refl)), (Ok tt, 1, (refl, refl), (Err 1, 2, (refl, refl), refl)))
