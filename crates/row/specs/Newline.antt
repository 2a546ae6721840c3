-- The first byte 10 at or after a start. Assumes nothing.
use Rattle.std.specs.Prelude.{◌≡◌, true, false, [], ◌∷◌, ℕ, suc, ◌≤◌, ◌<◌, eqb, length, get_or, drop}
use Rattle.std.specs.Prelude.{Option, None, Some}
use Rattle.text.specs.Bytes.{Str}

-- the position of the first byte 10 among bytes of which the first stands at `at`; none where there is none
unfoldable pub first_newline : ℕ → Str → Option ℕ
first_newline at [] = None
first_newline at (b ∷ s) = elim (eqb b 10) [ true ↦ Some at | false ↦ first_newline (suc at) s ]

-- the position of the first byte 10 of s at or after a start
unfoldable pub newline_from : Str → ℕ → Option ℕ
newline_from s from = first_newline from (drop from s)

-- what that says: a position at or after the start at which byte 10 stands, and before which from the start on none does; none
-- exactly where no byte at or after the start is 10
abbrev pub FirstAtOrAfter : Str → ℕ → Option ℕ → Type 0
FirstAtOrAfter s from (Some i) =
    (from ≤ i) × (i < length s) × (get_or s i 0 ≡ 10) × ((j : ℕ) → from ≤ j → j < i → get_or s j 0 ≡ 10 → ⊥)
FirstAtOrAfter s from None = (j : ℕ) → from ≤ j → j < length s → get_or s j 0 ≡ 10 → ⊥
