-- What the two searches answer, and what the older one says of eight bytes. Assumes nothing.
use Rattle.std.specs.Prelude.{◌≡◌, Bool, true, false, ℕ, ◌+◌, ◌-◌, ◌^◌}
use Rattle.std.specs.Prelude.{Option, None, Some}
use Rattle.text.specs.Bytes.{Str}
use Rattle.row.specs.Newline.{newline_from}

-- a position as it is, none as the largest number
abbrev pub answered : Option ℕ → ℕ
answered (Some i) = i
answered None = 2 ^ 64 - 1

-- where r says so, the first byte 10 from i on is the first from eight bytes further on
abbrev pub Passes : Str → ℕ → Bool → Type 0
Passes s i true = newline_from s (i + 8) ≡ newline_from s i
Passes s i false = Unit {0}
