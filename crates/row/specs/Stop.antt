-- How far a line is read. Assumes nothing.
use Rattle.std.specs.Prelude.{◌≡◌, [], ℕ, ◌-◌, ◌≤◌, ◌<◌, length, get_or, take, drop}
use Rattle.std.specs.Prelude.{Option, None, Some}
use Rattle.text.specs.Bytes.{Str}
use Rattle.row.specs.Rows.{rows, rest_of}
use Rattle.row.specs.Line.{empty_row, reader, line_at}

-- the line at a position of s, read up to the byte 10 at z, says what its row says; where no byte 10 follows, what stands there
-- is no line, and the last row
abbrev pub ReadTo : Str → ℕ → Option ℕ → Type 0
ReadTo s at (Some z) =
    (at ≤ z) × (z < length s) × (get_or s z 0 ≡ 10)
    × (reader (get_or s at 0) (take (z - at) (drop at s)) ≡ line_at (rows (drop at s)))
ReadTo s at None = (empty_row ≡ line_at (rows (drop at s))) × ([] ≡ rest_of (rows (drop at s)))
