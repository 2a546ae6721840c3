-- A P row or a W row that is passed over in one reading. Only a good row says `Parameter` or `Word`: a bad one says `Bad`.
-- Assumes nothing.
use Rattle.std.specs.Prelude.{◌≡◌, ℕ, drop, Option}
use Rattle.std.specs.Option.{MatchOption}
use Rattle.text.specs.Bytes.{Str}
use Rattle.row.specs.Rows.{rows, rest_of}
use Rattle.row.specs.Line.{Parameter, Word, line_at}

-- a P row stands at a position, and the row after it begins at `next`
pub record ParameterAt (s : Str) (at next : ℕ) : Type 0 where
  pub says : line_at (rows (drop at s)) ≡ Parameter
  pub rest : rows (drop next s) ≡ rest_of (rows (drop at s))

-- where the row after the P row at a position begins; none where no good P row stands there
abbrev pub PastParameter : Str → ℕ → Option ℕ → Type 0
PastParameter s at r = MatchOption r (line_at (rows (drop at s)) ≡ Parameter → ⊥) (ParameterAt s at)

-- a W row stands at a position, and the row after it begins at `next`
pub record WordAt (s : Str) (at next : ℕ) : Type 0 where
  pub value : ℕ
  pub says : line_at (rows (drop at s)) ≡ Word value
  pub rest : rows (drop next s) ≡ rest_of (rows (drop at s))

-- where the row after the W row at a position begins; none where no good W row stands there
abbrev pub PastWord : Str → ℕ → Option ℕ → Type 0
PastWord s at r = MatchOption r ((v : ℕ) → line_at (rows (drop at s)) ≡ Word v → ⊥) (WordAt s at)
