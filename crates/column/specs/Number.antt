-- A number in its 21 columns: right-justified with spaces, no sign, no leading zero, below 2 ^ 64; none where there is no such
-- number. Assumes nothing.
use Rattle.std.specs.Prelude.{[], ◌∷◌, ◌++◌, ℕ, ◌+◌, ◌-◌, ◌*◌, ◌^◌, eqb, ltb, length, take, drop, replicate}
use Rattle.std.specs.Prelude.{Option, None, Some}
use Rattle.text.specs.Bytes.{Str, cond}
use Rattle.text.specs.Decimal.{decimal}

-- the bytes after the spaces in front
unfoldable pub trimmed : Str → Str
trimmed [] = []
trimmed (b ∷ t) = cond (eqb b 32) (trimmed t) (b ∷ t)

-- v, where b is a digit
abbrev pub digit : ℕ → Option ℕ → Option ℕ
digit b v = cond (ltb b 48) None (cond (ltb 57 b) None v)

-- the number of which the digits so far are v and the others are given
unfoldable pub digits : ℕ → Str → Option ℕ
digits v [] = Some v
digits v (b ∷ t) = digit b (cond (ltb (v * 10 + (b - 48)) (2 ^ 64)) (digits (v * 10 + (b - 48)) t) None)

-- a number that is 0 ends after this digit
abbrev pub lone : Str → Option ℕ
lone [] = Some 0
lone (b ∷ t) = None

-- a number without spaces: 0 alone, or digits of which the first is not 0
unfoldable pub unpadded : Str → Option ℕ
unpadded [] = None
unpadded (b ∷ t) = cond (eqb b 48) (lone t) (digits 0 (b ∷ t))

abbrev pub number : Str → Option ℕ
number t = unpadded (trimmed t)

-- a number from least to most
abbrev pub within : ℕ → ℕ → Option ℕ → Option ℕ
within least most (Some v) = cond (ltb v least) None (cond (ltb most v) None (Some v))
within least most None = None

-- the number in the 21 columns from a on, where they are there whole and it lies between the bounds
unfoldable pub column_of : Str → ℕ → ℕ → ℕ → Option ℕ
column_of t a least most = cond (ltb (length t) (a + 21)) None (within least most (number (take 21 (drop a t))))

-- the greatest number of so many bits
abbrev pub most : ℕ → ℕ
most bits = 2 ^ bits - 1

-- n as it stands in its columns
unfoldable pub padded : ℕ → Str
padded n = replicate (21 - length (decimal n)) 32 ++ decimal n
