-- Numbers in decimal, as Rust's `format!` writes them. Assumes nothing.
use Rattle.std.specs.Prelude.{true, false, List, ◌++◌, ℕ, zero, suc, ◌+◌, ◌-◌, ◌/◌, ◌%◌, ltb}
use Rattle.text.specs.Bytes.{unit}

-- n in decimal, by division by 10, at most k times
abbrev pub decimal_digits : ℕ → ℕ → List ℕ
decimal_digits zero n = unit (48 + n)
decimal_digits (suc k) n = elim (ltb n 10) [ true ↦ unit (48 + n) | false ↦ decimal_digits k (n / 10) ++ unit (48 + n % 10) ]

unfoldable pub decimal : ℕ → List ℕ
decimal n = decimal_digits n n

-- the number whose bits in two's complement are n, where the sign's bit is half
unfoldable pub signed : ℕ → ℕ → List ℕ
signed half n = elim (ltb n half) [ true ↦ decimal n | false ↦ unit 45 ++ decimal (half + half - n) ]
