-- Four bytes that stand one after the other, by which the code passes over U rows. Assumes nothing.
use Rattle.std.specs.Prelude.{ℕ, ◌/◌, length}
use Rattle.std.specs.List.{prefix_len}
use Rattle.std.specs.Simd.{first_chunks}
use Rattle.std.specs.Str.{bytes_eq}
use Rattle.text.specs.Bytes.{Str}

-- how many times these four bytes stand in front, one after the other
unfoldable pub fours : Str → Str → ℕ
fours four t = prefix_len (λ chunk. bytes_eq chunk four) (first_chunks 4 (length t / 4) t)
