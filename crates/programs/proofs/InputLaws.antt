-- Laws of what was read, and of the input's lines, numbers and sheets: what stands from a place on, by the byte there. Assumes
-- nothing.
use mathlib.Core.Path.{◌≡◌, refl}
use Prim.Native.Nat.{ℕ, ◌+◌, ◌-◌, ◌*◌, ◌%◌, ◌<◌, ◌≤◌, min}
use native.Mathlib.Omega.{arith}
use native.Mathlib.Numerals.{add-one}
use lib.ListN.{length, get_or, take, drop, drop_of_length-le}
use lib.Seq.{drop-cons}
use borrow.Author.Tests.{eq-eqb, ne_eqb, lt-ltb, le-ltb}
use Rattle.std.specs.Prelude.{Option}
use Rattle.std.specs.Option.{MatchOption, unwrap_or}
use Rattle.std.specs.List.{AllWithin, HoldsAt}
use Rattle.std.proofs.lemmas.Iterator.{index_from_first}
use mathlib.Core.Logic.{◌≢◌}
use Rattle.text.specs.Bytes.{Str}
use Rattle.programs.specs.Input.{line_length, line_end, digit_of, number_from, decimal_of, sheet_after}

-- what stands in front of the first byte 10, as `position` tells where it stands, or that there is none
pub line-first :
    (s : Str) (r : Option ℕ)
    → MatchOption r (AllWithin (λ b. b ≢ 10) s 0 (length s))
    (λ i. (i < length s) × HoldsAt (λ b. b ≡ 10) s i × AllWithin (λ b. b ≢ 10) s 0 i)
    → line_length s ≡ unwrap_or r (length s)
unfolding line_length
line-first =
    index_from_first line_length (λ b. b ≡ 10) (λ b. b ≢ 10) refl (λ b s e. rw (line_length, eq-eqb b 10 e) refl)
    (λ b s e. rw (line_length, ne_eqb b 10 e) (omega arith))

-- past the end stands nothing
pub line-last : (s : Str) (i : ℕ) → length s ≤ i → line_end s i ≡ i
unfolding line_length
line-last s i h = let z : line_length (drop i s) ≡ 0 = rw (drop_of_length-le s h) in omega arith

-- a number goes on with the digit at a place, and is whole at the end
pub number-on :
    (s : Str) (i n d : ℕ) → i < length s → d ≡ digit_of (get_or s i 0)
    → number_from (n % 1000000 * 10 + d) (drop (i + 1) s) ≡ number_from n (drop i s)
unfolding number_from
number-on s i n d h e = rw (e, add-one, drop-cons s i 0)

pub number-whole : (s : Str) (i n : ℕ) → length s ≤ i → number_from n (drop i s) ≡ n
unfolding number_from
number-whole s i n h = rw (drop_of_length-le s h)

-- the sheet after a line that ends at the end, and after one that ends in front of it
pub sheet-none :
    (s : Str) (from line : ℕ) → line ≡ line_end s from → length s ≤ line
    → record { start = line; end = line } ≡ sheet_after s from
unfolding sheet_after
sheet-none s from line e h = let g : length s ≤ line_end s from = omega arith in rw (e, le-ltb (line_end s from) (length s) g)

pub sheet-some :
    (s : Str) (from line size end : ℕ) → line ≡ line_end s from → line < length s
    → size ≡ decimal_of (take (line - from) (drop from s)) → end ≡ min (line + 1 + size) (length s)
    → record { start = line + 1; end = end } ≡ sheet_after s from
unfolding sheet_after
sheet-some s from line size end e h f g =
    let k : line_end s from < length s = omega arith in
    rw (lt-ltb (line_end s from) (length s) k, ← e, ← f, g)
