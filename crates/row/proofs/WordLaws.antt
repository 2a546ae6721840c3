-- Laws of the search for byte 10 by words. The three bit operations work on each byte of a number apart, so that the test of a
-- word is that of its lowest byte and of the rest: induction over its bytes, and one law of a byte. The lowest bit that is
-- left then stands in the first byte 10. Assumes nothing.
use mathlib.Core.Path.{◌≡◌, refl, sym, ap, ap₂, ◌∙◌}
use mathlib.Core.Bool.{Bool, true, false}
use mathlib.Core.List.{[], ◌∷◌}
use Prim.Native.Nat.{ℕ, zero, suc, zero-le, suc-le-suc, ◌+◌, ◌*◌, ◌/◌, ◌%◌, ◌^◌, ◌≤◌, ◌<◌}
use native.Mathlib.Omega.{arith}
use native.Mathlib.Nat.{mod-lt, mod-eq_of_lt, suc-add, add-zero, zero-add, mul-one, zero-lt-suc, lt_of_le_of_lt}
use native.Mathlib.Nat.{mod-one, pow-suc, le_of_suc-le-suc, not-suc-le-zero, lt_of_not-le}
use native.Mathlib.Decide.{dec_le}
use native.Mathlib.Numerals.{add-one}
use lib.Arith.{digits_div, digits_mod, mod-mul}
use lib.Pow.{split, pow_pos}
use lib.Bits.{bit_and, bit_or, bit_xor, and_block, or_block, xor_block, and_zero_r, and_mask, and_high, or_shr, or_lt, xor_lt}
use lib.Bits.{and_le_l, and_le_r, xor_add_and, shifted_half, shifted_even}
use lib.Count.{count_trailing_zeros, under}
use lib.Dec.{eqb}
use lib.ListN.{length, get_or, take, drop, length-drop}
use lib.Seq.{drop-cons, get_or-drop, length-take-le}
use borrow.Author.Tests.{eqb-true, eqb-false}
use Rattle.text.specs.Bytes.{Str, cond}
use Rattle.row.specs.Eights.{word_of, newline_bits}

-- a byte in each of n places
unfoldable pub repeated : ℕ → ℕ → ℕ
repeated zero b = 0
repeated (suc n) b = repeated n b * 256 + b

-- the test of n bytes, as the code does it
abbrev pub word_test : ℕ → ℕ → ℕ
word_test n w =
    bit_xor (bit_and (bit_or (bit_xor (bit_and w (repeated n 0x7f)) (repeated n 10) + repeated n 0x7f) w) (repeated n 0x80))
    (repeated n 0x80)

-- the test of one byte
abbrev byte_test : ℕ → ℕ
byte_test b = bit_xor (bit_and (bit_or (bit_xor (bit_and b 0x7f) 10 + 0x7f) b) 0x80) 0x80

-- in a byte, the low bits that are not those of 10, plus 127, stay below 256
low_bits : (b : ℕ) → bit_xor (bit_and b 0x7f) 10 < 128
low_bits b = xor_lt 7 (bit_and b 0x7f) 10 (lt_of_le_of_lt (and_le_r b 0x7f) (omega arith)) (omega arith)

-- the test of more bytes is that of the lowest and of the rest: no sum goes out of its byte
test_more : (n q b : ℕ) → b < 256 → word_test (suc n) (q * 256 + b) ≡ word_test n q * 256 + byte_test b
unfolding repeated
test_more n q b h =
    let a : ℕ = bit_and b 0x7f in
    let x : ℕ = bit_xor a 10 in
    let o : ℕ = bit_or (x + 0x7f) b in
    let qa : ℕ = bit_and q (repeated n 0x7f) in
    let qx : ℕ = bit_xor qa (repeated n 10) in
    let qo : ℕ = bit_or (qx + repeated n 0x7f) q in
    let w : ℕ = q * 256 + b in
    let low : ℕ = repeated n 0x7f * 256 + 0x7f in
    let tens : ℕ = repeated n 10 * 256 + 10 in
    let high : ℕ = repeated n 0x80 * 256 + 0x80 in
    let la : a < 256 = lt_of_le_of_lt (and_le_r b 0x7f) (omega arith) in
    let lx = low_bits b in
    let lo : o < 256 = or_lt 8 (x + 0x7f) b (omega (arith, lx)) h in
    let ld : bit_and o 0x80 < 256 = lt_of_le_of_lt (and_le_r o 0x80) (omega arith) in
    let sum : qx * 256 + x + low ≡ (qx + repeated n 0x7f) * 256 + (x + 0x7f) = omega arith in
    ap (λ (v : ℕ). bit_xor (bit_and (bit_or (bit_xor v tens + low) w) high) high)
    (and_block 8 q (repeated n 0x7f) b 0x7f h (omega arith))
    ∙ ap (λ (v : ℕ). bit_xor (bit_and (bit_or (v + low) w) high) high) (xor_block 8 qa (repeated n 10) a 10 la (omega arith))
    ∙ ap (λ (v : ℕ). bit_xor (bit_and (bit_or v w) high) high) sum
    ∙ ap (λ (v : ℕ). bit_xor (bit_and v high) high) (or_block 8 (qx + repeated n 0x7f) q (x + 0x7f) b (omega (arith, lx)) h)
    ∙ ap (λ (v : ℕ). bit_xor v high) (and_block 8 qo (repeated n 0x80) o 0x80 lo (omega arith))
    ∙ xor_block 8 (bit_and qo (repeated n 0x80)) (repeated n 0x80) (bit_and o 0x80) 0x80 ld (omega arith)

-- a byte other than 10 has its highest bit set, or low bits by which it is reached
other_set : (b : ℕ) → b < 256 → (b ≡ 10 → ⊥) → bit_or ((bit_xor (bit_and b 0x7f) 10 + 0x7f) / 128) (b / 128) ≡ 1
other_set b h e = go (dec_le 128 b) (dec_le 1 (bit_xor (bit_and b 0x7f) 10))
  where
    is : (p q : ℕ) → (bit_xor (bit_and b 0x7f) 10 + 0x7f) / 128 ≡ p → b / 128 ≡ q → bit_or p q ≡ 1
        → bit_or ((bit_xor (bit_and b 0x7f) 10 + 0x7f) / 128) (b / 128) ≡ 1
    is p q hp hq k = ap₂ bit_or hp hq ∙ k

    go : Dec (128 ≤ b) → Dec (1 ≤ bit_xor (bit_and b 0x7f) 10)
        → bit_or ((bit_xor (bit_and b 0x7f) 10 + 0x7f) / 128) (b / 128) ≡ 1
    go (yes l) (yes m) = is 1 1 (omega (arith, low_bits b)) (omega arith) refl
    go (yes l) (no m) = is 0 1 (omega arith) (omega arith) refl
    go (no l) (yes m) = is 1 0 (omega (arith, low_bits b)) (omega arith) refl
    go (no l) (no m) =
        let a = bit_and b 0x7f in
        let same : a ≡ b = and_mask b 7 ∙ mod-eq_of_lt (omega arith) in
        absurd (e (sym same ∙ omega (arith, xor_add_and a 10, and_le_l a 10, and_le_r a 10)))

-- the test of a byte leaves the highest bit to 10 alone
byte-bit : (b : ℕ) → b < 256 → byte_test b ≡ cond (eqb b 10) 0x80 0
byte-bit b h = go (eqb b 10) refl
  where
    go : (p : Bool) → eqb b 10 ≡ p → byte_test b ≡ cond p 0x80 0
    go true e = ap byte_test (eqb-true b 10 e)
    go false e =
        let x = bit_xor (bit_and b 0x7f) 10 + 0x7f in
        ap (λ (v : ℕ). bit_xor v 0x80) (and_high (bit_or x b) 1 7)
        ∙ ap (λ (v : ℕ). bit_xor (v % 2 * 0x80) 0x80) (or_shr x b 7 ∙ other_set b h (eqb-false b 10 e))

-- the test of a word leaves the highest bit to each byte 10
pub test_bits : (n w : ℕ) → word_test n w ≡ newline_bits n w
unfolding newline_bits repeated
test_bits zero w =
    ap (λ (v : ℕ). bit_xor (bit_and (bit_or (bit_xor v 0 + 0) w) 0) 0) (and_zero_r w)
    ∙ ap (λ (v : ℕ). bit_xor v 0) (and_zero_r w)
test_bits (suc n) w =
    let l : w % 256 < 256 = mod-lt w (zero-lt-suc 255) in
    ap (word_test (suc n)) (sym (split w 8)) ∙ test_more n (w / 256) (w % 256) l
    ∙ ap₂ (λ (x y : ℕ). x * 256 + y) (test_bits n (w / 256)) (byte-bit (w % 256) l)

-- the sum of the test fits
pub others-fit : (w : ℕ) → bit_xor (bit_and w (repeated 8 0x7f)) (repeated 8 10) + repeated 8 0x7f < 2 ^ 64
unfolding repeated
others-fit w =
    let l : bit_and w (repeated 8 0x7f) < 2 ^ 63 = lt_of_le_of_lt (and_le_r w (repeated 8 0x7f)) (omega arith) in
    omega (arith, xor_lt 63 (bit_and w (repeated 8 0x7f)) (repeated 8 10) l (omega arith))

-- ---- the lowest bit

-- j zeros more below the lowest set bit; seven where only the highest bit of the lowest byte is set
zeros-below : (j k m : ℕ) → count_trailing_zeros (j + k) (m * 2 ^ j) ≡ j + count_trailing_zeros k m
unfolding count_trailing_zeros
zeros-below zero k m = rw (zero-add k, mul-one m, zero-add (count_trailing_zeros k m))
zeros-below (suc j) k m =
    rw (
      suc-add j k,
      count_trailing_zeros,
      shifted_even m j,
      shifted_half m j,
      zeros-below j k m,
      suc-add j (count_trailing_zeros k m),
    )

zeros-bit : (k m : ℕ) → count_trailing_zeros (8 + k) (m * 256 + 0x80) ≡ 7
unfolding count_trailing_zeros
zeros-bit k m =
    let e : 8 + k ≡ 7 + suc k = omega arith in
    let f : m * 256 + 0x80 ≡ (m * 2 + 1) * 2 ^ 7 = omega arith in
    let g : (m * 2 + 1) % 2 ≡ 1 = omega arith in
    rw (e, f, zeros-below 7 (suc k) (m * 2 + 1), count_trailing_zeros, g)

-- fewer zeros than digits of which one is set, and no fewer than digits of which none is
lower_digits : (n j : ℕ) → n % 2 ^ suc j ≡ n / 2 % 2 ^ j * 2 + n % 2
lower_digits n j = rw (pow-suc 2 j) (mod-mul n (pow_pos j) (zero-lt-suc 1))

pub zeros-most : (k j n : ℕ) → (n % 2 ^ j ≡ 0 → ⊥) → count_trailing_zeros k n < j
unfolding count_trailing_zeros
zeros-most k zero n h = absurd (h (mod-one n))
zeros-most zero (suc j) n h = zero-lt-suc j
zeros-most (suc k) (suc j) n h = go (zeros-most k j (n / 2)) (n % 2) refl
  where
    go :
        ((n / 2 % 2 ^ j ≡ 0 → ⊥) → count_trailing_zeros k (n / 2) < j) → (d : ℕ) → n % 2 ≡ d
        → under d (count_trailing_zeros k (n / 2)) < suc j
    go f zero e = suc-le-suc (f (λ z. h (lower_digits n j ∙ rw (z, e))))
    go f (suc d) e = zero-lt-suc j

pub zeros_least : (k j n : ℕ) → j ≤ k → n % 2 ^ j ≡ 0 → j ≤ count_trailing_zeros k n
unfolding count_trailing_zeros
zeros_least k zero n l h = zero-le
zeros_least zero (suc j) n l h = l
zeros_least (suc k) (suc j) n l h = go (zeros_least k j (n / 2) (le_of_suc-le-suc l)) (n % 2) refl
  where
    go :
        (n / 2 % 2 ^ j ≡ 0 → j ≤ count_trailing_zeros k (n / 2)) → (d : ℕ) → n % 2 ≡ d
        → suc j ≤ under d (count_trailing_zeros k (n / 2))
    go f zero e = suc-le-suc (f (omega (arith, lower_digits n j)))
    go f (suc d) e = let z : ⊥ = omega (arith, lower_digits n j) in absurd z

-- how many bytes stand before the first byte 10: all where there is none
unfoldable pub lead : Str → ℕ
lead [] = 0
lead (b ∷ s) = elim (eqb b 10) [ true ↦ 0 | false ↦ suc (lead s) ]

-- the bits of a byte and of those above it
bits-more : (n v b : ℕ) → b < 256 → newline_bits (suc n) (v * 256 + b) ≡ newline_bits n v * 256 + cond (eqb b 10) 0x80 0
unfolding newline_bits
bits-more n v b h = rw (digits_div v h, digits_mod v h)

-- the lowest bit of bytes, in eights: so many as stand before the first byte 10
lowest_bit :
    (t : Str) → ((j : ℕ) → get_or t j 0 < 256)
    → count_trailing_zeros (length t * 8) (newline_bits (length t) (word_of t)) / 8 ≡ lead t
unfolding word_of newline_bits lead count_trailing_zeros
lowest_bit [] h = refl
lowest_bit (b ∷ t) h =
    let e : suc (length t) * 8 ≡ 8 + length t * 8 = omega arith in
    ap₂ (λ (k v : ℕ). count_trailing_zeros k v / 8) e (bits-more (length t) (word_of t) b (h 0))
    ∙ go (lowest_bit t (λ j. h (suc j))) (eqb b 10) refl
  where
    go :
        count_trailing_zeros (length t * 8) (newline_bits (length t) (word_of t)) / 8 ≡ lead t → (p : Bool) → eqb b 10 ≡ p
        → count_trailing_zeros (8 + length t * 8) (newline_bits (length t) (word_of t) * 256 + cond p 0x80 0) / 8
        ≡ elim p [ true ↦ 0 | false ↦ suc (lead t) ]
    go i true e = ap (λ (z : ℕ). z / 8) (zeros-bit (length t * 8) (newline_bits (length t) (word_of t)))
    go i false e =
        let z = count_trailing_zeros (length t * 8) (newline_bits (length t) (word_of t)) in
        let m = newline_bits (length t) (word_of t) in
        let f : (8 + z) / 8 ≡ suc (z / 8) = omega arith in
        ap (λ (v : ℕ). count_trailing_zeros (8 + length t * 8) v / 8) (add-zero (m * 256))
        ∙ ap (λ (v : ℕ). v / 8) (zeros-below 8 (length t * 8) m) ∙ f ∙ ap suc i

-- where no byte 10 stands, no bit is set
no-bit : (t : Str) → ((j : ℕ) → get_or t j 0 < 256) → length t ≤ lead t → newline_bits (length t) (word_of t) ≡ 0
unfolding word_of newline_bits lead
no-bit [] h l = refl
no-bit (b ∷ t) h l = bits-more (length t) (word_of t) b (h 0) ∙ go (no-bit t (λ j. h (suc j))) (eqb b 10) refl l
  where
    go :
        (length t ≤ lead t → newline_bits (length t) (word_of t) ≡ 0) → (p : Bool) → eqb b 10 ≡ p
        → suc (length t) ≤ elim p [ true ↦ 0 | false ↦ suc (lead t) ]
        → newline_bits (length t) (word_of t) * 256 + cond p 0x80 0 ≡ 0
    go f true e l = absurd (not-suc-le-zero l)
    go f false e l = rw (f (le_of_suc-le-suc l))

-- ---- the bytes of a sheet

-- one byte more below
word_more :
    (s : Str) (n m m' : ℕ) → m' ≡ m + 1 → m < length s
    → word_of (take (suc n) (drop m s)) ≡ word_of (take n (drop m' s)) * 256 + get_or s m 0
unfolding word_of
word_more s n m m' e h = rw (e, add-one, drop-cons s m 0 h)

-- eight bytes of a sheet
pub word_eight :
    (s : Str) (i v : ℕ) → i + 8 ≤ length s
    → v
    ≡ get_or s i 0 + 0x100 * get_or s (i + 1) 0 + 0x1_0000 * get_or s (i + 2) 0 + 0x100_0000 * get_or s (i + 3) 0
    + 0x1_0000_0000 * get_or s (i + 4) 0 + 0x100_0000_0000 * get_or s (i + 5) 0 + 0x1_0000_0000_0000 * get_or s (i + 6) 0
    + 0x100_0000_0000_0000 * get_or s (i + 7) 0
    → v ≡ word_of (take 8 (drop i s))
unfolding word_of
word_eight s i v h e =
    omega (
      arith,
      e,
      word_more s 7 i (i + 1) (omega arith) (omega arith),
      word_more s 6 (i + 1) (i + 2) (omega arith) (omega arith),
      word_more s 5 (i + 2) (i + 3) (omega arith) (omega arith),
      word_more s 4 (i + 3) (i + 4) (omega arith) (omega arith),
      word_more s 3 (i + 4) (i + 5) (omega arith) (omega arith),
      word_more s 2 (i + 5) (i + 6) (omega arith) (omega arith),
      word_more s 1 (i + 6) (i + 7) (omega arith) (omega arith),
      word_more s 0 (i + 7) (i + 8) (omega arith) (omega arith),
    )

-- some of the bytes are bytes
bytes_take : (n : ℕ) (t : Str) → ((j : ℕ) → get_or t j 0 < 256) → (j : ℕ) → get_or (take n t) j 0 < 256
bytes_take zero t h j = zero-lt-suc 255
bytes_take (suc n) [] h j = zero-lt-suc 255
bytes_take (suc n) (x ∷ t) h zero = h 0
bytes_take (suc n) (x ∷ t) h (suc j) = bytes_take n t (λ k. h (suc k)) j

-- eight bytes of a sheet: where their lowest bit stands, and that one is byte 10 where a bit is set
module _ (s : Str) (i : ℕ) (h : i + 8 ≤ length s) (fits : (j : ℕ) → get_or s j 0 < 256) where
  eight-length : length (take 8 (drop i s)) ≡ 8
  eight-length = length-take-le 8 (drop i s) (rw (length-drop i s) (omega arith))

  eight-fit : (j : ℕ) → get_or (take 8 (drop i s)) j 0 < 256
  eight-fit = bytes_take 8 (drop i s) (λ j. rw (get_or-drop i s j 0) (fits (i + j)))

  pub lowest_eight : count_trailing_zeros 64 (newline_bits 8 (word_of (take 8 (drop i s)))) / 8 ≡ lead (take 8 (drop i s))
  lowest_eight =
      ap (λ (k : ℕ). count_trailing_zeros (k * 8) (newline_bits k (word_of (take 8 (drop i s)))) / 8) (sym eight-length)
      ∙ lowest_bit (take 8 (drop i s)) eight-fit

  pub some-bit : (newline_bits 8 (word_of (take 8 (drop i s))) ≡ 0 → ⊥) → lead (take 8 (drop i s)) < length (take 8 (drop i s))
  some-bit set = go (dec_le (length (take 8 (drop i s))) (lead (take 8 (drop i s))))
    where
      go : Dec (length (take 8 (drop i s)) ≤ lead (take 8 (drop i s))) → lead (take 8 (drop i s)) < length (take 8 (drop i s))
      go (yes l) =
          absurd (set (ap (λ (k : ℕ). newline_bits k (word_of (take 8 (drop i s)))) (sym eight-length)
          ∙ no-bit (take 8 (drop i s)) eight-fit l))
      go (no l) = lt_of_not-le l
