-- Numbers and their bits: there and back, exclusive or, and parts. By induction on the number of bits. Assumes nothing.
use mathlib.Core.Path.{◌≡◌, refl, sym, ap, ap₂, ◌∙◌}
use mathlib.Core.Bool.{Bool, true, false}
use mathlib.Core.List.{List, [], ◌∷◌, ◌++◌}
use Prim.Native.Nat.{ℕ, zero, suc, ◌+◌, ◌*◌, ◌/◌, ◌%◌, ◌^◌, ◌<◌}
use native.Mathlib.Nat.{div-add-mod', mod-lt, zero-lt-suc, pow-suc, div-lt_iff_lt-mul, div-one, not-suc-le-zero}
use native.Mathlib.Omega.{arith}
use lib.Arith.{digits_div, digits_mod, mod-mul}
use lib.Bits.{bit_xor, differ, xor_step, xor_lt, xor_zero_l}
use lib.Pow.{shr-shr, pow_pos}
use lib.Dec.{eqb}
use lib.ListN.{length, get_or, replicate}
use Rattle.record.specs.Bits.{to_bits, bit, of_bits, flip, xors}

pub length-to_bits : (n v : ℕ) → length (to_bits n v) ≡ n
length-to_bits zero v = refl
length-to_bits (suc n) v = ap suc (length-to_bits n (v / 2))

two_pos : 0 < 2
two_pos = zero-lt-suc 1

-- ---- there and back

-- a number below 2 is its bit
pub bit-two : (x : ℕ) → x < 2 → bit (eqb x 1) ≡ x
bit-two zero h = refl
bit-two (suc zero) h = refl
bit-two (suc (suc x)) h = absurd (omega arith)

half_below : (n v : ℕ) → v < 2 ^ suc n → v / 2 < 2 ^ n
half_below n v h = (div-lt_iff_lt-mul two_pos).1 (rw pow-suc at h)

pub of_to : (n v : ℕ) → v < 2 ^ n → of_bits (to_bits n v) ≡ v
of_to zero v h = omega arith
of_to (suc n) v h =
    rw (bit-two (v % 2) (mod-lt v two_pos), of_to n (v / 2) (half_below n v h)) (omega (arith, div-add-mod' v 2))

-- the bits of a bit
bit-odd : (b : Bool) (x : ℕ) → eqb ((bit b + 2 * x) % 2) 1 ≡ b
bit-odd true x = ap (λ (y : ℕ). eqb y 1) (let h : (1 + 2 * x) % 2 ≡ 1 = omega arith in h)
bit-odd false x = ap (λ (y : ℕ). eqb y 1) (let h : (0 + 2 * x) % 2 ≡ 0 = omega arith in h)

bit_half : (b : Bool) (x : ℕ) → (bit b + 2 * x) / 2 ≡ x
bit_half true x = omega arith
bit_half false x = omega arith

to_of : (l : List Bool) → to_bits (length l) (of_bits l) ≡ l
to_of [] = refl
to_of (b ∷ l) = rw (bit-odd b (of_bits l), bit_half b (of_bits l), to_of l)

of_below : (l : List Bool) → of_bits l < 2 ^ length l
of_below [] = zero-lt-suc 0
of_below (true ∷ l) = rw pow-suc (omega (arith, of_below l))
of_below (false ∷ l) = rw pow-suc (omega (arith, of_below l))

-- ---- exclusive or

flip-flip : (a b : Bool) → flip (flip a b) b ≡ a
flip-flip true true = refl
flip-flip false true = refl
flip-flip _ _ = refl

-- the same mask twice is no mask
pub xors_twice : (n v m : ℕ) → xors (xors (to_bits n v) (to_bits n m)) (to_bits n m) ≡ to_bits n v
xors_twice zero v m = refl
xors_twice (suc n) v m = ap₂ ◌∷◌ (flip-flip (eqb (v % 2) 1) (eqb (m % 2) 1)) (xors_twice n (v / 2) (m / 2))

pub to_bits-zero : (n : ℕ) → to_bits n 0 ≡ replicate n false
to_bits-zero zero = refl
to_bits-zero (suc n) = ap (λ (l : List Bool). false ∷ l) (to_bits-zero n)

flip-differ : (x y : ℕ) → x < 2 → y < 2 → (eqb (differ x y) 1 ≡ flip (eqb x 1) (eqb y 1)) × (differ x y < 2)
flip-differ zero zero h k = (refl, omega arith)
flip-differ zero (suc zero) h k = (refl, omega arith)
flip-differ (suc zero) zero h k = (refl, omega arith)
flip-differ (suc zero) (suc zero) h k = (refl, omega arith)
flip-differ _ _ h k = absurd (omega arith)

-- exclusive or of numbers is exclusive or of their bits
pub xors_xor : (n a b : ℕ) → xors (to_bits n a) (to_bits n b) ≡ to_bits n (bit_xor a b)
xors_xor zero a b = refl
xors_xor (suc n) a b =
    let d = flip-differ (a % 2) (b % 2) (mod-lt a two_pos) (mod-lt b two_pos) in
    rw (xor_step a b, digits_mod (bit_xor (a / 2) (b / 2)) d.1, digits_div (bit_xor (a / 2) (b / 2)) d.1)
    (ap₂ ◌∷◌ (sym d.0) (xors_xor n (a / 2) (b / 2)))

pub length-xors : (n v m : ℕ) → length (xors (to_bits n v) (to_bits n m)) ≡ n
length-xors zero v m = refl
length-xors (suc n) v m = ap suc (length-xors n (v / 2) (m / 2))

-- ---- parts of a number

-- bit i of a number
pub to_bits-at : (n v i : ℕ) → i < n → get_or (to_bits n v) i false ≡ eqb (v / 2 ^ i % 2) 1
to_bits-at zero v i h = absurd (not-suc-le-zero h)
to_bits-at (suc n) v zero h = rw div-one
to_bits-at (suc n) v (suc i) h =
    let e : 1 + i ≡ suc i = omega arith in
    to_bits-at n (v / 2) i (omega arith) ∙ rw (shr-shr v 1 i, e)

-- the low bits, then the others
pub to_bits_append : (m n v : ℕ) → to_bits (m + n) v ≡ to_bits m v ++ to_bits n (v / 2 ^ m)
to_bits_append zero n v =
    let e : 0 + n ≡ n = omega arith in
    rw (e, div-one)
to_bits_append (suc m) n v =
    let e : suc m + n ≡ suc (m + n) = omega arith in
    let f : 1 + m ≡ suc m = omega arith in
    rw e (ap (λ (l : List Bool). eqb (v % 2) 1 ∷ l) (to_bits_append m n (v / 2) ∙ rw (shr-shr v 1 m, f)))

-- higher bits don't count
pub to_bits_mod : (n v : ℕ) → to_bits n (v % 2 ^ n) ≡ to_bits n v
to_bits_mod zero v = refl
to_bits_mod (suc n) v =
    let h : v % 2 < 2 = mod-lt v two_pos in
    rw (pow-suc, mod-mul v (pow_pos n) two_pos, digits_mod (v / 2 % 2 ^ n) h, digits_div (v / 2 % 2 ^ n) h)
    (ap (λ (l : List Bool). eqb (v % 2) 1 ∷ l) (to_bits_mod n (v / 2)))

-- a mask on n bits is exclusive or with its n low bits
pub mask_bits : (n m : ℕ) (l : List Bool) → length l ≡ n → of_bits (xors l (to_bits n m)) ≡ bit_xor (of_bits l) (m % 2 ^ n)
mask_bits n m l e =
    rw (
      ← to_of l,
      e,
      ← to_bits_mod n m,
      xors_xor n (of_bits l) (m % 2 ^ n),
      of_to n (bit_xor (of_bits l) (m % 2 ^ n)) (xor_lt n (of_bits l) (m % 2 ^ n) (rw e at (of_below l)) (mod-lt m (pow_pos n))),
      ← e,
      to_of l,
    )

-- a mask on zero bits is its low bits
pub mask_alone : (n m : ℕ) → of_bits (xors (replicate n false) (to_bits n m)) ≡ m % 2 ^ n
mask_alone n m =
    ap (λ (l : List Bool). of_bits (xors l (to_bits n m))) (sym (to_bits-zero n))
    ∙ ap of_bits (xors_xor n 0 m ∙ ap (to_bits n) (xor_zero_l m) ∙ sym (to_bits_mod n m))
    ∙ of_to n (m % 2 ^ n) (mod-lt m (pow_pos n))
