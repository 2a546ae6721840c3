-- Decimal text by its last digit: any fuel from the number on will do. Assumes nothing.
use mathlib.Core.Path.{◌≡◌, refl, sym, ap, ◌∙◌}
use mathlib.Core.Bool.{Bool, true, false}
use mathlib.Core.List.{List, ◌++◌, append_assoc}
use Prim.Native.Nat.{ℕ, zero, suc, ◌+◌, ◌-◌, ◌*◌, ◌/◌, ◌%◌, ◌^◌, ◌≤◌, ◌<◌}
use native.Mathlib.Nat.{pow-suc, div-lt_iff_lt-mul}
use native.Mathlib.Numerals.{add-one}
use native.Mathlib.Omega.{arith}
use borrow.Author.Tests.{lt-ltb, le-ltb, ltb-true, ltb-false}
use lib.Dec.{ltb, lit<}
use lib.ListN.{length, drop, set, length-append, length-set}
use lib.Seq.{drop-cons, get_or-set_same, drop-set-lt}
use Rattle.text.specs.Bytes.{unit}
use Rattle.text.specs.Decimal.{decimal_digits, decimal, signed}

digits_low : (k n : ℕ) → n < 10 → decimal_digits k n ≡ unit (48 + n)
digits_low zero n h = refl
digits_low (suc k) n h = rw (lt-ltb n 10 h, decimal_digits)

digits-high : (k n : ℕ) → 10 ≤ n → decimal_digits (suc k) n ≡ decimal_digits k (n / 10) ++ unit (48 + n % 10)
digits-high k n h = rw (le-ltb n 10 h, decimal_digits)

-- any fuel from n on will do
fuel : (k m n : ℕ) → n ≤ k → n ≤ m → decimal_digits k n ≡ decimal_digits m n
fuel zero m n h g = sym (digits_low m n (omega arith))
fuel (suc k) zero n h g = digits_low (suc k) n (omega arith)
fuel (suc k) (suc m) n h g = go (fuel k m (n / 10)) (ltb n 10) refl
  where
    go : (n / 10 ≤ k → n / 10 ≤ m → decimal_digits k (n / 10) ≡ decimal_digits m (n / 10)) → (b : Bool) → ltb n 10 ≡ b
        → decimal_digits (suc k) n ≡ decimal_digits (suc m) n
    go f true e = digits_low (suc k) n (ltb-true n 10 e) ∙ sym (digits_low (suc m) n (ltb-true n 10 e))
    go f false e =
        let l = ltb-false n 10 e in
        digits-high k n l ∙ ap (λ (x : List ℕ). x ++ unit (48 + n % 10)) (f (omega arith) (omega arith))
        ∙ sym (digits-high m n l)

pub decimal-low : (n : ℕ) → n < 10 → decimal n ≡ unit (48 + n)
unfolding decimal
decimal-low n h = digits_low n n h

pub decimal-high : (n : ℕ) → 10 ≤ n → decimal n ≡ decimal (n / 10) ++ unit (48 + n % 10)
unfolding decimal
decimal-high n h =
    fuel n (suc n) n (omega arith) (omega arith) ∙ digits-high n n h
    ∙ ap (λ (x : List ℕ). x ++ unit (48 + n % 10)) (fuel n (n / 10) (n / 10) (omega arith) (omega arith))

-- what holds of a digit, and with one digit more of what it holds of, holds of every number's text
module _ (P : ℕ → List ℕ → Type 0) (digit : (n : ℕ) → n < 10 → P n (unit (48 + n)))
    (more : (n : ℕ) → 10 ≤ n → P (n / 10) (decimal (n / 10)) → P n (decimal (n / 10) ++ unit (48 + n % 10))) where
  pub by_last_digit : (n : ℕ) → P n (decimal n)
  by_last_digit n = go n n (omega arith)
    where
      go : (k n : ℕ) → n ≤ k → P n (decimal n)
      go zero n h = rw (decimal-low n (omega arith)) (digit n (omega arith))
      go (suc k) n h = pick (ltb n 10) refl (go k (n / 10))
        where
          pick : (b : Bool) → ltb n 10 ≡ b → (n / 10 ≤ k → P (n / 10) (decimal (n / 10))) → P n (decimal n)
          pick true e f = let l = ltb-true n 10 e in rw (decimal-low n l) (digit n l)
          pick false e f = let l = ltb-false n 10 e in rw (decimal-high n l) (more n l (f (omega arith)))

-- how many digits it has at most
pub decimal-length : (d n : ℕ) → n < 10 ^ suc d → length (decimal n) ≤ suc d
decimal-length d n h =
    by_last_digit (λ n s. (d : ℕ) → n < 10 ^ suc d → length s ≤ suc d) (λ n l d h. omega arith) (λ n l f d h. one-more d n l f h)
    n d h
  where
    one-more : (d n : ℕ) → 10 ≤ n → ((d : ℕ) → n / 10 < 10 ^ suc d → length (decimal (n / 10)) ≤ suc d) → n < 10 ^ suc d
        → length (decimal (n / 10) ++ unit (48 + n % 10)) ≤ suc d
    one-more zero n l f h = absurd (omega arith)
    one-more (suc d) n l f h =
        rw length-append (omega (arith, f d ((div-lt_iff_lt-mul (lit< tt)).1 (rw (pow-suc 10 (suc d)) at h))))

pub signed_low : (half n : ℕ) → n < half → signed half n ≡ decimal n
unfolding signed
signed_low half n h = rw (lt-ltb _ _ h, signed)

pub signed_high : (half n : ℕ) → half ≤ n → signed half n ≡ unit 45 ++ decimal (half + half - n)
unfolding signed
signed_high half n h = rw (le-ltb _ _ h, signed)

-- Digits found from the last one on: ds holds those found from place i + 1 on, and left is the number that is left to write,
-- with at most as many digits as there are places.
pub record Found (n : ℕ) (ds : List ℕ) (i left : ℕ) : Type 0 where
  pub place : i ≤ 19
  pub size : length ds ≡ 20
  pub few : left < 10 ^ (i + 1)
  pub text : decimal n ≡ decimal left ++ drop (i + 1) ds

-- a number of two digits or more has one digit fewer without its last
fewer : (i left : ℕ) → 10 ≤ left → left < 10 ^ (i + 1) → (1 ≤ i) × (left / 10 < 10 ^ (i - 1 + 1))
fewer zero left h g = absurd (omega arith)
fewer (suc i) left h g =
    let e : suc i - 1 + 1 ≡ suc i = omega arith in
    let f : 10 ^ (suc i + 1) ≡ 10 ^ suc i * 10 = rw add-one (pow-suc 10 (suc i)) in
    (omega arith, rw e ((div-lt_iff_lt-mul (lit< tt)).1 (rw f at g)))

-- the list from a place on, once that place is set
from-set : (ds : List ℕ) (i d : ℕ) → i < length ds → drop i (set ds i d) ≡ unit d ++ drop (i + 1) ds
from-set ds i d h =
    drop-cons (set ds i d) i 0 (rw length-set h)
    ∙ rw (get_or-set_same ds i d 0 h, drop-set-lt (suc i) ds i d (omega arith), add-one)

module _ {n : ℕ} {ds : List ℕ} {i left : ℕ} (f : Found n ds i left) where
  -- a place is left before the one that is written
  pub place-left : 10 ≤ left → 1 ≤ i
  place-left h = (fewer i left h f.few).0

  pub last-digit : 10 ≤ left → Found n (set ds i (48 + left % 10)) (i - 1) (left / 10)
  last-digit h =
      let e : i - 1 + 1 ≡ i = omega (arith, place-left h) in
      record {
        place = omega arith;
        size = length-set ds i (48 + left % 10) ∙ f.size;
        few = (fewer i left h f.few).1;
        text = rw (e, from-set ds i (48 + left % 10) (omega arith))
            (f.text
            ∙ rw (decimal-high left h) (append_assoc (decimal (left / 10)) (unit (48 + left % 10)) (drop (i + 1) ds)));
      }

  pub first-digit : left < 10 → decimal n ≡ drop i (set ds i (48 + left))
  first-digit h = rw (from-set ds i (48 + left) (omega arith)) (f.text ∙ rw (decimal-low left h))

module _ {n : ℕ} {ds : List ℕ} {i left : ℕ} (f : Found n ds i left) (h : 100 ≤ left) where
  pub last_digits : Found n (set (set ds i (48 + left % 100 % 10)) (i - 1) (48 + left % 100 / 10)) (i - 2) (left / 100)
  last_digits =
      let a : left % 100 % 10 ≡ left % 10 = omega arith in
      let d : left / 100 ≡ left / 10 / 10 = omega arith in
      let b : left % 100 / 10 ≡ left / 10 % 10 = omega arith in
      let e : i - 2 ≡ i - 1 - 1 = omega arith in
      rw (a, b, d, e) (last-digit (last-digit f (omega arith)) (omega arith))
