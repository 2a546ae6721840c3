-- A number printed in its columns reads as that number, and columns that read as a number are that number printed.
-- By the last digit one way and by the first the other. Assumes nothing.
use mathlib.Core.Path.{◌≡◌, refl, sym, ap, ◌∙◌}
use mathlib.Core.Bool.{Bool, true, false}
use mathlib.Core.List.{[], ◌∷◌, ◌++◌, append_assoc, append-nil}
use Rattle.std.specs.Prelude.{Option, None, Some}
use Prim.Native.Nat.{ℕ, zero, suc, ◌+◌, ◌-◌, ◌*◌, ◌/◌, ◌%◌, ◌^◌, ◌≤◌, ◌<◌}
use native.Mathlib.Nat.{add-zero}
use native.Mathlib.Decide.{dec_lt}
use native.Mathlib.Numerals.{add-one}
use native.Mathlib.Omega.{arith}
use lib.Dec.{eqb, ltb}
use lib.ListN.{length, get_or, take, drop, replicate, length-append, length-drop, length-replicate, take-append-drop}
use lib.ListN.{get_or-eq_default}
use lib.Seq.{drop-cons, drop-drop, get_or-drop, take-append_seam, get_or-append_seam, length-take-le}
use borrow.Author.Tests.{eq-eqb, ne_eqb, lt-ltb, le-ltb, ltb-true, ltb-false, eqb-true, eqb-false}
use Rattle.text.specs.Bytes.{Str, cond, unit}
use Rattle.text.specs.Decimal.{decimal}
use Rattle.text.proofs.DecimalLaws.{decimal-low, decimal-high, by_last_digit, decimal-length}
use Rattle.column.specs.Number.{trimmed, digits, lone, unpadded, number, within, column_of, most, padded}
use Rattle.column.specs.Texts.{ends_in}
use Rattle.column.proofs.Laws.{unpadded-digits}

-- a byte that goes on with a number: it is a digit, and the number fits
module _ (v b : ℕ) (t : Str) where
  digits-back :
      {A : Type 0} (n : ℕ) → digits v (b ∷ t) ≡ Some n
      → (48 ≤ b → b ≤ 57 → v * 10 + (b - 48) < 2 ^ 64 → digits (v * 10 + (b - 48)) t ≡ Some n → A) → A
  unfolding digits
  digits-back {A} n e f = go (ltb b 48) refl (ltb 57 b) refl (ltb (v * 10 + (b - 48)) (2 ^ 64)) refl e
    where
      go :
          (p : Bool) → ltb b 48 ≡ p → (q : Bool) → ltb 57 b ≡ q → (r : Bool) → ltb (v * 10 + (b - 48)) (2 ^ 64) ≡ r
          → cond p None (cond q None (cond r (digits (v * 10 + (b - 48)) t) None)) ≡ Some n → A
      go false l false h true s e = f (ltb-false b 48 l) (ltb-false 57 b h) (ltb-true _ (2 ^ 64) s) e
      go _ _ _ _ _ _ e = cc

  digits-on : 48 ≤ b → b ≤ 57 → v * 10 + (b - 48) < 2 ^ 64 → digits v (b ∷ t) ≡ digits (v * 10 + (b - 48)) t
  unfolding digits
  digits-on l h s = rw (digits, le-ltb b 48 l, le-ltb 57 b h, lt-ltb (v * 10 + (b - 48)) (2 ^ 64) s)

-- ---- a number printed is read

-- digits after digits
digits_append : (s t : Str) (v w : ℕ) → digits v s ≡ Some w → digits v (s ++ t) ≡ digits w t
unfolding digits
digits_append [] t v w e = let h : v ≡ w = cc in rw h
digits_append (b ∷ s) t v w e =
    digits-back v b s w e (λ l h f g. digits-on v b (s ++ t) l h f ∙ digits_append s t (v * 10 + (b - 48)) w g)

-- a number that is not 0 begins with another digit
abbrev Leads : Str → Type 0
Leads s = (49 ≤ get_or s 0 0) × (get_or s 0 0 ≤ 57)

leads_append : (s t : Str) → Leads s → Leads (s ++ t)
leads_append [] t h = absurd (omega arith)
leads_append (b ∷ s) t h = h

leads_some : (s : Str) → Leads s → length s ≡ 0 → ⊥
leads_some [] h e = omega arith
leads_some (b ∷ s) h e = omega arith

leads_decimal : (n : ℕ) → 0 < n → Leads (decimal n)
leads_decimal =
    by_last_digit (λ n s. 0 < n → Leads s) (λ n l p. (omega arith, omega arith))
    (λ n l f p. leads_append (decimal (n / 10)) (unit (48 + n % 10)) (f (omega arith)))

digits_last : (v d : ℕ) → d ≤ 9 → v * 10 + d < 2 ^ 64 → digits v (unit (48 + d)) ≡ Some (v * 10 + d)
unfolding digits
digits_last v d l f =
    let e : 48 + d - 48 ≡ d = omega arith in
    digits-on v (48 + d) [] (omega arith) (omega arith) (omega arith) ∙ rw e

digits_decimal : (n : ℕ) → n < 2 ^ 64 → digits 0 (decimal n) ≡ Some n
digits_decimal =
    by_last_digit (λ n t. n < 2 ^ 64 → digits 0 t ≡ Some n)
    (λ n l s. let z : 0 * 10 + n ≡ n = omega arith in digits_last 0 n (omega arith) (omega arith) ∙ ap Some z)
    (λ n l f s.
    let w : n / 10 * 10 + n % 10 ≡ n = omega arith in
    digits_append (decimal (n / 10)) (unit (48 + n % 10)) 0 (n / 10) (f (omega arith))
    ∙ digits_last (n / 10) (n % 10) (omega arith) (omega arith) ∙ rw w)

-- 0 is printed alone; any other number does not begin with 0
unpadded-decimal : (n : ℕ) → n < 2 ^ 64 → unpadded (decimal n) ≡ Some n
unfolding unpadded
unpadded-decimal zero s = rw (decimal-low 0 (omega arith))
unpadded-decimal (suc n) s =
    let l = leads_decimal (suc n) (omega arith) in
    unpadded-digits (decimal (suc n)) (leads_some (decimal (suc n)) l) (omega arith) ∙ digits_decimal (suc n) s

-- no number begins with a space
decimal-no_space : (n : ℕ) → get_or (decimal n) 0 0 ≡ 32 → ⊥
decimal-no_space zero e = let z = rw (decimal-low 0 (omega arith)) at e in omega arith
decimal-no_space (suc n) e = let l = leads_decimal (suc n) (omega arith) in omega arith

trimmed-spaces : (k : ℕ) (s : Str) → (get_or s 0 0 ≡ 32 → ⊥) → trimmed (replicate k 32 ++ s) ≡ s
unfolding trimmed
trimmed-spaces zero [] h = refl
trimmed-spaces zero (b ∷ s) h = rw (ne_eqb b 32 h)
trimmed-spaces (suc k) s h = trimmed-spaces k s h

pub number-padded : (n : ℕ) → n < 2 ^ 64 → number (padded n) ≡ Some n
unfolding padded
number-padded n s =
    rw (trimmed-spaces (21 - length (decimal n)) (decimal n) (decimal-no_space n)) (unpadded-decimal n s)

-- ---- how many columns it takes

pub padded-length : (n : ℕ) → n < 2 ^ 64 → length (padded n) ≡ 21
unfolding padded
padded-length n s =
    let l = decimal-length 19 n (omega arith) in
    rw (length-append, length-replicate) (omega arith)

-- ---- columns that read as a number

-- by the first digit: what is left, after the digits of v
decimal-digits : (s : Str) (v n : ℕ) → 0 < v → digits v s ≡ Some n → decimal v ++ s ≡ decimal n
unfolding digits
decimal-digits [] v n p e = let h : v ≡ n = cc in append-nil (decimal v) ∙ ap decimal h
decimal-digits (b ∷ s) v n p e = digits-back v b s n e (λ l h f g.
    next l h ∙ decimal-digits s (v * 10 + (b - 48)) n (omega arith) g)
  where
    next : 48 ≤ b → b ≤ 57 → decimal v ++ (b ∷ s) ≡ decimal (v * 10 + (b - 48)) ++ s
    next l h =
        let q : (v * 10 + (b - 48)) / 10 ≡ v = omega arith in
        let r : 48 + (v * 10 + (b - 48)) % 10 ≡ b = omega arith in
        rw (decimal-high (v * 10 + (b - 48)) (omega arith), q, r) (sym (append_assoc (decimal v) (unit b) s))

decimal-unpadded : (s : Str) (n : ℕ) → unpadded s ≡ Some n → s ≡ decimal n
unfolding unpadded
decimal-unpadded [] n e = cc
decimal-unpadded (b ∷ s) n e = go (eqb b 48) refl e
  where
    alone : b ≡ 48 → (s : Str) → lone s ≡ Some n → b ∷ s ≡ decimal n
    alone z [] e = let h : n ≡ 0 = cc in rw (z, h, decimal-low 0 (omega arith))
    alone z (x ∷ s) e = cc

    go : (t : Bool) → eqb b 48 ≡ t → cond t (lone s) (digits 0 (b ∷ s)) ≡ Some n → b ∷ s ≡ decimal n
    go true z e = alone (eqb-true b 48 z) s e
    go false z e = digits-back 0 b s n e (λ l h f g.
        let d = eqb-false b 48 z in
        let r : 48 + (0 * 10 + (b - 48)) ≡ b = omega arith in
        let i = decimal-digits s (0 * 10 + (b - 48)) n (omega arith) g in
        rw (decimal-low (0 * 10 + (b - 48)) (omega arith), r) at i)

trimmed_le : (s : Str) → length (trimmed s) ≤ length s
unfolding trimmed
trimmed_le [] = omega arith
trimmed_le (b ∷ s) = go (trimmed_le s) (eqb b 32)
  where
    go : length (trimmed s) ≤ length s → (t : Bool) → length (cond t (trimmed s) (b ∷ s)) ≤ suc (length s)
    go l true = omega arith
    go l false = omega arith

trimmed-back : (s : Str) → s ≡ replicate (length s - length (trimmed s)) 32 ++ trimmed s
unfolding trimmed
trimmed-back [] = refl
trimmed-back (b ∷ s) = go (trimmed-back s) (trimmed_le s) (eqb b 32) refl
  where
    go :
        s ≡ replicate (length s - length (trimmed s)) 32 ++ trimmed s → length (trimmed s) ≤ length s → (t : Bool) → eqb b 32 ≡ t
        → b ∷ s ≡ replicate (suc (length s) - length (cond t (trimmed s) (b ∷ s))) 32 ++ cond t (trimmed s) (b ∷ s)
    go i l true e =
        let m : suc (length s) - length (trimmed s) ≡ suc (length s - length (trimmed s)) = omega arith in
        let h = eqb-true b 32 e in
        rw (m, h) (ap (λ (r : Str). 32 ∷ r) i)
    go i l false e = let m : suc (length s) - suc (length s) ≡ 0 = omega arith in rw m

pub padded-number : (t : Str) (n : ℕ) → length t ≡ 21 → number t ≡ Some n → t ≡ padded n
unfolding padded
padded-number t n w e = rw (← decimal-unpadded (trimmed t) n e, ← w) (trimmed-back t)

-- ---- a column and a text of a line, by what stands from it on

-- printed there, they are read
pub column-printed :
    (t rest : Str) (a least most n : ℕ) → drop a t ≡ padded n ++ rest → n < 2 ^ 64 → least ≤ n → n ≤ most
    → column_of t a least most ≡ Some n
unfolding column_of
column-printed t rest a least most n e s l h =
    let w = padded-length n s in
    let m = length-drop a t in
    let i = ap length e ∙ length-append (padded n) rest in
    rw (le-ltb (length t) (a + 21) (omega arith), e, ← w, take-append_seam, number-padded n s, le-ltb n least l, le-ltb most n h)

pub ends-printed : (ok : Str → Bool) (t text : Str) (a : ℕ) → drop a t ≡ 32 ∷ text → ends_in ok t a ≡ ok text
unfolding ends_in
ends-printed ok t text a e =
    let f : get_or t a 0 ≡ 32 = sym (get_or-drop a t 0 0 ∙ rw (add-zero a)) ∙ ap (λ (s : Str). get_or s 0 0) e in
    let g : drop (a + 1) t ≡ text = sym (drop-drop 1 a t) ∙ ap (λ (s : Str). drop 1 s) e in
    rw (eq-eqb (get_or t a 0) 32 f, g)

-- what is read stands there printed, in its bounds
pub record Stands (t : Str) (a least most n : ℕ) : Type 0 where
  pub here : drop a t ≡ padded n ++ drop (a + 21) t
  pub low : least ≤ n
  pub high : n ≤ most

within-back :
    {A : Type 0} (least most n : ℕ) (v : Option ℕ) → within least most v ≡ Some n → (v ≡ Some n → least ≤ n → n ≤ most → A) → A
within-back least most n None e f = cc
within-back {A} least most n (Some v) e f = go (ltb v least) refl (ltb most v) refl e
  where
    go : (p : Bool) → ltb v least ≡ p → (q : Bool) → ltb most v ≡ q → cond p None (cond q None (Some v)) ≡ Some n → A
    go false l false h e =
        let s : v ≡ n = cc in
        f e (rw s at (ltb-false v least l)) (rw s at (ltb-false most v h))
    go _ _ _ _ e = cc

pub column_stands : (t : Str) (a least most n : ℕ) → column_of t a least most ≡ Some n → Stands t a least most n
unfolding column_of
column_stands t a least most n e = go (ltb (length t) (a + 21)) refl e
  where
    go :
        (p : Bool) → ltb (length t) (a + 21) ≡ p → cond p None (within least most (number (take 21 (drop a t)))) ≡ Some n
        → Stands t a least most n
    go true _ e = cc
    go false w e = within-back least most n (number (take 21 (drop a t))) e (λ v l h.
        let b = ltb-false (length t) (a + 21) w in
        let m = length-take-le 21 (drop a t) (rw (length-drop a t) (omega arith)) in
        record {
          here = sym (take-append-drop 21 (drop a t)) ∙ rw (padded-number (take 21 (drop a t)) n m v, drop-drop 21 a t);
          low = l;
          high = h;
        })

pub record Ends (ok : Str → Bool) (t : Str) (a : ℕ) : Type 0 where
  pub here : drop a t ≡ 32 ∷ drop (a + 1) t
  pub good : ok (drop (a + 1) t) ≡ true

pub ends_stands : (ok : Str → Bool) (t : Str) (a : ℕ) → ends_in ok t a ≡ true → Ends ok t a
unfolding ends_in
ends_stands ok t a e = go (eqb (get_or t a 0) 32) refl e
  where
    go : (p : Bool) → eqb (get_or t a 0) 32 ≡ p → cond p (ok (drop (a + 1) t)) false ≡ true → Ends ok t a
    go true s e =
        let f = eqb-true (get_or t a 0) 32 s in
        let l : a < length t = inside (dec_lt a (length t)) f in
        record { here = drop-cons t a 0 l ∙ rw (f, add-one); good = e }
      where
        inside : Dec (a < length t) → get_or t a 0 ≡ 32 → a < length t
        inside (yes l) f = l
        inside (no l) f =
            let m : length t ≤ a = omega arith in
            let z = sym f ∙ get_or-eq_default t 0 m in
            absurd (omega arith)
    go false s e = cc

-- ---- a number by its last byte, or its last two, where a space stands before them

-- the last digit of a number, and those before it
last-digit : (n : ℕ) (P : Str → Type 0) → ((front : Str) → P (front ++ unit (48 + n % 10))) → P (decimal n)
last-digit n P f =
    by_last_digit (λ k s. k ≡ n → P s)
    (λ k l e. let m : n % 10 ≡ k = omega arith in let p = f [] in rw m at p)
    (λ k l g e. rw e (f (decimal (n / 10)))) n refl

-- the third byte from the end of 21
third_last :
    (p front rest : Str) (z x y : ℕ) → length (p ++ (front ++ unit z ++ unit x ++ unit y)) ≡ 21
    → get_or ((p ++ (front ++ unit z ++ unit x ++ unit y)) ++ rest) 18 0 ≡ z
third_last p front rest z x y h =
    let m = simp length-append at h in
    let l : length (p ++ front) ≡ 18 = rw length-append (omega arith) in
    let e : (p ++ (front ++ unit z ++ unit x ++ unit y)) ++ rest ≡ (p ++ front) ++ (z ∷ x ∷ y ∷ rest) = simp append_assoc in
    rw (e, ← l) (get_or-append_seam (p ++ front) z (x ∷ y ∷ rest) 0)

-- a number of three digits or more has a digit there
third-digit :
    (m k x y : ℕ) (rest : Str) → length (replicate k 32 ++ (decimal m ++ unit x ++ unit y)) ≡ 21
    → get_or ((replicate k 32 ++ (decimal m ++ unit x ++ unit y)) ++ rest) 18 0 ≡ 48 + m % 10
third-digit m k x y rest =
    last-digit m (λ d. length (replicate k 32 ++ (d ++ unit x ++ unit y)) ≡ 21
    → get_or ((replicate k 32 ++ (d ++ unit x ++ unit y)) ++ rest) 18 0 ≡ 48 + m % 10)
    (λ front. third_last (replicate k 32) front rest (48 + m % 10) x y)

three_digits : (n : ℕ) (rest : Str) → 100 ≤ n → n < 2 ^ 64 → get_or (padded n ++ rest) 18 0 ≡ 48 + n / 10 / 10 % 10
unfolding padded
three_digits n rest h s = go (21 - length (decimal n)) (padded-length n s)
  where
    go :
        (k : ℕ) → length (replicate k 32 ++ decimal n) ≡ 21
        → get_or ((replicate k 32 ++ decimal n) ++ rest) 18 0 ≡ 48 + n / 10 / 10 % 10
    go k =
        rw (decimal-high n (omega arith), decimal-high (n / 10) (omega arith))
        (third-digit (n / 10 / 10) k (48 + n / 10 % 10) (48 + n % 10) rest)

last-two :
    (n : ℕ) (rest : Str) → n < 2 ^ 64 → get_or (padded n ++ rest) 18 0 ≡ 32
    → get_or (padded n ++ rest) 19 0 % 16 * 10 + get_or (padded n ++ rest) 20 0 % 16 ≡ n
unfolding padded
last-two n rest s h = go (ltb n 10) (ltb n 100) refl refl
  where
    low : (d : ℕ) → d < 10 → (48 + d) % 16 ≡ d
    low d l = omega arith

    go : (p q : Bool) → ltb n 10 ≡ p → ltb n 100 ≡ q
        → get_or (padded n ++ rest) 19 0 % 16 * 10 + get_or (padded n ++ rest) 20 0 % 16 ≡ n
    go true q e f = let l = ltb-true n 10 e in rw (padded, decimal-low n l) (omega arith)
    go false true e f =
        let l = ltb-false n 10 e in
        let m = ltb-true n 100 f in
        let x = low (n / 10) (omega arith) in
        let y = low (n % 10) (omega arith) in
        rw (padded, decimal-high n l, decimal-low (n / 10) (omega arith), x, y) (omega arith)
    go false false e f =
        let z = three_digits n rest (ltb-false n 100 f) s in absurd (omega arith)

-- the number in the columns from a on, by their last two bytes
pub known_two :
    (t : Str) (a n x y : ℕ) → get_or t (a + 18) 0 ≡ 32 → x ≡ get_or t (a + 19) 0 → y ≡ get_or t (a + 20) 0
    → column_of t a 0 (most 64) ≡ Some n → x % 16 * 10 + y % 16 ≡ n
known_two t a n x y h e f is =
    let s = column_stands t a 0 (most 64) n is in
    let l = s.high in
    let at : (i : ℕ) → get_or t (a + i) 0 ≡ get_or (padded n ++ drop (a + 21) t) i 0 =
    λ i. sym (get_or-drop a t i 0) ∙ ap (λ (u : Str). get_or u i 0) s.here in
    rw (e, f, at 19, at 20) (last-two n (drop (a + 21) t) (omega arith) (sym (at 18) ∙ h))

-- the second byte from the end of 21, which is a digit where there are two or more
second_last :
    (p front rest : Str) (z x : ℕ) → length (p ++ (front ++ unit z ++ unit x)) ≡ 21
    → get_or ((p ++ (front ++ unit z ++ unit x)) ++ rest) 19 0 ≡ z
second_last p front rest z x h =
    let m = simp length-append at h in
    let l : length (p ++ front) ≡ 19 = rw length-append (omega arith) in
    let e : (p ++ (front ++ unit z ++ unit x)) ++ rest ≡ (p ++ front) ++ (z ∷ x ∷ rest) = simp append_assoc in
    rw (e, ← l) (get_or-append_seam (p ++ front) z (x ∷ rest) 0)

second-digit :
    (m k x : ℕ) (rest : Str) → length (replicate k 32 ++ (decimal m ++ unit x)) ≡ 21
    → get_or ((replicate k 32 ++ (decimal m ++ unit x)) ++ rest) 19 0 ≡ 48 + m % 10
second-digit m k x rest =
    last-digit m (λ d. length (replicate k 32 ++ (d ++ unit x)) ≡ 21
    → get_or ((replicate k 32 ++ (d ++ unit x)) ++ rest) 19 0 ≡ 48 + m % 10)
    (λ front. second_last (replicate k 32) front rest (48 + m % 10) x)

two_digits : (n : ℕ) (rest : Str) → 10 ≤ n → n < 2 ^ 64 → get_or (padded n ++ rest) 19 0 ≡ 48 + n / 10 % 10
unfolding padded
two_digits n rest h s = go (21 - length (decimal n)) (padded-length n s)
  where
    go :
        (k : ℕ) → length (replicate k 32 ++ decimal n) ≡ 21
        → get_or ((replicate k 32 ++ decimal n) ++ rest) 19 0 ≡ 48 + n / 10 % 10
    go k = rw (decimal-high n (omega arith)) (second-digit (n / 10) k (48 + n % 10) rest)

last_one :
    (n : ℕ) (rest : Str) → n < 2 ^ 64 → get_or (padded n ++ rest) 19 0 ≡ 32 → get_or (padded n ++ rest) 20 0 % 16 ≡ n
unfolding padded
last_one n rest s h = go (ltb n 10) refl
  where
    go : (p : Bool) → ltb n 10 ≡ p → get_or (padded n ++ rest) 20 0 % 16 ≡ n
    go true e = let l = ltb-true n 10 e in rw (padded, decimal-low n l) (omega arith)
    go false e = let z = two_digits n rest (ltb-false n 10 e) s in absurd (omega arith)

-- the number in the columns from a on, by its last byte
pub known_one :
    (t : Str) (a n x : ℕ) → get_or t (a + 19) 0 ≡ 32 → x ≡ get_or t (a + 20) 0 → column_of t a 0 (most 64) ≡ Some n
    → x % 16 ≡ n
known_one t a n x h e is =
    let s = column_stands t a 0 (most 64) n is in
    let l = s.high in
    let at : (i : ℕ) → get_or t (a + i) 0 ≡ get_or (padded n ++ drop (a + 21) t) i 0 =
    λ i. sym (get_or-drop a t i 0) ∙ ap (λ (u : Str). get_or u i 0) s.here in
    rw (e, at 20) (last_one n (drop (a + 21) t) (omega arith) (sym (at 19) ∙ h))

pub ruleset known_parts = (known_one, known_two)
