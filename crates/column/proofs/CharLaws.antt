-- Laws of the chars of a name: what `are_chars` gives from one byte on, by that byte and the next, and what each byte of a name
-- is. Assumes nothing.
use mathlib.Core.Path.{◌≡◌, refl, sym, ap, ◌∙◌}
use mathlib.Core.Bool.{Bool, true, false, not}
use mathlib.Core.List.{[], ◌∷◌}
use Prim.Native.Nat.{ℕ, ◌+◌, ◌≤◌, ◌<◌}
use native.Mathlib.Omega.{arith}
use native.Mathlib.Nat.{add-zero}
use native.Mathlib.Numerals.{add-one}
use lib.ListN.{length, get_or, drop, drop_of_length-le, get_or-eq_default}
use lib.Seq.{drop-cons, get_or-drop}
use lib.Dec.{eqb, leb, ltb}
use borrow.Author.Tests.{ne_eqb, eqb-true, le-leb, lt-leb, leb-true, ltb-true, ltb-false}
use Rattle.text.specs.Bytes.{Str, cond, both, either}
use Rattle.column.specs.Texts.{is_word, all, is_lead, is_accented, may_come, are_chars}

-- no second byte of a letter is a first one, and neither is a byte below 128
accented_no-lead : (b : ℕ) → is_accented b ≡ true → is_lead b ≡ false
accented_no-lead b e = go (leb 0x80 b) (leb b 0xBF) refl e
  where
    go :
        (p q : Bool) → leb b 0xBF ≡ q → both (both p q) (not (either (eqb b 0x97) (eqb b 0xB7))) ≡ true → is_lead b ≡ false
    go true true h e = ne_eqb b 0xC3 (λ c. let l = leb-true b 0xBF h in omega arith)
    go _ _ h e = cc

pub low-no-lead : (b : ℕ) → b < 128 → is_lead b ≡ false
low-no-lead b h = ne_eqb b 0xC3 (λ c. omega arith)

pub word-no-lead : (b : ℕ) → is_word b ≡ true → is_lead b ≡ false
unfolding is_word
word-no-lead b e = go (is_lead b) refl
  where
    go : (p : Bool) → is_lead b ≡ p → p ≡ false
    go true h = sym (rw (eqb-true b 0xC3 h) at e)
    go false h = refl

-- a letter of ASCII, a digit or an underscore is a byte of ASCII
pub word_low : (b : ℕ) → is_word b ≡ true → b < 128
unfolding is_word
word_low b e = go (ltb b 128) refl
  where
    go : (p : Bool) → ltb b 128 ≡ p → b < 128
    go true h = ltb-true b 128 h
    go false h =
        let l = ltb-false b 128 h in
        let low =
        rw (
          le-leb 97 b (omega arith),
          lt-leb b 122 (omega arith),
          le-leb 65 b (omega arith),
          lt-leb b 90 (omega arith),
          ne_eqb b 95 (λ c. omega arith),
          le-leb 48 b (omega arith),
          lt-leb b 57 (omega arith),
        ) at e in
        cc

-- a second byte stands inside the text
accented_inside : (t : Str) (i : ℕ) → is_accented (get_or t i 0) ≡ true → i < length t
accented_inside t i e = go (ltb i (length t)) refl
  where
    go : (p : Bool) → ltb i (length t) ≡ p → i < length t
    go true h = ltb-true i (length t) h
    go false h =
        let low = rw (get_or-eq_default t 0 (ltb-false i (length t) h)) at e in
        cc

-- a letter stands inside the text, both its bytes
pub letter-inside :
    (t : Str) (i : ℕ) → both (is_lead (get_or t i 0)) (is_accented (get_or t (i + 1) 0)) ≡ true → i + 1 < length t
letter-inside t i e = go (is_lead (get_or t i 0)) e
  where
    go : (p : Bool) → both p (is_accented (get_or t (i + 1) 0)) ≡ true → i + 1 < length t
    go true e = accented_inside t (i + 1) e
    go false e = cc

module _ (ok : ℕ → Bool) where
  -- after the first byte of a letter
  begun-not : (t : Str) → is_accented (get_or t 0 0) ≡ false → are_chars ok true t ≡ false
  unfolding are_chars
  begun-not [] e = refl
  begun-not (c ∷ t) e = rw e

  begun-on :
      (t : Str) (i : ℕ) → is_accented (get_or t i 0) ≡ true → are_chars ok true (drop i t) ≡ are_chars ok false (drop (i + 1) t)
  unfolding are_chars
  begun-on t i e = rw (add-one, drop-cons t i 0 (accented_inside t i e), e, accented_no-lead (get_or t i 0) e)

  module _ (t : Str) (i : ℕ) (h : i < length t) where
    -- a byte that passes the test
    pub chars-more :
        ok (get_or t i 0) ≡ true → is_lead (get_or t i 0) ≡ false
        → are_chars ok false (drop i t) ≡ are_chars ok false (drop (i + 1) t)
    unfolding are_chars
    chars-more e l = rw (add-one, drop-cons t i 0 h, e, l)

    module _ (e : ok (get_or t i 0) ≡ false) where
      chars-begun : is_lead (get_or t i 0) ≡ true → are_chars ok false (drop i t) ≡ are_chars ok true (drop (i + 1) t)
      unfolding are_chars
      chars-begun l = rw (add-one, drop-cons t i 0 h, e, l)

      -- a letter
      pub chars-letter :
          both (is_lead (get_or t i 0)) (is_accented (get_or t (i + 1) 0)) ≡ true
          → are_chars ok false (drop i t) ≡ are_chars ok false (drop (i + 2) t)
      chars-letter = go (is_lead (get_or t i 0)) (is_accented (get_or t (i + 1) 0)) refl refl
        where
          go :
              (p q : Bool) → is_lead (get_or t i 0) ≡ p → is_accented (get_or t (i + 1) 0) ≡ q → both p q ≡ true
              → are_chars ok false (drop i t) ≡ are_chars ok false (drop (i + 2) t)
          go true true l s b =
              let on : i + 1 + 1 ≡ i + 2 = omega arith in
              chars-begun l ∙ begun-on t (i + 1) s ∙ ap (λ (n : ℕ). are_chars ok false (drop n t)) on
          go _ _ l s b = cc

      -- neither
      pub chars-stop :
          both (is_lead (get_or t i 0)) (is_accented (get_or t (i + 1) 0)) ≡ false → are_chars ok false (drop i t) ≡ false
      unfolding are_chars
      chars-stop = go (is_lead (get_or t i 0)) refl
        where
          go :
              (p : Bool) → is_lead (get_or t i 0) ≡ p → both p (is_accented (get_or t (i + 1) 0)) ≡ false
              → are_chars ok false (drop i t) ≡ false
          go true l s =
              let here : get_or (drop (i + 1) t) 0 0 ≡ get_or t (i + 1) 0 = rw (get_or-drop (i + 1) t 0 0, add-zero (i + 1)) in
              chars-begun l ∙ begun-not (drop (i + 1) t) (ap is_accented here ∙ s)
          go false l s = rw (drop-cons t i 0 h, e, l)

  pub chars_end : (t : Str) (i : ℕ) → length t ≤ i → are_chars ok false (drop i t) ≡ true
  unfolding are_chars
  chars_end t i h = rw (drop_of_length-le t h)

-- a byte that passes a test or is part of a letter
abbrev pub or_high : (ℕ → Bool) → ℕ → Bool
or_high ok b = either (ok b) (leb 128 b)

may_high : (ok : ℕ → Bool) (begun : Bool) (b : ℕ) → may_come ok begun b ≡ true → or_high ok b ≡ true
may_high ok true b e = go (ok b) (leb 128 b) refl e
  where
    go :
        (p q : Bool) → leb 128 b ≡ q → both (both q (leb b 0xBF)) (not (either (eqb b 0x97) (eqb b 0xB7))) ≡ true
        → either p q ≡ true
    go false false h e = cc
    go _ _ h e = refl
may_high ok false b e = go (ok b) (is_lead b) refl e
  where
    go : (p q : Bool) → is_lead b ≡ q → either p q ≡ true → either p (leb 128 b) ≡ true
    go true q h e = refl
    go false true h e = rw (eqb-true b 0xC3 h)
    go false false h e = cc

-- so is each byte of a text that is made of chars
pub chars_all : (ok : ℕ → Bool) (begun : Bool) (t : Str) → are_chars ok begun t ≡ true → all (or_high ok) t ≡ true
unfolding are_chars all
chars_all ok begun [] e = refl
chars_all ok begun (b ∷ t) e = go (may_come ok begun b) refl (chars_all ok (is_lead b) t) e
  where
    go :
        (p : Bool) → may_come ok begun b ≡ p → (are_chars ok (is_lead b) t ≡ true → all (or_high ok) t ≡ true)
        → cond p (are_chars ok (is_lead b) t) false ≡ true → cond (or_high ok b) (all (or_high ok) t) false ≡ true
    go true h more e = rw (may_high ok begun b h) (more e)
    go false h more e = cc

-- bytes that pass a test pass a wider one
module _ (ok more : ℕ → Bool) (wider : (b : ℕ) → ok b ≡ true → more b ≡ true) where
  may-wider : (begun : Bool) (b : ℕ) → may_come ok begun b ≡ true → may_come more begun b ≡ true
  may-wider true b e = e
  may-wider false b e = go (ok b) (more b) refl refl e
    where
      go : (p q : Bool) → ok b ≡ p → more b ≡ q → either p (is_lead b) ≡ true → either q (is_lead b) ≡ true
      go p true h w e = refl
      go true false h w e = let z = sym w ∙ wider b h in cc
      go false false h w e = e

  pub chars_wider : (begun : Bool) (t : Str) → are_chars ok begun t ≡ true → are_chars more begun t ≡ true
  unfolding are_chars
  chars_wider begun [] e = e
  chars_wider begun (b ∷ t) e = go (may_come ok begun b) refl (chars_wider (is_lead b) t) e
    where
      go :
          (p : Bool) → may_come ok begun b ≡ p
          → (are_chars ok (is_lead b) t ≡ true → are_chars more (is_lead b) t ≡ true)
          → cond p (are_chars ok (is_lead b) t) false ≡ true
          → cond (may_come more begun b) (are_chars more (is_lead b) t) false ≡ true
      go true h rest e = rw (may-wider begun b h) (rest e)
      go false h rest e = cc
