-- Laws of columns and texts: what a definition gives from one byte on, what four bytes make as one number, and what the bytes of
-- a name are. Assumes nothing.
use mathlib.Core.Path.{◌≡◌, refl, sym, ap, ◌∙◌}
use mathlib.Core.Bool.{Bool, true, false, not}
use mathlib.Core.List.{[], ◌∷◌, ◌++◌}
use Rattle.std.specs.Prelude.{◌&&◌, Option, None, Some}
use Rattle.std.specs.Array.{IsFirstChunk}
use Rattle.std.specs.List.{list_all}
use Rattle.std.specs.Option.{MatchOption, option_eq}
use Rattle.std.specs.Str.{bytes_eq}
use Rattle.std.proofs.lemmas.Slice.Eq.{bytes_eq-Decides}
use Prim.Native.Nat.{ℕ, zero, suc, ◌+◌, ◌-◌, ◌*◌, ◌^◌, ◌≤◌, ◌<◌}
use native.Mathlib.Omega.{arith}
use native.Mathlib.Nat.{pow-suc, pow-le-pow_right}
use native.Mathlib.Numerals.{add-one}
use lib.ListN.{length, get_or, take, drop, replicate, length-drop, take-append-drop}
use lib.Seq.{drop-cons, take_all}
use Rattle.std.proofs.lemmas.List.{get_or-take}
use lib.Dec.{leb, eqb, ltb}
use denote.Ref.{Bor}
use borrow.Author.Tests.{eqb-true, ne_eqb, lt-ltb, ltb-false, leb-true}
use Rattle.text.specs.Bytes.{Str, cond, both}
use Rattle.column.specs.Number.{trimmed, digit, digits, unpadded, number}
use Rattle.column.specs.Texts.{is_digit, is_word, is_graphic, all, sized, is_graphic_text}
use Rattle.column.specs.Texts.{are_chars, may_be_name, is_name, is_field_name}

-- a test of every byte, as std has it
pub all_same : (ok : ℕ → Bool) (t : Str) → all ok t ≡ list_all ok t
unfolding all
all_same ok [] = refl
all_same ok (b ∷ t) = go (ok b) (all_same ok t)
  where
    go : (p : Bool) → all ok t ≡ list_all ok t → cond p (all ok t) false ≡ (p && list_all ok t)
    go true e = e
    go false e = refl

-- what a digit and another byte make of an outcome
pub taken :
    (b n : ℕ) (r o : Option ℕ) → r ≡ digit b (Some (b - 48)) → r ≡ Some n → (digit b o ≡ o) × (b - 48 ≡ n) × (n < 10)
taken b n r o e is = go (ltb b 48) (ltb 57 b) refl refl (sym e ∙ is)
  where
    go :
        (p q : Bool) → ltb b 48 ≡ p → ltb 57 b ≡ q → cond p None (cond q None (Some (b - 48))) ≡ Some n
        → (cond p None (cond q None o) ≡ o) × (b - 48 ≡ n) × (n < 10)
    go false false l h e = let z : b - 48 ≡ n = cc in (refl, z, omega (arith, ltb-false 57 b h))
    go _ _ l h e = cc

pub not_taken : (b : ℕ) (r o : Option ℕ) → r ≡ digit b (Some (b - 48)) → r ≡ None → digit b o ≡ None
not_taken b r o e is = go (ltb b 48) (ltb 57 b) (sym e ∙ is)
  where
    go : (p q : Bool) → cond p None (cond q None (Some (b - 48))) ≡ None → cond p None (cond q None o) ≡ None
    go false false e = cc
    go _ _ e = refl

-- a digit after a number that leaves room for it
one_more : (v b : ℕ) (s : Str) → v * 10 + 9 < 2 ^ 64 → digits v (b ∷ s) ≡ digit b (digits (v * 10 + (b - 48)) s)
unfolding digits
one_more v b s h = go (ltb b 48) (ltb 57 b) refl refl
  where
    w : ℕ
    w = v * 10 + (b - 48)

    go :
        (p q : Bool) → ltb b 48 ≡ p → ltb 57 b ≡ q
        → cond p None (cond q None (cond (ltb w (2 ^ 64)) (digits w s) None)) ≡ cond p None (cond q None (digits w s))
    go false false l u = rw (lt-ltb w (2 ^ 64) (omega (arith, ltb-false 57 b u))) refl
    go _ _ l u = refl

-- the number that the byte at i makes
abbrev pub DigitAt : Str → ℕ → Option ℕ → Type 0
DigitAt t i r = r ≡ digit (get_or t i 0) (Some (get_or t i 0 - 48))

-- in the front of a text the same
pub in_front :
    (t head : Str) (m i : ℕ) (r : Option ℕ) → head ≡ take m t → i < m → DigitAt head i r → DigitAt t i r
in_front t head m i r e h d = rw (← get_or-take m t i 0 h, ← e) d

module _ (t : Str) (i v : ℕ) (h : i < length t) (room : v * 10 + 9 < 2 ^ 64) (r : Option ℕ) (e : DigitAt t i r) where
  here : digits v (drop i t) ≡ digit (get_or t i 0) (digits (v * 10 + (get_or t i 0 - 48)) (drop (i + 1) t))
  here = rw (add-one, drop-cons t i 0 h) (one_more v (get_or t i 0) (drop (suc i) t) room)

  pub next_digit : (n : ℕ) → r ≡ Some n → digits v (drop i t) ≡ digits (v * 10 + n) (drop (i + 1) t)
  next_digit n is =
      let b = taken (get_or t i 0) n r (digits (v * 10 + (get_or t i 0 - 48)) (drop (i + 1) t)) e is in
      rw (← b.1) (here ∙ b.0)

  pub no_digit : r ≡ None → digits v (drop i t) ≡ None
  no_digit is = here ∙ not_taken (get_or t i 0) r _ e is

pub below_ten : (t : Str) (i n : ℕ) (r : Option ℕ) → DigitAt t i r → r ≡ Some n → n < 10
below_ten t i n r e is = (taken (get_or t i 0) n r None e is).2

-- a number of fewer than 19 digits, and one more digit
pub few_digits : (v i : ℕ) → v < 10 ^ i → i < 19 → v < 10 ^ 18
few_digits v i l h = omega (arith, pow-le-pow_right {n = 10} (omega arith) {i = i} {j = 18} (omega arith))

pub one_more_digit : (v i d : ℕ) → v < 10 ^ i → d < 10 → v * 10 + d < 10 ^ (i + 1)
one_more_digit v i d l h = rw (add-one, pow-suc 10 i) (omega arith)

-- the part of a slice from i on
pub rest-is : (t : Str) (i : ℕ) → take (length t - i) (drop i t) ≡ drop i t
rest-is t i = take_all (length t - i) (drop i t) (rw (length-drop i t) (omega arith))

-- a first chunk that is these bytes
pub chunk-is :
    (t : Str) (short : Type 0) (chunk : Option (Bor Str)) (s : Bor Str)
    → MatchOption chunk short (λ y. IsFirstChunk t y.now 4)
    → option_eq {T = Bor Str} (λ x y. bytes_eq x.now y.now) chunk (Some s) ≡ true → take 4 t ≡ s.now
chunk-is t short None s m e = cc
chunk-is t short (Some y) s m e = sym m.same ∙ (bytes_eq-Decides y.now s.now).0 e

-- four spaces in front
pub trimmed-four : (t : Str) → take 4 t ≡ 32 ∷ 32 ∷ 32 ∷ 32 ∷ [] → trimmed t ≡ trimmed (drop 4 t)
unfolding trimmed
trimmed-four t e = ap trimmed (sym (take-append-drop 4 t)) ∙ ap (λ (s : Str). trimmed (s ++ drop 4 t)) e

-- a number without spaces that does not begin with 0
pub unpadded-digits : (t : Str) → (length t ≡ 0 → ⊥) → (get_or t 0 0 ≡ 48 → ⊥) → unpadded t ≡ digits 0 t
unfolding unpadded
unpadded-digits [] h e = absurd (h refl)
unpadded-digits (b ∷ t) h e = rw (ne_eqb b 48 e)

-- spaces in front
past_spaces : (n : ℕ) (t : Str) → trimmed (replicate n 32 ++ t) ≡ trimmed t
unfolding trimmed
past_spaces zero t = refl
past_spaces (suc n) t = past_spaces n t

-- a single byte behind spaces
lone_digit : (b : ℕ) → digit b (Some (b - 48)) ≡ number (b ∷ [])
unfolding trimmed unpadded digits
lone_digit b = go (eqb b 32) (eqb b 48) refl refl
  where
    go : (p q : Bool) → eqb b 32 ≡ p → eqb b 48 ≡ q → digit b (Some (b - 48)) ≡ unpadded (cond p [] (b ∷ []))
    go true q e f = let z : b ≡ 32 = eqb-true b 32 e in rw z refl
    go false true e f = let z : b ≡ 48 = eqb-true b 48 f in rw z refl
    go false false e f =
        let z : 0 * 10 + (b - 48) ≡ b - 48 = omega arith in
        rw (f, one_more 0 b [] (omega arith), z) refl

-- columns in three parts, of which the first is sixteen spaces and the last a single byte
module _ (t front rest four last : Str) (a : front ≡ take 16 t) (b : rest ≡ drop 16 t) (c : four ≡ take 4 rest)
    (d : last ≡ drop 4 rest) (n : length last ≡ 1) (e : front ≡ replicate 16 32) where
  one : last ≡ get_or last 0 0 ∷ []
  one = go last n
    where
      go : (s : Str) → length s ≡ 1 → s ≡ get_or s 0 0 ∷ []
      go [] h = cc
      go (x ∷ []) h = refl
      go (x ∷ y ∷ s) h = let z : ⊥ = omega arith in absurd z

  inner : rest ≡ four ++ (get_or last 0 0 ∷ [])
  inner =
      sym (take-append-drop 4 rest) ∙ ap (λ (s : Str). s ++ drop 4 rest) (sym c) ∙ ap (λ (s : Str). four ++ s) (sym d ∙ one)

  whole : t ≡ replicate 16 32 ++ (four ++ (get_or last 0 0 ∷ []))
  whole =
      sym (take-append-drop 16 t) ∙ ap (λ (s : Str). s ++ drop 16 t) (sym a ∙ e)
      ∙ ap (λ (s : Str). replicate 16 32 ++ s) (sym b ∙ inner)

  pub digit_behind :
      four ≡ 32 ∷ 32 ∷ 32 ∷ 32 ∷ [] → number t ≡ digit (get_or last 0 0) (Some (get_or last 0 0 - 48))
  digit_behind f = rw (whole, f) (ap unpadded (past_spaces 20 (get_or last 0 0 ∷ [])) ∙ sym (lone_digit (get_or last 0 0)))

  -- 65535
  pub no_discriminant : four ≡ 54 ∷ 53 ∷ 53 ∷ 51 ∷ [] → get_or last 0 0 ≡ 53 → number t ≡ Some 65535
  unfolding trimmed unpadded digits
  no_discriminant f g = rw (whole, f, g) refl

-- what may be a name has 1 to 64 bytes
pub may_length : (t : Str) → may_be_name t ≡ true → (1 ≤ length t) × (length t ≤ 64)
may_length t e = go (leb 1 (length t)) (leb (length t) 64) refl refl e
  where
    go :
        (p q : Bool) → leb 1 (length t) ≡ p → leb (length t) 64 ≡ q
        → cond (both p q) (not (is_digit (get_or t 0 0))) false ≡ true → (1 ≤ length t) × (length t ≤ 64)
    go true true l h e = (leb-true _ _ l, leb-true _ _ h)
    go _ _ l h e = cc

-- both of two tests that were passed
pub passed : (p q : Bool) → cond p q false ≡ true → (p ≡ true) × (q ≡ true)
passed true q e = (refl, e)
passed false q e = cc

-- the length and the first byte of a name, and of a field's name
pub name_may : (t : Str) → is_name t ≡ true → may_be_name t ≡ true
unfolding is_name
name_may t e = (passed (may_be_name t) (all is_word t) e).0

pub field-name_may : (t : Str) → is_field_name t ≡ true → may_be_name t ≡ true
unfolding is_field_name
field-name_may t e = (passed (may_be_name t) (are_chars is_word false t) e).0

-- the bytes of a name, of a field's name and of a graphic text
pub name-all : (t : Str) → is_name t ≡ true → all is_word t ≡ true
unfolding is_name
name-all t e = (passed (may_be_name t) (all is_word t) e).1

pub field-name_chars : (t : Str) → is_field_name t ≡ true → are_chars is_word false t ≡ true
unfolding is_field_name
field-name_chars t e = (passed (may_be_name t) (are_chars is_word false t) e).1

pub graphic_all : (most : ℕ) (t : Str) → is_graphic_text most t ≡ true → all is_graphic t ≡ true
unfolding is_graphic_text
graphic_all most t e = (passed (sized most t) (all is_graphic t) e).1
