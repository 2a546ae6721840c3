-- Laws of the first byte 10 at or after a start: by the byte there, past bytes that are others, and where the row ends by it.
-- Assumes nothing.
use mathlib.Core.Path.{◌≡◌, refl, sym, ap, ◌∙◌}
use mathlib.Core.Bool.{Bool, true, false}
use mathlib.Core.List.{[], ◌∷◌}
use Rattle.std.specs.Prelude.{Option, None, Some}
use Prim.Native.Nat.{ℕ, zero, suc, ◌+◌, ◌/◌, ◌≤◌, ◌<◌}
use native.Mathlib.Omega.{arith}
use native.Mathlib.Decide.{dec_le}
use native.Mathlib.Nat.{add-zero, add-suc, suc-add, le_of_suc-le-suc, not-suc-le-zero}
use native.Mathlib.Numerals.{add-one}
use lib.Count.{count_trailing_zeros, trailing_of_zero}
use lib.Dec.{eqb}
use lib.ListN.{length, get_or, take, drop, drop_of_length-le, length-drop}
use lib.Seq.{drop-cons, drop-drop}
use borrow.Author.Tests.{eq-eqb, ne_eqb, eqb-true, eqb-false}
use Rattle.std.specs.Option.{option_map}
use Rattle.std.specs.List.{position_from}
use Rattle.text.specs.Bytes.{Str, cond}
use Rattle.row.specs.Rows.{row_len}
use Rattle.row.specs.Newline.{first_newline, newline_from, FirstAtOrAfter}
use Rattle.row.specs.Eights.{word_of, newline_bits}
use Rattle.row.proofs.WordLaws.{lead, lowest_eight, some-bit}

-- a byte 10 is found where it stands, another is passed, and past the end there is none
pub found_here : (s : Str) (i : ℕ) → i < length s → get_or s i 0 ≡ 10 → newline_from s i ≡ Some i
unfolding newline_from first_newline
found_here s i h e = rw (drop-cons s i 0 h, first_newline, eq-eqb (get_or s i 0) 10 e)

pub found_later : (s : Str) (i : ℕ) → i < length s → (get_or s i 0 ≡ 10 → ⊥) → newline_from s (i + 1) ≡ newline_from s i
unfolding newline_from first_newline
found_later s i h e = rw (add-one, drop-cons s i 0 h, first_newline, ne_eqb (get_or s i 0) 10 e)

pub found_none : (s : Str) (i : ℕ) → length s ≤ i → newline_from s i ≡ None
unfolding newline_from first_newline
found_none s i h = rw (drop_of_length-le s h)

-- the first byte 10 of some bytes, as `position` tells where it stands among them
first-of : (from i : ℕ) (t : Str) → option_map (λ k. from + k) (position_from (λ b. eqb b 10) i t) ≡ first_newline (from + i) t
unfolding first_newline
first-of from i [] = refl
first-of from i (b ∷ t) = go (eqb b 10) (first-of from (i + 1) t)
  where
    go :
        (p : Bool) → option_map (λ k. from + k) (position_from (λ b. eqb b 10) (i + 1) t) ≡ first_newline (from + (i + 1)) t
        → option_map (λ k. from + k) (cond p (Some i) (position_from (λ b. eqb b 10) (i + 1) t))
        ≡ elim p [ true ↦ Some (from + i) | false ↦ first_newline (suc (from + i)) t ]
    go true e = refl
    go false e = e ∙ ap (λ k. first_newline k t) (omega arith)

pub position-is :
    (s : Str) (from : ℕ) (r : Option ℕ) → r ≡ position_from (λ b. eqb b 10) 0 (drop from s)
    → option_map (λ k. from + k) r ≡ newline_from s from
unfolding newline_from
position-is s from r e =
    ap (option_map (λ k. from + k)) e
    ∙ first-of from 0 (drop from s)
    ∙ ap (λ k. first_newline k (drop from s)) (add-zero from)

-- what is found is the first at or after the start: a byte that is passed is none, and the rest goes by how much is left
module _ (s : Str) (from : ℕ) (other : get_or s from 0 ≡ 10 → ⊥) where
  not-between : (i j : ℕ) → ((j : ℕ) → from + 1 ≤ j → j < i → get_or s j 0 ≡ 10 → ⊥) → from ≤ j → j < i → get_or s j 0 ≡ 10 → ⊥
  not-between i j h l k e = go (dec_le (from + 1) j)
    where
      go : Dec (from + 1 ≤ j) → ⊥
      go (yes m) = h j m k e
      go (no m) = let same : j ≡ from = omega arith in other (rw same at e)

  first-before : (o : Option ℕ) → FirstAtOrAfter s (from + 1) o → FirstAtOrAfter s from o
  first-before (Some i) (l, h, e, f) = (omega arith, h, e, λ j. not-between i j f)
  first-before None f = λ j. not-between (length s) j f

first-within : (k : ℕ) (s : Str) (from : ℕ) → length s ≤ from + k → FirstAtOrAfter s from (newline_from s from)
first-within zero s from h = rw (found_none s from (omega arith)) (λ j a b byte10. let z : ⊥ = omega arith in z)
first-within (suc k) s from h =
    go (first-within k s (from + 1) (omega arith)) (dec_le (length s) from) (eqb (get_or s from 0) 10) refl
  where
    go :
        FirstAtOrAfter s (from + 1) (newline_from s (from + 1)) → Dec (length s ≤ from) → (p : Bool)
        → eqb (get_or s from 0) 10 ≡ p → FirstAtOrAfter s from (newline_from s from)
    go f (yes l) p e = rw (found_none s from l) (λ j a b byte10. let z : ⊥ = omega arith in z)
    go f (no l) true e =
        let byte = eqb-true (get_or s from 0) 10 e in
        rw (found_here s from (omega arith) byte) (omega arith, omega arith, byte, λ j a b byte10. let z : ⊥ = omega arith in z)
    go f (no l) false e =
        let other = eqb-false (get_or s from 0) 10 e in
        rw (← found_later s from (omega arith) other) (first-before s from other (newline_from s (from + 1)) f)

pub found_first : (s : Str) (from : ℕ) (o : Option ℕ) → o ≡ newline_from s from → FirstAtOrAfter s from o
found_first s from o e = rw e (first-within (length s) s from (omega arith))

-- from the first byte 10 of some bytes, or from their end, the same is found as from their start
lead-passed : (n : ℕ) (t : Str) (at : ℕ) → first_newline (at + lead (take n t)) (drop (lead (take n t)) t) ≡ first_newline at t
unfolding first_newline lead
lead-passed zero t at = rw (add-zero at)
lead-passed (suc n) [] at = refl
lead-passed (suc n) (b ∷ t) at = go (lead-passed n t (suc at)) (eqb b 10) refl
  where
    l : ℕ
    l = lead (take n t)

    go : first_newline (suc at + l) (drop l t) ≡ first_newline (suc at) t → (p : Bool) → eqb b 10 ≡ p
        → first_newline (at + lead (b ∷ take n t)) (drop (lead (b ∷ take n t)) (b ∷ t)) ≡ first_newline at (b ∷ t)
    go i true e = rw (lead, e, add-zero at)
    go i false e = rw (lead, first_newline, e, add-suc at l, ← suc-add at l) i

pub past-lead : (s : Str) (i n : ℕ) → newline_from s (i + lead (take n (drop i s))) ≡ newline_from s i
unfolding newline_from
past-lead s i n = rw (← drop-drop (lead (take n (drop i s))) i s) (lead-passed n (drop i s) i)

-- where a byte 10 stands among some bytes, it is found there
lead-found :
    (n : ℕ) (t : Str) (at : ℕ) → lead (take n t) < length (take n t) → first_newline at t ≡ Some (at + lead (take n t))
unfolding first_newline lead
lead-found zero t at h = absurd (not-suc-le-zero h)
lead-found (suc n) [] at h = absurd (not-suc-le-zero h)
lead-found (suc n) (b ∷ t) at h = go (lead-found n t (suc at)) (eqb b 10) refl h
  where
    go :
        (lead (take n t) < length (take n t) → first_newline (suc at) t ≡ Some (suc at + lead (take n t)))
        → (p : Bool) → eqb b 10 ≡ p → elim p [ true ↦ 0 | false ↦ suc (lead (take n t)) ] < suc (length (take n t))
        → ◌≡◌ {A = Option ℕ} (elim p [ true ↦ Some at | false ↦ first_newline (suc at) t ])
        (Some (at + elim p [ true ↦ 0 | false ↦ suc (lead (take n t)) ]))
    go f true e h = ap Some (sym (add-zero at))
    go f false e h =
        f (le_of_suc-le-suc h) ∙ ap Some (suc-add at (lead (take n t)) ∙ sym (add-suc at (lead (take n t))))

-- eight bytes as a word, and its bits: where one is set, the lowest tells where the first byte 10 stands, and where none is, the
-- same is found from their end on as from their start
module _
    (s : Str) (i w bits : ℕ) (h : i + 8 ≤ length s) (fits : (j : ℕ) → get_or s j 0 < 256) (is : w ≡ word_of (take 8 (drop i s)))
    (e : bits ≡ newline_bits 8 w)
  where
    same_bits : bits ≡ newline_bits 8 (word_of (take 8 (drop i s)))
    same_bits = e ∙ ap (newline_bits 8) is

    lowest : count_trailing_zeros 64 bits / 8 ≡ lead (take 8 (drop i s))
    lowest = ap (λ (k : ℕ). count_trailing_zeros 64 k / 8) same_bits ∙ lowest_eight s i h fits

    pub found-bit : (bits ≡ 0 → ⊥) → Some (i + count_trailing_zeros 64 bits / 8) ≡ newline_from s i
    unfolding newline_from
    found-bit set =
        ap (λ (k : ℕ). Some (i + k)) lowest
        ∙ sym (lead-found 8 (drop i s) i (some-bit s i h fits (λ z. set (same_bits ∙ z))))

    pub past_eight : bits ≡ 0 → newline_from s (i + 8) ≡ newline_from s i
    past_eight z =
        ap (λ (k : ℕ). newline_from s (i + k / 8)) (sym (trailing_of_zero 64) ∙ ap (count_trailing_zeros 64) (sym z))
        ∙ ap (λ (k : ℕ). newline_from s (i + k)) lowest ∙ past-lead s i 8

-- a row ends after the first byte 10, or has all bytes
first_ends : (t : Str) (at i : ℕ) → first_newline at t ≡ Some i → at + row_len t ≡ i + 1
unfolding first_newline row_len
first_ends [] at i e = let z : ◌≡◌ {A = ℕ} 0 1 = cc in absurd (omega arith)
first_ends (b ∷ t) at i e = go (first_ends t (suc at) i) (eqb b 10) refl e
  where
    go :
        (first_newline (suc at) t ≡ Some i → suc at + row_len t ≡ i + 1) → (p : Bool) → eqb b 10 ≡ p
        → elim p [ true ↦ Some at | false ↦ first_newline (suc at) t ] ≡ Some i
        → at + elim p [ true ↦ 1 | false ↦ suc (row_len t) ] ≡ i + 1
    go f true k e = let z : at ≡ i = cc in omega arith
    go f false k e = omega (arith, f e)

first-none : (t : Str) (at : ℕ) → first_newline at t ≡ None → row_len t ≡ length t
unfolding first_newline row_len
first-none [] at e = refl
first-none (b ∷ t) at e = go (first-none t (suc at)) (eqb b 10) refl e
  where
    go :
        (first_newline (suc at) t ≡ None → row_len t ≡ length t) → (p : Bool) → eqb b 10 ≡ p
        → ◌≡◌ {A = Option ℕ} (elim p [ true ↦ Some at | false ↦ first_newline (suc at) t ]) None
        → elim p [ true ↦ 1 | false ↦ suc (row_len t) ] ≡ suc (length t)
    go f true k e = let z : ◌≡◌ {A = ℕ} 0 1 = cc in absurd (omega arith)
    go f false k e = ap suc (f e)

pub newline-here : (s : Str) (from : ℕ) → from < length s → get_or s from 0 ≡ 10 → Some from ≡ newline_from s from
unfolding newline_from first_newline
newline-here s from h e = rw (drop-cons s from 0 h, first_newline, eq-eqb (get_or s from 0) 10 e) refl

pub ends_found : (s : Str) (from i : ℕ) → Some i ≡ newline_from s from → i + 1 ≡ from + row_len (drop from s)
unfolding newline_from
ends_found s from i e = sym (first_ends (drop from s) from i (sym e))

pub ends_none : (s : Str) (from : ℕ) → from < length s → None ≡ newline_from s from → length s ≡ from + row_len (drop from s)
unfolding newline_from
ends_none s from h e = omega (arith, first-none (drop from s) from (sym e), length-drop from s)
