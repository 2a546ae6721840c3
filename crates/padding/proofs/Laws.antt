-- Laws for the loops: what stands from a position on, by the byte there, and a turn's word or row. Assumes nothing.
use mathlib.Core.Path.{◌≡◌, refl, ap, ◌∙◌}
use mathlib.Core.List.{[], ◌∷◌, ◌++◌}
use Prim.Native.Nat.{ℕ, suc, ◌+◌, ◌-◌, ◌<◌}
use native.Mathlib.Omega.{arith}
use lib.ListN.{length, get_or, take, drop, replicate, length-drop}
use lib.Seq.{take_all}
use Rattle.std.specs.List.{prefix_len, take_while}
use Rattle.std.proofs.lemmas.List.Folds.{length-prefix_len}
use mathlib.Core.Bool as bool
use mathlib.Core.Bool.{Bool, true, false, not, ◌&&◌}
use Rattle.std.specs.Prelude.{◌==◌}
use Rattle.text.specs.Bytes.{Str, unit, either}
use Rattle.text.specs.Text.{put, adv, Wrote}
use Rattle.text.specs.declared.Text.{Text}
use Rattle.text.proofs.Laws.{Left}
use Rattle.row.specs.Rows.{row_len, rows}
use Rattle.row.proofs.Laws.{rows_at}
use Rattle.padding.specs.Padded.{number_count, space_len, word_len, right_justified, words_padded, padded_row, padded_rows}

-- the last text of a loop
pub left-last : {l : Str} {t : Text} {s l₀ : Str} {t₀ : Text} {s₀ l₁ : Str} {t₁ : Text} → Left l t s l₀ t₀ s₀
    → Wrote l t s l₁ t₁ → Wrote l₀ t₀ s₀ l₁ t₁
left-last f w = record { bytes = w.bytes ∙ f.bytes; state = w.state ∙ f.state }

-- a text that is another's equal
pub wrote_as : {l : Str} {t : Text} {a b l₁ : Str} {t₁ : Text} → a ≡ b → Wrote l t a l₁ t₁ → Wrote l t b l₁ t₁
wrote_as e w = rw (← e) w

-- ---- spaces and words in front, as the code counts them

-- what is counted while a test holds
counted_while : (p : ℕ → Bool) (t : Str) (n : ℕ) → prefix_len p t ≡ n → length (take_while p t) ≡ n
counted_while p t n e = length-prefix_len p t ∙ e

space_prefix : (t : Str) → prefix_len (λ (b : ℕ). b == 32) t ≡ space_len t
unfolding space_len
space_prefix [] = refl
space_prefix (b ∷ t) = go (b == 32) (space_prefix t)
  where
    go : (e : Bool) → prefix_len (λ (c : ℕ). c == 32) t ≡ space_len t
        → bool.cond e (1 + prefix_len (λ (c : ℕ). c == 32) t) 0 ≡ elim e [ true ↦ suc (space_len t) | false ↦ 0 ]
    go true f = omega (arith, f)
    go false f = refl

abbrev in_word : ℕ → Bool
in_word b = not (b == 32) && not (b == 10)

word_prefix : (t : Str) → prefix_len in_word t ≡ word_len t
unfolding word_len
word_prefix [] = refl
word_prefix (b ∷ t) = go (b == 32) (b == 10) (word_prefix t)
  where
    go : (d e : Bool) → prefix_len in_word t ≡ word_len t
        → bool.cond (not d && not e) (1 + prefix_len in_word t) 0 ≡ elim (either d e) [ true ↦ 0 | false ↦ suc (word_len t) ]
    go true e f = refl
    go false true f = refl
    go false false f = omega (arith, f)

pub spaces-counted : (t : Str) → length (take_while (λ (b : ℕ). b == 32) t) ≡ space_len t
spaces-counted t = counted_while (λ (b : ℕ). b == 32) t (space_len t) (space_prefix t)

pub word-counted : (t : Str) → length (take_while (λ (b : ℕ). not (b == 32) && not (b == 10)) t) ≡ word_len t
word-counted t = counted_while in_word t (word_len t) (word_prefix t)

-- ---- a word in its columns

-- one space more in front of it
pub spaces-turn : (n : ℕ) (w : Str) → n < 21 → replicate (21 - n) 32 ++ w ≡ unit 32 ++ (replicate (21 - (n + 1)) 32 ++ w)
spaces-turn n w h = let e : 21 - n ≡ suc (21 - (n + 1)) = omega arith in rw e

-- ---- a turn over words

-- a slice from a place on
abbrev pub from : ℕ → Str → Str
from n t = take (length t - n) (drop n t)

from-drop : (n : ℕ) (t : Str) → from n t ≡ drop n t
from-drop n t = take_all (length t - n) (drop n t) (rw length-drop (omega arith))

-- s spaces stand in front of the next word, which has n bytes
module _ (t : Str) (s n : ℕ) (spaces : s ≡ length (take_while (λ (b : ℕ). b == 32) t))
    (bytes : n ≡ length (take_while (λ (b : ℕ). not (b == 32) && not (b == 10)) (from s t))) where
  -- the next word in its columns, and those after it
  pub words-turn : (count done : ℕ) → done < count
      → words_padded (count - done) t
      ≡ right_justified (take n (from s t)) ++ words_padded (count - (done + 1)) (from n (from s t))
  unfolding words_padded
  words-turn count done h =
      let e : count - done ≡ suc (count - (done + 1)) = omega arith in
      let a : from s t ≡ drop (space_len t) t = from-drop s t ∙ ap (λ (k : ℕ). drop k t) (spaces ∙ spaces-counted t) in
      let k : n ≡ word_len (drop (space_len t) t) = bytes ∙ word-counted (from s t) ∙ ap word_len a in
      rw (e, words_padded, from-drop n (from s t), a, k)

-- the rest, of whose spaces in front one is kept
pub words-rest : (t : Str) (s : ℕ) → s ≡ length (take_while (λ (b : ℕ). b == 32) t) → (left : ℕ) → left ≡ 0
    → words_padded left t ≡ from (s - 1) t
unfolding words_padded
words-rest t s spaces left e = rw (e, words_padded, from-drop (s - 1) t, spaces ∙ spaces-counted t)

-- ---- rows

-- a row that is not empty
pub row-padded :
    (r : Str) (n : ℕ) → (length r ≡ 0 → ⊥) → n ≡ number_count (get_or r 0 0)
    → unit (get_or r 0 0) ++ words_padded n (take (length r - 1) (drop 1 r)) ≡ padded_row r
unfolding padded_row
row-padded [] n h e = absurd (h refl)
row-padded (b ∷ r) n h e =
    let m : suc (length r) - 1 ≡ length r = omega arith in
    rw (e, m, take_all (length r) r (omega arith))

pub row-none : {l : Str} {t : Text} (r : Str) → length r ≡ 0 → Wrote l t (padded_row r) l t
unfolding padded_row put adv
row-none [] h = record { bytes = refl; state = refl }
row-none (b ∷ r) h = absurd (omega arith)

-- the row at a position, and those after it
pub rows-turn :
    (s : Str) (at e : ℕ) → at < length s → e ≡ at + row_len (drop at s)
    → padded_rows (rows (drop at s)) ≡ padded_row (take (e - at) (drop at s)) ++ padded_rows (rows (drop e s))
unfolding padded_rows
rows-turn s at e h is = rw (rows_at s at e h is)
