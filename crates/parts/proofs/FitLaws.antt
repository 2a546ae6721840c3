-- Laws of a text that begins a buffer: how long it is, and what it takes of the buffer; and of one text behind another. Assumes
-- nothing.
use mathlib.Core.Path.{◌≡◌, refl, sym, ap, ◌∙◌}
use mathlib.Core.Bool.{Bool, true, false}
use mathlib.Core.List.{◌++◌}
use Rattle.std.specs.Prelude.{Option, None, Some}
use Prim.Native.Nat.{ℕ, ◌+◌, ◌-◌, ◌^◌, ◌≤◌, ◌<◌}
use native.Mathlib.Omega.{arith}
use borrow.Author.Tests.{ltb-true, ltb-false}
use lib.Dec.{ltb}
use lib.ListN.{length, take, drop, length-append, length-drop, length-take}
use lib.Seq.{take_at, length-take-le, take-append-add, take-append-le}
use Rattle.text.specs.Bytes.{Str, cond}
use Rattle.text.specs.Text.{state_at, Wrote}
use Rattle.text.specs.Answer.{placed}
use Rattle.text.specs.declared.Text.{Text}
use Rattle.text.proofs.Laws.{kept}
use Rattle.text.proofs.Places.{put-placed}
use Rattle.text.proofs.DecimalLaws.{decimal-length}
pub use Rattle.requests.proofs.LentLaws.{start-at, text-end, lent, back}
use Rattle.parts.specs.Program.{opening, header_text, refused_text, refused_sheet_text}
use Rattle.parts.specs.Fit.{fit_of, TakesAtMost, Puts}
use Rattle.parts.specs.declared.Part.{Part}
use Rattle.parts.specs.declared.Part.TheVariants.{Zero}

-- ---- lengths

-- a number of 64 bits has at most 20 digits

pub refused-few : (n : ℕ) → n < 2 ^ 64 → length (refused_text n) ≤ 65536
unfolding refused_text
refused-few n h = simp length-append (omega (arith, decimal-length 19))

pub refused-sheet-few :
    (n line column : ℕ) → n < 2 ^ 64 → line < 2 ^ 64 → column < 2 ^ 64 → length (refused_sheet_text n line column) ≤ 65536
unfolding refused_sheet_text
refused-sheet-few n line column h k m =
    simp length-append (omega (arith, decimal-length 19))

pub header-few : (part : Part) (name : Str) → length (header_text part name) ≤ length name + 18
unfolding header_text
header-few part name = simp length-append (omega (arith, go part))
  where
    go : (p : Part) → length (opening p) ≤ 17
    go Zero = omega arith
    go _ = omega arith

-- ---- a text at the start of a buffer

placed_first : (l w : Str) → take (length w) (placed l 0 w) ≡ w
unfolding placed
placed_first l w = take_at w (drop (0 + length w) l) (length w) refl

pub taken-most : (n : ℕ) (l : Str) (r : Option ℕ) (most : ℕ) → n ≤ most → r ≡ fit_of n (length l) → TakesAtMost most l r
taken-most n l r most h i = rw i (go (ltb (length l) n) refl)
  where
    go : (b : Bool) → ltb (length l) n ≡ b → TakesAtMost most l (cond b None (Some n))
    go true f = omega (arith, ltb-true (length l) n f)
    go false f = h

-- a buffer of the same length is as short
pub fits-same : (most : ℕ) (l l₁ : Str) (r : Option ℕ) → length l₁ ≡ length l → TakesAtMost most l₁ r → TakesAtMost most l r
fits-same most l l₁ (Some n) e f = f
fits-same most l l₁ None e f = omega (arith, e, f)

-- the text w, written from the start of l on
module _ {l w l' : Str} {t₀ t : Text} (z : t₀ ≡ state_at 0) (e : Wrote l t₀ w l' t) where
  module _ (b : length l < 2 ^ 63) where
    pub text-whole : t.at ≤ length l → take t.at l' ≡ w
    text-whole h =
        let g : t.at ≡ length w = omega (arith, text-end (start-at z) e) in
        rw (g, e.bytes, z, put-placed l (state_at 0) w (omega arith) (omega arith)) (placed_first l w)

    pub taken-puts : (r : Option ℕ) → r ≡ fit_of t.at (length l') → Puts w l' r
    taken-puts r i = rw i (go (ltb (length l') t.at) refl)
      where
        go : (b : Bool) → ltb (length l') t.at ≡ b → Puts w l' (cond b None (Some t.at))
        go true f = tt
        go false f = text-whole (omega (arith, kept e, ltb-false (length l') t.at f))

  pub taken-fits : (most : ℕ) (r : Option ℕ) → t.at ≤ most → r ≡ fit_of t.at (length l') → TakesAtMost most l r
  taken-fits most r h i = fits-same most l l' r (kept e) (taken-most t.at l' r most h i)

-- ---- a buffer of which the bytes from n on are lent

pub lent_length : (l : Str) (n : ℕ) → length (lent l n) ≡ length l - n
lent_length l n = length-take (length l - n) (drop n l) ∙ rw (length-drop n l) (omega arith)

module _ (l l' : Str) (n : ℕ) (h : n ≤ length l) where
  pub back-length : length l' ≡ length (lent l n) → length (back l n l') ≡ length l
  back-length e =
      simp (length-append, length-take-le n l h, length-drop)
      (omega (arith, e, lent_length l n))

  pub on-within : (m : ℕ) → m ≤ length l' → n + m ≤ length (back l n l')
  on-within m g = simp length-append (omega (arith, g, length-take-le n l h))

  pub taken-on : (m : ℕ) → m ≤ length l' → take (n + m) (back l n l') ≡ take n l ++ take m l'
  taken-on m g =
      ap (λ (k : ℕ). take (k + m) (back l n l')) (sym (length-take-le n l h))
      ∙ take-append-add (take n l) _ m
      ∙ ap (λ (x : Str). take n l ++ x) (take-append-le m l' _ g)

-- ---- a buffer of which the first n bytes are lent

pub front_length : (l l' : Str) (n : ℕ) → n ≤ length l → length l' ≡ length (take n l) → length (l' ++ drop n l) ≡ length l
front_length l l' n h e = simp (length-append, length-drop) (omega (arith, e, length-take-le n l h))
