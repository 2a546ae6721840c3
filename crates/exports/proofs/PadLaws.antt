-- The three ways in which a sheet that is written by hand is answered, over the numbers that the code has: a fill count past the
-- end, a sheet that does not fit, and one that does. Assumes nothing.
use mathlib.Core.Path.{◌≡◌, ap, ◌∙◌}
use Prim.Native.Nat.{ℕ, ◌-◌, ◌^◌, ◌<◌, ◌≤◌}
use native.Mathlib.Omega.{arith}
use lib.ListN.{length}
use Rattle.text.specs.Bytes.{Str}
use Rattle.text.specs.Text.{state_at, Wrote}
use Rattle.text.specs.declared.Text.{Text}
use Rattle.text.specs.Answer.{Answer, done, refused, TextAnswered}
use Rattle.text.proofs.AnswerLaws.{refused_21, refused_22, done-placed}
use Rattle.padding.specs.Padded.{padded_text}
use Rattle.exports.specs.Boundary.{number_in, fill_in}
use Rattle.exports.specs.Pad.{PadTold}

-- the text s, at the state t of a fill count, which the code has as f
module _ (s l : Str) (fill : ℕ) (t : Text) (at : t ≡ state_at fill) (f : ℕ) (is : f ≡ t.at) where
  f-is : f ≡ fill
  f-is = is ∙ ap (λ (t : Text). t.at) at

  told : (l' : Str) (r : Answer) → TextAnswered l fill (padded_text s) l' r → PadTold s l fill l' (fill_in fill r) (number_in r)
  told l' r a = record {
    number_is = ap number_in a.answer;
    fill_is = ap (fill_in fill) a.answer;
    buffer-is = a.buffer;
  }

  pub pad-past : length l < f → PadTold s l fill l fill 21
  pad-past h = told l (refused 21 0 0) (refused_21 l fill (padded_text s) (rw f-is at h))

  -- measured, the sheet ends at n
  module _
      (room : length l < 2 ^ 64 - 1) (within : f ≤ length l) {l₀ l₁ : Str} {t₁ : Text}
      (measured : Wrote l₀ t (padded_text s) l₁ t₁)
      (n : ℕ) (end : n ≡ t₁.at)
    where
      pub pad-long : length l < n → PadTold s l fill l fill 22
      pad-long h =
          told l (refused 22 0 0)
          (refused_22 l (state_at fill) (padded_text s) l₀ l₁ t₁ (rw f-is at within) (omega arith) (rw at at measured)
          (rw end at h))

      pub pad-done :
          {l₂ : Str} {t₂ : Text} → n ≤ length l → Wrote l t (padded_text s) l₂ t₂ → (m : ℕ) → m ≡ t₂.at
          → PadTold s l fill l₂ m 0
      pad-done {l₂} {t₂} h written m e =
          rw e
          (told l₂ (done t₂.at)
          (done-placed l (state_at fill) (padded_text s) l₀ l₁ t₁ l₂ t₂ (rw f-is at within) room (rw at at measured) (rw end at h)
          (rw at at written)))
