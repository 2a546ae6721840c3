-- The three ways in which a request with a known text ends: 21, 22 and the text. The text's length is known from a pass that
-- measures, over any buffer l₀. Assumes nothing.
use mathlib.Core.Path.{◌≡◌, ap, ◌∙◌}
use Prim.Native.Nat.{ℕ, ◌+◌, ◌-◌, ◌^◌, ◌<◌, ◌≤◌, min}
use native.Mathlib.Omega.{arith}
use borrow.Author.Tests.{lt-ltb, le-ltb}
use lib.ListN.{length}
use Rattle.text.specs.Bytes.{Str}
use Rattle.text.specs.Text.{Wrote}
use Rattle.text.specs.Answer.{done, refused, answer_of, buffer_of, TextAnswered}
use Rattle.text.specs.declared.Text.{Text}
use Rattle.text.proofs.Places.{adv-at, put-placed}

pub refused_21 : (l : Str) (fill : ℕ) (s : Str) → length l < fill → TextAnswered l fill s l (refused 21 0 0)
unfolding answer_of buffer_of
refused_21 l fill s h = record { answer = simp (lt-ltb _ _ h); buffer = simp (lt-ltb _ _ h) }

-- the count after a text
count : {l : Str} {t : Text} {s l₁ : Str} {t₁ : Text} → t.at ≤ 2 ^ 64 - 1 → Wrote l t s l₁ t₁
    → t₁.at ≡ min (t.at + length s) (2 ^ 64 - 1)
count {t = t} {s = s} h w = ap (λ (u : Text). u.at) (w.state ∙ adv-at t s h)

pub refused_22 : (l : Str) (t : Text) (s l₀ l₁ : Str) (t₁ : Text) → t.at ≤ length l → length l < 2 ^ 64
    → Wrote l₀ t s l₁ t₁ → length l < t₁.at → TextAnswered l t.at s l (refused 22 0 0)
unfolding answer_of buffer_of
refused_22 l t s l₀ l₁ t₁ g b w h =
    let e : length l < t.at + length s = omega (arith, count (omega arith) w) in
    record { answer = simp (le-ltb _ _ g, lt-ltb _ _ e); buffer = simp (le-ltb _ _ g, lt-ltb _ _ e) }

pub done-placed : (l : Str) (t : Text) (s l₀ l₁ : Str) (t₁ : Text) (l₂ : Str) (t₂ : Text) → t.at ≤ length l
    → length l < 2 ^ 64 - 1
    → Wrote l₀ t s l₁ t₁ → t₁.at ≤ length l → Wrote l t s l₂ t₂
    → TextAnswered l t.at s l₂ (done t₂.at)
unfolding answer_of buffer_of
done-placed l t s l₀ l₁ t₁ l₂ t₂ g b w h v =
    let e : t.at + length s ≤ length l = omega (arith, count (omega arith) w) in
    let f : t₂.at ≡ t.at + length s = omega (arith, count (omega arith) v) in
    record {
      answer = simp (le-ltb _ _ g, le-ltb _ _ e) (ap done f);
      buffer = simp (le-ltb _ _ g, le-ltb _ _ e) (v.bytes ∙ put-placed l t s e (omega arith));
    }
