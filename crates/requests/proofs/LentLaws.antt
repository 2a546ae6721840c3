-- Laws of a text that begins a buffer, and of a buffer of which the bytes from n on are lent: those before stay, and a text that
-- begins what is lent stands at n in the whole. Assumes nothing.
use mathlib.Core.Path.{◌≡◌, sym, ap, ◌∙◌}
use mathlib.Core.List.{◌++◌, append_assoc, append-nil}
use Prim.Native.Nat.{ℕ, ◌+◌, ◌-◌, ◌^◌, ◌≤◌, ◌<◌, min}
use native.Mathlib.Omega.{arith}
use lib.ListN.{length, take, drop, length-drop, drop_of_length-le}
use lib.Seq.{take_all, drop-drop}
use Rattle.text.specs.Answer.{placed}
use Rattle.text.specs.Bytes.{Str}
use Rattle.text.specs.Text.{put, state_at, with_fill, Wrote}
use Rattle.text.specs.declared.Text.{Text}
use Rattle.text.proofs.Places.{adv-at, adv-fits, put-placed}

-- the state from the start on, and where it stands after a text
pub start-at : {t : Text} → t ≡ state_at 0 → t.at ≡ 0
start-at e = ap (λ (t : Text). t.at) e

pub text-end : {l w l' : Str} {t₀ t : Text} → t₀.at ≡ 0 → Wrote l t₀ w l' t → t.at ≡ min (length w) (2 ^ 64 - 1)
text-end {w = w} {t₀ = t₀} {t = t} z e =
    let f : t.at ≡ min (t₀.at + length w) (2 ^ 64 - 1) = ap (λ (u : Text). u.at) (e.state ∙ adv-at t₀ w (omega arith)) in
    omega arith

-- the bytes that are lent, and the buffer once they are back as l'
abbrev pub lent : Str → ℕ → Str
lent l n = take (length l - n) (drop n l)

abbrev pub back : Str → ℕ → Str → Str
back l n l' = take n l ++ (l' ++ drop (length l - n) (drop n l))

lent_is : (l : Str) (n : ℕ) → lent l n ≡ drop n l
lent_is l n = take_all (length l - n) (drop n l) (omega (arith, length-drop n l))

back_is : (l : Str) (n : ℕ) (l' : Str) → back l n l' ≡ take n l ++ l'
back_is l n l' =
    ap (λ (x : Str). take n l ++ (l' ++ x)) (drop_of_length-le (drop n l) {i = length l - n} (omega (arith, length-drop n l)))
    ∙ ap (λ (x : Str). take n l ++ x) (append-nil l')

-- the text w, of which all is within the buffer
module _ (l : Str) (t : Text) (w : Str) (h : t.at + length w ≤ length l) (b : length l < 2 ^ 64 - 1) where
  put_first : put (lent l t.at) (with_fill t 0) w ≡ w ++ drop (t.at + length w) l
  unfolding placed
  put_first =
      let x = length-drop t.at l in
      let z : 0 + length w ≡ length w = omega arith in
      ap (λ (d : Str). put d (with_fill t 0) w) (lent_is l t.at)
      ∙ put-placed (drop t.at l) (with_fill t 0) w (omega (arith, x)) (omega (arith, x))
      ∙ ap (λ (k : ℕ). w ++ drop k (drop t.at l)) z
      ∙ ap (λ (d : Str). w ++ d) (drop-drop (length w) t.at l)

  put-lent : back l t.at (put (lent l t.at) (with_fill t 0) w) ≡ put l t w
  unfolding placed
  put-lent =
      back_is l t.at _
      ∙ ap (λ (d : Str). take t.at l ++ d) put_first
      ∙ sym (append_assoc (take t.at l) w (drop (t.at + length w) l))
      ∙ sym (put-placed l t w h (omega arith))

  pub lent-wrote : {t₂ : Text} {l₂ : Str} → Wrote (lent l t.at) (with_fill t 0) w l₂ t₂
      → Wrote l t w (back l t.at l₂) (with_fill t (t.at + length w))
  lent-wrote e = record {
    bytes = ap (back l t.at) e.bytes ∙ put-lent;
    state = sym (adv-fits t w (omega arith));
  }
