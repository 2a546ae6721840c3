-- `text::Text::signed` meets its contract: below the sign's bit the number itself, from there on a minus and what is left to
-- twice that bit. Assumes nothing.
use mathlib.Core.Path.{◌≡◌}
use Prim.Native.Nat.{ℕ, ◌+◌, ◌-◌, ◌≤◌}
use native.Mathlib.Omega.{arith}
use Rattle.text.proofs.Laws.{◌⨾◌}
use Rattle.text.proofs.DecimalLaws.{signed_low, signed_high}
use Rattle.text.proofs.Text.signed.Goals as goal

turned : (h n : ℕ) → h ≤ n → h - (n - h) ≡ h + h - n
turned h n l = omega arith

pub returns-then-n-half : goal.returns-then-n-half
returns-then-n-half c =
    rw (signed_low _ _ c.if-n-half.true) c.number.ensures

pub returns : goal.returns
returns c =
    rw (signed_high _ _ c.if-n-half.false, ← turned _ _ c.if-n-half.false, ← c.saturating_sub.ensures)
    (c.byte-t.ensures ⨾ c.number-2.ensures)
