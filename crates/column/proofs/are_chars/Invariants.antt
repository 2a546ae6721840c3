use Rattle.std.proofs.Common.{◌≡◌, ◌-◌, ◌≤◌, ℕ, Bool, true, false, length, drop}
use Rattle.column.specs.Texts.{is_lead, are_chars}
use Rattle.column.proofs.are_chars.Given as goal

abbrev pub invariant-loop-i : goal.invariant-loop-i
invariant-loop-i g l = (l.i ≤ length l.t)
    × ((test : ℕ → Bool) → ((b : ℕ) (r : Bool) → goal.F-post g l.ok b r → r ≡ test b)
    → ((b : ℕ) → test b ≡ true → is_lead b ≡ false)
    → are_chars test false l.t ≡ are_chars test false (drop l.i l.t))

abbrev pub decreases-loop-i : goal.decreases-loop-i
decreases-loop-i g l = length l.t - l.i
