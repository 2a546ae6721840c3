-- `text::Text::number` meets its contract. The loop's invariant (`Found`): the digits that are left to write, and those found
-- so far, are the number's; and what is left has at most as many digits as there are places. Assumes nothing.
use mathlib.Core.Path.{sym, ◌∙◌}
use Prim.Native.Nat.{◌+◌, ◌-◌, ◌<◌}
use native.Mathlib.Omega.{arith}
use lib.ListN.{drop, set, length-drop, length-set}
use lib.Seq.{take_all}
use Rattle.text.proofs.DecimalLaws.{decimal-low, Found, last-digit, first-digit}
use Rattle.text.proofs.DecimalLaws.{last_digits}
use Rattle.text.proofs.Text.number.Goals as goal
use Rattle.text.proofs.Text.number.Goals.{Joined-left-ge10, then-left-ge10, else-left-ge10}

pub returns-then-n-lt10 : goal.returns-then-n-lt10
returns-then-n-lt10 c = rw (decimal-low _ c.if-n-lt10.true) c.byte.ensures

pub loop-left-preserved : goal.loop-left-preserved
loop-left-preserved c = last_digits c.loop-left.invariant c.loop-left-test.true

-- where the arms meet, one digit is left to write
one_left : (c : Joined-left-ge10)
    → Found c.args.n c.if-left-ge10.digits c.if-left-ge10.i c.if-left-ge10.left
    × (c.if-left-ge10.left < 10)
one_left c =
    elim c.if-left-ge10.branch [
      | then-left-ge10 w ↦ rw (w.digits-is, w.i-is, w.left-is)
          (last-digit c.loop-left.invariant w.if-left-ge10.true, omega arith)
      | else-left-ge10 w ↦ rw (w.digits-is, w.i-is, w.left-is) (c.loop-left.invariant, omega arith)
    ]

pub returns : goal.returns
returns c =
    let f = one_left (goal.at.returns c).Joined-left-ge10 in
    let whole = take_all (20 - c.if-left-ge10.i)
    (drop c.if-left-ge10.i (set c.if-left-ge10.digits c.if-left-ge10.i (48 + c.if-left-ge10.left)))
    (simp (length-drop, length-set) (omega (arith, f.0))) in
    rw (first-digit f.0 f.1 ∙ sym whole) c.bytes.ensures
