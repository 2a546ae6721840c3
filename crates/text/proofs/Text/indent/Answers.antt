-- `text::Text::indent` meets its contract. The loop's invariant: the spaces of the steps that are left, put now, make what all
-- make from the start. Assumes nothing.
use mathlib.Core.Path.{◌≡◌}
use Prim.Native.Nat.{◌-◌}
use native.Mathlib.Omega.{arith}
use Rattle.text.proofs.Laws.{left-more, left-none}
use Rattle.text.proofs.LinesLaws.{spaces-step}
use Rattle.text.proofs.Text.indent.Goals as goal

pub loop-preserved : goal.loop-preserved
loop-preserved c =
    left-more (rw (spaces-step c.args.indent c.loop.counter c.loop-test.true) at c.loop.invariant) c.bytes-t.ensures

pub returns : goal.returns
returns c =
    let e : c.args.indent - c.loop.counter ≡ 0 = omega arith in
    left-none (rw e at c.loop.invariant)
