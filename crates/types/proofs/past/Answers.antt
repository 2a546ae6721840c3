-- `types::past` meets its contract. The loop's invariant: what is owed from here on leads to where the whole leads, if all rows
-- are there; a run of U rows is passed over at once, and each turn begins further on. Assumes nothing.
use lib.ListN.{drop}
use Prim.Native.Nat.{◌+◌, ◌-◌}
use native.Mathlib.Omega.{arith}
use Rattle.row.specs.Rows.{rows}
use Rattle.types.proofs.Laws.{Onward, ◌on◌, onward_run, onward_row, past-done, past_end, past_far}
use Rattle.types.proofs.past.Goals as goal
use Rattle.types.proofs.past.Goals.{After-part-part}

-- after one row
row : (c : After-part-part)
    → Onward (rows (drop c.args.from c.args.s.now)) c.args.count (rows (drop c.part-part.result.next c.args.s.now))
    (c.part-part.result.owed + (c.loop-n.n - 1))
row c = c.loop-n.invariant.1 on onward_row c.args.s.now _ _ _ c.part-part.ensures (omega arith)

pub returns-in_default-clause-rows : goal.returns-in_default-clause-rows
returns-in_default-clause-rows c =
    past_far c.args.s.now c.part-part.result.next (c.part-part.result.owed + (c.loop-n.n - 1))
    (row (goal.at.returns-in_default-clause-rows c).After-part-part) (omega (arith, c.in_default.ensures))

-- and after a run of U rows behind it
pub loop-n-preserved : goal.loop-n-preserved
loop-n-preserved c =
    let run = c.unbound_run-run.ensures in
    let here = (goal.at.loop-n-preserved c).After-part-part in
    (omega arith, rw c.in-Some.ensures.1 (row here) on onward_run _ _ _ _ run.few run.rows)

pub returns-else-at-s-clause-rows : goal.returns-else-at-s-clause-rows
returns-else-at-s-clause-rows c = past_end _ _ _ c.loop-n.invariant.1 c.if-at-s.false

pub returns-after-loop-n-clause-rows : goal.returns-after-loop-n-clause-rows
returns-after-loop-n-clause-rows c = past-done c.loop-n.invariant.1 c.loop-n-test.false
