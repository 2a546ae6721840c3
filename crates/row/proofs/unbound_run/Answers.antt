-- `row::unbound_run` meets its contract: the U rows in front of what stands from the position on, of which no more than `most`
-- rows are looked at. Assumes nothing.
use Prim.Native.Nat.{◌+◌, ◌-◌, ◌*◌}
use native.Mathlib.Omega.{arith}
use Rattle.row.proofs.UnboundLaws.{run, run_none}
use Rattle.row.proofs.unbound_run.Goals as goal

pub returns-then-s-at-clause-rows : goal.returns-then-s-at-clause-rows
returns-then-s-at-clause-rows c = (run_none c.args.s.now c.args.at c.args.most).1.1

pub returns-clause-rows : goal.returns-clause-rows
returns-clause-rows c =
    let a = c.args in
    let u = c.unbound_front.ensures in
    let few = c.min-few.result in
    (run a.s.now a.at (a.at + 2 * few - a.at) _ a.most u.within u.rows (omega arith)).1.1
