use lib.ListN.{length, drop}
use Prim.Native.Nat.{◌-◌, ◌≤◌}
use Rattle.row.specs.Rows.{rows}
use Rattle.types.proofs.Laws.{Onward}
use Rattle.types.proofs.past.Given as goal

abbrev pub invariant-loop-n : goal.invariant-loop-n
invariant-loop-n l = (l.from ≤ l.at) × Onward (rows (drop l.from l.s)) l.count (rows (drop l.at l.s)) l.n

abbrev pub decreases-loop-n : goal.decreases-loop-n
decreases-loop-n l = length l.s - l.at
