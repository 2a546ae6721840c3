use mathlib.Core.Path.{◌≡◌}
use Prim.Native.Nat.{◌-◌}
use lib.ListN.{drop}
use Rattle.row.specs.Rows.{rows}
use Rattle.nodes.specs.Index.{rows_after}
use Rattle.nodes.proofs.skip.Given as goal

-- the rows after all are those after what is left from here
abbrev pub invariant-loop : goal.invariant-loop
invariant-loop l = rows_after l.count (rows (drop l.from l.s)) ≡ rows_after (l.count - l.counter) (rows (drop l.at l.s))
