use mathlib.Core.Path.{◌≡◌}
use lib.ListN.{length, drop}
use Rattle.row.specs.Rows.{rows}
use Rattle.sheet.proofs.ParamsLaws.{Passing}
use Rattle.sheet.proofs.params.Given as goal

abbrev pub invariant-loop-next : goal.invariant-loop-next
invariant-loop-next l =
    (length l.index ≡ length l.initial.index)
    × Passing l.s (rows (drop l.from l.s)) l.marks l.initial.index l.index l.at l.count l.place

abbrev pub decreases-loop-next : goal.decreases-loop-next
decreases-loop-next l = length (rows (drop l.at l.s))
