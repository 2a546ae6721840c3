use mathlib.Core.Path.{◌≡◌}
use lib.ListN.{length, drop}
use Rattle.row.specs.Rows.{rows}
use Rattle.sheet.specs.Steps.{Room, groups_after}
use Rattle.sheet.proofs.fields.Given as goal

abbrev pub invariant-loop-next : goal.invariant-loop-next
invariant-loop-next l =
    Room l.groups.0 (rows (drop l.at l.s))
    × (groups_after l.initial.groups.1 (rows (drop l.from l.s)) ≡ groups_after l.groups.1 (rows (drop l.at l.s)))

abbrev pub decreases-loop-next : goal.decreases-loop-next
decreases-loop-next l = length (rows (drop l.at l.s))
