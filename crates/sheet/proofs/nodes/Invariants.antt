use mathlib.Core.Path.{◌≡◌}
use lib.ListN.{length}
use Rattle.sheet.proofs.NodesLaws.{Standing}
use Rattle.sheet.proofs.nodes.Given as goal

abbrev pub invariant-loop-count : goal.invariant-loop-count
invariant-loop-count l =
    (length l.index ≡ length l.initial.index)
    × Standing l.s l.from l.index l.ids l.groups l.count l.marks l.at
