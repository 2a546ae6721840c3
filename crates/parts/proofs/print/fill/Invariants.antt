use Rattle.parts.specs.Steps.{most_left}
use Rattle.parts.proofs.LeftLaws.{Filling}
use Rattle.parts.proofs.print.fill.Given as goal

abbrev pub invariant-loop-next : goal.invariant-loop-next
invariant-loop-next l = Filling l.sheet.source.bytes.now l.sheet.source.index.now l.initial.next l.initial.out l.out l.n l.next

abbrev pub decreases-loop-next : goal.decreases-loop-next
decreases-loop-next l = most_left l.sheet.source.bytes.now l.next
