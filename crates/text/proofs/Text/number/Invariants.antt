use Rattle.text.proofs.DecimalLaws.{Found}
use Rattle.text.proofs.Text.number.Given as goal

abbrev pub invariant-loop-left : goal.invariant-loop-left
invariant-loop-left l = Found l.n l.digits l.i l.left

abbrev pub decreases-loop-left : goal.decreases-loop-left
decreases-loop-left l = l.i
