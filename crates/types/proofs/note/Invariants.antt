use Rattle.types.proofs.ScopeLaws.{Noting}
use Rattle.types.proofs.note.Given as goal

abbrev pub invariant-loop-k : goal.invariant-loop-k
invariant-loop-k l = Noting l.ids l.id l.at l.initial.places l.k l.places
