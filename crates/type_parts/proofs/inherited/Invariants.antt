use Rattle.type_parts.proofs.NamesLaws.{Naming}
use Rattle.type_parts.proofs.inherited.Given as goal

abbrev pub invariant-loop-done : goal.invariant-loop-done
invariant-loop-done l = Naming l.s l.from l.count l.end l.initial.buf l.initial.p l.done l.at l.buf l.p
