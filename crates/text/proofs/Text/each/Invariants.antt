use Rattle.std.proofs.Common.{drop}
use Rattle.text.proofs.Laws.{Left}
use Rattle.text.proofs.Text.each.Given as goal

abbrev pub invariant-loop-b : goal.invariant-loop-b
invariant-loop-b l = Left l.buf l.t (drop l.b-index l.s) l.initial.buf l.initial.t l.s
