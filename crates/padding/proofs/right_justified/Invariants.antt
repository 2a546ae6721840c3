use Rattle.std.proofs.Common.{◌-◌, ◌++◌, replicate}
use Rattle.text.proofs.Laws.{Left}
use Rattle.padding.specs.Padded.{right_justified}
use Rattle.padding.proofs.right_justified.Given as goal

abbrev pub invariant-loop : goal.invariant-loop
invariant-loop l = Left l.buf l.out (replicate (21 - l.counter) 32 ++ l.w) l.initial.buf l.initial.out (right_justified l.w)
