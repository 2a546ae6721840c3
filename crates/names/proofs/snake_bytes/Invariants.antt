use Rattle.std.proofs.Common.{true, eqb, drop}
use Rattle.text.proofs.Laws.{Left}
use Rattle.names.specs.Names.{snake_from}
use Rattle.names.proofs.snake_bytes.Given as goal

abbrev pub invariant-loop-i : goal.invariant-loop-i
invariant-loop-i l =
    Left l.buf l.t (snake_from (eqb l.i 0) (drop l.i l.name)) l.initial.buf l.initial.t (snake_from true l.name)
