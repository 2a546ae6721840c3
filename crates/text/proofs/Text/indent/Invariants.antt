use Rattle.std.proofs.Common.{◌-◌, ◌*◌}
use Rattle.text.specs.Lines.{spaces}
use Rattle.text.proofs.Laws.{Left}
use Rattle.text.proofs.Text.indent.Given as goal

abbrev pub invariant-loop : goal.invariant-loop
invariant-loop l =
    Left l.buf l.t (spaces ((l.indent - l.counter) * 4)) l.initial.buf l.initial.t (spaces (l.indent * 4))
