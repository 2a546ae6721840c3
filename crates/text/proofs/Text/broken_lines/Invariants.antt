use Rattle.std.proofs.Common.{◌≡◌, drop}
use Rattle.text.specs.Lines.{broken}
use Rattle.text.proofs.Laws.{Left}
use Rattle.text.proofs.Text.broken_lines.Given as goal

abbrev pub invariant-loop-i : goal.invariant-loop-i
invariant-loop-i l =
    (l.t.level ≡ l.initial.t.level)
    × Left l.buf l.t (broken (drop l.i l.s) l.initial.t.level) l.initial.buf l.initial.t (broken l.s l.initial.t.level)
