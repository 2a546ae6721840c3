use Rattle.std.proofs.Common.{◌-◌}
use Rattle.text.proofs.Laws.{Left}
use Rattle.padding.specs.Padded.{words_padded}
use Rattle.padding.proofs.words_padded.Given as goal

abbrev pub invariant-loop : goal.invariant-loop
invariant-loop l =
    Left l.buf l.out (words_padded (l.count - l.counter) l.rest) l.initial.buf l.initial.out (words_padded l.count l.r)
