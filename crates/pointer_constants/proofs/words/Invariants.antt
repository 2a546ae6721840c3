use Rattle.std.proofs.Common.{◌≡◌, drop}
use Prim.Native.Nat.{◌-◌}
use Rattle.text.proofs.Laws.{Left}
use Rattle.row.specs.Rows.{rows}
use Rattle.pointer_constants.specs.Words.{words_at, words_text}
use Rattle.pointer_constants.proofs.words.Given as goal

abbrev pub invariant-loop : goal.invariant-loop
invariant-loop l =
    (l.t.level ≡ l.initial.t.level)
    × Left l.buf l.t (words_text l.root (words_at (l.most - l.counter) (rows (drop l.at l.s))) l.initial.t.level)
    l.initial.buf l.initial.t (words_text l.root (words_at l.most (rows (drop l.from l.s))) l.initial.t.level)
