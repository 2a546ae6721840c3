use Rattle.std.proofs.Common.{map, drop}
use Rattle.text.proofs.Laws.{Left}
use Rattle.names.specs.Names.{to_ascii_uppercase}
use Rattle.names.proofs.Snake.write_capitals.Given as goal

abbrev pub invariant-loop-b : goal.invariant-loop-b
invariant-loop-b l =
    Left l.buf l.t (map to_ascii_uppercase (drop l.b-index l.b-items))
    l.initial.buf l.initial.t (map to_ascii_uppercase l.b-items)
