use lib.ListN.{drop}
use Rattle.text.proofs.Laws.{Left}
use Rattle.pointer_constants.proofs.Laws.{bytes_text}
use Rattle.pointer_constants.proofs.bytes.Given as goal

abbrev pub invariant-loop-byte : goal.invariant-loop-byte
invariant-loop-byte l =
    Left l.buf l.t (bytes_text (drop l.byte-index l.byte-items)) l.initial.buf l.initial.t (bytes_text l.byte-items)
