-- `pointer_constants::bytes` meets its contract: the first byte, then in a loop what is left of the others. Assumes nothing.
use Rattle.text.proofs.Laws.{left-more, left-none, ◌⨾◌}
use Rattle.pointer_constants.proofs.Laws.{more-bytes, no-bytes, word-text}
use Rattle.pointer_constants.proofs.bytes.Goals as goal

pub loop-byte-preserved : goal.loop-byte-preserved
loop-byte-preserved c =
    let b = c.from-in-loop-byte.ensures in
    left-more (left-more (rw (more-bytes _ _ c.loop-byte-test.true) at c.loop-byte.invariant) c.bytes-t.ensures)
    (rw b at c.number-t-in-loop-byte.ensures)

pub returns : goal.returns
returns c =
    rw (← word-text _ _ _ c.to_le_bytes-bytes.ensures c.from.ensures)
    (c.number-t.ensures ⨾ left-none (rw (no-bytes _ _ c.loop-byte-test.false) at c.loop-byte.invariant))
