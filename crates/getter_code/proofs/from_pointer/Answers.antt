-- `getter_code::from_pointer` meets its contract: its parts, one after the other. Assumes nothing.
use Rattle.text.proofs.Laws.{◌⨾◌}
use Rattle.getter_code.proofs.Laws.{from-pointer}
use Rattle.getter_code.proofs.from_pointer.Goals as goal

pub returns : goal.returns
returns c =
    rw (← from-pointer _ _ _ _, ← c.from_pointer_head.ensures)
    (c.bytes-t.ensures ⨾ c.bytes-t-2.ensures ⨾ c.number-t.ensures ⨾ c.bytes-t-3.ensures ⨾ c.pointer_default-t.ensures
    ⨾ c.bytes.ensures)
