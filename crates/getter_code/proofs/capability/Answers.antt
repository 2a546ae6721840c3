-- `getter_code::capability` meets its contract: its parts, one after the other. Assumes nothing.
use Rattle.text.proofs.Laws.{◌⨾◌}
use Rattle.getter_code.proofs.Laws.{capability-parts}
use Rattle.getter_code.proofs.capability.Goals as goal

pub returns : goal.returns
returns c =
    rw (← capability-parts _ _ _, ← c.capability_head.ensures)
    (c.bytes-t.ensures ⨾ c.number-t.ensures ⨾ c.bytes-t-2.ensures ⨾ c.bytes-t-3.ensures ⨾ c.bytes.ensures)
