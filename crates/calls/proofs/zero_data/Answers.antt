-- `calls::zero_data` meets its contract: its parts, one after the other. Assumes nothing.
use Rattle.text.proofs.Laws.{◌⨾◌}
use Rattle.calls.proofs.Laws.{zero-data}
use Rattle.calls.proofs.zero_data.Goals as goal

pub returns : goal.returns
returns c =
    rw (← zero-data _ _)
    (c.bytes-t.ensures ⨾ c.bytes-t-2.ensures ⨾ c.bytes-t-3.ensures ⨾ c.number-t.ensures ⨾ c.bytes-t-4.ensures
    ⨾ c.bytes-t-5.ensures ⨾ c.bytes.ensures)
