-- `calls::clear_pointer` meets its contract: its texts, one after the other. Assumes nothing.
use Rattle.text.proofs.Laws.{◌⨾◌}
use Rattle.calls.specs.Calls.{clear_pointer}
use Rattle.calls.proofs.clear_pointer.Goals as goal

pub returns : goal.returns
unfolding clear_pointer
returns c =
    (c.bytes-t.ensures ⨾ c.number-t.ensures ⨾ c.bytes.ensures)
