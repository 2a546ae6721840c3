-- `setter_code::set_close` meets its contract: its parts, one after the other. Assumes nothing.
use Rattle.text.proofs.Laws.{◌⨾◌}
use Rattle.setter_code.proofs.set_close.Goals as goal

pub returns : goal.returns
returns c =
    (c.bytes-t.ensures ⨾ c.bytes-t-2.ensures ⨾ c.bytes.ensures)
