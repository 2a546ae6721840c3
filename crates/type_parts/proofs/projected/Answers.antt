-- `type_parts::projected` meets its contract. Assumes nothing.
use Rattle.text.proofs.Laws.{◌⨾◌}
use Rattle.type_parts.proofs.projected.Goals as goal

pub returns : goal.returns
returns c = c.byte-t.ensures ⨾ c.bytes-t.ensures ⨾ c.bytes-t-2.ensures ⨾ c.bytes-t-3.ensures ⨾ c.bytes.ensures
