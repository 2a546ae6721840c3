-- `type_parts::displayed` meets its contract. Assumes nothing.
use Rattle.text.proofs.Laws.{◌⨾◌}
use Rattle.type_parts.proofs.displayed.Goals as goal

pub returns : goal.returns
returns c = c.bytes-t.ensures ⨾ c.bytes-t-2.ensures ⨾ c.display.ensures
