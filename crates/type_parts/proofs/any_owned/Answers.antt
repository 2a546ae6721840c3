-- `type_parts::any_owned` meets its contract. Assumes nothing.
use Rattle.text.proofs.Laws.{◌⨾◌}
use Rattle.type_parts.proofs.any_owned.Goals as goal

pub returns : goal.returns
returns c = c.bytes-t.ensures ⨾ c.bytes.ensures
