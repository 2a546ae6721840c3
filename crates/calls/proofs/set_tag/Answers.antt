-- `calls::set_tag` meets its contract: its parts, one after the other. Assumes nothing.
use Rattle.text.proofs.Laws.{◌⨾◌}
use Rattle.calls.specs.Calls.{set_data_field}
use Rattle.calls.proofs.set_tag.Goals as goal

pub returns : goal.returns
unfolding set_data_field
returns c =
    (c.bytes-t.ensures ⨾ c.number-t.ensures ⨾ c.bytes-t-2.ensures ⨾ c.number-t-2.ensures ⨾ c.bytes.ensures)
