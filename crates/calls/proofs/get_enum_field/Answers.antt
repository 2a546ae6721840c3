-- `calls::get_enum_field` meets its contract: its parts, one after the other. Assumes nothing.
use Rattle.text.proofs.Laws.{◌⨾◌}
use Rattle.calls.proofs.get_enum_field.Goals as goal

pub returns : goal.returns
returns c =
    (c.bytes-t.ensures ⨾ c.get_data_field-t.ensures ⨾ c.bytes.ensures)
