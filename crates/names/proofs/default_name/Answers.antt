-- `names::default_name` meets its contract: its two texts, one after the other. Assumes nothing.
use Rattle.text.proofs.Laws.{◌⨾◌}
use Rattle.names.specs.Names.{default_name}
use Rattle.names.proofs.Laws.{name_of_lem}
use Rattle.names.proofs.default_name.Goals as goal

pub returns : goal.returns
unfolding default_name
returns c =
    c.bytes-t.ensures ⨾ (rw (name_of_lem _ _ c.camel_to_snake_case-snake.ensures.whole) at c.write_capitals.ensures)
