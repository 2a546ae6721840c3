-- `parts::print::write_labelled` meets its contract: the word, then the number. Assumes nothing.
use Rattle.text.proofs.Laws.{◌⨾◌}
use Rattle.parts.proofs.print.write_labelled.Goals as goal

pub returns : goal.returns
returns c = c.bytes-t.ensures ⨾ c.number.ensures
