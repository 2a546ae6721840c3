-- `parts::header` meets its contract: the opening, the name and byte 10. Assumes nothing.
use Rattle.text.proofs.Laws.{◌⨾◌}
use Rattle.parts.specs.Program.{header_text}
use Rattle.parts.proofs.header.Goals as goal

pub returns : goal.returns
unfolding header_text
returns c = c.opening-t.ensures ⨾ c.bytes-t.ensures ⨾ c.byte.ensures
