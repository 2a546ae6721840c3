-- `text::Text::byte_then_margin` meets its contract: its byte, and the margin behind it or nothing. Assumes nothing.
use Rattle.text.proofs.Laws.{◌⋄◌, flat}
use Rattle.text.proofs.Text.byte_then_margin.Goals as goal

pub returns-then-not-begins : goal.returns-then-not-begins
returns-then-not-begins c = rw c.if-not-begins.true (flat c.byte-t.ensures)

pub returns : goal.returns
returns c = rw c.if-not-begins.false (flat c.byte-t.ensures ⋄ c.margin.ensures)
