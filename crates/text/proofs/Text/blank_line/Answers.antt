-- `text::Text::blank_line` meets its contract, by computation. Assumes nothing.
use Rattle.text.specs.Lines.{to_lines, ended}
use Rattle.text.proofs.Laws.{flat}
use Rattle.text.proofs.Text.blank_line.Goals as goal

pub returns : goal.returns
unfolding to_lines ended
returns c = flat c.byte.ensures
