-- `text::Text::no_lines` meets its contract, by computation. Assumes nothing.
use Rattle.text.specs.Lines.{to_lines, flat_map, join, stringify}
use Rattle.text.proofs.Laws.{flat}
use Rattle.text.proofs.Text.no_lines.Goals as goal

pub returns : goal.returns
unfolding to_lines flat_map join stringify
returns c = flat c.byte.ensures
