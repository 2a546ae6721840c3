-- `text::Text::margin` meets its contract: at level 0 there is none. Assumes nothing.
use Rattle.text.specs.Lines.{margin}
use Rattle.text.proofs.Laws.{nothing-at, at-once}
use Rattle.text.proofs.LinesLaws.{margin-none}
use Rattle.text.proofs.Text.margin.Goals as goal

pub returns-then-self-eq0 : goal.returns-then-self-eq0
returns-then-self-eq0 c = nothing-at (rw c.if-self-eq0.true margin-none)

pub returns : goal.returns
unfolding margin
returns c = at-once c.indent.ensures
