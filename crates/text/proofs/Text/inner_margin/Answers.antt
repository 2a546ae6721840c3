-- `text::Text::inner_margin` meets its contract: the margin, and a step more. Assumes nothing.
use mathlib.Core.Path.{sym}
use Rattle.text.proofs.Laws.{◌⋄◌, flat, reworded}
use Rattle.text.proofs.LinesLaws.{margin-more}
use Rattle.text.proofs.Text.inner_margin.Goals as goal

pub returns : goal.returns
returns c = reworded (λ n. sym (margin-more n)) (c.margin-t.ensures ⋄ flat c.bytes.ensures)
