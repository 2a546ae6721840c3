-- `text::Text::broken` meets its contract: at level 0 the part is written as it stands. Assumes nothing.
use Rattle.text.proofs.Laws.{known-at}
use Rattle.text.proofs.LinesLaws.{broken-flat}
use Rattle.text.proofs.Text.broken.Goals as goal

pub returns-then-self-eq0 : goal.returns-then-self-eq0
returns-then-self-eq0 c = known-at c.if-self-eq0.true (broken-flat _) c.bytes.ensures
