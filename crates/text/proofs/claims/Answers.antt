-- `text::claims` meets its contract: the law of levels. Assumes nothing.
use Rattle.text.proofs.LevelLaws.{stringify-moves}
use Rattle.text.proofs.claims.Goals as goal

pub returns : goal.returns
returns c = stringify-moves
