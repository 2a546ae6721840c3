-- `padding::claims` meets its contract: the two laws. Assumes nothing.
use Rattle.padding.proofs.SheetLaws.{pads_short, keeps-padded}
use Rattle.padding.proofs.claims.Goals as goal

pub returns : goal.returns
returns c = (pads_short, keeps-padded)
