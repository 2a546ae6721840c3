-- `parts::claims` meets its contract: the law of the pieces. Assumes nothing.
use Rattle.parts.proofs.PieceLaws.{pieces_hold}
use Rattle.parts.proofs.print.claims.Goals as goal

pub returns : goal.returns
returns c = pieces_hold
