-- `printed::claims` meets its contract: the two laws. Assumes nothing.
use Rattle.printed.proofs.Sheets.{reads-printed, prints_read}
use Rattle.printed.proofs.claims.Goals as goal

pub returns : goal.returns
returns c = (reads-printed, prints_read)
