-- `requests::claims` meets its contract. Assumes nothing.
use Rattle.requests.proofs.LevelLaws.{levels-hold}
use Rattle.requests.proofs.claims.Goals as goal

pub returns : goal.returns
returns c = levels-hold
