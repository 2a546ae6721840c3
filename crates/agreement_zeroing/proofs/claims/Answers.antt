-- `agreement_zeroing::claims` meets its contract: the claim is a law. Assumes nothing.
use Rattle.agreement_zeroing.proofs.ClaimLaws.{zeroing_holds}
use Rattle.agreement_zeroing.proofs.claims.Goals as goal

pub returns : goal.returns
returns c = zeroing_holds
