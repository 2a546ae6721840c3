-- `agreement::claims` meets its contract: each claim is a law. Assumes nothing.
use Rattle.agreement.proofs.AnsweredLaws.{answered-holds, ran_holds}
use Rattle.agreement.proofs.ClaimLaws.{get_holds, default-holds, own_default-holds, set_holds, set_means_holds}
use Rattle.agreement.proofs.ClaimLaws.{no_meaning_holds, set-get-holds, void-holds, void_means_holds, void-set-holds}
use Rattle.agreement.proofs.ClaimLaws.{haser-holds, tag_past-holds, haser-past-holds, no-haser-holds}
use Rattle.agreement.proofs.claims.Goals as goal

pub returns : goal.returns
returns c = record {
  answered = (answered-holds, ran_holds);
  slots = (get_holds, default-holds, own_default-holds, set_holds, set_means_holds, no_meaning_holds, set-get-holds);
  voids = (void-holds, void_means_holds, void-set-holds);
  hasers = (haser-holds, tag_past-holds, haser-past-holds, no-haser-holds);
}
