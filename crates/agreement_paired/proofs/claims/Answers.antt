-- `agreement_paired::claims` meets its contract: each claim is a law. Assumes nothing.
use Rattle.agreement_paired.proofs.PairedLaws.{paired_given-holds, paired_set-holds, paired_means-holds, paired_set-get-holds}
use Rattle.agreement_paired.proofs.TextLaws.{same_text-holds, other_text-holds, same_refusal-holds}
use Rattle.agreement_paired.proofs.VerdictLaws.{verdict_reads-holds, disagree-holds, both-holds, no_verdict-holds}
use Rattle.agreement_paired.proofs.claims.Goals as goal

pub returns : goal.returns
returns c = record {
  paired = (paired_given-holds, paired_set-holds, paired_means-holds, paired_set-get-holds);
  texts = (same_text-holds, other_text-holds, same_refusal-holds);
  verdicts = (verdict_reads-holds, disagree-holds, both-holds, no_verdict-holds);
}
