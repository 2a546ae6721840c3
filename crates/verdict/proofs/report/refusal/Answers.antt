-- `verdict::report::refusal` meets its contract: seven fragments, one after the other. Assumes nothing.
use Rattle.text.proofs.Laws.{◌⨾◌}
use Rattle.verdict.specs.Report.{refusal_text}
use Rattle.verdict.proofs.report.refusal.Goals as goal

pub returns : goal.returns
unfolding refusal_text
returns c =
    rw c.at.ensures at
    (rw c.number.ensures at
    (c.bytes-t.ensures ⨾ c.number-t.ensures ⨾ c.bytes-t-2.ensures ⨾ c.number-t-2.ensures ⨾ c.bytes-t-3.ensures
    ⨾ c.number-t-3.ensures ⨾ c.bytes.ensures))
