-- `verdict::report::tally` meets its contract: four fragments, one after the other. Assumes nothing.
use Rattle.text.proofs.Laws.{◌⨾◌}
use Rattle.verdict.specs.Report.{tally}
use Rattle.verdict.proofs.report.tally.Goals as goal

pub returns : goal.returns
unfolding tally
returns c = c.number-t.ensures ⨾ c.bytes-t.ensures ⨾ c.number-t-2.ensures ⨾ c.bytes.ensures
