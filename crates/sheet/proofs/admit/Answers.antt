-- `sheet::admit` meets its contract: a sheet that is too long is refused, and for any other `read` says it. Assumes nothing.
use Rattle.sheet.proofs.AdmitLaws.{too-long-answer, too-long-index}
use Rattle.sheet.proofs.admit.Goals as goal

pub returns-then-s-gt-MOST_BYTES-clause-answer : goal.returns-then-s-gt-MOST_BYTES-clause-answer
returns-then-s-gt-MOST_BYTES-clause-answer c = too-long-answer _ c.if-s-gt-MOST_BYTES.true

pub returns-then-s-gt-MOST_BYTES-clause-index : goal.returns-then-s-gt-MOST_BYTES-clause-index
returns-then-s-gt-MOST_BYTES-clause-index c = λ room. too-long-index _ _ c.if-s-gt-MOST_BYTES.true
