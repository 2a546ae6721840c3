-- `sheet::mark` meets its contract: each return is one law for the rows that have a mark and those that have none.
-- Assumes nothing.
use mathlib.Core.Path.{◌∙◌}
use native.Mathlib.Omega.{arith}
use Rattle.sheet.proofs.ParamsLaws.{mark-first, mark-not, mark-put}
use Rattle.sheet.proofs.mark.Goals as goal

pub returns-then-number-eq0 : goal.returns-then-number-eq0
returns-then-number-eq0 c =
    let put = mark-put _ _ _ _ c.if-number-gt0.true c.if-number-eq0.true in
    (c.store.ensures ∙ put.0, put.1)

pub returns : goal.returns
returns c = elim c.else-number-gt0.branch [
  | goal.else-number-gt0-via-then-number-gt0+else-number-eq0 w ↦ mark-not _ _ _ _ w.if-number-eq0.false
  | goal.else-number-gt0-via-else-number-gt0 w ↦ mark-first _ _ _ _ (omega arith)
]
