-- `nodes::skip` meets its contract: the rows after all are those after what is left from here. Assumes nothing.
use mathlib.Core.Path.{sym, ◌∙◌}
use native.Mathlib.Omega.{arith}
use Rattle.nodes.proofs.RowLaws.{row-after}
use Rattle.nodes.proofs.NameLaws.{after-turn, after_none}
use Rattle.nodes.proofs.skip.Goals as goal

pub loop-preserved : goal.loop-preserved
loop-preserved c = c.loop.invariant ∙ after-turn _ _ _ (omega arith) ∙ rw (row-after _ _ _ c.row_end-at.ensures)

pub returns : goal.returns
returns c = sym (c.loop.invariant ∙ after_none _ _ (omega arith))
