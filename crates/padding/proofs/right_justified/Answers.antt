-- `padding::right_justified` meets its contract. The loop's invariant: the spaces that are left and the word, put now, make what
-- all make from the start. Assumes nothing.
use Rattle.text.proofs.Laws.{left-all, left-more}
use Rattle.padding.specs.Padded.{right_justified}
use Rattle.padding.proofs.Laws.{spaces-turn}
use Rattle.padding.proofs.right_justified.Goals as goal

pub loop-init : goal.loop-init
unfolding right_justified
loop-init c = left-all

pub loop-preserved : goal.loop-preserved
loop-preserved c = left-more (rw (spaces-turn _ _ c.loop-test.true) at c.loop.invariant) c.byte-out.ensures
