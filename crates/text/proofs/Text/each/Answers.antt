-- `text::Text::each` meets its contract. The loop's invariant: what is left of `s`, put now, makes what the whole makes from
-- the start. Assumes nothing.
use lib.ListN.{drop_of_length-le}
use Rattle.text.proofs.Laws.{left-more, left-none, drop-unit}
use Rattle.text.proofs.Text.each.Goals as goal

pub loop-b-preserved : goal.loop-b-preserved
loop-b-preserved c =
    left-more (rw (drop-unit _ _ c.loop-b-test.true) at c.loop-b.invariant) c.byte-t.ensures

pub returns : goal.returns
returns c = left-none (rw (drop_of_length-le c.args.s.now c.loop-b-test.false) at c.loop-b.invariant)
