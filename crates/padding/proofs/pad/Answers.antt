-- `padding::pad` meets its contract. The loop's invariant: the rows that are left, put now, make what all make from the start.
-- Assumes nothing.
use native.Mathlib.Omega.{arith}
use Rattle.row.proofs.Laws.{row-bounds, rows_out}
use Rattle.text.proofs.Laws.{left-more, left-none}
use Rattle.padding.specs.Padded.{padded_rows, padded_text}
use Rattle.padding.proofs.Laws.{rows-turn}
use Rattle.padding.proofs.pad.Goals as goal

pub loop-at-preserved : goal.loop-at-preserved
loop-at-preserved c =
    let row = rows-turn _ _ _ c.loop-at-test.true c.row_end-end.ensures in (
      (row-bounds _ _ _ c.loop-at-test.true c.row_end-end.ensures).1,
      omega arith,
      left-more (rw row at c.loop-at.invariant.2) c.pad_row-out.ensures,
    )

pub returns : goal.returns
unfolding padded_rows padded_text
returns c = left-none (rw (rows_out _ _ c.loop-at-test.false) at c.loop-at.invariant.2)

pub slice_bounds-pad_row-end : goal.slice_bounds-pad_row-end
slice_bounds-pad_row-end c = (row-bounds _ _ _ c.loop-at-test.true c.row_end-end.ensures).1

pub loop-at-smaller : goal.loop-at-smaller
loop-at-smaller c = omega (arith, row-bounds _ _ _ c.loop-at-test.true c.row_end-end.ensures)
