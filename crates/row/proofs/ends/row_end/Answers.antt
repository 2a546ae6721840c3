-- `row::row_end` meets its contract: the row ends after the first byte 10, or with the sheet. Assumes nothing.
use native.Mathlib.Omega.{arith}
use Rattle.row.proofs.Laws.{row_len-end}
use Rattle.row.proofs.ends.row_end.Goals as goal

pub returns-then-s-from : goal.returns-then-s-from
returns-then-s-from c = omega (arith, row_len-end c.args.s.now c.args.from c.if-s-from.true)
