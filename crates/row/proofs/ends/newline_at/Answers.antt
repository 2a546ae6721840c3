-- `row::newline_at` meets its contract: byte 10 that stands there is the first, and otherwise it is sought. Assumes nothing.
use Rattle.row.proofs.NewlineLaws.{newline-here}
use Rattle.row.proofs.ends.newline_at.Goals as goal

pub returns-then-s-from-eq10 : goal.returns-then-s-from-eq10
returns-then-s-from-eq10 c = newline-here c.args.s.now c.args.from c.if-from-s.true c.if-s-from-eq10.true
