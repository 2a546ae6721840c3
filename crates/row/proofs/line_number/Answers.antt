-- `row::line_number` meets its contract: one more than the bytes 10 in front of the position. Assumes nothing.
use borrow.Author.Rules.{rules}
use Rattle.row.proofs.Laws.{line_no_counted}
use Rattle.row.proofs.line_number.Goals as goal

pub returns : goal.returns
returns c = line_no_counted c.args.s.now c.args.at _ _ c.min.ensures (search rules)
