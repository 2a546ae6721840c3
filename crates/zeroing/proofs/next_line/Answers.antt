-- `zeroing::next_line` meets its contract: a line that is there again, or a line with its margin and its byte 10. Assumes
-- nothing.
use Rattle.zeroing.proofs.GroupLaws.{line-again, line-new}
use Rattle.zeroing.proofs.next_line.Goals as goal

pub returns-then-again : goal.returns-then-again
returns-then-again c =
    line-again c.args.line.offset c.args.again c.requires c.clears-clear.ensures c.if-again.true

pub returns : goal.returns
returns c =
    line-new c.args.line.offset c.args.again c.requires c.clears-clear.ensures c.if-again.false c.margin-t.ensures
    c.write-t.ensures c.byte-text.ensures
