-- `zeroing::tag_line` meets its contract: no tag, or a line with its margin and its byte 10. Assumes nothing.
use Rattle.zeroing.proofs.GroupLaws.{tag_none, tag_some}
use Rattle.zeroing.proofs.tag_line.Goals as goal

pub returns-then-tag_count-eq0 : goal.returns-then-tag_count-eq0
returns-then-tag_count-eq0 c = tag_none c.args.tag_offset c.if-tag_count-eq0.true

pub returns : goal.returns
returns c =
    tag_some c.args.tag_offset c.if-tag_count-eq0.false c.margin-t.ensures c.zero_tag-t.ensures c.byte-text.ensures
