-- `parts::print::field_turn` meets its contract: by what was read, one law of LeftLaws. Assumes nothing.
use Rattle.parts.proofs.LeftLaws.{none-turn, field-turn}
use Rattle.parts.proofs.print.field_turn.Goals as goal

pub returns-in_default-clause-said : goal.returns-in_default-clause-said
returns-in_default-clause-said c =
    let a = c.args in
    none-turn a.sheet.now.source.bytes.now a.sheet.now.source.index.now a.node a.at a.out.now a.out.now
    (rw c.in_default.is at c.read.ensures.first) _ c.next_node.ensures

pub returns-clause-said : goal.returns-clause-said
returns-clause-said c =
    let a = c.args in
    let written = c.write_field-fit in
    rw c.next.ensures
    (field-turn a.sheet.now.source a.sheet.now.rooted a.node a.at a.out.now written.new.out c.in-Some.field
    (λ fs here. rw c.in-Some.is at (c.read.ensures.first fs here)) c.tag_of.result c.tag_of.ensures
    written.result written.ensures.said)
