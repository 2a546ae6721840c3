-- `parts::write_field` meets its contract: the parts of a slot, or that of a group. Assumes nothing.
use Rattle.parts.proofs.FieldLaws.{slot-unit, group-unit}
use Rattle.parts.proofs.write_field.Goals as goal

pub returns-in-Slot-clause-said : goal.returns-in-Slot-clause-said
returns-in-Slot-clause-said c =
    let put = c.write_parts.ensures in
    rw c.in-Slot.is
    (slot-unit c.args.source.now c.args.located.now.tag c.name-name.result.now c.args.out.now c.write_parts.new.out
    c.write_parts.result c.in-Slot.slot c.name-name.ensures.name put.fits (rw c.in-Slot.is at put.said))

pub returns-in-Group-clause-said : goal.returns-in-Group-clause-said
returns-in-Group-clause-said c =
    let written = c.write_parts-in-Group in
    let put = written.ensures in
    rw c.in-Group.is
    (group-unit c.args.source.now c.args.located.now.tag c.name-name-in-Group.result.now c.args.out.now written.new.out
    written.result c.in-Group.group c.name-name-in-Group.ensures.name put.fits (rw c.in-Group.is at put.said))
