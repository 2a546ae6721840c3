-- `field::put` meets its contract: nothing where there is no room, else the numbers of what the field is. Assumes nothing.
use mathlib.Core.Path.{ap, ◌∙◌}
use lib.Seq.{length-take-le}
use Rattle.std.specs.Prelude.{None, Some}
use Rattle.field.proofs.NumbersLaws.{nothing_by, put-none, put_some}
use Rattle.field.proofs.put.Goals as goal

pub returns-then-numbers-lt-FIELD_SIZE : goal.returns-then-numbers-lt-FIELD_SIZE
returns-then-numbers-lt-FIELD_SIZE c = put-none _ _ c.if-numbers-lt-FIELD_SIZE.true

pub copy_from_slice-requires : goal.copy_from_slice-requires
copy_from_slice-requires c = rw c.numbers.ensures (length-take-le 14 c.args.numbers.now c.if-numbers-lt-FIELD_SIZE.false)

pub returns-in-Some-Slot : goal.returns-in-Some-Slot
returns-in-Some-Slot c =
    let w = c.in-Some-Slot in
    rw (c.copy_from_slice.ensures.after, c.numbers.ensures, w.is ∙ ap Some (rw w.is at w.field-0-is))
    (put_some _ _ c.if-numbers-lt-FIELD_SIZE.false)

pub returns-in-Some-Group : goal.returns-in-Some-Group
returns-in-Some-Group c =
    let w = c.in-Some-Group in
    rw (
      c.copy_from_slice-in-Some-Group.ensures.after,
      c.numbers-in-Some-Group.ensures,
      w.is ∙ ap Some (rw w.is at w.field-0-is),
    )
    (put_some _ _ c.if-numbers-lt-FIELD_SIZE.false)

pub returns-in-None : goal.returns-in-None
returns-in-None c =
    rw c.in-None.is (nothing_by _ c.if-numbers-lt-FIELD_SIZE.false ∙ put_some _ None c.if-numbers-lt-FIELD_SIZE.false)
