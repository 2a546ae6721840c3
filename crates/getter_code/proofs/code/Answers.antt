-- `getter_code::code` meets its contract: the fragment as a line, or between the lines of an option. Assumes nothing.
use borrow.Author.Tests.{ne_eqb}
use Rattle.text.specs.Lines.{margin, to_lines, join, stringify}
use Rattle.text.proofs.Laws.{◌⋄◌, flat, reworded}
use Rattle.getter_code.proofs.Laws.{option-lines}
use Rattle.getter_code.proofs.code.Goals as goal

pub returns-then-slot-eq0 : goal.returns-then-slot-eq0
unfolding to_lines join stringify margin
returns-then-slot-eq0 c =
    rw c.if-slot-eq0.true (c.margin-t.ensures ⋄ flat c.fragment-t.ensures ⋄ flat c.byte.ensures)

pub returns : goal.returns
returns c =
    rw (ne_eqb _ 0 c.if-slot-eq0.false) (reworded (option-lines _ _ _ _) (rw (
      ← c.is_fallible-fallible.ensures,
      ← c.null_head.ensures,
      ← c.absent.ensures,
      ← c.some_end.ensures,
    )
    (c.margin-t.ensures ⋄ flat c.bytes-t.ensures ⋄ flat c.number-t.ensures ⋄ c.broken-t.ensures ⋄ flat c.fragment-t-2.ensures
    ⋄ c.broken.ensures)))
