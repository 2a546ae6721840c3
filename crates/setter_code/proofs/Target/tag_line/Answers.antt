-- `setter_code::Target::tag_line` meets its contract: nothing, or the line. Assumes nothing.
use mathlib.Core.Path.{refl}
use borrow.Author.Tests.{eq-eqb, ne_eqb}
use Rattle.text.proofs.Laws.{◌⋄◌, flat, nothing-at, reworded}
use Rattle.setter_code.proofs.Target.tag_line.Goals as goal

pub returns-then-self-eq-NO_DISCRIMINANT : goal.returns-then-self-eq-NO_DISCRIMINANT
returns-then-self-eq-NO_DISCRIMINANT c = nothing-at (rw (eq-eqb _ _ c.if-self-eq-NO_DISCRIMINANT.true) refl)

pub returns : goal.returns
returns c =
    reworded (λ n. rw (ne_eqb _ _ c.if-self-eq-NO_DISCRIMINANT.false) refl)
    (c.inner_margin-t.ensures ⋄ flat c.set_tag-t.ensures ⋄ flat c.bytes.ensures)
