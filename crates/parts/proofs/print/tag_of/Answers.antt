-- `parts::print::tag_of` meets its contract: what the index has for the number is the node's entry. Assumes nothing.
use mathlib.Core.Path.{sym}
use Rattle.parts.proofs.LeftLaws.{node-found}
use Rattle.parts.proofs.print.tag_of.Goals as goal

pub returns-in-Some : goal.returns-in-Some
returns-in-Some c =
    λ s ns n x i.
    let e = node-found s ns _ _ n _ c.nth.ensures x i in
    sym (rw c.in-Some.is at e).tag-offset

pub returns-in-None : goal.returns-in-None
returns-in-None c =
    λ s ns n x i.
    let e = node-found s ns _ _ n _ c.nth.ensures x i in
    absurd (rw c.in-None.is at e)
