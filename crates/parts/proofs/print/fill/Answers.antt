-- `parts::print::fill` meets its contract. At each turn the bytes so far are what is printed up to the next place. Assumes
-- nothing.
use Rattle.parts.proofs.LeftLaws.{filling-more}
use Rattle.parts.proofs.print.fill.Goals as goal

pub loop-next-preserved : goal.loop-next-preserved
loop-next-preserved c =
    let l = c.loop-next.out in
    let l' = c.step-turn.new.out in
    let n = c.loop-next.n in
    let turn = rw c.in-Some.is at c.step-turn.ensures in
    filling-more _ _ _ _ l n _ c.loop-next.invariant l' _ _ c.step-turn.auto.out turn.within turn.said
    (c.step-turn.ensures.fewer (c.in_default.not-End))
