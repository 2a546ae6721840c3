-- `parts::print::enter` meets its contract: by what the index has for the number, one law of LeftLaws. Assumes nothing.
use Rattle.parts.proofs.LeftLaws.{enter-found, enter-none}
use Rattle.parts.proofs.print.enter.Goals as goal

pub returns-in-Some : goal.returns-in-Some
returns-in-Some c = enter-found _ _ _ c.nth.ensures _ c.in-Some.is

pub returns-in-None : goal.returns-in-None
returns-in-None c = enter-none _ _ _ c.nth.ensures c.in-None.is
