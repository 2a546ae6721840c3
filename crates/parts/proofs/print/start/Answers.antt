-- `parts::print::start` meets its contract: the first node's fields, or the sheet's refusal. Assumes nothing.
use Rattle.parts.proofs.SheetLaws.{start-sheet, start-refused}
use Rattle.parts.proofs.print.start.Goals as goal

pub returns-in-Ok : goal.returns-in-Ok
returns-in-Ok c =
    λ room. start-sheet _ _ _ tt (rw c.in-Ok.is at c.admit.ensures.answer) (c.admit.ensures.index room)
    (rw c.new.ensures.index-is at c.enter.ensures)

pub returns-in-Err : goal.returns-in-Err
returns-in-Err c = λ room. start-refused _ c.admit.new.index _ (rw c.in-Err.is at c.admit.ensures.answer)
