-- `programs::next_sheet` meets its contract, by where the line ends. Assumes nothing.
use native.Mathlib.Omega.{arith}
use Rattle.programs.proofs.InputLaws.{sheet-none, sheet-some}
use Rattle.programs.proofs.next_sheet.Goals as goal

pub returns-then-s-line-clause-sheet : goal.returns-then-s-line-clause-sheet
returns-then-s-line-clause-sheet c =
    sheet-none c.args.s.now c.args.from _ c.line_end-line.ensures.end c.if-s-line.true

pub returns-clause-sheet : goal.returns-clause-sheet
returns-clause-sheet c =
    sheet-some c.args.s.now c.args.from _ c.number.result _ c.line_end-line.ensures.end (omega arith) c.number.ensures
    (omega arith)
