-- `programs::number` meets its contract. At each turn the number so far, with the digits that are left, gives the whole number.
-- Assumes nothing.
use mathlib.Core.Path.{sym, ◌∙◌}
use Rattle.programs.proofs.InputLaws.{number-on, number-whole}
use Rattle.programs.proofs.number.Goals as goal

pub loop-b-preserved : goal.loop-b-preserved
loop-b-preserved c =
    let l = c.loop-b in
    number-on c.args.digits.now l.b-index l.n c.digit.result c.loop-b-test.true c.digit.ensures ∙ l.invariant

pub returns : goal.returns
returns c =
    let l = c.loop-b in
    sym (number-whole c.args.digits.now l.b-index l.n c.loop-b-test.false) ∙ l.invariant
