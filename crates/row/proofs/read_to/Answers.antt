-- `row::read_to` meets its contract: the first byte 10 past the least bytes of the letter (`read-past`), or the row's own.
-- Assumes nothing.
use native.Mathlib.Omega.{arith}
use Rattle.row.proofs.NextLaws.{read-past, read_first}
use Rattle.row.proofs.read_to.Goals as goal

pub returns-in-Some : goal.returns-in-Some
returns-in-Some c =
    let a = c.args in
    read-past a.s.now a.at _ _ (omega arith) c.in-Some.ensures c.least_length-k.ensures

pub returns : goal.returns
returns c = read_first c.args.s.now c.args.at c.requires _ c.find_newline.ensures.is
