-- `row::part` meets its contract: each letter is one law, and one where its row does not fit. Assumes nothing.
use native.Mathlib.Omega.{arith}
use Rattle.row.proofs.PartLaws.{part_type, part-scope, part-known}
use Rattle.row.proofs.parts.part.Goals as goal

pub returns-else-left-lt86 : goal.returns-else-left-lt86
returns-else-left-lt86 c =
    let a = c.args in
    part_type a.s.now a.at c.if-end-at.false c.in-84.is _ c.type_owed.ensures

pub returns-else-left-lt65 : goal.returns-else-left-lt65
returns-else-left-lt65 c =
    let a = c.args in
    part-scope a.s.now a.at c.if-end-at.false c.in-83.is _
    (part-known a.s.now a.at 43 65 (omega arith) (omega arith) _ c.known.ensures)
