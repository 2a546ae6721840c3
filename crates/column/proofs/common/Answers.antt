-- `column::common` meets its contract: the columns are sixteen spaces, four bytes and one. Assumes nothing.
use mathlib.Core.Path.{◌∙◌, sym}
use native.Mathlib.Omega.{arith}
use Rattle.std.specs.Cmp.Lexicographic.{same_text}
use Rattle.column.proofs.Laws.{digit_behind, no_discriminant}
use Rattle.column.proofs.common.Goals as goal

pub returns-then-eq-2 : goal.returns-then-eq-2
returns-then-eq-2 c n is =
    let f = c.in_ok-front.ensures.cases in
    let g = c.in_ok-four.ensures.cases in
    digit_behind c.args.t.now _ _ _ _ f.0 f.1 g.0 g.1 (omega arith) (same_text _ _ c.if-eq.ensures)
    (same_text _ _ c.if-eq-2.ensures) ∙ sym c.digit.ensures ∙ is

pub returns-then-b-eq53 : goal.returns-then-b-eq53
returns-then-b-eq53 c n is =
    let f = c.in_ok-front.ensures.cases in
    let g = c.in_ok-four.ensures.cases in
    no_discriminant c.args.t.now _ _ _ _ f.0 f.1 g.0 g.1 (omega arith) (same_text _ _ c.if-eq-3.ensures)
    (same_text _ _ c.if-eq-4.ensures) c.if-b-eq53.true ∙ is
