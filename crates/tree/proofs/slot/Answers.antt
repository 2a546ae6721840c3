-- `tree::slot` meets its contract: a type, a V row and its words, one after the other. Assumes nothing.
use mathlib.Core.Path.{ap, ◌∙◌}
use native.Mathlib.Omega.{arith}
use Rattle.std.specs.Prelude.{Ok}
use Rattle.std.proofs.lemmas.Result.{err_from_is_err_and}
use Rattle.tree.proofs.ElseLaws.{other-than}
use Rattle.tree.proofs.WalkLaws.{walked_wrong}
use Rattle.tree.proofs.SlotLaws.{slot-type, slot-value, slot-words}
use Rattle.tree.proofs.slot.Goals as goal

pub returns-in_err-end : goal.returns-in_err-end
returns-in_err-end c =
    let p = err_from_is_err_and c.from_residual.result c.from_residual.ensures.1 in
    λ o m. rw (p.1, p.2) (slot-type o _ m _ _ _ (rw c.in_err-end.was at c.typ.ensures))

pub returns-in_default : goal.returns-in_default
returns-in_default c =
    let g = c.next-row.ensures in
    λ o p.
    rw c.wrong_at.ensures
    (walked_wrong c.args.s.now 86 _ c.next-row.result.line
    ∙ slot-value _ _ _ g.line_value g.s_value o _ p _ (rw c.in_ok-end.was at c.typ.ensures)
    (other-than 8 c.next-row.result.line (λ f e h. grind arith)))

pub returns : goal.returns
returns c =
    let g = c.next-row.ensures in
    let w = c.in-Ok-Value in
    let f = rw w.is at w.field-0-is in
    λ o p. slot-words _ _ _ g.line_value g.s_value o _ p _ (rw c.in_ok-end.was at c.typ.ensures) _ _ _ _ (w.is ∙ ap Ok f)
    c.has_words.ensures c.words.ensures
