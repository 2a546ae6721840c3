-- `tree::words_up_to` meets its contract. The loop's invariant: what was counted and what is left make the whole.
-- Assumes nothing.
use mathlib.Core.Path.{sym, ◌∙◌}
use native.Mathlib.Omega.{arith}
use Rattle.std.proofs.lemmas.Result.{err_from_is_err_and}
use Rattle.tree.specs.Reader.{got}
use Rattle.tree.proofs.WalkLaws.{end-next, end-refused}
use Rattle.tree.proofs.SlotLaws.{count-start, count-full, count-on, count-stop}
use Rattle.tree.proofs.words_up_to.Goals as goal

pub loop-count-init : goal.loop-count-init
loop-count-init c = count-start _ _

pub loop-count-preserved : goal.loop-count-preserved
loop-count-preserved c =
    let w = c.in-Some.ensures in
    sym (count-on _ _ _ _ w.value c.loop-count-test.true w.says w.rest) ∙ c.loop-count.invariant

pub returns-in_err-next : goal.returns-in_err-next
returns-in_err-next c =
    let p = err_from_is_err_and c.from_residual.result c.from_residual.ensures.1 in
    rw (p.1, p.2)
    (sym (end-refused (got c.loop-count.count) c.args.s.now 87 c.loop-count.at _ _ (sym c.end_at.ensures ∙ c.in_err-next.was))
    ∙ sym (count-stop _ _ c.next-row.ensures.line_value c.in_default.ensures _ _ c.loop-count-test.true)
    ∙ c.loop-count.invariant)

pub returns-in_default : goal.returns-in_default
returns-in_default c =
    sym (end-next (got c.loop-count.count) c.args.s.now 87 c.loop-count.at _ _ (sym c.end_at.ensures ∙ c.in_ok-next.was))
    ∙ sym (count-stop _ _ c.next-row.ensures.line_value c.in_default.ensures _ _ c.loop-count-test.true)
    ∙ c.loop-count.invariant

pub returns : goal.returns
returns c = sym (count-full _ _ _ (omega arith)) ∙ c.loop-count.invariant
