-- `sheet::nodes` meets its contract: `Standing` says what is known at each turn, and NodesLaws what a turn makes of it.
-- Assumes nothing.
use mathlib.Core.Path.{refl, ◌∙◌}
use native.Mathlib.Omega.{arith}
use Rattle.std.proofs.lemmas.Result.{err_from_is_err_and}
use Rattle.sheet.proofs.FlagsLaws.{flagged-none}
use Rattle.sheet.proofs.NodesLaws.{standing_first, standing_full}
use Rattle.sheet.proofs.NodesLaws.{standing-no, standing-done, standing-next}
use Rattle.sheet.proofs.nodes.Goals as goal

pub loop-count-init : goal.loop-count-init
loop-count-init c = (refl, standing_first _ _ _ _ _ refl (omega (arith, c.requires.0)) c.requires.1 _ c.first_mark-marks.ensures)

pub returns-in_err-one : goal.returns-in_err-one
returns-in_err-one c =
    let p = err_from_is_err_and c.from_residual.result c.from_residual.ensures.1 in
    rw (p.1, p.2)
    (standing-no _ _ _ _ _ _ _ _ c.loop-count.invariant.1 c.loop-count-test.true _ c.in_err-one.ensures _)

pub returns-then-s-one : goal.returns-then-s-one
returns-then-s-one c =
    rw c.store.ensures
    (standing-done _ _ _ _ _ _ _ _ c.loop-count.invariant.1 c.loop-count-test.true _ _ _ c.in_ok-one.ensures
    c.node.auto.index c.if-s-one.true)

pub loop-count-preserved : goal.loop-count-preserved
loop-count-preserved c = (
  c.node.auto.index ∙ c.loop-count.invariant.0,
  standing-next _ _ _ _ _ _ _ _ c.loop-count.invariant.1 c.loop-count-test.true _ _ _ c.in_ok-one.ensures
      c.node.auto.index c.if-s-one.false,
)

pub returns : goal.returns
returns c = standing_full _ _ _ _ _ _ _ _ c.loop-count.invariant.1 _ c.loop-count-test.false

pub invariant_of-groups : goal.invariant_of-groups
invariant_of-groups c = (omega arith, refl, flagged-none _)
