-- `types::chain` meets its contract: `Climbed` says what is known at each turn, and ChainLaws what a turn makes of it. Each turn
-- ends the chain or adds a node, of at most 16. Assumes nothing.
use mathlib.Core.Path.{refl, sym, ◌∙◌}
use Prim.Native.Nat.{◌<◌}
use Rattle.types.proofs.ChainLaws.{climb-start, climb-few, climb-end, climb-top, climb-next}
use Rattle.types.proofs.chain.Goals as goal
use Rattle.types.proofs.chain.Goals.{In-Ok}

pub loop-node-init : goal.loop-node-init
loop-node-init c = record { none = refl; way = climb-start _ _ _ _ _ _ refl refl refl refl }

few : (c : In-Ok) → c.loop-node.links.count < 16
few c = climb-few _ _ _ _ _ _ _ _ c.loop-node.invariant.way _ (sym c.in-Ok.is ∙ c.climb.ensures)

pub returns-then-node-eq0 : goal.returns-then-node-eq0
returns-then-node-eq0 c =
    climb-top _ _ _ _ _ _ _ _ c.loop-node.invariant.way (few (goal.at.returns-then-node-eq0 c).In-Ok) _
    (sym c.in-Ok.is ∙ c.climb.ensures) c.if-node-eq0.true _ c.loop-node.invariant.none

pub loop-node-preserved : goal.loop-node-preserved
loop-node-preserved c = record {
  none = c.loop-node.invariant.none;
  way = climb-next _ _ _ _ _ _ _ _ c.loop-node.invariant.way (few (goal.at.loop-node-preserved c).In-Ok) _
      (sym c.in-Ok.is ∙ c.climb.ensures) c.if-node-eq0.false;
}

pub returns-in-Err : goal.returns-in-Err
returns-in-Err c =
    climb-end _ _ _ _ _ _ _ _ c.loop-node.invariant.way _ (sym c.in-Err.is ∙ c.climb.ensures)
