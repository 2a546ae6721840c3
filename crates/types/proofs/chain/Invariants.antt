use mathlib.Core.Path.{◌≡◌}
use Prim.Native.Nat.{◌-◌}
use Rattle.std.specs.Prelude.{None}
use Rattle.types.proofs.ChainLaws.{Climbed}
use Rattle.types.proofs.chain.Given as goal

-- nothing is refused yet, and the way so far is noted
abbrev pub invariant-loop-node : goal.invariant-loop-node
invariant-loop-node l = record {
  none : l.links.refusal ≡ None;
  way : Climbed l.source.index.now l.id l.links.ids l.links.params l.links.counts l.links.ends l.links.count l.current;
}

abbrev pub decreases-loop-node : goal.decreases-loop-node
decreases-loop-node l = 16 - l.links.count
