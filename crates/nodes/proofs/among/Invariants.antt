-- `nodes::among` meets its contract: what was found so far is to be found among the items passed. Assumes nothing.
use mathlib.Core.Path.{◌≡◌}
use lib.ListN.{take}
use Rattle.std.specs.List.{list_any}
use Rattle.nodes.proofs.among.Given as goal

abbrev pub invariant-loop-other : goal.invariant-loop-other
invariant-loop-other g l = l.found ≡ list_any (λ other. g.T.PartialEq.eq other l.item) (take l.other-index l.items)
