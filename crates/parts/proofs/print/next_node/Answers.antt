-- `parts::print::next_node` meets its contract: no node has a number from 64 on. Assumes nothing.
use native.Mathlib.Omega.{arith}
use Rattle.parts.proofs.LeftLaws.{enter_out}
use Rattle.parts.proofs.print.next_node.Goals as goal

pub returns-then-node-ge-NODES : goal.returns-then-node-ge-NODES
returns-then-node-ge-NODES c = enter_out _ _ (omega (arith, c.if-node-ge-NODES.true))
