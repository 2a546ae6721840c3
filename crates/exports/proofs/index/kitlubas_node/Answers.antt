-- `exports::index::kitlubas_node` meets its contract: what the index has for the number, and the span of its module. Assumes
-- nothing.
use mathlib.Core.Path.{sym, ◌∙◌}
use Rattle.exports.proofs.IndexLaws.{node-none, node-some}
use Rattle.exports.proofs.index.kitlubas_node.Goals as goal

pub returns-in_default-clause-node : goal.returns-in_default-clause-node
returns-in_default-clause-node c =
    λ ns x. rw c.number.ensures (node-none c.args.s.now ns c.args.index.now x _ (sym c.in_default.is ∙ c.nth.ensures))

pub returns-clause-node : goal.returns-clause-node
returns-clause-node c =
    let span = c.text_span-start in
    λ ns x. node-some c.args.s.now ns c.args.index.now x _ _ span.result (sym c.in-Some.is ∙ c.nth.ensures) span.ensures.text
