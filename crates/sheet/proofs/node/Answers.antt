-- `sheet::node` meets its contract: a node is its N row and what belongs to it. Assumes nothing.
use mathlib.Core.Path.{ap, ◌∙◌}
use native.Mathlib.Omega.{arith}
use Rattle.std.specs.Prelude.{Ok}
use Rattle.tree.proofs.ElseLaws.{other-than}
use Rattle.tree.proofs.WalkLaws.{walked_wrong}
use Rattle.sheet.proofs.NodeLaws.{node_other, node-double, ready_after, node-begun, node-same}
use Rattle.sheet.proofs.node.Goals as goal

pub returns-in_default : goal.returns-in_default
returns-in_default c =
    rw c.wrong_at.ensures
    (walked_wrong c.args.s.now 78 _ c.next-row.result.line
    ∙ node_other _ _ c.next-row.ensures.line_value _ _ (other-than 1 c.next-row.result.line (λ f e h. grind arith)))

pub returns-then-seen : goal.returns-then-seen
returns-then-seen c =
    let w = c.in-Ok-Node in
    let f = rw w.is at w.field-0-is in
    node-double _ _ c.next-row.ensures.line_value _ _ w.id w.parent w.scope w.is_struct w.generic w.tag_count w.tag_offset
    (w.is ∙ ap Ok f) _ c.seen.ensures c.if-seen.true

pub members-requires : goal.members-requires
members-requires c =
    let g = c.next-row.ensures in
    let w = c.in-Ok-Node in
    let f = rw w.is at w.field-0-is in (
      ready_after _ _ _ _ _ c.requires g.s_value,
      node-begun _ _ _ _ g.line_value g.s_value _ _ _ _ _ _ _ (w.is ∙ ap Ok f) _ c.requires.nodes,
    )

pub returns : goal.returns
returns c =
    let g = c.next-row.ensures in
    let w = c.in-Ok-Node in
    let f = rw w.is at w.field-0-is in
    rw (node-same _ c.args.at c.next-row.result.next _ g.line_value g.s_value _ _ _ _ _ _ _ (w.is ∙ ap Ok f) c.args.held _ _ _
    c.seen.ensures c.if-seen.false)
    c.members.ensures
