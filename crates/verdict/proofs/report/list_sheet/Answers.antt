-- `verdict::report::list_sheet` meets its contract: at each turn the nodes from the one with the number on are left. Assumes
-- nothing.
use mathlib.Core.Path.{sym, ◌∙◌}
use native.Mathlib.Omega.{arith}
use Rattle.nodes.specs.Index.{sheet_of}
use Rattle.verdict.proofs.ListLaws.{going-start, judged_of, nodes-out, nodes-none, nodes-more}
use Rattle.verdict.proofs.report.list_sheet.Goals as goal

pub loop-k-init : goal.loop-k-init
loop-k-init c = λ nodes x. going-start (judged_of (sheet_of c.args.source.now.root.now nodes) nodes) _ _ _

pub returns-in_default : goal.returns-in_default
returns-in_default c = λ nodes x.
    rw c.at.ensures at
    (nodes-none c.args.source.now.bytes.now (sheet_of c.args.source.now.root.now nodes) c.args.source.now.index.now x
    _ _ _ c.loop-k.k _ _ _ (c.loop-k.invariant nodes x) (sym c.in_default.is ∙ c.nth.ensures))

pub loop-k-preserved : goal.loop-k-preserved
loop-k-preserved c = λ nodes x.
    nodes-more c.args.source.now.bytes.now (sheet_of c.args.source.now.root.now nodes) c.args.source.now.index.now x
    _ _ _ c.loop-k.k _ _ _ (c.loop-k.invariant nodes x) c.in-Some.node (sym c.in-Some.is ∙ c.nth.ensures) _ _ _
    (λ n e. c.list_node-sorted.ensures nodes x n e)

pub returns : goal.returns
returns c = λ nodes x.
    rw c.at.ensures at
    (nodes-out c.args.source.now.bytes.now (sheet_of c.args.source.now.root.now nodes) c.args.source.now.index.now x
    _ _ _ c.loop-k.k _ _ _ (c.loop-k.invariant nodes x) (omega (arith, c.loop-k-test.false)))
