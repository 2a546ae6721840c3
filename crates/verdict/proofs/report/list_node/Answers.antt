-- `verdict::report::list_node` meets its contract: at each turn the fields that stand at the position are left. Assumes nothing.
use mathlib.Core.Path.{sym}
use Rattle.nodes.specs.Index.{sheet_of}
use Rattle.verdict.proofs.ListLaws.{fields-start, fields-more, fields-end}
use Rattle.verdict.proofs.report.list_node.Goals as goal

pub loop-field-init : goal.loop-field-init
loop-field-init c = λ nodes x n e.
    fields-start c.args.source.now.bytes.now (sheet_of c.args.source.now.root.now nodes) n c.args.first.now c.args.second.now
    c.args.sorted c.args.node.fields e.fields

pub loop-field-smaller : goal.loop-field-smaller
loop-field-smaller c = rw c.next-at.ensures (rw c.in-Some.is at c.read.ensures).fewer

pub loop-field-preserved : goal.loop-field-preserved
loop-field-preserved c = λ nodes x n e.
    rw c.next-at.ensures
    (fields-more c.args.source.now.bytes.now (sheet_of c.args.source.now.root.now nodes) n c.args.first.now c.args.second.now
    c.args.sorted c.loop-field.at c.loop-field.first c.loop-field.second c.loop-field.sorted (c.loop-field.invariant nodes x n e)
    c.in-Some.field (rw c.in-Some.is at c.read.ensures).first _ _ _
    (λ f is. c.list_field-sorted.ensures nodes x (n, f) (sym e.tag-offset) is (sym e.id)))

pub returns : goal.returns
returns c = λ nodes x n e.
    fields-end c.args.source.now.bytes.now (sheet_of c.args.source.now.root.now nodes) n c.args.first.now c.args.second.now
    c.args.sorted c.loop-field.at c.loop-field.first c.loop-field.second c.loop-field.sorted (c.loop-field.invariant nodes x n e)
    (rw c.in_default.is at c.read.ensures).first
