use lib.ListN.{drop, length}
use Rattle.row.specs.Rows.{rows}
use Rattle.tree.specs.Tree.{Node}
use Rattle.nodes.specs.Index.{EntryIs, InSource}
use Rattle.verdict.proofs.ListLaws.{FieldsLeft}
use Rattle.verdict.proofs.report.list_node.Given as goal

abbrev pub invariant-loop-field : goal.invariant-loop-field
invariant-loop-field l =
    InSource l.source (λ sheet. (n : Node) → EntryIs l.source.bytes.now l.source.index.now l.node n
    → FieldsLeft l.source.bytes.now sheet n l.at l.initial.first l.initial.second l.initial.sorted l.first l.second l.sorted)

abbrev pub decreases-loop-field : goal.decreases-loop-field
decreases-loop-field l = length (rows (drop l.at l.source.bytes.now))
