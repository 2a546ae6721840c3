use lib.ListN.{drop}
use Rattle.nodes.specs.Index.{InSource}
use Rattle.verdict.proofs.ListLaws.{Going, judged_of}
use Rattle.verdict.proofs.report.list_sheet.Given as goal

abbrev pub invariant-loop-k : goal.invariant-loop-k
invariant-loop-k l =
    InSource l.source (λ sheet. Going (judged_of sheet sheet.nodes) (judged_of sheet (drop l.k sheet.nodes))
    l.initial.first l.initial.second l.initial.sorted l.first l.second l.sorted)
