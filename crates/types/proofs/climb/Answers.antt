-- `types::climb` meets its contract: each return is a law of a step. Assumes nothing.
use mathlib.Core.Path.{◌∙◌}
use Rattle.nodes.proofs.Laws.{among-any}
use Rattle.types.proofs.ChainLaws.{step-full, step-seen, step-to}
use Rattle.types.proofs.climb.Goals as goal
use Rattle.types.proofs.climb.Goals.{then-ids-ge16-via-then-ids-ge16, then-ids-ge16-via-else-ids-ge16+then-contains}

pub returns-then-ids-ge16 : goal.returns-then-ids-ge16
returns-then-ids-ge16 c =
    let a = c.args in
    elim c.then-ids-ge16.branch [
      | then-ids-ge16-via-then-ids-ge16 w ↦ step-full a.source.now.index.now a.ids.now a.id w.if-ids-ge16.true
      | then-ids-ge16-via-else-ids-ge16+then-contains w ↦
          step-seen a.source.now.index.now a.ids.now a.id w.if-ids-ge16.false _
          (w.contains.ensures.value ∙ among-any a.id a.ids.now) w.if-contains.true
    ]

pub returns : goal.returns
returns c =
    let a = c.args in
    c.ok_or.ensures.value
    ∙ step-to a.source.now.index.now a.ids.now a.id c.if-ids-ge16.false _
    (c.contains.ensures.value ∙ among-any a.id a.ids.now) c.if-contains.false c.find.result c.find.ensures
