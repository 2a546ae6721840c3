-- `column::past_fours` meets its contract: a chunk of four spaces in front is passed. Assumes nothing.
use mathlib.Core.Path.{sym, ap, ◌∙◌}
use Rattle.column.specs.Number.{trimmed}
use Rattle.column.proofs.Laws.{chunk-is, trimmed-four, rest-is}
use Rattle.column.proofs.past_fours.Goals as goal

pub loop-rest-preserved : goal.loop-rest-preserved
loop-rest-preserved c =
    let rest = c.loop-rest.rest.now in
    let spaces = chunk-is rest _ c.first_chunk.result _ c.first_chunk.ensures.cases (sym c.eq.ensures ∙ c.loop-rest-test.true) in
    c.loop-rest.invariant ∙ trimmed-four rest spaces ∙ sym (ap trimmed (rest-is rest 4))
