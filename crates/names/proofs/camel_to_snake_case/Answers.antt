-- `names::camel_to_snake_case` meets its contract: the struct of the text that was written into zeros. Assumes nothing.
use mathlib.Core.Path.{sym, ◌∙◌}
use Rattle.names.proofs.Laws.{held-taken, held_other, snaked}
use Rattle.names.proofs.camel_to_snake_case.Goals as goal

pub returns-then-not-takes : goal.returns-then-not-takes
returns-then-not-takes c = snaked _ _ (held_other _ (sym c.takes.ensures ∙ c.if-not-takes.true))

pub returns : goal.returns
returns c =
    let w = rw c.at.ensures at c.snake_bytes-t.ensures in
    let h = held-taken _ _ _ (sym c.takes.ensures ∙ c.if-not-takes.false) w in
    rw c.fill.ensures (snaked _ _ h)
