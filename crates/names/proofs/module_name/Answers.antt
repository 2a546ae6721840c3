-- `names::module_name` meets its contract, by the test that chose the way. Assumes nothing.
use mathlib.Core.Path.{sym, ap, ◌∙◌}
use Rattle.text.proofs.Laws.{◌⨾◌}
use Rattle.names.specs.Keywords.{is_keyword}
use Rattle.names.proofs.Laws.{name_of_lem, module_keyword, module-plain}
use Rattle.names.proofs.module_name.Goals as goal

pub returns-then-is_keyword : goal.returns-then-is_keyword
returns-then-is_keyword c =
    let n = c.name-snake.ensures ∙ name_of_lem _ _ c.camel_to_snake_case-snake.ensures.whole in
    let k = ap is_keyword (sym n) ∙ sym c.is_keyword.ensures in
    rw (module_keyword _ (k ∙ c.if-is_keyword.true)) ((rw n at c.bytes-t.ensures) ⨾ c.byte.ensures)

pub returns-else-is_keyword : goal.returns-else-is_keyword
returns-else-is_keyword c =
    let n = c.name-snake.ensures ∙ name_of_lem _ _ c.camel_to_snake_case-snake.ensures.whole in
    let k = ap is_keyword (sym n) ∙ sym c.is_keyword.ensures in
    rw (module-plain _ (k ∙ c.if-is_keyword.false)) (rw n at c.bytes-t.ensures)
