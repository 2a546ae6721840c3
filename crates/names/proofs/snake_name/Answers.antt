-- `names::snake_name` meets its contract: the name that the struct holds. Assumes nothing.
use Rattle.names.proofs.Laws.{name_of_lem}
use Rattle.names.proofs.snake_name.Goals as goal

pub returns : goal.returns
returns c =
    rw (name_of_lem _ _ c.camel_to_snake_case-snake.ensures.whole) at c.write.ensures
