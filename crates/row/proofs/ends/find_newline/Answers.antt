-- `row::find_newline` meets its contract: what the words found, or what stands in the bytes that they left. Assumes nothing.
use Rattle.row.proofs.NewlineLaws.{found_first}
use Rattle.row.proofs.ends.find_newline.Goals as goal

pub returns-in-Ok-clause-first : goal.returns-in-Ok-clause-first
returns-in-Ok-clause-first c = found_first _ _ _ c.in-Ok.ensures
