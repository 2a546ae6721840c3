-- `setter_code::Target::data` meets its contract: the setter and the initializer. Assumes nothing.
use mathlib.Core.Bool.{true, false}
use Rattle.text.proofs.Laws.{◌⋄◌, reworded}
use Rattle.setter_code.proofs.Laws.{both-text}
use Rattle.setter_code.proofs.Target.data.Goals as goal

pub returns : goal.returns
returns c =
    reworded (λ n. both-text n c.args.root.now _ _ _ _ _ false true _ _) (c.set_data-t.ensures ⋄ c.init_sized.ensures)
