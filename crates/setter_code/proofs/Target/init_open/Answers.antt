-- `setter_code::Target::init_open` meets its contract: its parts, one after the other. Assumes nothing.
use Rattle.std.specs.Prelude.{◌≡◌}
use mathlib.Core.List.{◌++◌}
use Rattle.text.specs.Bytes.{ascii}
use Rattle.names.specs.Names.{name_of}
use Rattle.setter_code.specs.Parts.{size_param}
use Rattle.text.proofs.Laws.{reworded}
use Rattle.setter_code.proofs.Laws.{init_opened}
use Rattle.setter_code.proofs.Target.init_open.Goals as goal
use Rattle.setter_code.proofs.Target.init_open.Goals.{Joined-sized, then-sized, else-sized}

behind : (c : Joined-sized) → c.if-sized.after.now ≡ ascii "(self, " ++ size_param c.args.sized ++ ascii ") -> "
behind c =
    elim c.if-sized.branch [
      | then-sized w ↦ rw (w.after-is, w.if-sized.true)
      | else-sized w ↦ rw (w.after-is, w.if-sized.false)
    ]

pub returns : goal.returns
returns c =
    reworded (init_opened (name_of c.args.self.now.name) c.args.sized)
    (rw (← behind (goal.at.returns c).Joined-sized) c.named.ensures)
