-- `type_parts::opening` meets its contract: one head for each leaf. Assumes nothing.
use mathlib.Core.Path.{refl}
use Rattle.std.proofs.Common.{rules}
use Rattle.type_parts.specs.Parts.{listed, sep_after}
use Rattle.type_parts.proofs.opening.Goals as goal
use Rattle.type_parts.proofs.opening.Goals.{in-Reader-A, in-Reader-Anonymous, in-Builder-A, in-Builder-Anonymous, in-Owned}
use Rattle.type_parts.proofs.opening.Goals.{in-Client, in-Server, in-ServerDispatch, in-Pipeline, in-GetType}

pub returns : goal.returns
unfolding listed sep_after
returns c =
    elim c.match-leaf.branch [
      | in-Reader-A w ↦ search rules
      | in-Reader-Anonymous w ↦ search rules
      | in-Builder-A w ↦ search rules
      | in-Builder-Anonymous w ↦ search rules
      | in-Owned w ↦ search rules
      | in-Client w ↦ search rules
      | in-Server w ↦ search rules
      | in-ServerDispatch w ↦
          rw (w.in-ServerDispatch.is, w.sep-is) (record { text = rw w.sep-is at c.bytes.ensures; sep = refl })
      | in-Pipeline w ↦ search rules
      | in-GetType w ↦ search rules
    ]
