-- `parts::opening` meets its contract: one head for each part. Assumes nothing.
use Rattle.std.specs.Prelude.{◌≡◌}
use Rattle.parts.specs.Program.{opening}
use Rattle.parts.proofs.opening.Goals as goal
use Rattle.parts.proofs.opening.Goals.{Joined-part}
use Rattle.parts.proofs.opening.Goals.{in-GetterReader, in-GetterBuilder, in-Setter, in-HaserReader, in-HaserBuilder, in-Zero}

head : (c : Joined-part) → c.match-part.head.now ≡ opening c.args.part
head c =
    elim c.match-part.branch [
      | in-GetterReader w ↦ rw (w.head-is, w.in-GetterReader.is)
      | in-GetterBuilder w ↦ rw (w.head-is, w.in-GetterBuilder.is)
      | in-Setter w ↦ rw (w.head-is, w.in-Setter.is)
      | in-HaserReader w ↦ rw (w.head-is, w.in-HaserReader.is)
      | in-HaserBuilder w ↦ rw (w.head-is, w.in-HaserBuilder.is)
      | in-Zero w ↦ rw (w.head-is, w.in-Zero.is)
    ]

pub returns : goal.returns
returns c = rw (← head (goal.at.returns c).Joined-part) c.bytes.ensures
