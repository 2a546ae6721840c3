-- `put` of `Groups` meets its contract: an id that was put after the others has its flag. Assumes nothing.
use mathlib.Core.Path.{ap, ◌∙◌}
use mathlib.Core.List.{List}
use Prim.Native.Nat.{ℕ, ◌%◌, ◌<◌}
use native.Mathlib.Omega.{arith}
use lib.ListN.{length, length-set}
use Rattle.sheet.proofs.FieldsLaws.{pushed}
use Rattle.sheet.proofs.FlagsLaws.{flagged-more}
use Rattle.sheet.proofs.Groups.put.Goals as goal

pub invariant_of-self : goal.invariant_of-self
invariant_of-self c =
    let id = c.args.id in
    let ids = c.self.inside.ids.now in
    let flags = c.self.inside.flags.now in
    let count = c.self.inside.count in
    let i = c.self.invariant in
    let fits : count < length ids = omega (arith, c.requires, ap (λ (g : ℕ × List ℕ). g.0) c.self.view_is) in (
      rw (length-set _ _ _) (omega arith),
      rw c.flag.ensures (length-set flags (id % 2048) 1 ∙ i.1),
      rw (c.flag.ensures, pushed _ _ _ fits) (flagged-more flags _ id i.1 i.2),
    )
