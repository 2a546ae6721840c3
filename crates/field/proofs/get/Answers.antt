-- `field::get` meets its contract: by how many numbers there are, and what the first says. Assumes nothing.
use mathlib.Core.Path.{◌∙◌}
use native.Mathlib.Omega.{arith}
use Rattle.field.proofs.NumbersLaws.{get-few, taken-slot, taken-group, taken-nothing}
use Rattle.field.proofs.get.Goals as goal

pub returns-in_err-numbers : goal.returns-in_err-numbers
returns-in_err-numbers c = c.from_residual.ensures ∙ get-few _ c.in_err-numbers.ensures.cases

pub returns-in-1 : goal.returns-in-1
returns-in-1 c =
    let m = c.in_ok-numbers.ensures.cases in
    rw c.from_numbers.ensures (taken-slot _ _ m.enough m.same c.in-1.is)

pub returns-in-2 : goal.returns-in-2
returns-in-2 c =
    let m = c.in_ok-numbers.ensures.cases in
    rw c.from_numbers-in-2.ensures (taken-group _ _ m.enough m.same c.in-2.is)

pub returns-in_default : goal.returns-in_default
returns-in_default c =
    let m = c.in_ok-numbers.ensures.cases in
    taken-nothing _ _ m.enough m.same (λ z. omega arith) (λ z. omega arith)
