use mathlib.Core.Path.{◌≡◌}
use lib.ListN.{drop}
use Rattle.programs.specs.Input.{number_from, decimal_of}
use Rattle.programs.proofs.number.Given as goal

abbrev pub invariant-loop-b : goal.invariant-loop-b
invariant-loop-b l = number_from l.n (drop l.b-index l.digits) ≡ decimal_of l.digits
