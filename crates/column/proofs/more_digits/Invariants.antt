use Rattle.std.proofs.Common.{◌≡◌, drop}
use Rattle.column.specs.Number.{digits}
use Rattle.column.proofs.more_digits.Given as goal

abbrev pub invariant-loop-b : goal.invariant-loop-b
invariant-loop-b l = digits l.head l.t ≡ digits l.v (drop l.b-index l.t)
