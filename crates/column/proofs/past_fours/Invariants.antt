use Rattle.std.proofs.Common.{◌≡◌, length}
use Rattle.column.specs.Number.{trimmed}
use Rattle.column.proofs.past_fours.Given as goal

abbrev pub invariant-loop-rest : goal.invariant-loop-rest
invariant-loop-rest l = trimmed l.fn.t ≡ trimmed l.rest

abbrev pub decreases-loop-rest : goal.decreases-loop-rest
decreases-loop-rest l = length l.rest
