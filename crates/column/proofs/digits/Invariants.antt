use Rattle.std.proofs.Common.{◌≡◌, ◌<◌, ◌^◌, drop}
use Rattle.column.specs.Number.{digits}
use Rattle.column.proofs.digits.Given as goal

abbrev pub invariant-loop-b : goal.invariant-loop-b
invariant-loop-b l = record {
  so_far : digits 0 l.t ≡ digits l.v (drop l.b-index l.t);
  fits : l.v < 10 ^ l.b-index;
}
