use Prim.Native.Nat.{◌-◌}
use Rattle.types.proofs.ScopeLaws.{Passing}
use Rattle.types.proofs.scopes.Given as goal

abbrev pub invariant-loop-k : goal.invariant-loop-k
invariant-loop-k l = Passing l.s l.from l.count l.ids l.at (l.count - l.k) l.places
