use mathlib.Core.Path.{◌≡◌}
use Prim.Native.Nat.{◌+◌, ◌-◌, ◌*◌}
use lib.ListN.{drop}
use Rattle.nodes.specs.Index.{lookup, lookup_from}
use Rattle.nodes.proofs.find.Given as goal

-- what is to be found among all entries is to be found among those from here on
abbrev pub invariant-loop : goal.invariant-loop
invariant-loop l = record {
  here : l.entries ≡ drop (1 + 12 * l.counter) l.index;
  same : lookup l.index l.id ≡ lookup_from l.index l.id (l.count - l.counter) (1 + 12 * l.counter);
}
