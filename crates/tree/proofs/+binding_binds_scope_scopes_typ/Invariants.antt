-- What each call of the walk costs, and what its two loops keep: what is left to read from the start equal to what is left from
-- here. Levels fall from a type to its parts, and below a level a type calls scopes, a scope its bindings, a binding its type.
use mathlib.Core.Path.{◌≡◌}
use Prim.Native.Nat.{◌+◌, ◌-◌, ◌*◌}
use lib.ListN.{drop}
use Rattle.row.specs.Rows.{rows}
use Rattle.tree.specs.Tree.{end, stop}
use Rattle.tree.specs.Reader.{times}
use Rattle.tree.specs.Read.{read_type, read_scope, read_binding}
use Rattle.tree.specs.Walked.{passed}
use Rattle.tree.proofs.+binding_binds_scope_scopes_typ.Given as goal

abbrev pub decreases-binding : goal.decreases-binding
decreases-binding l = 5 * l.left + 1

abbrev pub decreases-binds : goal.decreases-binds
decreases-binds l = 5 * l.left + 2

abbrev pub decreases-scope : goal.decreases-scope
decreases-scope l = 5 * l.left + 3

abbrev pub decreases-scopes : goal.decreases-scopes
decreases-scopes l = 5 * l.left + 4

abbrev pub decreases-typ : goal.decreases-typ
decreases-typ l = 5 * l.left

abbrev pub invariant-binds-loop-n : goal.invariant-binds-loop-n
invariant-binds-loop-n l =
    passed (times (read_binding (read_type l.left)) stop l.count (rows (drop l.from l.s)))
    ≡ passed (times (read_binding (read_type l.left)) stop l.n (rows (drop l.at l.s)))

abbrev pub decreases-binds-loop-n : goal.decreases-binds-loop-n
decreases-binds-loop-n l = l.n

abbrev pub invariant-scopes-loop : goal.invariant-scopes-loop
invariant-scopes-loop l =
    passed (times (read_scope (read_type l.left)) end l.count (rows (drop l.from l.s)))
    ≡ passed (times (read_scope (read_type l.left)) end (l.count - l.counter) (rows (drop l.at l.s)))
