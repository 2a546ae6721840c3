use mathlib.Core.List.{List}
use Prim.Native.Nat.{◌-◌, ◌≤◌}
use lib.ListN.{drop, length}
use Rattle.std.specs.Prelude.{Option}
use Rattle.row.specs.Rows.{rows}
use Rattle.tree.specs.Tree as tree
use Rattle.tree.specs.Fields.{FieldsHere}
use Rattle.nodes.specs.Index.{nth}
use Rattle.field.specs.Field.{FindsField}
use Rattle.field.specs.declared.Field.{Field}
use Rattle.field.proofs.at_place.Given as goal

-- what is found from here, so many fields on as are left, is what is to be found from the start
abbrev pub invariant-loop : goal.invariant-loop
invariant-loop l = record {
  found : (r : Option Field)
      → ((fs : List tree.Field) → FieldsHere (rows (drop l.at l.s)) fs → FindsField l.s r (nth (l.place - l.counter) fs))
      → (fs : List tree.Field) → FieldsHere (rows (drop l.from l.s)) fs → FindsField l.s r (nth l.place fs);
  fewer : length (rows (drop l.at l.s)) ≤ length (rows (drop l.from l.s));
}
