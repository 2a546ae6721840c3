-- `zeroing::Table::place_in` meets its contract: the place that is found from here down is that from the end. Assumes nothing.
use mathlib.Core.Path.{◌≡◌}
use Prim.Native.Nat.{◌≤◌}
use Rattle.zeroing.specs.Types.{type_number, type_numbers}
use Rattle.zeroing.specs.Table.{table_size, place_below}
use Rattle.zeroing.proofs.Table.place_in.Given as goal

abbrev pub invariant-loop-i : goal.invariant-loop-i
invariant-loop-i l =
    (l.from ≤ l.i)
    × (place_below l.self.offsets (type_numbers l.self.types) (type_number l.line.typ) l.line.offset table_size l.i
    ≡ place_below l.self.offsets (type_numbers l.self.types) (type_number l.line.typ) l.line.offset table_size l.to)
