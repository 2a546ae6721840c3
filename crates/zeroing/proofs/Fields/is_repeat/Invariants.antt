use Prim.Native.Nat.{◌-◌}
use mathlib.Core.Bool.{Bool}
use lib.ListN.{drop}
use Rattle.row.specs.Rows.{rows}
use Rattle.zeroing.specs.Types.{type_number}
use Rattle.zeroing.proofs.RepeatLaws.{Tells}
use Rattle.zeroing.proofs.Fields.is_repeat.Given as goal

abbrev pub invariant-loop : goal.invariant-loop
invariant-loop l =
    (r : Bool) → Tells (type_number l.line.typ) l.line.offset (rows (drop l.at l.self.s.now)) (l.self.count - l.counter) r
    → Tells (type_number l.line.typ) l.line.offset (rows (drop l.self.first l.self.s.now)) l.self.count r
