use Prim.Native.Nat.{◌+◌, ◌-◌, ◌≤◌, ℕ}
use mathlib.Core.List.{List}
use lib.ListN.{length, drop}
use Rattle.codegen.specs.Zeroing.{zero_fields_of_group}
use Rattle.nodes.specs.Index.{Indexed, sheet_of}
use Rattle.tree.specs.Tree.{Node}
use Rattle.row.specs.Rows.{rows}
use Rattle.text.specs.Bytes.{Str}
use Rattle.text.specs.Text.{WroteSome}
use Rattle.zeroing.specs.Types.{type_numbers}
use Rattle.zeroing.specs.Path.{Leads}
use Rattle.zeroing.proofs.TurnLaws.{Going}
use Rattle.zeroing.proofs.+zero_fields_of_group.Given as goal

abbrev pub decreases-zero_fields_of_group : goal.decreases-zero_fields_of_group
decreases-zero_fields_of_group l = l.group.left

abbrev pub invariant-loop-field : goal.invariant-loop-field
invariant-loop-field l = record {
  passed : l.count + length (rows (drop l.at l.s)) ≤ length (rows (drop l.first l.s));
  going : (root : Str) (ns : List Node) → Indexed l.s ns l.source.index.now
      → Leads (sheet_of root ns) l.group.start l.group.left l.group.id → (tags offset : ℕ)
      → Going (zero_fields_of_group (sheet_of root ns) (l.group.left - 1)) tags offset (rows (drop l.first l.s))
      l.initial.buf l.initial.lines (rows (drop l.at l.s)) l.count l.table.offsets (type_numbers l.table.types) l.buf l.lines;
  some : WroteSome l.initial.buf l.initial.lines.text l.buf l.lines.text;
}

abbrev pub decreases-loop-field : goal.decreases-loop-field
decreases-loop-field l = length (rows (drop l.at l.s))
