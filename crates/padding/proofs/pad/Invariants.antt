use mathlib.Core.Path.{◌≡◌}
use Prim.Native.Nat.{◌-◌, ◌≤◌}
use lib.ListN.{length, drop}
use Rattle.row.specs.Rows.{rows}
use Rattle.text.proofs.Laws.{Left}
use Rattle.padding.specs.Padded.{padded_rows}
use Rattle.padding.proofs.pad.Given as goal

abbrev pub invariant-loop-at : goal.invariant-loop-at
invariant-loop-at l =
    (l.at ≤ length l.s)
    × (length l.buf ≡ length l.initial.buf)
    × Left l.buf l.out (padded_rows (rows (drop l.at l.s))) l.initial.buf l.initial.out (padded_rows (rows l.s))

abbrev pub decreases-loop-at : goal.decreases-loop-at
decreases-loop-at l = length l.s - l.at
