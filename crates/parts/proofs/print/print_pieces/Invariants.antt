use mathlib.Core.Path.{◌≡◌}
use lib.ListN.{length}
use Rattle.parts.specs.Steps.{most_left, Reached}
use Rattle.parts.proofs.print.print_pieces.Given as goal

abbrev pub invariant-loop-place : goal.invariant-loop-place
invariant-loop-place l = (length l.out ≡ length l.initial.out) × Reached l.sheet.source.bytes.now l.sheet.source.index.now l.place

abbrev pub decreases-loop-place : goal.decreases-loop-place
decreases-loop-place l = most_left l.sheet.source.bytes.now l.place
