-- `programs::read_input` meets its contract, and ends: each turn reads a byte, or there is one try less. Assumes nothing.
use Rattle.std.proofs.Common.{length, ◌-◌, ◌≡◌, ◌+◌, ◌≤◌}
use Rattle.programs.proofs.read_input.Given as goal

abbrev pub invariant-loop-n : goal.invariant-loop-n
invariant-loop-n l = (l.n ≤ length l.buf) × (length l.buf ≡ length l.initial.buf)

abbrev pub decreases-loop-n : goal.decreases-loop-n
decreases-loop-n l = length l.buf - l.n + l.tries
