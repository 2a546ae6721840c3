use Rattle.std.proofs.Common.{◌≡◌}
use lib.ListN.{take}
use Rattle.text.proofs.copy.Given as goal

abbrev pub invariant-loop-i : goal.invariant-loop-i
invariant-loop-i l = take l.i l.place ≡ take l.i l.s
