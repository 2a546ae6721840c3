use mathlib.Core.Path.{◌≡◌}
use mathlib.Core.Bool.{true}
use Prim.Native.Nat.{◌+◌, ◌-◌}
use lib.ListN.{take, drop}
use Rattle.column.specs.Texts.{is_word, all}
use Rattle.column.proofs.name_end.Given as goal

abbrev pub invariant-loop-e : goal.invariant-loop-e
invariant-loop-e l = all is_word (take (l.e - (l.a + 1)) (drop (l.a + 1) l.t)) ≡ true
