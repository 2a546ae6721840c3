use lib.ListN.{replicate}
use mathlib.Core.List.{List}
use Prim.Native.Nat.{ℕ, ◌-◌}
use Rattle.codegen_types.specs.TypeString.{any_owned}
use Rattle.type_parts.specs.Parts.{Listed}
use Rattle.type_parts.specs.declared.Arguments.{Arguments}
use Rattle.type_parts.proofs.unbound.Given as goal

abbrev pub invariant-loop-done : goal.invariant-loop-done
invariant-loop-done l =
    (l' : List ℕ) (p' : Arguments) → Listed l.buf l.p (replicate (l.count - l.done) (any_owned l.root)) l' p'
    → Listed l.initial.buf l.initial.p (replicate l.count (any_owned l.root)) l' p'
