use Rattle.std.proofs.Common.{◌≡◌}
use Prim.Native.Nat.{◌-◌}
use mathlib.Core.List.{◌++◌}
use lib.ListN.{length, take}
use Rattle.record.specs.Bits.{little_bytes}
use Rattle.record.proofs.store.Given as goal

abbrev pub invariant-loop-byte : goal.invariant-loop-byte
invariant-loop-byte l =
    take l.byte-index l.bytes ++ little_bytes (length l.bytes - l.byte-index) l.left
    ≡ little_bytes (length l.initial.bytes) l.word
