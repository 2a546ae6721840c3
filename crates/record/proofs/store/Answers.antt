-- `record::store` meets its contract. The loop's invariant: the bytes that were put, and before them what is left to put, are all
-- that was to be put. Assumes nothing.
use mathlib.Core.Path.{◌≡◌}
use mathlib.Core.List.{append_assoc}
use Prim.Native.Nat.{suc, ◌+◌, ◌-◌}
use native.Mathlib.Omega.{arith}
use lib.ListN.{length, length-set}
use Rattle.std.proofs.lemmas.List.{take_more_set}
use Rattle.record.proofs.store.Goals as goal

pub loop-byte-preserved : goal.loop-byte-preserved
loop-byte-preserved c =
    let bytes = c.loop-byte.bytes in
    let i = c.loop-byte.byte-index in
    let more : length bytes - i ≡ suc (length bytes - (i + 1)) = omega arith in
    rw (length-set bytes i _, take_more_set bytes i _ (omega arith), append_assoc) (rw more at c.loop-byte.invariant)
