-- `nodes::put` meets its contract: the twelve numbers stand where they fit, and else nothing is put. Assumes nothing.
use native.Mathlib.Omega.{arith}
use Rattle.nodes.proofs.PutLaws.{put-none, put_all}
use Rattle.nodes.proofs.put.Goals as goal
use Rattle.nodes.proofs.put.Goals.{else-index-ge-ENTRY_SIZE-via-then-index-ge-ENTRY_SIZE+else-place-index}
use Rattle.nodes.proofs.put.Goals.{else-index-ge-ENTRY_SIZE-via-else-index-ge-ENTRY_SIZE}

pub returns-then-place-index : goal.returns-then-place-index
returns-then-place-index c = rw (c.copy_from_slice.ensures.after, c.numbers.ensures) (put_all _ _ _ (omega arith))

pub returns-else-index-ge-ENTRY_SIZE : goal.returns-else-index-ge-ENTRY_SIZE
returns-else-index-ge-ENTRY_SIZE c =
    elim c.else-index-ge-ENTRY_SIZE.branch [
      | else-index-ge-ENTRY_SIZE-via-then-index-ge-ENTRY_SIZE+else-place-index w ↦ put-none _ _ _ (omega arith)
      | else-index-ge-ENTRY_SIZE-via-else-index-ge-ENTRY_SIZE w ↦ put-none _ _ _ (omega arith)
    ]
