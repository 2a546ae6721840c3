-- `zeroing::Table::place_below` meets its contract: the last place below the end lies below the blocks that were passed.
-- Assumes nothing.
use mathlib.Core.Path.{◌≡◌}
use Prim.Native.Nat.{◌*◌}
use Rattle.zeroing.specs.Types.{type_number, type_numbers}
use Rattle.zeroing.specs.Table.{table_size, block_size, place_below}
use Rattle.zeroing.proofs.Table.place_below.Given as goal

abbrev pub invariant-loop-block : goal.invariant-loop-block
invariant-loop-block l =
    place_below l.self.offsets (type_numbers l.self.types) (type_number l.line.typ) l.line.offset table_size
    (l.block * block_size)
    ≡ place_below l.self.offsets (type_numbers l.self.types) (type_number l.line.typ) l.line.offset table_size l.end
