-- `record::load` meets its contract: eight bytes have no zeros behind them. Assumes nothing.
use mathlib.Core.Path.{◌≡◌, refl}
use mathlib.Core.List.{append-nil}
use native.Mathlib.Omega.{arith}
use lib.ListN.{length}
use Rattle.record.proofs.OperationLaws.{loaded}
use Rattle.record.proofs.load.Goals as goal

pub returns-in-len8 : goal.returns-in-len8
returns-in-len8 c =
    let bytes = c.args.bytes.now in
    let size : length bytes ≡ 8 = omega arith in
    loaded {bytes = bytes} {front = bytes} (omega arith) refl (rw (size, append-nil bytes) c.from_le_bytes-in-len8.ensures)
