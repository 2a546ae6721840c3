-- `record::clear` meets its contract, by the laws of a cleared flag. Assumes nothing.
use Rattle.record.proofs.OperationLaws.{clear_done, clear_none}
use Rattle.record.proofs.clear.Goals as goal

pub returns-then-at-pointers : goal.returns-then-at-pointers
returns-then-at-pointers c = clear_none _ _ _ c.pointer_address-at.ensures c.if-at-pointers.true

pub returns : goal.returns
returns c = clear_done _ _ _ c.pointer_address-at.ensures c.if-at-pointers.false
