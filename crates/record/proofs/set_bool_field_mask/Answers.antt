-- `record::set_bool_field_mask` meets its contract, by the laws of a Bool's set. Assumes nothing.
use Rattle.record.proofs.OperationLaws.{bool_put, bool_not_put}
use Rattle.record.proofs.set_bool_field_mask.Goals as goal

pub returns-then-a-section : goal.returns-then-a-section
returns-then-a-section c = bool_not_put _ _ _ c.bit_address-a.ensures c.if-a-section.true

pub returns : goal.returns
returns c = bool_put _ _ _ c.bit_address-a.ensures _ _ c.if-a-section.false c.with_bit.ensures
