-- `record::set_data_field_mask` meets its contract, by the laws of a number's set. Assumes nothing.
use Rattle.record.proofs.OperationLaws.{data_put, data_not_put}
use Rattle.record.proofs.set_data_field_mask.Goals as goal

pub returns-then-end-section : goal.returns-then-end-section
returns-then-end-section c =
    data_not_put _ _ _ _ _ c.element_address-at.ensures c.bytes.ensures c.if-end-section.true

pub returns : goal.returns
returns c =
    data_put _ _ _ _ _ c.element_address-at.ensures c.bytes.ensures _ _ c.if-end-section.false c.store.ensures
