pub mod BitLaws
pub mod SectionLaws
pub mod ByteLaws
pub mod OperationLaws
pub mod RecordLaws
