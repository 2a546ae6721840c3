pub mod FitLaws
pub mod PartLaws
pub mod FieldLaws
pub mod LeftLaws
pub mod SheetLaws
pub mod PieceLaws
