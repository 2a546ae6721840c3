pub mod Laws
pub mod ShortLaws
pub mod RowLaws
pub mod SheetLaws
