pub mod NameLaws
pub mod RowLaws
pub mod Laws
pub mod PutLaws
