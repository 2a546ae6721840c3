pub mod InputLaws
pub mod HandingLaws
