pub mod Input
pub mod Examples
