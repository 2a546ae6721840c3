pub mod Zeroing
pub mod Examples
