pub mod Padded
pub mod Short
pub mod Claims
pub mod Examples
