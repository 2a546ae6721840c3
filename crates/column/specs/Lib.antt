pub mod Number
pub mod Texts
pub mod Examples
