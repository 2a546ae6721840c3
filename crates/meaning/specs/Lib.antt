pub mod Reading
pub mod Meaning
pub mod Claims
pub mod Examples
