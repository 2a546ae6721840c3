pub mod Lines
pub mod Types
pub mod Table
pub mod Added
pub mod Path
pub mod Told
pub mod Examples
