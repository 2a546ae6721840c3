pub mod Reading
pub mod Lines
pub mod Tests
pub mod Types
pub mod Fresh
pub mod Fields
pub mod Nodes
pub mod Sheets
