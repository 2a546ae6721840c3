pub mod Bytes
pub mod Text
pub mod Decimal
pub mod Lines
pub mod Levels
pub mod Answer
pub mod Table
pub mod Examples
