pub mod Requests
pub mod Told
pub mod Levels
pub mod Parts
