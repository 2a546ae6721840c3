pub mod Boundary
pub mod Parts
pub mod Pad
