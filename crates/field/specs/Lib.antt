pub mod Slot
pub mod Field
pub mod Parts
pub mod Numbers
