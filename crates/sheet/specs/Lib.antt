pub mod Admission
pub mod Steps
