pub mod Paired
pub mod Verdicts
