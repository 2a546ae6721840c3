pub mod Program
pub mod Fit
pub mod Left
pub mod Pieces
pub mod Steps
pub mod Examples
