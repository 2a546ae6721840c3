pub mod Verdict
pub mod Told
pub mod Report
pub mod Listing
pub mod Examples
