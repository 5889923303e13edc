pub mod Checks
pub mod Recorded
pub mod Changed
