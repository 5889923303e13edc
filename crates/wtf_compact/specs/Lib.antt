pub mod Jobs
pub mod Planned
pub mod Putting
