pub mod Engine
pub mod Breaks
pub mod Added
pub mod Refusals
pub mod Runs
