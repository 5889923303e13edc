pub mod Odd
pub mod Statuses
