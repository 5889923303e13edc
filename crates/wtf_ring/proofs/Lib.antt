pub mod Meeting
pub mod Rings
