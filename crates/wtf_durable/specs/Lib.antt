pub mod Views
pub mod Stops
pub mod Sound
pub mod Journaled
pub mod Promises
pub mod Handled
pub mod Opened
pub mod Found
