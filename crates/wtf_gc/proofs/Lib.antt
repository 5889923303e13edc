mod Adding
mod Advancing
mod Between
mod Collecting
mod Found
mod Freeing
mod Listed
pub mod Living
mod Noted
mod Pins
mod Ranges
mod Walks
mod Zeroing
