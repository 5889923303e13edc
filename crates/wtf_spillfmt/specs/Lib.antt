pub mod Parses
pub mod Writing
pub mod Lists
