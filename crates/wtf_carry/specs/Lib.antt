pub mod Asked
pub mod Ways
pub mod Streams
pub mod Puts
pub mod Reads
pub mod Gets
pub mod Runs
