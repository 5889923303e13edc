pub mod Ways
pub mod FileWays
mod SizeEdits
pub mod StoredBytes
pub mod AppendWays
pub mod ReadWays
pub mod FaultWays
pub mod InsideWays
mod Dispatch
mod MadeWays
