pub mod Keeping
pub mod Each
pub mod Sums
pub mod Lists
pub mod Told
pub mod DiskTapes
pub mod DiskStops
