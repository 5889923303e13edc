pub mod Limits
pub mod Extents
pub mod Pointers
pub mod Slices
pub mod Places
