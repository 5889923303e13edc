pub mod Elements
pub mod Pointers
