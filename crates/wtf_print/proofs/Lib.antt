pub mod Lists
pub mod Cuts
pub mod Refused
pub mod Plain
pub mod Spelled
pub mod Backs
pub mod Formed
