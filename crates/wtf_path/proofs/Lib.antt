pub mod Compared
pub mod Cut
pub mod LastName
pub mod Refused
pub mod Splits
