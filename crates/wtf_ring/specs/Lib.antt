pub mod Points
pub mod Orders
