pub mod LineLaws
pub mod Saving
pub mod Adding
pub mod Exits
