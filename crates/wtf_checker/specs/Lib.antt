pub mod Lawful
pub mod Spelled
pub mod Sources
pub mod Reading
pub mod Judging
pub mod Checked
