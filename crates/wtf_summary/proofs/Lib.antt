mod Lines
mod Words
mod Texts
mod Sound
pub mod Ends
