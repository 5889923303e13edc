pub mod Steps
pub mod Made
pub mod Scenes
pub mod Recorded
pub mod Faults
pub mod Holding
pub mod Leaving
pub mod Recalling
