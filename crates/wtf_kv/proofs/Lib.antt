pub mod EditLaws
pub mod VersionLaws
pub mod PinLaws
pub mod KeyLaws
pub mod WalkLaws
pub mod KeptLaws
pub mod CallLaws
mod Sees
mod Prune
mod Updated
mod Next
mod Fits
mod Runs
mod Taken
mod Noting
mod Ranges
mod Walked
mod Changed
mod Made
mod Staged
mod Loose
mod StoreLemmas
mod Once
