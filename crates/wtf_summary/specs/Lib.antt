pub mod Counted
pub mod Summaries
pub mod Tallies
pub mod Traces
pub mod States
pub mod Steps
pub mod Fronts
