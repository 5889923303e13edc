mod Counts
pub mod Tells
mod Cuts
mod Scripted
mod Taking
mod Answered
mod Judged
mod Ending
mod SettingsLaws
mod SameSettings
mod OneVerdict
