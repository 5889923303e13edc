pub mod AttemptLaws
mod Agree
mod Growing
pub mod Indexed
mod Noted
mod Several
mod Knowing
