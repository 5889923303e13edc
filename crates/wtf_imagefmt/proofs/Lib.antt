pub mod Refused
pub mod BaseForms
pub mod Forms
pub mod Parsed
mod Many
mod Written
pub mod Walking
pub mod Gathered
