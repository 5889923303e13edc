pub mod WordLaws
pub mod OutcomeLaws
