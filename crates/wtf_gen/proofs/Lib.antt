pub mod Scripts
pub mod OnLiterals
