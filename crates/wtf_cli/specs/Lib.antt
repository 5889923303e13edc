pub mod FirstWord
pub mod Program
