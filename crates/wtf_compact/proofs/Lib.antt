pub mod Shortening
pub mod Encoding
pub mod Plans
pub mod Sparing
pub mod Keeping
pub mod PutLaws
