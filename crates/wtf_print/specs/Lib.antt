pub mod Texts
pub mod Forms
pub mod Pieces
pub mod Reading
