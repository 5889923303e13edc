pub mod Codecs
pub mod Forms
pub mod Many
pub mod Written
pub mod Lists
