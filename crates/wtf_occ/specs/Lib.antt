pub mod Attempts
pub mod Tries
pub mod Positions
pub use Rattle.wtf_kv.specs.Stores
pub use Rattle.wtf_kv.specs.Edits
pub mod Known
