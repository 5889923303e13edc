pub use Rattle.wtf_dev.specs.Counts
pub use Rattle.wtf_dev.specs.Store
