pub mod Checked
pub mod Changing
pub mod KeysRead
pub mod Ways
pub mod Going
