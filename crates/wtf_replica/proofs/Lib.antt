pub mod Spans
pub mod Bytes
pub mod InsideLaws
pub mod Reading
pub mod Writing
pub mod Going
