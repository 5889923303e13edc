pub mod LinesOf
pub mod Chunks
pub mod PathLaws
pub mod FormLaws
pub mod PlainLaws
