pub mod Frames
pub mod Spans
pub mod Recording
pub mod LaidLaws
pub mod PieceEdits
pub mod ShowLaws
pub mod InsideLaws
pub mod ListReads
pub mod OwnLaws
pub mod Remembering
pub mod Recalling
pub mod Recalls
pub mod BaseLaws
mod SliceKeys
mod RegionKeys
mod Places
mod Summed
mod Held
