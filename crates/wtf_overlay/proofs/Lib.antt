pub mod Origins
pub mod Clipping
pub mod Meanings
pub mod Pieces
mod Borders
mod Building
mod Merging
mod Dropping
mod Edging
mod Stacking
mod Standing
mod Tailing
mod Joining
mod Compacts
mod Wholes
pub mod SameEntries
pub mod Shown
mod Looked
pub mod Tested
