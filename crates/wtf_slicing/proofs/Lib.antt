mod Slices
mod SliceWays
mod PeekWays
mod LayWays
mod FileLists
mod FileReads
mod TakeFaults
mod Loops
mod Regions
mod KeysRead
mod MakeWays
mod CopyWays
mod ConcatWays
mod Dispatch
pub mod InsideSlices
mod MadeWays
mod DoneWays
mod Parts
