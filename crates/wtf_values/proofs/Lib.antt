pub mod KeyLaws
pub mod NameLaws
mod TreeLaws
pub mod RegionLaws
pub mod OutcomeLaws
mod PushLaws
mod Summed
mod SummaryLaws
