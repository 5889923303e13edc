-- What is in form of changes that were written. Whether they ascend is not said.
use Rattle.std.specs.Prelude.{◌<◌, ◌^◌, List, length}
use Rattle.std.specs.List.{AllByRecursion}
use Rattle.wtf_changes.specs.declared.records.PathChange.{PathChange}
use Rattle.wtf_changes.specs.declared.records.FileChange.{FileChange}
use Rattle.wtf_changes.specs.Rows.{RegionChangeRow, ChangeRows}
use Rattle.wtf_changes.specs.Shapes.{IsPathRow, IsFileRow, IsRegionRow}

abbrev pub AreWidePaths : List PathChange → Type 0
AreWidePaths cs = (length cs < 2 ^ 32) × AllByRecursion IsPathRow cs

abbrev pub AreWideFiles : List FileChange → Type 0
AreWideFiles cs = (length cs < 2 ^ 32) × AllByRecursion IsFileRow cs

abbrev pub AreWideRegions : List RegionChangeRow → Type 0
AreWideRegions cs = (length cs < 2 ^ 32) × AllByRecursion IsRegionRow cs

pub record AreWide (x : ChangeRows) : Type 0 where
  pub installs : x.installs < 2 ^ 64
  pub next_tx : x.next_tx < 2 ^ 64
  pub paths : AreWidePaths x.paths
  pub files : AreWideFiles x.files
  pub regions : AreWideRegions x.regions
