-- What is in form of rows that were written.
use Rattle.std.specs.Prelude.{◌<◌, ◌^◌, List, length}
use Rattle.std.specs.List.{AllByRecursion}
use Rattle.wtf_imagefmt.specs.declared.records.PathRecord.{PathRecord}
use Rattle.wtf_imagefmt.specs.Rows.{RegionRow, FileRow, ImageRows}
use Rattle.wtf_imagefmt.specs.Shapes.{IsRegion, IsInode, IsPathRow, IsHeader}

abbrev pub AreRegions : List RegionRow → Type 0
AreRegions rs = (length rs < 2 ^ 16) × AllByRecursion IsRegion rs

-- files whose numbers have their widths; whether they ascend is not said
pub record IsWideFile (f : FileRow) : Type 0 where
  pub inode : IsInode f.inode
  pub last : f.last < 2 ^ 16
  pub regions : AreRegions f.regions

abbrev pub AreWideFiles : List FileRow → Type 0
AreWideFiles fs = (length fs < 2 ^ 32) × AllByRecursion IsWideFile fs

abbrev pub AreWidePaths : List PathRecord → Type 0
AreWidePaths rs = (length rs < 2 ^ 32) × AllByRecursion IsPathRow rs

pub record IsWide (x : ImageRows) : Type 0 where
  pub header : IsHeader x.header
  pub paths : AreWidePaths x.paths
  pub files : AreWideFiles x.files
