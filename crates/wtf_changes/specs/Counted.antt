-- Paths and files that an image can count.
use Rattle.std.specs.Prelude.{◌<◌, ◌^◌, List, length}
use Rattle.wtf_imagefmt.specs.declared.records.PathRecord.{PathRecord}
use Rattle.wtf_imagefmt.specs.Rows.{FileRow}
use Rattle.wtf_imagefmt.specs.Saving.{ArePathsOf, AreFilesOf}
use Rattle.wtf_imagefmt.specs.Shown.{Shown}

pub record HasFewPaths (m : Shown) : Type 0 where
  pub rows : List PathRecord
  pub are : ArePathsOf m rows
  pub few : length rows < 2 ^ 32

pub record HasFewFiles (m : Shown) : Type 0 where
  pub rows : List FileRow
  pub are : AreFilesOf m rows
  pub few : length rows < 2 ^ 32

-- the paths of a map, and its files, are fewer than 2^32
abbrev pub CanBeCounted : Shown → Type 0
CanBeCounted m = HasFewPaths m × HasFewFiles m
