use Rattle.std.proofs.Common.{◌≡◌, [], take}
use Rattle.wtf_occ.specs.Attempts.{GrowsBy}
use Rattle.wtf_slicing.specs.Copies.{put_regions}
use Rattle.wtf_slicing.proofs.copies.put_regions.Given as goal

-- the regions so far were set
abbrev pub invariant-loop-value : goal.invariant-loop-value
invariant-loop-value l = record {
  count : l.r ≡ l.value-index;
  went : GrowsBy l.fn.at l.at [] (put_regions l.inode 0 (take l.value-index l.regions));
}
