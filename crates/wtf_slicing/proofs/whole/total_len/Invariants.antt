use Rattle.std.proofs.Common.{◌≡◌, ◌-◌, ◌^◌, min, [], take}
use Rattle.wtf_occ.specs.Attempts.{GrowsBy}
use Rattle.wtf_meta.specs.Maps.{seen}
use Rattle.wtf_slicing.specs.Recorded.{files_keys}
use Rattle.wtf_slicing.specs.Sources.{lens_of}
use Rattle.wtf_slicing.proofs.whole.total_len.Given as goal

-- the files so far were read
abbrev pub invariant-loop-inode : goal.invariant-loop-inode
invariant-loop-inode l = record {
  sum : l.sum ≡ min (lens_of l.settings.region (seen l.kv l.fn.at) (take l.inode-index l.inodes)) (2 ^ 64 - 1);
  went : GrowsBy l.fn.at l.at (files_keys (seen l.kv l.fn.at) (take l.inode-index l.inodes)) [];
}
