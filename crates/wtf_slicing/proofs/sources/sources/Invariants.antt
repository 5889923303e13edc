use Rattle.std.proofs.Common.{◌≡◌, [], Ok, take}
use Rattle.wtf_occ.specs.Attempts.{GrowsBy}
use Rattle.wtf_meta.specs.Maps.{seen}
use Rattle.wtf_slicing.specs.Recorded.{sources_keys}
use Rattle.wtf_slicing.specs.Sources.{sources_of}
use Rattle.wtf_slicing.proofs.sources.sources.Given as goal

-- the files so far were found
abbrev pub invariant-loop-path : goal.invariant-loop-path
invariant-loop-path l = record {
  found : sources_of (seen l.kv l.fn.at) (take l.path-index l.paths) ≡ Ok l.inodes.items;
  went : GrowsBy l.fn.at l.at (sources_keys (seen l.kv l.fn.at) (take l.path-index l.paths)) [];
}
