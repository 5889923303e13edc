use Rattle.std.proofs.Common.{◌≡◌, ◌-◌, ◌<◌, ◌∷◌, map}
use Rattle.wtf_meta.specs.Maps.{seen}
use Rattle.wtf_meta.specs.Files.{end_of}
use Rattle.wtf_meta.specs.FileEdits.{file_of}
use Rattle.wtf_meta.specs.Appends.{OfLast, region_keys, count_from}
use Rattle.wtf_region.specs.Edited.{Recorded}
use Rattle.wtf_slicing.proofs.whole.whole_file.Given as goal

-- the regions below r were read
abbrev pub invariant-loop-r : goal.invariant-loop-r
invariant-loop-r l = record {
  recorded : Recorded l.inode (OfLast ∷ region_keys (count_from 0 l.r)) l.fn.at l.at;
  regions : l.regions.items ≡ map (file_of l.inode (seen l.kv l.fn.at)).region (count_from 0 l.r);
  end : 0 < l.r → l.end ≡ end_of ((file_of l.inode (seen l.kv l.fn.at)).region (l.r - 1));
}
