use Rattle.std.proofs.Common.{◌≡◌, [], take}
use Rattle.wtf_occ.specs.Attempts.{Grows}
use Rattle.wtf_meta.specs.Maps.{seen}
use Rattle.wtf_region.specs.Devs.{GoesOn, between}
use Rattle.wtf_region.specs.Showing.{OnlyRead}
use Rattle.wtf_slicing.specs.Sources.{AreFilesRead}
use Rattle.wtf_slicing.proofs.whole.all_pieces.Given as goal

-- the files so far were read, and nothing that is seen has changed
abbrev pub invariant-loop-inode : goal.invariant-loop-inode
invariant-loop-inode g l = record {
  read : AreFilesRead g.S.SliceStore.kind l.fn.dev l.dev (seen l.kv l.fn.at) (take l.inode-index l.inodes) l.out.items;
  same : seen l.kv l.at ≡ seen l.kv l.fn.at;
  grows : Grows l.fn.at l.at;
  reads : OnlyRead g.S.SliceStore.kind (between l.fn.dev l.dev);
  each : GoesOn g.S.SliceStore.kind l.fn.dev l.dev [];
}
