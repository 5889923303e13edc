use Rattle.std.proofs.Common.{◌≡◌, ◌⊎◌, ◌+◌, ◌-◌, ◌*◌, ◌≤◌, ℕ, []}
use Rattle.wtf_meta.specs.Maps.{seen}
use Rattle.wtf_meta.specs.FileEdits.{file_of}
use Rattle.wtf_meta.specs.Appends.{region_keys, touched}
use Rattle.wtf_region.specs.Devs.{GoesOn, between}
use Rattle.wtf_region.specs.Reads.{IsFileRead}
use Rattle.wtf_region.specs.Showing.{OnlyRead}
use Rattle.wtf_region.specs.Edited.{Recorded}
use Rattle.wtf_region.proofs.reading.pieces.Given as goal

-- the bytes up to `done` were planned, over all lists that agree with those that were read so far, each region once: what is
-- left begins at the border of a region
abbrev pub invariant-loop-done : goal.invariant-loop-done
invariant-loop-done g l = record {
  upto : l.done ≤ l.len;
  read : IsFileRead g.S.SliceStore.kind l.fn.dev l.dev (file_of l.inode (seen l.kv l.fn.at)) l.off l.done l.out.items;
  recorded : Recorded l.inode (region_keys (touched l.fn.dev.settings.region l.off l.done)) l.fn.at l.at;
  border : (l.done ≡ 0) ⊎ ((l.done ≡ l.len) ⊎ ((q : ℕ) × (q * l.fn.dev.settings.region ≡ l.off + l.done)));
  reads : OnlyRead g.S.SliceStore.kind (between l.fn.dev l.dev);
  each : GoesOn g.S.SliceStore.kind l.fn.dev l.dev [];
}

abbrev pub decreases-loop-done : goal.decreases-loop-done
decreases-loop-done g l = l.len - l.done
