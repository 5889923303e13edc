use Rattle.std.proofs.Common.{◌-◌, ◌≤◌, []}
use Rattle.wtf_region.specs.Edited.{Edited}
use Rattle.wtf_rw.specs.Sizes.{ZeroesRegions}
use Rattle.wtf_rw.proofs.sizes.zero.Given as goal

-- the bytes up to `done` were made a hole
abbrev pub invariant-loop-done : goal.invariant-loop-done
invariant-loop-done l = record {
  upto : l.done ≤ l.len;
  made : Edited l.inode [] (ZeroesRegions l.fn.settings.region l.inode l.off l.len l.done) l.fn.at l.at;
}

abbrev pub decreases-loop-done : goal.decreases-loop-done
decreases-loop-done l = l.len - l.done
