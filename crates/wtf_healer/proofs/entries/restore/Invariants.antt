use Rattle.std.proofs.Common.{◌*◌, ◌≤◌, [], take}
use Rattle.wtf_region.specs.Devs.{GoesOn, between}
use Rattle.wtf_healer.specs.Restored.{AreRestored, Grew, OnlyStored}
use Rattle.wtf_healer.proofs.entries.restore.Given as goal

-- what the first entries came to
abbrev pub invariant-loop-i : goal.invariant-loop-i
invariant-loop-i g l = record {
  goes : GoesOn g.S.SliceStore.kind l.fn.dev l.dev [];
  stores : OnlyStored g.S.SliceStore.kind (between l.fn.dev l.dev);
  done : AreRestored g.S.SliceStore.kind l.fn.dev l.dev l.fn.key (take l.i l.list) l.made l.bytes;
  grew : Grew g.S.SliceStore.kind l.fn.dev l.dev l.bytes;
  few : l.bytes ≤ 4294967295 * l.i;
}
