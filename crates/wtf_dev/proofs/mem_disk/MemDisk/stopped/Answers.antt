use Rattle.std.proofs.Common.{◌∙◌, ap, arith, subst, sym}
use Rattle.std.specs.Prelude.{List}
use Rattle.wtf_dev.specs.declared.disk_call.DiskCall.{DiskCall}
use Rattle.wtf_dev.specs.DiskTape.{DiskState, disk_file, picked}
use Rattle.wtf_dev.proofs.DiskStops.{AreRestored, restored_none, restored_one, restored_left}
use Rattle.wtf_dev.proofs.mem_disk.MemDisk.stopped.Goals as goal

pub loop-file-init : goal.loop-file-init
loop-file-init c = record {
  within = omega arith;
  are = subst (λ (tape : List DiskCall). AreRestored c.args.pick c.args.self.now.noted tape 0) (sym c.new-tape.ensures)
      (restored_none c.args.pick c.args.self.now.noted);
}

pub loop-file-preserved : goal.loop-file-preserved
loop-file-preserved c = record {
  within = omega (arith, c.loop-file-test.true);
  are = restored_one c.loop-file.file c.deref.result.now c.loop-file.invariant.are
      (c.deref.ensures.value ∙ c.in_ok-bytes.ensures ∙ ap (λ (d : DiskState). picked c.args.pick (disk_file d.noted c.loop-file.file)) c.self.view_is)
      c.in_ok-restore.ensures.restored c.in_ok-restore.ensures.others;
}

pub returns-clause-left : goal.returns-clause-left
returns-clause-left c =
    restored_left c.args.pick _ _
    (subst (AreRestored c.args.pick c.args.self.now.noted c.loop-file.tape)
    (omega (arith, c.loop-file-test.false, c.loop-file.invariant.within)) c.loop-file.invariant.are)
    (λ f le. ap (λ (d : DiskState). (disk_file d.noted f).seen) (sym c.self.view_is) ∙ c.bytes-held.ensures.past f le)

pub returns-clause-picked : goal.returns-clause-picked
returns-clause-picked c = λ f lt. c.loop-file.invariant.are.done f (omega (arith, lt, c.loop-file-test.false, c.loop-file.invariant.within))
