use Rattle.std.proofs.Common.{◌≤◌, ◌+◌, arith}
use Rattle.wtf_journal.proofs.Within.{zeroed_more, within_failed}
use Rattle.wtf_journal.proofs.through.write_zeros.Goals as goal

pub returns-in_err-write_piece-clause-kept : goal.returns-in_err-write_piece-clause-kept
returns-in_err-write_piece-clause-kept g c =
    within_failed g.D.Disk.kind c.args.file c.args.at c.loop-done.done c.min-n.result c.args.len c.args.disk.now c.loop-done.disk c.write_piece.new.disk
    (omega (arith, c.min-n.ensures)) (omega (arith, c.min-n.ensures, c.loop-done-test.true)) c.loop-done.invariant.so_far c.write_piece.ensures.kept

pub loop-done-preserved : goal.loop-done-preserved
loop-done-preserved g c =
    let inside : c.args.at + c.loop-done.done ≤ (g.D.Disk.kind.view c.loop-done.disk).size c.args.file =
    let grows = c.loop-done.invariant.so_far.within.goes_on.size c.args.file in omega (arith, c.requires.inside, c.loop-done.invariant.most, grows) in
    record {
      most = omega (arith, c.min-n.ensures, c.loop-done-test.true);
      so_far = zeroed_more g.D.Disk.kind c.args.file c.args.at c.loop-done.done c.min-n.result c.args.disk.now c.loop-done.disk c.write_piece.new.disk
          g.met.D.Disk.laws
          (omega (arith, c.min-n.ensures)) inside c.loop-done.invariant.so_far c.write_piece.ensures.kept c.in_ok-write_piece.ensures.written;
    }
