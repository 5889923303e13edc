use Rattle.std.proofs.Common.{◌-◌, ◌≤◌, []}
use Rattle.wtf_occ.specs.Attempts.{Grows}
use Rattle.wtf_region.specs.Holding.{held_over}
use Rattle.wtf_region.specs.Edited.{Edited, CoversPart}
use Rattle.wtf_region.proofs.changing.put_piece.Given as goal

-- the piece's bytes up to `done` were laid, or are held
abbrev pub invariant-loop-done : goal.invariant-loop-done
invariant-loop-done l = record {
  upto : l.done ≤ l.piece.len;
  made : Edited l.inode [] (CoversPart l.size l.off l.inode l.piece l.done) (held_over l.inode l.fn.held l.fn.at) (held_over l.inode l.held l.at);
  grows : Grows l.fn.at l.at;
}

abbrev pub decreases-loop-done : goal.decreases-loop-done
decreases-loop-done l = l.piece.len - l.done
