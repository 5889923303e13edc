use Rattle.std.proofs.Common.{length}
use Rattle.wtf_journal.proofs.Scans.{SoFar}
use Rattle.wtf_journal.proofs.scan.scan.Given as goal

abbrev pub invariant-loop-rest : goal.invariant-loop-rest
invariant-loop-rest g l = SoFar g.M.Meaning.makes l.fn.meaning l.bytes l.meaning l.rest

abbrev pub decreases-loop-rest : goal.decreases-loop-rest
decreases-loop-rest g l = length l.rest
