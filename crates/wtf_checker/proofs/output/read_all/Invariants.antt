use Rattle.std.proofs.Common.{◌≡◌, ◌≤◌, ◌-◌, length}
use Rattle.wtf_script.specs.declared.limits.TheConstants.{SCRIPT_BYTES}
use Rattle.wtf_checker.specs.declared.output.TheConstants.{CHUNK_BYTES}
use Rattle.wtf_checker.proofs.Taking.{Came}
use Rattle.wtf_checker.proofs.output.read_all.Given as goal

-- the bytes that the source gave
abbrev pub invariant-loop-n : goal.invariant-loop-n
invariant-loop-n g l = record {
  limit : length l.all.items ≤ SCRIPT_BYTES;
  room : l.chunk.len ≡ CHUNK_BYTES;
  came : Came (g.T.Source.view l.fn.source) (g.T.Source.view l.source) l.all.items;
}

abbrev pub decreases-loop-n : goal.decreases-loop-n
decreases-loop-n g l = SCRIPT_BYTES - length l.all.items
