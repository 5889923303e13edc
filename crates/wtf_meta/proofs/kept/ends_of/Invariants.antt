use Rattle.std.proofs.Common.{◌≡◌, length, take}
use Rattle.wtf_meta.specs.Slices.{bytes_in}
use Rattle.wtf_meta.proofs.Ends.{AreEndsTo}
use Rattle.wtf_meta.proofs.kept.ends_of.Given as goal

-- the ends of the pieces so far
abbrev pub invariant-loop-piece : goal.invariant-loop-piece
invariant-loop-piece l = record {
  sum : l.sum ≡ bytes_in (take l.piece-index l.pieces);
  count : length l.ends.items ≡ l.piece-index;
  ends : AreEndsTo l.pieces l.ends.items l.piece-index;
}
