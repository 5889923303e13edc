use Rattle.std.proofs.Common.{◌≡◌, take}
use Rattle.wtf_meta.specs.Slices.{bytes_in}
use Rattle.wtf_meta.proofs.kept.bytes_of.Given as goal

abbrev pub invariant-loop-piece : goal.invariant-loop-piece
invariant-loop-piece l = l.sum ≡ bytes_in (take l.piece-index l.pieces)
