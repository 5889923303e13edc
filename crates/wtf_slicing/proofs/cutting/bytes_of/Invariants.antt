use Rattle.std.proofs.Common.{◌≡◌, ◌-◌, ◌^◌, min, take}
use Rattle.wtf_overlay.specs.Origin.{pieces_len}
use Rattle.wtf_slicing.proofs.cutting.bytes_of.Given as goal

abbrev pub invariant-loop-piece : goal.invariant-loop-piece
invariant-loop-piece l = l.sum ≡ min (pieces_len (take l.piece-index l.pieces)) (2 ^ 64 - 1)
