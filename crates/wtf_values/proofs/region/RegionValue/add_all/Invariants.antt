use Rattle.std.proofs.Common.{◌≡◌, ◌+◌, take}
use Rattle.wtf_overlay.specs.Origin.{pieces_len}
use Rattle.wtf_values.specs.Regions.{with_pieces}
use Rattle.wtf_values.proofs.region.RegionValue.add_all.Given as goal

abbrev pub invariant-loop-piece : goal.invariant-loop-piece
invariant-loop-piece l = (l.region ≡ with_pieces l.initial.region (take l.piece-index l.pieces))
    × (l.region.end ≡ l.initial.region.end + pieces_len (take l.piece-index l.pieces))
