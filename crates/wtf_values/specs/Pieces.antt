-- Pieces as they are kept: one in place, or a list.
use Rattle.std.specs.Prelude.{◌≡◌, ◌-◌, ◌^◌, min, List, [], ◌∷◌}
use Rattle.wtf_overlay.specs.declared.part.Piece.{Piece}
use Rattle.wtf_overlay.specs.Origin.{pieces_len}
use Rattle.wtf_values.specs.declared.pieces.OneOrMany.{OneOrMany}
use Rattle.wtf_values.specs.declared.pieces.OneOrMany.TheVariants.{One, Many}

-- the pieces, in order
abbrev pub pieces_in : OneOrMany → List Piece
pieces_in (One piece) = piece ∷ []
pieces_in (Many list bytes) = list.items

-- the number beside a list is that of its bytes, and stops at 2^64 - 1
abbrev pub IsCounted : OneOrMany → Type 0
IsCounted (One piece) = Unit {0}
IsCounted (Many list bytes) = bytes ≡ min (pieces_len list.items) (2 ^ 64 - 1)
