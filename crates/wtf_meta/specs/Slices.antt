-- The pieces of a slice: where each of them ends, and which of them holds a byte.
use Rattle.std.specs.Prelude.{◌≡◌, ℕ, ◌+◌, ◌-◌, ◌^◌, ◌<◌, ◌≤◌, min, List, length, get_or, take}
use Rattle.wtf_overlay.specs.Origin.{pieces_len}
use Rattle.wtf_overlay.specs.declared.part.Piece.{Piece}

-- the number of bytes of pieces; 2 ^ 64 - 1 where there are more
abbrev pub bytes_in : List Piece → ℕ
bytes_in ps = min (pieces_len ps) (2 ^ 64 - 1)

-- the ends are where each of the pieces ends
pub record AreEnds (ps : List Piece) (ends : List ℕ) : Type 0 where
  pub count : length ends ≡ length ps
  pub each : (k d : ℕ) → k < length ps → get_or ends k d ≡ bytes_in (take (k + 1) ps)

-- The first k pieces end at `start`, at or before byte `off`, and the next one, if there is one, ends past it.
pub record EndsBefore (ps : List Piece) (off k start : ℕ) : Type 0 where
  pub within : k ≤ length ps
  pub is : pieces_len (take k ps) ≡ start
  pub passed : start ≤ off
  pub next : k < length ps → off < pieces_len (take (k + 1) ps)

-- the piece at k holds byte `off` of the pieces, at its own byte `skip`
pub record HoldsByte (ps : List Piece) (off k skip : ℕ) : Type 0 where
  pub within : k < length ps
  pub place : pieces_len (take k ps) + skip ≡ off
  pub before : off < pieces_len (take (k + 1) ps)
