-- Pieces that are added at the end of a region.
use Rattle.std.proofs.Common.{◌≡◌, ℕ, ◌+◌, ◌<◌, ◌^◌, List, [], ◌∷◌, Some, refl, ap, ◌∙◌, arith}
use Rattle.wtf_overlay.specs.declared.part.Piece.{Piece}
use Rattle.wtf_overlay.specs.Origin.{part_origin, pieces_len, pieces_origin}
use Rattle.wtf_values.specs.declared.region.RegionValue.{RegionValue}
use Rattle.wtf_values.specs.Regions.{entry_at, with_piece, with_pieces}
use Rattle.wtf_values.proofs.RegionLaws.{with_piece-fits, with_piece-end}
use Rattle.wtf_meta.specs.Lists.{Lists}
use Rattle.wtf_meta.specs.Files.{region_origin, laid}
use Rattle.wtf_meta.proofs.BaseLists.{region_pushed}
use Rattle.wtf_meta.proofs.Laid.{laid_is, laid-laid, laid_same}

-- a piece lies behind what was there
with_piece_origin : (lists : Lists) (v : RegionValue) (p : Piece) (y : ℕ) → v.end + p.len < 2 ^ 32
    → region_origin lists (Some (with_piece v p)) y ≡ laid v.end p.len (part_origin p.part) (region_origin lists (Some v)) y
with_piece_origin lists v p y fits = ap (λ (w : RegionValue). region_origin lists (Some w) y) (with_piece-fits v p fits)
    ∙ region_pushed lists (Some v) (entry_at v.end p fits) y

-- pieces lie behind what was there
pub with_pieces_origin : (lists : Lists) (v : RegionValue) (ps : List Piece) (y : ℕ) → v.end + pieces_len ps < 2 ^ 32
    → region_origin lists (Some (with_pieces v ps)) y ≡ laid v.end (pieces_len ps) (pieces_origin ps) (region_origin lists (Some v)) y
with_pieces_origin lists v [] y fits = laid_is v.end 0 (pieces_origin []) (region_origin lists (Some v)) y (region_origin lists (Some v) y) (λ _. refl)
    (λ _. refl) (λ from to. absurd (omega arith))
with_pieces_origin lists v (p ∷ ps) y fits =
    let e : (with_piece v p).end ≡ v.end + p.len = with_piece-end v p (omega arith) in
    with_pieces_origin lists (with_piece v p) ps y (omega arith)
    ∙ ap (λ o. laid o (pieces_len ps) (pieces_origin ps) (region_origin lists (Some (with_piece v p))) y) e
    ∙ laid_same (v.end + p.len) (pieces_len ps) (pieces_origin ps) (pieces_origin ps) (region_origin lists (Some (with_piece v p)))
    (laid v.end p.len (part_origin p.part) (region_origin lists (Some v))) y (λ i _. refl) (with_piece_origin lists v p y (omega arith))
    ∙ laid-laid v.end p.len (pieces_len ps) (part_origin p.part) (pieces_origin ps) (region_origin lists (Some v)) y
