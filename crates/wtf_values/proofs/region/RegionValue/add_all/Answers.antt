use Rattle.std.proofs.Common.{◌≡◌, ◌+◌, ◌++◌, [], ◌∷◌, take, ◌∙◌, ap, sym, arith}
use Rattle.std.proofs.lemmas.List.{take_more}
use Rattle.wtf_overlay.specs.declared.part.Piece.{Piece}
use Rattle.wtf_values.specs.declared.region.RegionValue.{RegionValue}
use Rattle.wtf_values.specs.Regions.{with_piece, with_pieces}
use Rattle.wtf_values.proofs.RegionLaws.{with_pieces-push}
use Rattle.wtf_values.proofs.Summed.{pieces_len_more, pieces_len_take}
use Rattle.wtf_values.proofs.region.RegionValue.add_all.Goals as goal

pub add-requires : goal.add-requires
add-requires c =
    let ps = c.args.pieces.now in
    let i = c.loop-piece.piece-index in
    omega (arith, c.loop-piece.invariant.1, pieces_len_more ps i c.piece-item.result (omega arith) c.piece-item.is, pieces_len_take ps (i + 1), c.requires)

pub loop-piece-preserved : goal.loop-piece-preserved
loop-piece-preserved c =
    let ps = c.args.pieces.now in
    let i = c.loop-piece.piece-index in
    let p = c.piece-item.result in
    let next : take (i + 1) ps ≡ take i ps ++ p ∷ [] = take_more ps i p (omega arith) ∙ ap (λ (q : Piece). take i ps ++ q ∷ []) (sym c.piece-item.is) in (
      c.in_ok-region.ensures.value ∙ ap (λ (v : RegionValue). with_piece v p) c.loop-piece.invariant.0 ∙ sym (with_pieces-push c.args.self (take i ps) p)
          ∙ ap (with_pieces c.args.self) (sym next),
      omega (arith, c.in_ok-region.ensures.end, c.loop-piece.invariant.1, pieces_len_more ps i p (omega arith) c.piece-item.is),
    )
