-- Lengths of the first pieces of a list.
use Rattle.std.proofs.Common.{◌≡◌, ℕ, ◌+◌, ◌<◌, min, List, length, get_or, take, ap, sym, ◌∙◌, arith}
use Rattle.std.proofs.lemmas.List.{take_more}
use Rattle.wtf_overlay.specs.declared.part.Piece.{Piece}
use Rattle.wtf_overlay.specs.Origin.{pieces_len}
use Rattle.wtf_overlay.proofs.Pieces.{pieces_len-push}

-- one piece more
pub pieces_len_more : (ps : List Piece) (i : ℕ) (p : Piece) → i < length ps → p ≡ get_or ps i p → pieces_len (take (i + 1) ps) ≡ pieces_len (take i ps) + p.len
pieces_len_more ps i p h is = ap pieces_len (take_more ps i p h) ∙ pieces_len-push (take i ps) (get_or ps i p)
    ∙ ap (λ (q : Piece). pieces_len (take i ps) + q.len) (sym is)

-- a sum that stops at a limit, one piece more
pub summed_more : (ps : List Piece) (i : ℕ) (p : Piece) (limit sum : ℕ) → i < length ps → p ≡ get_or ps i p → sum ≡ min (pieces_len (take i ps)) limit
    → min (sum + p.len) limit ≡ min (pieces_len (take (i + 1) ps)) limit
summed_more ps i p limit sum h is e = omega (arith, e, pieces_len_more ps i p h is)
