-- Bytes that are laid part by part, and piece by piece.
use Rattle.std.proofs.Common.{◌≡◌, ℕ, zero, suc, ◌+◌, ◌-◌, ◌*◌, ◌/◌, ◌%◌, ◌<◌, ◌≤◌, ◌++◌, List, [], ◌∷◌, length, get_or, take, ap, sym, ◌∙◌, subst, arith, inl}
use Rattle.std.proofs.Common.{inr}
use Rattle.std.proofs.lemmas.List.{take_more, take_all}
use Rattle.std.proofs.lemmas.Bool.{cases_lt, cond-true, lt-ltb}
use Rattle.std.proofs.lemmas.Nat.{div-add-mod', mod_below, div_below}
use Rattle.wtf_overlay.specs.declared.part.Entry.{Entry}
use Rattle.wtf_overlay.specs.declared.part.Piece.{Piece}
use Rattle.wtf_overlay.specs.Origin.{Place, part_origin, pieces_len, pieces_origin}
use Rattle.wtf_overlay.proofs.Pieces.{pieces_len-append, pieces_origin_left, pieces_origin_right}
use Rattle.wtf_model.specs.declared.limits.TheConstants.{MAX_REGIONS}
use Rattle.wtf_meta.specs.Files.{joined}
use Rattle.wtf_meta.specs.FileEdits.{FileEdit, Push, RaiseLast}
use Rattle.wtf_meta.specs.Ranges.{Covers, Lays}
use Rattle.wtf_meta.proofs.Laid.{joined_first, joined_then}
use Rattle.wtf_meta.proofs.Covering.{Covers-same, Covers-join, Covers-push}
use Rattle.wtf_meta.proofs.Laying.{Lays-raised, Lays-none_covered}

-- one entry more of a piece
pub Covers-part : (b off done r : ℕ) (e : Entry) (f : ℕ → List Place) (ds : List FileEdit) → 0 < b → e.off + e.len ≤ b → r * b + e.off ≡ off + done
    → ((i : ℕ) → i < e.len → part_origin e.part i ≡ f (done + i)) → Covers b ds off done f → Covers b (ds ++ Push r e ∷ []) off (done + e.len) f
Covers-part b off done r e f ds pos within place here covers =
    Covers-same b (ds ++ Push r e ∷ []) off (done + e.len) (joined done f (part_origin e.part)) f
    (λ i h. elim (cases_lt i done) [
      | inl l ↦ joined_first done f (part_origin e.part) i l
      | inr g ↦ joined_then done f (part_origin e.part) i g ∙ here (i - done) (omega arith) ∙ ap f (let d : done + (i - done) ≡ i = omega arith in d)
    ])
    (Covers-join b ds (Push r e ∷ []) off done e.len f (part_origin e.part) covers (Covers-push b r (off + done) e pos within place))

-- the places of pieces and of one more
pub pieces_joined : (ps : List Piece) (p : Piece) (i : ℕ) → i < pieces_len ps + p.len
    → joined (pieces_len ps) (pieces_origin ps) (part_origin p.part) i ≡ pieces_origin (ps ++ p ∷ []) i
pieces_joined ps p i h = elim (cases_lt i (pieces_len ps)) [
  | inl l ↦ joined_first _ (pieces_origin ps) (part_origin p.part) i l ∙ sym (pieces_origin_left ps (p ∷ []) i l)
  | inr g ↦ joined_then _ (pieces_origin ps) (part_origin p.part) i g
      ∙ sym (pieces_origin_right ps (p ∷ []) i g ∙ cond-true _ _ _ (lt-ltb (i - pieces_len ps) p.len (omega arith)))
]

-- how many bytes the first pieces have, and one more
pub pieces_len_more : (ps : List Piece) (i : ℕ) (p : Piece) → i < length ps → p ≡ get_or ps i p → pieces_len (take (i + 1) ps) ≡ pieces_len (take i ps) + p.len
pieces_len_more ps i p h is = ap pieces_len (take_more ps i p h) ∙ pieces_len-append (take i ps) (get_or ps i p ∷ [])
    ∙ (let d : pieces_len (take i ps) + (get_or ps i p).len ≡ pieces_len (take i ps) + p.len =
    ap (λ (q : Piece). pieces_len (take i ps) + q.len) (sym is) in omega (arith, d))

-- the first pieces have no more bytes than all
pub pieces_len_take : (ps : List Piece) (i : ℕ) → pieces_len (take i ps) ≤ pieces_len ps
pieces_len_take ps zero = omega arith
pieces_len_take [] (suc i) = omega arith
pieces_len_take (p ∷ ps) (suc i) = omega (arith, pieces_len_take ps i)

-- one piece more
pub Covers-piece : (b off done i : ℕ) (ps : List Piece) (p : Piece) (ds es : List FileEdit) → i < length ps → p ≡ get_or ps i p → done ≡ pieces_len (take i ps)
    → Covers b ds off done (pieces_origin (take i ps)) → Covers b es (off + done) p.len (part_origin p.part)
    → Covers b (ds ++ es) off (done + p.len) (pieces_origin (take (i + 1) ps))
Covers-piece b off done i ps p ds es h is d covers more =
    let f = pieces_origin (take i ps) in
    let g = pieces_origin (take (i + 1) ps) in
    let next : take (i + 1) ps ≡ take i ps ++ p ∷ [] = take_more ps i p h ∙ ap (λ q. take i ps ++ q ∷ []) (sym is) in
    Covers-same b (ds ++ es) off (done + p.len) (joined done f (part_origin p.part)) g
    (λ j k. ap (λ w. joined w f (part_origin p.part) j) d ∙ pieces_joined (take i ps) p j (omega arith) ∙ ap (λ l. pieces_origin l j) (sym next))
    (Covers-join b ds es off done p.len f (part_origin p.part) covers more)

-- all pieces, and the last region
pub Lays-pieces : (b off done i last : ℕ) (ps : List Piece) (ds : List FileEdit) → 0 < b → length ps ≤ i → done ≡ pieces_len (take i ps) → 0 < done
    → off + done ≤ MAX_REGIONS * b → last ≡ (off + done - 1) / b
    → Covers b ds off done (pieces_origin (take i ps)) → Lays b (ds ++ RaiseLast last ∷ []) off (pieces_len ps) (pieces_origin ps)
Lays-pieces b off done i last ps ds pos h d some cap l covers =
    let whole : take i ps ≡ ps = take_all i ps h in
    let all : done ≡ pieces_len ps = d ∙ ap pieces_len whole in
    subst (λ k. Lays b (ds ++ RaiseLast last ∷ []) off k (pieces_origin ps)) all
    (Lays-raised b ds off done last ((off + done - 1) % b + 1) (pieces_origin ps) some
    (ap (λ j. j * b + ((off + done - 1) % b + 1)) l ∙ omega (arith, div-add-mod' (off + done - 1) b)) (omega arith)
    (omega (arith, mod_below (off + done - 1) b pos))
    (subst (λ j. j < MAX_REGIONS) (sym l) (div_below (off + done - 1) b MAX_REGIONS pos (omega arith)))
    (subst (λ (qs : List Piece). Covers b ds off done (pieces_origin qs)) whole covers))

-- pieces with no byte
pub Lays-no_pieces : (b off done i : ℕ) (ps : List Piece) (ds : List FileEdit) → length ps ≤ i → done ≡ pieces_len (take i ps) → done ≡ 0
    → Covers b ds off done (pieces_origin (take i ps)) → Lays b ds off (pieces_len ps) (pieces_origin ps)
Lays-no_pieces b off done i ps ds h d none covers =
    let all : done ≡ pieces_len ps = d ∙ ap pieces_len (take_all i ps h) in
    subst (λ k. Lays b ds off k (pieces_origin ps)) (sym none ∙ all)
    (Lays-none_covered b off ds (pieces_origin (take i ps)) (pieces_origin ps) (subst (λ k. Covers b ds off k (pieces_origin (take i ps))) none covers))
