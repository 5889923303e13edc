-- Consecutive pieces: their bytes one after another, and parts of them.
use Rattle.std.proofs.Common.{◌≡◌, ℕ, zero, suc, ◌+◌, ◌-◌, ◌<◌, ◌≤◌, ◌++◌, List, [], ◌∷◌, ap, sym, subst, ◌∙◌, take, get_or, length, arith, inl, inr}
use Rattle.std.proofs.lemmas.Bool.{lt-ltb, le-ltb, cond-true, cond-false, cases_lt}
use Rattle.wtf_overlay.specs.declared.part.Piece.{Piece}
use Rattle.wtf_overlay.specs.Origin.{Place, part_origin, pieces_len, pieces_origin, Plans}

pub pieces_len-append : (ps qs : List Piece) → pieces_len (ps ++ qs) ≡ pieces_len ps + pieces_len qs
pieces_len-append [] qs = omega arith
pieces_len-append (p ∷ ps) qs = omega (arith, pieces_len-append ps qs)

pub pieces_len-push : (ps : List Piece) (p : Piece) → pieces_len (ps ++ p ∷ []) ≡ pieces_len ps + p.len
pieces_len-push ps p = omega (arith, pieces_len-append ps (p ∷ []))

-- the bytes of the first pieces
pub pieces_origin_left : (ps qs : List Piece) (i : ℕ) → i < pieces_len ps → pieces_origin (ps ++ qs) i ≡ pieces_origin ps i
pieces_origin_left [] qs i h = absurd (omega arith)
pieces_origin_left (p ∷ ps) qs i h = elim (cases_lt i p.len) [
  | inl l ↦ cond-true _ _ _ (lt-ltb i p.len l) ∙ sym (cond-true _ _ _ (lt-ltb i p.len l))
  | inr g ↦ cond-false _ _ _ (le-ltb i p.len g) ∙ pieces_origin_left ps qs (i - p.len) (omega arith) ∙ sym (cond-false _ _ _ (le-ltb i p.len g))
]

-- and of those after them
pub pieces_origin_right : (ps qs : List Piece) (i : ℕ) → pieces_len ps ≤ i → pieces_origin (ps ++ qs) i ≡ pieces_origin qs (i - pieces_len ps)
pieces_origin_right [] qs i h = ap (pieces_origin qs) (let e : i ≡ i - 0 = omega arith in e)
pieces_origin_right (p ∷ ps) qs i h =
    cond-false _ _ _ (le-ltb i p.len (omega arith)) ∙ pieces_origin_right ps qs (i - p.len) (omega arith)
    ∙ ap (pieces_origin qs) (let e : i - p.len - pieces_len ps ≡ i - (p.len + pieces_len ps) = omega arith in e)

-- a plan, and a plan of what comes next
pub Plans-append : (ps qs : List Piece) (n m k : ℕ) (f g : ℕ → List Place) → k ≡ n + m → Plans ps n f → Plans qs m g
    → ((i : ℕ) → i < m → g i ≡ f (n + i)) → Plans (ps ++ qs) k f
Plans-append ps qs n m k f g e first next follows =
    let a : pieces_len ps ≡ n = first.len in
    let b : pieces_len qs ≡ m = next.len in
    record {
      len = omega (arith, pieces_len-append ps qs);
      origin = λ i h. elim (cases_lt i n) [
        | inl l ↦ pieces_origin_left ps qs i (omega arith) ∙ first.origin i l
        | inr p ↦ pieces_origin_right ps qs i (omega arith) ∙ ap (pieces_origin qs) (let d : i - pieces_len ps ≡ i - n = omega arith in d)
            ∙ next.origin (i - n) (omega arith) ∙ follows (i - n) (omega arith) ∙ ap f (let d : n + (i - n) ≡ i = omega arith in d)
      ];
    }

-- one piece more
pub Plans-push : (ps : List Piece) (p : Piece) (n m : ℕ) (f : ℕ → List Place) → m ≡ n + p.len → Plans ps n f
    → ((i : ℕ) → i < p.len → part_origin p.part i ≡ f (n + i)) → Plans (ps ++ p ∷ []) m f
Plans-push ps p n m f e plans here =
    Plans-append ps (p ∷ []) n p.len m f (part_origin p.part) e plans
    (record { len = omega arith; origin = λ i k. cond-true _ _ _ (lt-ltb i p.len k) })
    here

pieces_at : (ps : List Piece) (n : ℕ) (d : Piece) (j : ℕ) → n < length ps → j < (get_or ps n d).len
    → pieces_origin ps (pieces_len (take n ps) + j) ≡ part_origin (get_or ps n d).part j
pieces_at [] n d j h k = absurd (omega arith)
pieces_at (p ∷ ps) zero d j h k = cond-true _ _ _ (lt-ltb (0 + j) p.len (omega arith)) ∙ ap (part_origin p.part) (omega arith)
pieces_at (p ∷ ps) (suc n) d j h k =
    cond-false _ _ _ (le-ltb (p.len + pieces_len (take n ps) + j) p.len (omega arith))
    ∙ ap (pieces_origin ps) (let e : p.len + pieces_len (take n ps) + j - p.len ≡ pieces_len (take n ps) + j = omega arith in e) ∙ pieces_at ps n d j (omega arith) k

-- the bytes of the piece at n
pub piece_at : (ps : List Piece) (n : ℕ) (p : Piece) (j : ℕ) → n < length ps → p ≡ get_or ps n p → j < p.len
    → pieces_origin ps (pieces_len (take n ps) + j) ≡ part_origin p.part j
piece_at ps n p j h is k =
    pieces_at ps n p j h (subst (λ (q : Piece). j < q.len) is k) ∙ ap (λ (q : Piece). part_origin q.part j) (sym is)

-- a part q of the piece at n, as the next part of a range of pieces
pub Plans-cut : (ps out : List Piece) (n off done more : ℕ) (p q : Piece) → n < length ps → p ≡ get_or ps n p
    → Plans out done (λ i. pieces_origin ps (off + i))
    → pieces_len (take n ps) ≤ off + done → off + done + q.len ≤ pieces_len (take n ps) + p.len → more ≡ done + q.len
    → ((i : ℕ) → part_origin q.part i ≡ part_origin p.part (off + done - pieces_len (take n ps) + i))
    → Plans (out ++ q ∷ []) more (λ i. pieces_origin ps (off + i))
Plans-cut ps out n off done more p q h is plans from upto e origin =
    let t = pieces_len (take n ps) in
    Plans-push out q done more (λ i. pieces_origin ps (off + i)) e plans
    (λ i k. origin i ∙ sym (piece_at ps n p (off + done - t + i) h is (omega arith))
    ∙ ap (pieces_origin ps) (let d : t + (off + done - t + i) ≡ off + (done + i) = omega arith in d))
