-- Changes that lay pieces, one more at a time.
use Rattle.std.proofs.Common.{◌≡◌, ◌⊎◌, ℕ, ◌+◌, ◌-◌, ◌/◌, ◌<◌, ◌≤◌, ◌++◌, nat_lt, List, [], ◌∷◌, length, take, get_or, refl, sym, ap, ◌∙◌, subst, arith, inl}
use Rattle.std.proofs.Common.{inr}
use Rattle.std.proofs.lemmas.Bool.{cond-true, cond-false, lt-ltb, le-ltb}
use Rattle.std.proofs.lemmas.List.{append-nil, append_assoc, take_more, take_all}
use Rattle.wtf_overlay.specs.Origin.{Place, part_origin, pieces_len}
use Rattle.wtf_overlay.specs.declared.part.Entry.{Entry}
use Rattle.wtf_overlay.specs.declared.part.Piece.{Piece}
use Rattle.wtf_meta.specs.FileEdits.{FileEdit, Push, PushRel, Put, Clip, ZeroWithin, CutAbove, RaiseLast, SetLast}
use Rattle.wtf_region.specs.Laid.{IsEntryOf, ArePushes, ArePiecePushes, raised, IsLaid}

-- an entry that was made as a part of a range
pub entry_whole : (b done n off len : ℕ) (e : Entry) → e.off ≡ off → e.len ≡ len → (done + len ≡ n) ⊎ (off + len ≡ b) → (done + e.len ≡ n) ⊎ (e.off + e.len ≡ b)
entry_whole b done n off len e at has (inl all) = inl (omega (arith, has, all))
entry_whole b done n off len e at has (inr border) = inr (omega (arith, at, has, border))

-- one entry more
pub pushes_more : (b off n : ℕ) (f : ℕ → List Place) (done mid r : ℕ) (e : Entry) (ds : List FileEdit) → ArePushes b off n f done ds mid
    → IsEntryOf b off n f mid r e
    → ArePushes b off n f done (ds ++ Push r e ∷ []) (mid + e.len)
pushes_more b off n f done mid r e [] same one = subst (λ (k : ℕ). IsEntryOf b off n f k r e × (k + e.len ≡ mid + e.len)) (sym same) (one, refl)
pushes_more b off n f done mid r e (Push q g ∷ ds) h one = (h.0, pushes_more b off n f (done + g.len) mid r e ds h.1 one)
pushes_more b off n f done mid r e (PushRel q ps c ∷ ds) h one = absurd h
pushes_more b off n f done mid r e (Put q v ∷ ds) h one = absurd h
pushes_more b off n f done mid r e (Clip q end ∷ ds) h one = absurd h
pushes_more b off n f done mid r e (ZeroWithin q from upto ∷ ds) h one = absurd h
pushes_more b off n f done mid r e (CutAbove q ∷ ds) h one = absurd h
pushes_more b off n f done mid r e (RaiseLast q ∷ ds) h one = absurd h
pushes_more b off n f done mid r e (SetLast q ∷ ds) h one = absurd h

-- one piece more
pub pieces_more : (b off : ℕ) (qs : List Piece) (p : Piece) (ds es : List FileEdit) → ArePiecePushes b off qs ds
    → ArePushes b (off + pieces_len qs) p.len (part_origin p.part) 0 es p.len
    → ArePiecePushes b off (qs ++ p ∷ []) (ds ++ es)
pieces_more b off [] p ds es none one =
    let start : off + 0 ≡ off = omega arith in (
      es,
      [],
      ap (λ (l : List FileEdit). l ++ es) none ∙ sym (append-nil es),
      subst (λ (o : ℕ). ArePushes b o p.len (part_origin p.part) 0 es p.len) start one,
      refl,
    )
pieces_more b off (q ∷ qs) p ds es h one =
    let next : off + (q.len + pieces_len qs) ≡ off + q.len + pieces_len qs = omega arith in
    let first : List FileEdit = h.0 in
    let rest : List FileEdit = h.1 in (
      first,
      rest ++ es,
      ap (λ (l : List FileEdit). l ++ es) h.2 ∙ append_assoc first rest es,
      h.3,
      pieces_more b (off + q.len) qs p rest es h.4 (subst (λ (o : ℕ). ArePushes b o p.len (part_origin p.part) 0 es p.len) next one),
    )

-- one more of the first pieces of a list
pub first_pieces_more : (b off done k : ℕ) (ps : List Piece) (p : Piece) (ds es : List FileEdit) → k < length ps → p ≡ get_or ps k p
    → done ≡ pieces_len (take k ps)
    → ArePiecePushes b off (take k ps) ds → ArePushes b (off + done) p.len (part_origin p.part) 0 es p.len → ArePiecePushes b off (take (k + 1) ps) (ds ++ es)
first_pieces_more b off done k ps p ds es below is d first one =
    let next : take (k + 1) ps ≡ take k ps ++ p ∷ [] = take_more ps k p below ∙ ap (λ (q : Piece). take k ps ++ q ∷ []) (sym is) in
    subst (λ (qs : List Piece). ArePiecePushes b off qs (ds ++ es)) (sym next)
    (pieces_more b off (take k ps) p ds es first (subst (λ (m : ℕ). ArePushes b (off + m) p.len (part_origin p.part) 0 es p.len) d one))

-- the last region
pub raised_is : (b off n last : ℕ) → 0 < n → last ≡ (off + n - 1) / b → raised b off n ≡ RaiseLast last ∷ []
raised_is b off n last some is =
    cond-true (nat_lt 0 n) (RaiseLast ((off + n - 1) / b) ∷ []) [] (lt-ltb 0 n some) ∙ ap (λ (r : ℕ). RaiseLast r ∷ []) (sym is)

pub raised_none : (b off n : ℕ) → n ≡ 0 → raised b off n ≡ []
raised_none b off n none = cond-false (nat_lt 0 n) (RaiseLast ((off + n - 1) / b) ∷ []) [] (le-ltb 0 n (omega (arith, none)))

-- all pieces, and the last region
pub laid_all : (b off done k last : ℕ) (ps : List Piece) (ds : List FileEdit) → length ps ≤ k → done ≡ pieces_len (take k ps) → 0 < done
    → last ≡ (off + done - 1) / b
    → ArePiecePushes b off (take k ps) ds → IsLaid b off ps (ds ++ RaiseLast last ∷ [])
laid_all b off done k last ps ds all d some is first =
    let whole : take k ps ≡ ps = take_all k ps all in
    let sum : done ≡ pieces_len ps = d ∙ ap pieces_len whole in
    record {
      pushes = ds;
      pushed = subst (λ (qs : List Piece). ArePiecePushes b off qs ds) whole first;
      is = ap (λ (l : List FileEdit). ds ++ l) (sym (subst (λ (m : ℕ). raised b off m ≡ RaiseLast last ∷ []) sum (raised_is b off done last some is)));
    }

-- pieces without a byte
pub laid_nothing : (b off done k : ℕ) (ps : List Piece) (ds : List FileEdit) → length ps ≤ k → done ≡ pieces_len (take k ps) → done ≡ 0
    → ArePiecePushes b off (take k ps) ds → IsLaid b off ps ds
laid_nothing b off done k ps ds all d none first =
    let whole : take k ps ≡ ps = take_all k ps all in
    let sum : pieces_len ps ≡ 0 = sym (ap pieces_len whole) ∙ (sym d ∙ none) in
    record {
      pushes = ds;
      pushed = subst (λ (qs : List Piece). ArePiecePushes b off qs ds) whole first;
      is = sym (ap (λ (l : List FileEdit). ds ++ l) (raised_none b off (pieces_len ps) sum) ∙ append-nil ds);
    }

-- no piece
pub laid_none : (b off : ℕ) → IsLaid b off [] []
laid_none b off = record { pushes = []; pushed = refl; is = refl }
