-- The bytes of pieces: read from a file, one after another, and parts of them.
use Rattle.std.proofs.Common.{◌≡◌, ℕ, ◌+◌, ◌-◌, ◌<◌, ◌≤◌, ◌++◌, min, nat_lt, List, [], ◌∷◌, length, get_or, Some, refl, ap, sym, ◌∙◌, arith, inl, inr}
use Rattle.std.proofs.Common.{length-append}
use Rattle.std.proofs.lemmas.Bool.{cases_lt, cond-true, lt-ltb}
use Rattle.std.proofs.lemmas.List.{get_or_append_left, get_or-append_right}
use Rattle.std.proofs.lemmas.Grind.{same_number_lists}
use Rattle.wtf_overlay.specs.Origin.{Place, part_origin, pieces_len, pieces_origin, Plans}
use Rattle.wtf_overlay.specs.Meaning.{meaning}
use Rattle.wtf_overlay.specs.declared.part.Piece.{Piece}
use Rattle.wtf_overlay.proofs.Pieces.{pieces_len-append, pieces_origin_left, pieces_origin_right}
use Rattle.wtf_model.specs.Done.{part}
use Rattle.wtf_model.proofs.Laws.{length-part, get_or-part}
use Rattle.wtf_meta.specs.Files.{FileView, file_origin, joined}
use Rattle.wtf_meta.specs.Contents.{Told, TellBytes, PiecesTell, HasBytes, lists_in}
use Rattle.wtf_meta.proofs.Laid.{joined_first, joined_then}

-- pieces that show places tell their bytes
pub PiecesTell-plans : (told : Told) (ps : List Piece) (n : ℕ) (f : ℕ → List Place) (bytes : List ℕ) → Plans ps n f → TellBytes told n f bytes
    → PiecesTell told ps bytes
PiecesTell-plans told ps n f bytes plans tell = record {
  len = plans.len ∙ tell.len;
  tells = λ i h. let here : i < n = omega (arith, plans.len) in ap (meaning told) (plans.origin i here) ∙ tell.tells i here;
}

-- a part of bytes that are told everywhere, as far as they go
part_tells : (told : Told) (f : ℕ → List Place) (all : List ℕ) (off n k : ℕ) → ((x : ℕ) → x < length all → meaning told (f x) ≡ Some (get_or all x 0))
    → k ≡ min n (length all - off)
    → TellBytes told k (λ i. f (off + i)) (part off n all)
part_tells told f all off n k tells most = record {
  len = most ∙ sym (length-part n off all);
  tells = λ i h. tells (off + i) (omega arith) ∙ ap Some (sym (get_or-part n off all i 0 (omega arith)));
}

-- the bytes of a file from an offset on, as many as are asked for and are there
pub HasBytes-part : (told : Told) (b : ℕ) (v : FileView) (all : List ℕ) (off n k : ℕ) → HasBytes told b v all → k ≡ min n (length all - off)
    → TellBytes told k (λ i. file_origin b (lists_in b told) v (off + i)) (part off n all)
HasBytes-part told b v all off n k has most = part_tells told (file_origin b (lists_in b told) v) all off n k (λ x h. has.tells x) most

-- pieces that were read from a file
pub PiecesTell-read : (told : Told) (b : ℕ) (v : FileView) (all : List ℕ) (off n k : ℕ) (ps : List Piece) → HasBytes told b v all → k ≡ min n (length all - off)
    → Plans ps k (λ i. file_origin b (lists_in b told) v (off + i)) → PiecesTell told ps (part off n all)
PiecesTell-read told b v all off n k ps has most plans = PiecesTell-plans told ps k (λ i. file_origin b (lists_in b told) v (off + i)) (part off n all) plans
    (HasBytes-part told b v all off n k has most)

-- a whole file
pub PiecesTell-file : (told : Told) (b : ℕ) (v : FileView) (all : List ℕ) (n : ℕ) (ps : List Piece) → HasBytes told b v all → n ≡ length all
    → Plans ps n (λ i. file_origin b (lists_in b told) v i) → PiecesTell told ps all
PiecesTell-file told b v all n ps has whole plans =
    PiecesTell-plans told ps n (λ i. file_origin b (lists_in b told) v i) all plans (record { len = whole; tells = λ i h. has.tells i })

-- pieces that were cut from others
pub PiecesTell-cut : (told : Told) (ps out : List Piece) (all : List ℕ) (off n : ℕ) → PiecesTell told ps all → off + n ≤ length all
    → Plans out n (λ i. pieces_origin ps (off + i)) → PiecesTell told out (part off n all)
PiecesTell-cut told ps out all off n tell within plans =
    PiecesTell-plans told out n (λ i. pieces_origin ps (off + i)) (part off n all) plans
    (part_tells told (pieces_origin ps) all off n n (λ x h. tell.tells x (omega (arith, tell.len))) (omega arith))

-- no piece
pub PiecesTell-none : (told : Told) → PiecesTell told [] []
PiecesTell-none told = record { len = refl; tells = λ i h. absurd (omega arith) }

-- a single piece
pub PiecesTell-one : (told : Told) (p : Piece) (bytes : List ℕ) → TellBytes told p.len (part_origin p.part) bytes → PiecesTell told (p ∷ []) bytes
PiecesTell-one told p bytes tell =
    PiecesTell-plans told (p ∷ []) p.len (part_origin p.part) bytes
    (record { len = omega arith; origin = λ i h. cond-true (nat_lt i p.len) _ _ (lt-ltb i p.len h) }) tell

-- bytes after others
pub TellBytes-append : (told : Told) (n m : ℕ) (f g : ℕ → List Place) (xs ys : List ℕ) → TellBytes told n f xs → TellBytes told m g ys
    → TellBytes told (n + m) (joined n f g) (xs ++ ys)
TellBytes-append told n m f g xs ys first next =
    let a : n ≡ length xs = first.len in
    let b : m ≡ length ys = next.len in
    record {
      len = omega (arith, length-append xs ys);
      tells = λ i h. elim (cases_lt i n) [
        | inl l ↦ ap (meaning told) (joined_first n f g i l) ∙ first.tells i l ∙ ap Some (sym (get_or_append_left xs ys 0 i (omega arith)))
        | inr past ↦ ap (meaning told) (joined_then n f g i past) ∙ next.tells (i - n) (omega arith)
            ∙ ap Some (sym (get_or-append_right xs ys n i 0 (sym a) past))
      ];
    }

-- pieces after others
pub PiecesTell-append : (told : Told) (ps qs : List Piece) (xs ys : List ℕ) → PiecesTell told ps xs → PiecesTell told qs ys
    → PiecesTell told (ps ++ qs) (xs ++ ys)
PiecesTell-append told ps qs xs ys first next =
    PiecesTell-plans told (ps ++ qs) (pieces_len ps + pieces_len qs) (joined (pieces_len ps) (pieces_origin ps) (pieces_origin qs)) (xs ++ ys)
    (record {
      len = pieces_len-append ps qs;
      origin = λ i h. elim (cases_lt i (pieces_len ps)) [
        | inl l ↦ pieces_origin_left ps qs i l ∙ sym (joined_first (pieces_len ps) (pieces_origin ps) (pieces_origin qs) i l)
        | inr past ↦ pieces_origin_right ps qs i past ∙ sym (joined_then (pieces_len ps) (pieces_origin ps) (pieces_origin qs) i past)
      ];
    })
    (TellBytes-append told (pieces_len ps) (pieces_len qs) (pieces_origin ps) (pieces_origin qs) xs ys first next)

-- places tell one list of bytes
pub TellBytes-one : (told : Told) (n : ℕ) (f : ℕ → List Place) (xs ys : List ℕ) → TellBytes told n f xs → TellBytes told n f ys → xs ≡ ys
TellBytes-one told n f xs ys first second =
    same_number_lists xs ys (sym first.len ∙ second.len)
    (λ k h. let e : Some (get_or xs k 0) ≡ Some (get_or ys k 0) = sym (first.tells k (omega (arith, first.len)))
    ∙ second.tells k (omega (arith, first.len)) in cc)
