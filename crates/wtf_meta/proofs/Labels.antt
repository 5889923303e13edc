-- Lists by label, once one label is set.
use Rattle.std.proofs.Common.{◌≡◌, ◌≢◌, ℕ, zero, suc, ◌+◌, ◌<◌, List, [], ◌∷◌, length, get_or, set, map, Option, None, Some, refl, sym, ap, ◌∙◌, arith, subst}
use Rattle.std.proofs.Common.{inl, inr, Vec, Global}
use Rattle.std.specs.Option.{option_map}
use Rattle.std.proofs.lemmas.List.{map-set, set-get_or, get_or-set_same, get_or-set_other, same_lists}
use Rattle.std.proofs.lemmas.Option.{get_or_from_slice_get, slice_get_read, slice_get-map}
use Rattle.std.proofs.lemmas.Bool.{cases_eq}
use Rattle.wtf_overlay.specs.declared.part.Piece.{Piece}
use Rattle.wtf_meta.specs.declared.kept.Kept.{Kept}
use Rattle.wtf_meta.specs.declared.session.Handle.{Handle}
use Rattle.wtf_meta.specs.Sessions.{SessionView, at_label, items_of, session_view, SetsSlice}

pub at_label_same : {A : Type 0} (xs : List (Option A)) (i : ℕ) (x : Option A) → i < length xs → at_label (set xs i x) i ≡ x
at_label_same [] i x h = absurd (omega (arith, h))
at_label_same (y ∷ ys) zero None h = refl
at_label_same (y ∷ ys) zero (Some a) h = refl
at_label_same (y ∷ ys) (suc i) x h = at_label_same ys i x (omega arith)

pub at_label_other : {A : Type 0} (xs : List (Option A)) (i j : ℕ) (x : Option A) → j ≢ i → at_label (set xs i x) j ≡ at_label xs j
at_label_other [] i j x h = refl
at_label_other (y ∷ ys) zero zero x h = absurd (h refl)
at_label_other (y ∷ ys) zero (suc j) x h = refl
at_label_other (y ∷ ys) (suc i) zero x h = refl
at_label_other (y ∷ ys) (suc i) (suc j) x h = at_label_other ys i j x (λ e. h (ap suc e))

map_length : {A B : Type 0} (f : A → B) (xs : List A) → length (map f xs) ≡ length xs
map_length f [] = refl
map_length f (x ∷ xs) = omega (arith, map_length f xs)

-- a slice was put
pub slice_set_alone : (hs : List (Option Handle)) (ss : List (Option Kept)) (s : ℕ) (kept : Kept) (pieces : Vec Piece Global) (old : SessionView)
    → session_view hs ss ≡ old → s < length ss → kept.pieces ≡ pieces → SetsSlice s (Some pieces.items) old (session_view hs (set ss s (Some kept)))
slice_set_alone hs ss s kept pieces old is h same =
    let f : Option Kept → Option (List Piece) = option_map items_of in
    let now = map-set f ss s (Some kept) in
    subst (λ (o : SessionView). SetsSlice s (Some pieces.items) o (session_view hs (set ss s (Some kept)))) is
    (subst (λ (v : Vec Piece Global). SetsSlice s (Some v.items) (session_view hs ss) (session_view hs (set ss s (Some kept)))) same (record {
      is = ap (λ l. at_label l s) now ∙ at_label_same (map f ss) s (Some kept.pieces.items) (omega (arith, h, map_length f ss));
      others = λ other differ. ap (λ l. at_label l other) now ∙ at_label_other (map f ss) s other (Some kept.pieces.items) differ;
      handles = λ g. refl;
    }))

-- a slice is kept otherwise, with the same pieces
pub slice_same : (hs : List (Option Handle)) (ss : List (Option Kept)) (s : ℕ) (old new : Option Kept) → s < length ss → old ≡ get_or ss s old
    → option_map items_of new ≡ option_map items_of old
    → session_view hs (set ss s new) ≡ session_view hs ss
slice_same hs ss s old new h is same =
    let f : Option Kept → Option (List Piece) = option_map items_of in
    let stands : get_or (map f ss) s (f new) ≡ f new =
    get_or_from_slice_get (map f ss) s (f old) (f new) (slice_get-map f ss s ∙ ap (option_map f) (slice_get_read ss (length ss) s old refl h is)) ∙ sym same in
    let kept : map f (set ss s new) ≡ map f ss = map-set f ss s new ∙ ap (set (map f ss) s) (sym stands) ∙ set-get_or (map f ss) s (f new) in
    ap (λ l. let v : SessionView = record { handles = hs; slices = l } in v) kept

-- what stands at a label stands in the list
pub at_label_within : {A : Type 0} (xs : List (Option A)) (i : ℕ) (x : A) → at_label xs i ≡ Some x → i < length xs
at_label_within [] i x h = absurd (cc)
at_label_within (y ∷ ys) zero x h = omega arith
at_label_within (y ∷ ys) (suc i) x h = omega (arith, at_label_within ys i x h)

-- Lists that are copied element by element: those before n are equal.
abbrev pub IsCopiedTo : {A : Type 0} → List A → List A → ℕ → Type 0
IsCopiedTo {A} from to n = (k : ℕ) (d : A) → k < n → get_or to k d ≡ get_or from k d

element_at : {A : Type 0} (xs : List A) (n : ℕ) (x d : A) → n < length xs → x ≡ get_or xs n x → get_or xs n d ≡ x
element_at xs n x d h is = get_or_from_slice_get xs n x d (slice_get_read xs (length xs) n x refl h is)

-- one more element is copied
pub copied_more : {A : Type 0} (from to : List A) (n : ℕ) (x : A) → n < length from → n < length to → IsCopiedTo from to n → x ≡ get_or from n x
    → IsCopiedTo from (set to n x) (n + 1)
copied_more from to n x h g before is k d below = elim (cases_eq k n) [
  | inl e ↦ subst (λ j. get_or (set to n x) j d ≡ get_or from j d) (sym e) (get_or-set_same to n x d g ∙ sym (element_at from n x d h is))
  | inr apart ↦ get_or-set_other to n k x d apart ∙ before k d (omega (arith, below, apart))
]

-- and of what is seen of the elements
pub copied_more_by : {A B : Type 0} (f : A → B) (from to : List A) (n : ℕ) (x y : A) → n < length from → n < length to → IsCopiedTo (map f from) (map f to) n
    → y ≡ get_or from n y → f x ≡ f y
    → IsCopiedTo (map f from) (map f (set to n x)) (n + 1)
copied_more_by f from to n x y h g before is same =
    let seen = slice_get-map f from n ∙ ap (option_map f) (slice_get_read from (length from) n y refl h is) in
    subst (λ l. IsCopiedTo (map f from) l (n + 1)) (sym (map-set f to n x))
    (copied_more (map f from) (map f to) n (f x) (omega (arith, h, map_length f from)) (omega (arith, g, map_length f to)) before
    (same ∙ sym (get_or_from_slice_get (map f from) n (f y) (f x) seen)))

-- all were copied
pub copied_all : {A : Type 0} (from to : List A) → length from ≡ length to → IsCopiedTo from to (length to) → to ≡ from
copied_all from to same all = same_lists to from (sym same) (λ k d below. all k d below)

pub copied_all_by : {A B : Type 0} (f : A → B) (from to : List A) → length from ≡ length to → IsCopiedTo (map f from) (map f to) (length to)
    → map f to ≡ map f from
copied_all_by f from to same all = copied_all (map f from) (map f to) (omega (arith, same, map_length f from, map_length f to))
    (λ k d below. all k d (omega (arith, below, map_length f to)))
