-- Chunks that are joined end to end.
use Rattle.std.proofs.Common.{◌≡◌, ℕ, suc, ◌+◌, ◌-◌, ◌<◌, ◌≤◌, ◌++◌, Bool, true, List, [], ◌∷◌, refl, sym, ap, ap₂, ◌∙◌, arith, length, length-append, append_assoc, get_or, drop, drop-cons}
use Rattle.std.specs.List.{AllZip, flat_map}
use Rattle.std.specs.Cmp.{first_so, second_so}
use Rattle.std.specs.Cmp.Lexicographic.{pointwise}
use Rattle.std.proofs.lemmas.List.{drop_all, get_or_append_left, get_or-append_right}

module _ {C X : Type 0} (f : C → List X) where
  -- lists of equal parts
  pub flat_map-same : (xs ys : List C) → AllZip (λ x y. f y ≡ f x) xs ys → flat_map f ys ≡ flat_map f xs
  flat_map-same [] [] h = refl
  flat_map-same [] (y ∷ ys) h = absurd h
  flat_map-same (x ∷ xs) [] h = absurd h
  flat_map-same (x ∷ xs) (y ∷ ys) h = ap₂ (λ a b. a ++ b) h.0 (flat_map-same xs ys h.1)

  -- the items from a chunk on, and those that follow all chunks
  abbrev pub rest_from : ℕ → List C → List X → List X
  rest_from k xs ys = flat_map f (drop k xs) ++ ys

  rest_from-cons : (xs : List C) (ys : List X) (k : ℕ) (x : C) → k < length xs → x ≡ get_or xs k x → rest_from k xs ys ≡ f x ++ rest_from (k + 1) xs ys
  rest_from-cons xs ys k x lt is =
      let e : suc k ≡ k + 1 = omega arith in
      ap (λ l. flat_map f l ++ ys) (drop-cons xs k x lt)
      ∙ ap₂ (λ c n. (f c ++ flat_map f (drop n xs)) ++ ys) (sym is) e
      ∙ append_assoc (f x) (flat_map f (drop (k + 1) xs)) ys

  pub rest_from-end : (xs : List C) (ys : List X) (k : ℕ) → length xs ≤ k → rest_from k xs ys ≡ ys
  rest_from-end xs ys k le = ap (λ l. flat_map f l ++ ys) (drop_all k xs le)

  pub get_or-here : (xs : List C) (ys : List X) (k i : ℕ) (x : C) (d : X) → k < length xs → x ≡ get_or xs k x → i < length (f x) → get_or (rest_from k xs ys) i d ≡ get_or (f x) i d
  get_or-here xs ys k i x d lt is inside =
      ap (λ l. get_or l i d) (rest_from-cons xs ys k x lt is) ∙ get_or_append_left (f x) (rest_from (k + 1) xs ys) d i inside

  pub get_or-past : (xs : List C) (ys : List X) (k i : ℕ) (x : C) (d : X) → k < length xs → x ≡ get_or xs k x → length (f x) ≤ i → get_or (rest_from k xs ys) i d ≡ get_or (rest_from (k + 1) xs ys) (i - length (f x)) d
  get_or-past xs ys k i x d lt is past =
      ap (λ l. get_or l i d) (rest_from-cons xs ys k x lt is) ∙ get_or-append_right (f x) (rest_from (k + 1) xs ys) (length (f x)) i d refl past

  pub inside-past : (xs : List C) (ys : List X) (k i : ℕ) (x : C) → k < length xs → x ≡ get_or xs k x → length (f x) ≤ i → i < length (rest_from k xs ys) → i - length (f x) < length (rest_from (k + 1) xs ys)
  inside-past xs ys k i x lt is past inside =
      omega (arith, ap length (rest_from-cons xs ys k x lt is), length-append (f x) (rest_from (k + 1) xs ys))

-- lists whose items are the same, each as the other's
module _ {X : Type 0} (E : X → X → Bool) (exact : (x y : X) → E x y ≡ true → x ≡ y) where
  pub pointwise-same : (xs ys : List X) → pointwise E xs ys ≡ true → xs ≡ ys
  pointwise-same [] [] h = refl
  pointwise-same [] (y ∷ ys) h = absurd (cc)
  pointwise-same (x ∷ xs) [] h = absurd (cc)
  pointwise-same (x ∷ xs) (y ∷ ys) h = ap₂ (λ a b. a ∷ b) (exact x y (first_so (E x y) (pointwise E xs ys) h)) (pointwise-same xs ys (second_so (E x y) (pointwise E xs ys) h))

  pub chunks-same : {C : Type 0} (f : C → List X) (cs ds : List C) → pointwise (λ c d. pointwise E (f c) (f d)) cs ds ≡ true → flat_map f cs ≡ flat_map f ds
  chunks-same f [] [] h = refl
  chunks-same f [] (d ∷ ds) h = absurd (cc)
  chunks-same f (c ∷ cs) [] h = absurd (cc)
  chunks-same f (c ∷ cs) (d ∷ ds) h =
      let here = pointwise E (f c) (f d) in
      let there = pointwise (λ c d. pointwise E (f c) (f d)) cs ds in
      ap₂ (λ a b. a ++ b) (pointwise-same (f c) (f d) (first_so here there h)) (chunks-same f cs ds (second_so here there h))
