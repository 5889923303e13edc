-- A run over a list, one step at a time.
use Rattle.std.proofs.Common.{◌≡◌, ℕ, ◌+◌, ◌<◌, List, [], ◌∷◌, ◌++◌, map, length, get_or, drop, sym, ap, ◌∙◌, append_assoc}
use Rattle.std.proofs.lemmas.List.{at_drop_more}

module _ {A S T : Type 0} (run : S → List A → T) (xs : List A) (i : ℕ) (x : A) (within : i < length xs) (is : x ≡ get_or xs i x) where
  -- what is left of the list begins with the element
  pub at_front : (s : S) → run s (drop i xs) ≡ run s (x ∷ drop (i + 1) xs)
  at_front s = at_drop_more (run s) xs i x within ∙ ap (λ y. run s (y ∷ drop (i + 1) xs)) (sym is)

  pub stepped : (s next : S) (total : T) → run next (drop (i + 1) xs) ≡ run s (x ∷ drop (i + 1) xs) → run s (drop i xs) ≡ total
      → run next (drop (i + 1) xs) ≡ total
  stepped s next total one so_far = one ∙ sym (at_front s) ∙ so_far

module _ {A B : Type 0} (f : A → B) where
  -- the first of what is left goes to the end of what is made
  pub moved : (made next : List B) (left rest all : List A) (x : A) → left ≡ x ∷ rest → next ≡ made ++ f x ∷ [] → made ++ map f left ≡ map f all
      → next ++ map f rest ≡ map f all
  moved made next left rest all x front end so_far =
      ap (λ l. l ++ map f rest) end ∙ append_assoc made (f x ∷ []) (map f rest) ∙ ap (λ l. made ++ map f l) (sym front) ∙ so_far
