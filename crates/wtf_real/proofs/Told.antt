-- What several files tell, where one of them is asked something.
use Rattle.std.proofs.Common.{◌≡◌, inl, inr, ℕ, ◌<◌, Bool, true, false, List, Option, None, Result, Ok, Err, length, map, get_or, set, sym, ◌∙◌, ap}
use Rattle.std.proofs.lemmas.List.{map-set, set-get_or, get_or-map}
use Rattle.wtf_real.specs.Asked.{FileOp, Call, then_call, IsAsked, with_call, IsAskedOf}

module _ {F : Type 0} (told : F → Option (List (Call FileOp))) (fs : List F) (i : ℕ) (x y : F) (now : List (Option (List (Call FileOp)))) (is : map told fs ≡ now) (below : i < length fs) where
  -- the file of this number is now y
  called : (op : FileOp) (done : Bool) → told y ≡ then_call op done (told (get_or fs i x)) → map told (set fs i y) ≡ with_call i op done now
  called op done e =
      map-set told fs i y
      ∙ ap (λ t. set (map told fs) i t) (e ∙ ap (then_call op done) (sym (get_or-map told fs i x None below)))
      ∙ ap (λ l. with_call i op done l) is

  same : told y ≡ told (get_or fs i x) → map told (set fs i y) ≡ now
  same e = map-set told fs i y ∙ ap (λ t. set (map told fs) i t) (e ∙ sym (get_or-map told fs i x None below)) ∙ set-get_or (map told fs) i None ∙ is

  pub asked_of : {A E : Type 0} (r : Result A E) (op : FileOp) → IsAsked r op (told (get_or fs i x)) (told y) → IsAskedOf r i op now (map told (set fs i y))
  asked_of (Ok a) op e = called op true e
  asked_of (Err f) op (inl e) = inl (same e)
  asked_of (Err f) op (inr e) = inr (called op false e)
