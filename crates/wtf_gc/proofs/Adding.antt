-- Places that are added one after another.
use Rattle.std.proofs.Common.{◌≡◌, ℕ, ◌+◌, ◌<◌, Bool, true, false, ◌||◌, ◌&&◌, List, [], ◌∷◌, ◌++◌, take, get_or, length, Some, refl, sym, ap, ◌∙◌}
use Rattle.std.specs.Prelude.{slice_get}
use Rattle.std.proofs.lemmas.Option.{slice_get_within, get_or_from_slice_get}
use Rattle.std.specs.List.{list_any}
use Rattle.std.proofs.lemmas.List.Folds.{list_any-append, list_any_more}
use Rattle.wtf_base.specs.Places.{Place}
use Rattle.wtf_gc.specs.declared.extent.Extent.{Extent}
use Rattle.wtf_gc.specs.Extents.{has, extents_cover}

pub or_none : (a : Bool) → (a || false) ≡ a
or_none true = refl
or_none false = refl

pub or_thrice : (a b c : Bool) → ((a || b) || c) ≡ (a || (b || c))
or_thrice true b c = refl
or_thrice false b c = refl

pub and_none : (a : Bool) → (a && false) ≡ false
and_none true = refl
and_none false = refl

-- one of a list more
any_more : {X : Type 0} (t : X → Bool) (xs : List X) (i : ℕ) (d : X) → i < length xs → (old mid new : Bool) → mid ≡ (old || list_any t (take i xs))
    → new ≡ (mid || t (get_or xs i d)) → new ≡ (old || list_any t (take (i + 1) xs))
any_more t xs i d below old mid new was is =
    is ∙ ap (λ b. b || t (get_or xs i d)) was ∙ or_thrice old (list_any t (take i xs)) (t (get_or xs i d))
    ∙ ap (λ b. old || b) (sym (list_any_more t xs i d below))

-- where the element is told by `slice_get`
pub any_told : {X : Type 0} (t : X → Bool) (xs : List X) (i : ℕ) (x : X) → slice_get xs i ≡ Some x → (old mid new : Bool)
    → mid ≡ (old || list_any t (take i xs)) → new ≡ (mid || t x) → new ≡ (old || list_any t (take (i + 1) xs))
any_told t xs i x is old mid new was adds =
    any_more t xs i x (slice_get_within xs i x is) old mid new was (adds ∙ ap (λ y. mid || t y) (sym (get_or_from_slice_get xs i x x is)))

pub covers_push : (xs : List Extent) (e : Extent) (p : Place) → extents_cover (xs ++ e ∷ []) p ≡ (extents_cover xs p || has e p)
covers_push xs e p = list_any-append (λ x. has x p) xs (e ∷ []) ∙ ap (λ b. extents_cover xs p || b) (or_none (has e p))

-- the last and one more as one
pub put_joined : (front old new : List Extent) (last both e : Extent) → old ≡ front ++ last ∷ [] → new ≡ front ++ both ∷ []
    → ((p : Place) → has both p ≡ (has last p || has e p)) → (p : Place) → extents_cover new p ≡ (extents_cover old p || has e p)
put_joined front old new last both e was is join p =
    ap (λ l. extents_cover l p) is ∙ covers_push front both p ∙ ap (λ b. extents_cover front p || b) (join p) ∙ sym
    (or_thrice (extents_cover front p) (has last p) (has e p))
    ∙ ap (λ b. b || has e p) (sym (covers_push front last p) ∙ ap (λ l. extents_cover l p) (sym was))

-- two steps
pub adds_then : (old mid new f g : Bool) → mid ≡ (old || f) → new ≡ (mid || g) → new ≡ (old || (f || g))
adds_then old mid new f g was is = is ∙ ap (λ b. b || g) was ∙ or_thrice old f g
