-- Laws of what a call that is lent a shelf keeps of each store.
use Rattle.std.proofs.Common.{◌≡◌, ℕ, ◌<◌, true, false, List, [], ◌∷◌, ◌++◌, length, get_or, refl, sym, ◌∙◌, ap, subst, arith, eqb, cond}
use Rattle.wtf_dev.specs.Store.{Range, Kept, StoreKind, KindLaws}
use Rattle.wtf_dev.specs.Each.{on_server, EachFollows}

pub on_server-append : (k : ℕ) (xs ys : List (ℕ × Range)) → on_server k (xs ++ ys) ≡ on_server k xs ++ on_server k ys
on_server-append k [] ys = refl
on_server-append k (x ∷ xs) ys =
    elim (eqb x.0 k) as (λ b. cond b (x.1 ∷ on_server k (xs ++ ys)) (on_server k (xs ++ ys)) ≡ cond b (x.1 ∷ on_server k xs) (on_server k xs) ++ on_server k ys)
    [ true ↦ ap (λ (t : List Range). x.1 ∷ t) (on_server-append k xs ys) | false ↦ on_server-append k xs ys ]

-- a shelf follows itself, and nothing is punched
pub each_same : {S : Type 0} {kind : StoreKind S} → KindLaws kind → (xs : List S) → EachFollows kind xs xs []
each_same laws xs = record { same_length = refl; each = λ k d h. laws.follows_itself (get_or xs k d) }

-- two spans join
pub each_on : {S : Type 0} {kind : StoreKind S} → KindLaws kind → {old mid new : List S} {p q : List (ℕ × Range)}
    → EachFollows kind old mid p → EachFollows kind mid new q → EachFollows kind old new (p ++ q)
each_on {kind = kind} laws {old = old} {mid = mid} {new = new} {p = p} {q = q} f g = record {
  same_length = g.same_length ∙ f.same_length;
  each = λ k d h.
      let h' : k < length mid = omega (arith, f.same_length) in
      subst (λ (r : List Range). kind.follows (get_or old k d) (get_or new k d) r) (sym (on_server-append k p q))
      (laws.follows_on _ _ _ _ _ (f.each k d h) (g.each k d h'));
}

-- what the stores keep over a span
pub each_kept : {S : Type 0} {kind : StoreKind S} → KindLaws kind → {old new : List S} {p : List (ℕ × Range)} → EachFollows kind old new p
    → (k : ℕ) (d : S) → k < length old → Kept (kind.view (get_or old k d)) (kind.view (get_or new k d)) (on_server k p)
each_kept laws e k d h = laws.keeps _ _ _ (e.each k d h)
