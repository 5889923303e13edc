-- Laws of what bytes mean.
use Rattle.std.specs.Prelude.{◌≡◌, ℕ, Bool, true, false, if◌then◌else◌, List, [], ◌∷◌, Option, Some, None}
use Rattle.std.specs.List.{All, list_all}
use Rattle.std.proofs.Common.{refl, ◌∙◌, get_or, arith}
use Rattle.std.proofs.lemmas.Bool.{eqb-true, eq-eqb, cond-true}
use Rattle.std.proofs.lemmas.List.Elements.{All-cons, All-head, All-tail}
use Rattle.std.proofs.lemmas.List.Sums.{AllPass-from_list_all, list_all-from_AllPass}
use Rattle.wtf_overlay.specs.Origin.{Place}
use Rattle.wtf_overlay.specs.Meaning.{tell_the_same, meaning}

told_with : (a c : Option ℕ) (b : ℕ) → a ≡ Some b → tell_the_same a c ≡ true → c ≡ Some b
told_with (Some x) (Some y) b told same = let e = eqb-true x y same in cc
told_with (Some x) None b told same = absurd (cc)
told_with None c b told same = absurd (cc)

told_alike : (a c : Option ℕ) (b : ℕ) → a ≡ Some b → c ≡ Some b → tell_the_same a c ≡ true
told_alike (Some x) (Some y) b first second = eq-eqb x y (cc)
told_alike (Some x) None b first second = absurd (cc)
told_alike None c b first second = absurd (cc)

all_told : (byte_at : Place → Option ℕ) (p : Place) (ps : List Place) (b : ℕ) (agree : Bool)
    → list_all (λ q. tell_the_same (byte_at p) (byte_at q)) ps ≡ agree → (if agree then byte_at p else None) ≡ Some b
    → All (λ q. byte_at q ≡ Some b) (p ∷ ps)
all_told byte_at p ps b true agreed told =
    let pass = AllPass-from_list_all (λ q. tell_the_same (byte_at p) (byte_at q)) ps agreed in
    All-cons (λ q. byte_at q ≡ Some b) p ps told (λ k d below. told_with (byte_at p) (byte_at (get_or ps k d)) b told (pass k d below))
all_told byte_at p ps b false agreed told = absurd (cc)

-- where places mean a byte, each of them tells it
pub All-meaning : (byte_at : Place → Option ℕ) (ps : List Place) (b : ℕ) → meaning byte_at ps ≡ Some b → All (λ q. byte_at q ≡ Some b) ps
All-meaning byte_at [] b means = λ k d below. absurd (omega arith)
All-meaning byte_at (p ∷ ps) b means = all_told byte_at p ps b (list_all (λ q. tell_the_same (byte_at p) (byte_at q)) ps) refl means

-- and where each of them tells one byte, they mean it
pub meaning-All : (byte_at : Place → Option ℕ) (p : Place) (ps : List Place) (b : ℕ) → All (λ q. byte_at q ≡ Some b) (p ∷ ps) → meaning byte_at (p ∷ ps) ≡ Some b
meaning-All byte_at p ps b all =
    let first = All-head (λ q. byte_at q ≡ Some b) p ps all in
    let rest = All-tail (λ q. byte_at q ≡ Some b) p ps all in
    cond-true _ _ _ (list_all-from_AllPass (λ q. tell_the_same (byte_at p) (byte_at q)) ps
    (λ k d below. told_alike (byte_at p) (byte_at (get_or ps k d)) b first (rest k d below)))
    ∙ first
