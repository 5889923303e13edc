-- Bytes that are written one part after another.
use Rattle.std.proofs.Common.{◌≡◌, ℕ, ◌-◌, ◌≤◌, List, [], ◌++◌, Option, Some, None, replicate, sym, ◌∙◌, ap, subst, arith}
use Rattle.std.proofs.lemmas.List.{append-nil, append_assoc, replicate-append-replicate}
use Rattle.std.specs.Io.KnownBytes.{Appends}

-- nothing was written
pub appends_none : (a : Option (List ℕ)) → Appends a a []
appends_none None = tt
appends_none (Some xs) = sym (append-nil xs)

pub appends_on : (a b c : Option (List ℕ)) (xs ys : List ℕ) → Appends a b xs → Appends b c ys → Appends a c (xs ++ ys)
appends_on None b c xs ys p q = tt
appends_on (Some x) None c xs ys p q = absurd p
appends_on (Some x) (Some y) None xs ys p q = absurd q
appends_on (Some x) (Some y) (Some z) xs ys p q = q ∙ ap (λ (l : List ℕ). l ++ ys) p ∙ append_assoc x xs ys

-- so many zeros, where `left` of `all` were left before
pub zeros_on : (a b c : Option (List ℕ)) (all left n : ℕ) → left ≤ all → n ≤ left → Appends a b (replicate (all - left) 0) → Appends b c (replicate n 0)
    → Appends a c (replicate (all - (left - n)) 0)
zeros_on a b c all left n few some p q =
    let zeros : replicate (all - left) 0 ++ replicate n 0 ≡ replicate (all - (left - n)) 0 =
    replicate-append-replicate (all - left) n 0 ∙ ap (λ (m : ℕ). replicate m 0) (omega (arith, few, some)) in
    subst (λ (bytes : List ℕ). Appends a c bytes) zeros (appends_on a b c (replicate (all - left) 0) (replicate n 0) p q)
