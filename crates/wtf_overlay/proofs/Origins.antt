-- How the origin of a byte changes with an entry that is laid over a list.
use Rattle.std.specs.Prelude.{◌≡◌, ℕ, ◌+◌, ◌-◌, ◌<◌, ◌≤◌, ◌++◌, List, [], ◌∷◌, refl}
use Rattle.std.proofs.Common.{ap, ◌∙◌, arith}
use Rattle.std.proofs.lemmas.Bool.{lt-ltb, le-ltb, le-leb, lt-leb, cond-true, cond-false, and_from, and_left, and_right}
use Rattle.std.proofs.lemmas.List.Elements.{All-head, All-tail}
use Rattle.wtf_overlay.specs.declared.part.Entry.{Entry}
use Rattle.wtf_overlay.specs.Origin.{Place, part_origin, over, origin_from, origin}
use Rattle.wtf_overlay.specs.Clips.{Within}

-- two lists, one after the other
pub origin_from-append : (b : List Place) (es fs : List Entry) (x : ℕ) → origin_from b (es ++ fs) x ≡ origin_from (origin_from b es x) fs x
origin_from-append b [] fs x = refl
origin_from-append b (e ∷ es) fs x = origin_from-append (over e x b) es fs x

pub origin_from-push : (b : List Place) (es : List Entry) (e : Entry) (x : ℕ) → origin_from b (es ++ e ∷ []) x ≡ over e x (origin_from b es x)
origin_from-push b es e x = origin_from-append b es (e ∷ []) x

-- a list with e pushed is e over the list
pub origin-push : (es : List Entry) (e : Entry) (x : ℕ) → origin (es ++ e ∷ []) x ≡ over e x (origin es x)
origin-push es e x = origin_from-push [] es e x

-- before its start an entry leaves what is below
pub over_before : (e : Entry) (x : ℕ) (below : List Place) → x < e.off → over e x below ≡ below
over_before e x below before = cond-false _ _ _ (and_left _ _ (lt-leb e.off x before))

-- and from its end on
pub over_after : (e : Entry) (x : ℕ) (below : List Place) → e.off + e.len ≤ x → over e x below ≡ below
over_after e x below after = cond-false _ _ _ (and_right _ _ (le-ltb x (e.off + e.len) after))

-- between them it hides what is below
pub over_within : (e : Entry) (x : ℕ) (below : List Place) → e.off ≤ x → x < e.off + e.len → over e x below ≡ part_origin e.part (x - e.off)
over_within e x below from to = cond-true _ _ _ (and_from _ _ (le-leb e.off x from) (lt-ltb x (e.off + e.len) to))

-- from an end on that no entry passes, a list leaves what is below
pub within_past : (below : List Place) (end : ℕ) (es : List Entry) (x : ℕ) → Within end es → end ≤ x → origin_from below es x ≡ below
within_past below end [] x within past = refl
within_past below end (e ∷ es) x within past =
    let first : e.off + e.len ≤ end = All-head (λ (e : Entry). e.off + e.len ≤ end) e es within in
    ap (λ w. origin_from w es x) (over_after e x below (omega arith))
    ∙ within_past below end es x (All-tail (λ (e : Entry). e.off + e.len ≤ end) e es within) past
