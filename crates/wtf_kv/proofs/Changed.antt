-- Walks over the keys that changed, and what holds of the keys that are noted.
use Rattle.std.proofs.Common.{◌≡◌, ℕ, ◌≤◌, Bool, true, false, cond, not, ◌||◌, ◌&&◌, List, [], ◌∷◌, Option, None, Some, is_some, nat_le, nat_lt, refl, sym, ap, subst, ◌∙◌, ⊎_elim, arith}
use Rattle.std.specs.Option.{unwrap_or}
use Rattle.std.specs.List.{filter}
use Rattle.std.specs.List.Sorted.{IsStrictlySortedBy}
use Rattle.std.specs.Map.{lookup, keys_of}
use Rattle.std.specs.declared.cmp.Ordering.{Ordering}
use Rattle.std.specs.declared.cmp.Ordering.TheVariants.{Equal}
use Rattle.std.specs.declared.ops.Bound.{Bound}
use Rattle.std.specs.declared.ops.Bound.TheVariants.{Unbounded}
use Rattle.std.specs.declared.vec.Vec.{Vec}
use Rattle.std.specs.BTreeMap.{is_at}
use Rattle.std.specs.BTreeMap.Range.{range_contains, is_from_start}
use Rattle.std.specs.Ordering.{is_gt, is_eq}
use Rattle.std.specs.Cmp.{IsTotalOrder, Equal-is}
use Rattle.std.proofs.lemmas.Cmp.{tied_itself}
use Rattle.std.proofs.lemmas.Bool.{cases_Bool, le-ltb, leb-true}
use Rattle.std.proofs.lemmas.Map.Entries.{lookup-filter-keys}
use Rattle.std.proofs.lemmas.Map.Keys.{sorted_head}
use Rattle.wtf_kv.specs.declared.recent.Recent.{Recent}
use Rattle.wtf_kv.specs.Seen.{last_seen_from, last_seen, number_seen, reported, is_reported, within}
use Rattle.wtf_kv.specs.Stores.{Store, listed, versions_in}
use Rattle.wtf_kv.specs.Recents.{is_among, is_upto, is_due, IsMarked}
use Rattle.wtf_kv.specs.Order.{is_past, is_changed, IsLeastKey, IsNextChanged}
use Rattle.wtf_kv.proofs.Ranges.{later_key, from_start}
use Rattle.wtf_kv.proofs.Updated.{versions_none}
use Rattle.wtf_kv.proofs.StoreLemmas.{read_version}

none_is : {X : Type 0} (o : Option X) → is_some o ≡ false → o ≡ None
none_is None e = refl
none_is (Some x) e = cc

and-false : (b c : Bool) → c ≡ false → (b && c) ≡ false
and-false true c e = e
and-false false c e = refl

-- ---- the first key of a part that passes a test
module _ {K X : Type 0} {R : K → K → Ordering} (o : IsTotalOrder R) (exact : (x y : K) → R x y ≡ Equal → x ≡ y) where
  -- a key from the start on is in the part where it is in the whole
  pub among_part : (start : Bound K) (es : List (K × X)) (q : K) → is_from_start R start q ≡ true → is_among R (filter (λ e. range_contains R start Unbounded e.0) es) q ≡ is_among R es q
  among_part start es q from =
      ap (λ v. is_some v) (lookup-filter-keys (is_at (R q)) (range_contains R start Unbounded) true
      (λ k at. ap (range_contains R start Unbounded) (sym (exact q k ((Equal-is (R q k)).0 at))) ∙ from_start R start q ∙ from) es)

  pub among_head : (e : K × X) (es : List (K × X)) → is_among R (e ∷ es) e.0 ≡ true
  among_head e es = ap (λ b. is_some (cond b (Some e.1) (lookup (is_at (R e.0)) es))) (ap is_eq (tied_itself o e.0))

  -- the first does not pass, so what is left has all that pass
  pub past_among : (t : K → Bool) (e : K × X) (es : List (K × X)) (q : K) → t e.0 ≡ false → (is_among R (e ∷ es) q && t q) ≡ (is_among R es q && t q)
  past_among t e es q none =
      ⊎_elim
      (λ here.
      let off : t q ≡ false = ap t (exact q e.0 ((Equal-is (R q e.0)).0 here)) ∙ none in
      and-false (is_among R (e ∷ es) q) (t q) off ∙ sym (and-false (is_among R es q) (t q) off))
      (λ apart. ap (λ b. is_some (cond b (Some e.1) (lookup (is_at (R q)) es)) && t q) apart)
      (cases_Bool (is_at (R q) e.0))

  -- no key of the part lies before the first
  pub least_among : (e : K × X) (es : List (K × X)) (q : K) → IsStrictlySortedBy R (keys_of (e ∷ es)) → is_among R (e ∷ es) q ≡ true → is_gt (R e.0 q) ≡ false
  least_among e es q sorted has =
      ⊎_elim
      (λ here. let same : q ≡ e.0 = exact q e.0 ((Equal-is (R q e.0)).0 here) in ap (λ x. is_gt (R e.0 x)) same ∙ ap is_gt (tied_itself o e.0))
      (λ apart. later_key o exact e.0 q es (sorted_head R e.0 (keys_of es) sorted) (sym (ap (λ b. is_some (cond b (Some e.1) (lookup (is_at (R q)) es))) apart) ∙ has))
      (cases_Bool (is_at (R q) e.0))

-- ---- what is seen lies within what bounds all versions
reported_bound : {C : Type 0} (pins : List ℕ) (m : ℕ) (v : ℕ × Option C) → v.0 ≤ m → number_seen (reported pins (Some v)) ≤ m
reported_bound pins m v le = elim (is_reported pins v) as (λ t. number_seen (cond t (Some v) None) ≤ m) [ true ↦ le | false ↦ omega arith ]

seen_bound : {C : Type 0} (pins : List ℕ) (m n : ℕ) (vs : List (ℕ × Option C)) (seen : Option (ℕ × Option C)) → number_seen (reported pins seen) ≤ m → within m vs → number_seen (reported pins (last_seen_from n vs seen)) ≤ m
seen_bound pins m n [] seen le all = le
seen_bound pins m n (v ∷ vs) seen le all =
    seen_bound pins m n vs (cond (nat_le v.0 n) (Some v) seen)
    (elim (nat_le v.0 n) as (λ t. number_seen (reported pins (cond t (Some v) seen)) ≤ m) [ true ↦ reported_bound pins m v all.0 | false ↦ le ]) all.1

pub not_due : {C : Type 0} (pins : List ℕ) (n since m : ℕ) (vs : List (ℕ × Option C)) → m ≤ since → within m vs → is_due pins n since vs ≡ false
not_due pins n since m vs le all =
    let bound : number_seen (reported pins (last_seen n vs)) ≤ m = seen_bound pins m n vs None (omega arith) all in
    le-ltb since (number_seen (reported pins (last_seen n vs))) (omega arith)

module _ {K C : Type 0} (R : K → K → Ordering) where
  -- a key that has no cell has no version
  pub cells_whole : {A : Type 0} (es : List (K × Vec (ℕ × Option C) A)) (pins : List ℕ) (n since : ℕ) (q : K) → is_among R es q ≡ false → is_due pins n since (versions_in R (listed es) q) ≡ false
  cells_whole es pins n since q none =
      ap (is_due pins n since) (versions_none R es q (none_is (lookup (is_at (R q)) es) none)) ∙ not_due {C = C} pins n since 0 [] (omega arith) tt

  -- a key that is not noted has no version above the mark
  noted_at : (r : Recent K) (cells : List (K × List (ℕ × Option C))) (pins : List ℕ) (n since : ℕ) (mark : Option ℕ) → r.since ≡ mark → is_upto mark since ≡ true → IsMarked R r cells → (q : K) → is_among R r.keys.entries q ≡ false → is_due pins n since (versions_in R cells q) ≡ false
  noted_at r cells pins n since None is reached marked q none = cc
  noted_at r cells pins n since (Some m) is reached marked q none =
      not_due pins n since m (versions_in R cells q) (leb-true m since reached)
      (subst (λ o. within (unwrap_or o 0) (versions_in R cells q)) is (marked q (ap (λ o. not (is_some o) || is_among R r.keys.entries q) is ∙ none)))

  pub noted_whole : (r : Recent K) (cells : List (K × List (ℕ × Option C))) (pins : List ℕ) (n since : ℕ) → is_upto r.since since ≡ true → IsMarked R r cells → (q : K) → is_among R r.keys.entries q ≡ false → is_due pins n since (versions_in R cells q) ≡ false
  noted_whole r cells pins n since reached marked q none = noted_at r cells pins n since r.since refl reached marked q none

  module _ (s : Store K C) (since : ℕ) (has : K → Bool) (whole : (q : K) → has q ≡ false → is_due s.pins s.number since (versions_in R s.cells q) ≡ false) where
    changed_is : (q : K) → (has q && is_due s.pins s.number since (versions_in R s.cells q)) ≡ is_changed R s since q
    changed_is q =
        let due = is_due s.pins s.number since (versions_in R s.cells q) in
        ⊎_elim (λ yes. ap (λ b. b && due) yes) (λ no. ap (λ b. b && due) no ∙ sym (whole q no)) (cases_Bool (has q))
        ∙ ap (nat_lt since) (read_version R s s.number q (omega arith))

    pub next_from_least : (start : Bound K) (after found : Option K) → ((q : K) → is_from_start R start q ≡ is_past R after q) → IsLeastKey R (is_from_start R start) (λ q. has q && is_due s.pins s.number since (versions_in R s.cells q)) found → IsNextChanged R s since after found
    next_from_least start after None alike h = λ q past. sym (changed_is q) ∙ h q (alike q ∙ past)
    next_from_least start after (Some k) alike h = (
      sym (alike k) ∙ h.0,
      sym (changed_is k) ∙ h.1,
      λ q past changed. h.2 q (alike q ∙ past) (changed_is q ∙ changed),
    )
