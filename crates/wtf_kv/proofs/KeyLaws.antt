-- Laws of walks over the keys of a store that have versions.
use Rattle.std.proofs.Common.{◌≡◌, ℕ, ◌+◌, ◌<◌, ◌≤◌, ◌⊎◌, inl, inr, Bool, true, false, cond, not, ◌&&◌, count_by, nat_lt, List, [], ◌∷◌, Option, None, Some, is_some, refl, sym, ap, ◌∙◌, ⊎_elim, arith}
use Rattle.std.specs.declared.cmp.Ordering.{Ordering}
use Rattle.std.specs.declared.cmp.Ordering.TheVariants.{Less, Equal, Greater}
use Rattle.std.specs.Ordering.{is_lt, is_gt, is_eq, ordering_reverse}
use Rattle.std.specs.Cmp.{IsTotalOrder}
use Rattle.std.specs.BTreeMap.{is_at}
use Rattle.std.specs.List.{list_any}
use Rattle.std.specs.Map.{lookup, keys_of}
use Rattle.std.specs.Option.{unwrap_or}
use Rattle.std.proofs.lemmas.Bool.{cases_Bool, or_left, or_right, or_cases, and_from, and_parts, both_ways, ltb-true}
use Rattle.std.proofs.lemmas.Map.Made.{is_some-lookup}
use Rattle.std.proofs.lemmas.List.Sums.{sum_by-cons}
use Rattle.wtf_kv.specs.Seen.{has_any, upto, last_seen, number_seen, reported}
use Rattle.wtf_kv.specs.Stores.{Store, versions_of}
use Rattle.wtf_kv.specs.Order.{is_past, is_before, has_version, is_changed, IsLeastKey, IsNextKey, IsNextChanged, IsReached, left_from}
use Rattle.wtf_kv.proofs.Prune.{weaker}

lt_is : (o : Ordering) → is_lt o ≡ true → o ≡ Less
lt_is Less e = refl
lt_is Equal e = cc
lt_is Greater e = cc

three : (o : Ordering) → (o ≡ Less) ⊎ (o ≡ Equal) ⊎ (o ≡ Greater)
three Less = inl refl
three Equal = inr (inl refl)
three Greater = inr (inr refl)

eq_is : (o : Ordering) → is_eq o ≡ true → o ≡ Equal
eq_is Less e = cc
eq_is Equal e = refl
eq_is Greater e = cc

none_is : {X : Type 0} (o : Option X) → is_some o ≡ false → o ≡ None
none_is None e = refl
none_is (Some x) e = cc

count_pushed : {X : Type 0} (p : X → Bool) (x : X) (xs : List X) → count_by p (x ∷ xs) ≡ cond (p x) 1 0 + count_by p xs
count_pushed p x xs = sum_by-cons (λ y. cond (p y) 1 0) x xs

count_le : {X : Type 0} (p q : X → Bool) (xs : List X) → ((x : X) → q x ≡ true → p x ≡ true) → count_by q xs ≤ count_by p xs
count_le p q [] h = omega arith
count_le p q (x ∷ xs) h =
    let rest = count_le p q xs h in
    let a : count_by q (x ∷ xs) ≡ cond (q x) 1 0 + count_by q xs = count_pushed q x xs in
    let b : count_by p (x ∷ xs) ≡ cond (p x) 1 0 + count_by p xs = count_pushed p x xs in
    ⊎_elim
    (λ t. let c : ◌≡◌ {A = ℕ} (cond (q x) 1 0) 1 = ap (λ z. cond z 1 0) t in let d : ◌≡◌ {A = ℕ} (cond (p x) 1 0) 1 = ap (λ z. cond z 1 0) (h x t) in omega (arith, rest, a, b, c, d))
    (λ f. let c : ◌≡◌ {A = ℕ} (cond (q x) 1 0) 0 = ap (λ z. cond z 1 0) f in omega (arith, rest, a, b, c))
    (cases_Bool (q x))

count_less : {X : Type 0} (p q : X → Bool) (xs : List X) → ((x : X) → q x ≡ true → p x ≡ true) → list_any (λ x. p x && not (q x)) xs ≡ true → count_by q xs < count_by p xs
count_less p q [] h some = cc
count_less p q (x ∷ xs) h some =
    let a : count_by q (x ∷ xs) ≡ cond (q x) 1 0 + count_by q xs = count_pushed q x xs in
    let b : count_by p (x ∷ xs) ≡ cond (p x) 1 0 + count_by p xs = count_pushed p x xs in
    ⊎_elim
    (λ here.
    let two = and_parts (p x) (not (q x)) here in
    let off : q x ≡ false = ⊎_elim (λ t. absurd (both_ways _ (ap not t) two.1)) (λ f. f) (cases_Bool (q x)) in
    let c : ◌≡◌ {A = ℕ} (cond (q x) 1 0) 0 = ap (λ z. cond z 1 0) off in
    let d : ◌≡◌ {A = ℕ} (cond (p x) 1 0) 1 = ap (λ z. cond z 1 0) two.0 in
    let rest = count_le p q xs h in
    omega (arith, a, b, c, d, rest))
    (λ later.
    let rest = count_less p q xs h later in
    ⊎_elim
    (λ t. let c : ◌≡◌ {A = ℕ} (cond (q x) 1 0) 1 = ap (λ z. cond z 1 0) t in let d : ◌≡◌ {A = ℕ} (cond (p x) 1 0) 1 = ap (λ z. cond z 1 0) (h x t) in omega (arith, rest, a, b, c, d))
    (λ f. let c : ◌≡◌ {A = ℕ} (cond (q x) 1 0) 0 = ap (λ z. cond z 1 0) f in omega (arith, rest, a, b, c))
    (cases_Bool (q x)))
    (or_cases (p x && not (q x)) (list_any (λ y. p y && not (q y)) xs) some)

count_none : {X : Type 0} (xs : List X) → count_by (λ x. false) xs ≡ 0
count_none [] = refl
count_none (x ∷ xs) = let a : count_by (λ y. false) (x ∷ xs) ≡ 0 + count_by (λ y. false) xs = count_pushed (λ y. false) x xs in let r = count_none xs in omega (arith, a, r)

any_keys : {K V : Type 0} (t : K → Bool) (es : List (K × V)) → list_any t (keys_of es) ≡ true → list_any (λ e. t e.0) es ≡ true
any_keys t [] h = cc
any_keys t (e ∷ es) h = ⊎_elim (λ a. or_left (t e.0) (list_any (λ d. t d.0) es) a) (λ b. or_right (t e.0) (list_any (λ d. t d.0) es) (any_keys t es b)) (or_cases (t e.0) (list_any t (keys_of es)) h)

module _ {K : Type 0} (order : K → K → Ordering) (total : IsTotalOrder order) (exact : (x y : K) → order x y ≡ Equal → x ≡ y) where
  itself : (k : K) → is_lt (order k k) ≡ false
  itself k = ⊎_elim (λ e. let back : order k k ≡ Greater = total.antisymm k k ∙ ap ordering_reverse e in let bad : Less ≡ Greater = sym e ∙ back in cc) (λ rest. ⊎_elim (λ e. ap is_lt e) (λ e. ap is_lt e) rest) (three (order k k))

  same_key : (e k : K) → is_at (order k) e ≡ true → k ≡ e
  same_key e k h = exact k e (eq_is (order k e) h)

  stays_left : (e k : K) → is_at (order k) e ≡ true → not (is_lt (order e k)) ≡ true
  stays_left e k h = ap not (ap (λ q. is_lt (order q k)) (sym (same_key e k h)) ∙ itself k)

  -- a key that lies past one and before the least that passes a test does not pass it
  between_least : (t : K → Bool) (after next : Option K) (q : K) → IsLeastKey order (is_past order after) t next → is_past order after q ≡ true → is_before order next q ≡ true → t q ≡ false
  between_least t after None q next past behind = next q past
  between_least t after (Some n) q next past behind = ⊎_elim
      (λ has. let up : order n q ≡ Greater = total.antisymm n q ∙ ap ordering_reverse (lt_is (order q n) behind) in absurd (both_ways _ (next.2 q past has) (ap is_gt up)))
      (λ none. none)
      (cases_Bool (t q))

module _ {K C : Type 0} (order : K → K → Ordering) (total : IsTotalOrder order) (exact : (x y : K) → order x y ≡ Equal → x ≡ y) where
  -- a key with a version stands in the cells
  in_cells : (kv : Store K C) (k : K) → has_version order kv k ≡ true → list_any (λ e. is_at (order k) e.0) kv.cells ≡ true
  in_cells kv k has =
      let test = is_at (order k) in
      any_keys test kv.cells
      (sym (is_some-lookup test kv.cells)
      ∙ ⊎_elim (λ t. t) (λ f. absurd (both_ways _ (ap (λ o. has_any (upto kv.number (unwrap_or o []))) (none_is (lookup test kv.cells) f)) has)) (cases_Bool (is_some (lookup test kv.cells))))

  -- each key takes one from those that are left
  pub left_fewer : (kv : Store K C) (k : K) (next : Option K) → has_version order kv k ≡ true → is_before order next k ≡ true → left_from order kv next < left_from order kv (Some k)
  left_fewer kv k None has behind =
      let more : count_by (λ e. false) kv.cells < left_from order kv (Some k) =
      count_less (λ e. not (is_lt (order e.0 k))) (λ e. false) kv.cells (λ e h. cc)
      (weaker (λ e. is_at (order k) e.0) (λ e. not (is_lt (order e.0 k)) && not false) kv.cells (λ e h. and_from _ _ (stays_left order total exact e.0 k h) refl) (in_cells kv k has)) in
      let none = count_none kv.cells in
      omega (arith, more, none)
  left_fewer kv k (Some n) has behind =
      count_less (λ e. not (is_lt (order e.0 k))) (λ e. not (is_lt (order e.0 n))) kv.cells
      (λ e h. ⊎_elim (λ t. absurd (both_ways _ (ap not (ap is_lt (total.trans e.0 k n (lt_is (order e.0 k) t) (lt_is (order k n) behind)))) h)) (λ f. ap not f) (cases_Bool (is_lt (order e.0 k))))
      (weaker (λ e. is_at (order k) e.0) (λ e. not (is_lt (order e.0 k)) && not (not (is_lt (order e.0 n)))) kv.cells
      (λ e h. and_from _ _ (stays_left order total exact e.0 k h) (ap (λ b. not (not b)) (ap (λ q. is_lt (order q n)) (sym (same_key order total exact e.0 k h)) ∙ behind)))
      (in_cells kv k has))

  pub left_less : (kv : Store K C) (k : K) (next : Option K) → has_version order kv k ≡ true → IsNextKey order kv (Some k) next → left_from order kv next < left_from order kv (Some k)
  left_less kv k None has next = left_fewer kv k None has refl
  left_less kv k (Some n) has next = left_fewer kv k (Some n) has next.0

  -- a key that lies past one and before the next has no version
  pub between : (kv : Store K C) (after next : Option K) (q : K) → IsNextKey order kv after next → is_past order after q ≡ true → is_before order next q ≡ true → has_version order kv q ≡ false
  between kv after None q next past behind = between_least order total exact (has_version order kv) after None q next past behind
  between kv after (Some n) q next past behind = between_least order total exact (has_version order kv) after (Some n) q next past behind

  -- the next key has a version
  pub reached : (kv : Store K C) (after next : Option K) → IsNextKey order kv after next → IsReached order kv next
  reached kv after None h = tt
  reached kv after (Some n) h = h.1

  -- ---- the next key that changed
  pub between_changed : (kv : Store K C) (since : ℕ) (after next : Option K) (q : K) → IsNextChanged order kv since after next → is_past order after q ≡ true → is_before order next q ≡ true → is_changed order kv since q ≡ false
  between_changed kv since after next q is past behind = between_least order total exact (is_changed order kv since) after next q is past behind

  pub changed_has : (kv : Store K C) (since : ℕ) (q : K) → is_changed order kv since q ≡ true → has_version order kv q ≡ true
  changed_has kv since q changed = by (versions_of order kv q) changed
    where
      by : (vs : List (ℕ × Option C)) → nat_lt since (number_seen (reported kv.pins (last_seen kv.number vs))) ≡ true → has_any vs ≡ true
      by [] h = absurd (omega (arith, ltb-true since 0 h))
      by (v ∷ vs) h = refl

  -- it lies past the key before it, so a walk comes to its end
  pub left_changed : (kv : Store K C) (since : ℕ) (k : K) (next : Option K) → is_changed order kv since k ≡ true → IsNextChanged order kv since (Some k) next → left_from order kv next < left_from order kv (Some k)
  left_changed kv since k None changed next = left_fewer kv k None (changed_has kv since k changed) refl
  left_changed kv since k (Some n) changed next = left_fewer kv k (Some n) (changed_has kv since k changed) next.0
