-- A walk over the rows of a store, which lists what they have of the keys of one kind.
use Rattle.std.proofs.Common.{◌≡◌, true, cond, List, [], ◌∷◌, ◌++◌, Option, None, Some, refl, sym, ap, subst, ◌∙◌, ⊎_elim, append-nil}
use Rattle.std.proofs.lemmas.Bool.{cases_Bool}
use Rattle.std.proofs.lemmas.Map.{lookup-none}
use Rattle.std.proofs.lemmas.Map.Entries.{none_past_head}
use Rattle.std.proofs.lemmas.Map.Keys.{IsDistinct-from_sorted, sorted_head, sorted_tail}
use Rattle.std.proofs.lemmas.Cmp.{eq_by_cmp_equiv}
use Rattle.std.specs.declared.cmp.Ordering.{Ordering}
use Rattle.std.specs.declared.cmp.Ordering.TheVariants.{Less, Equal}
use Rattle.std.specs.declared.ops.Bound.{Bound}
use Rattle.std.specs.Ordering.{is_eq}
use Rattle.std.specs.Cmp.{Equal-is}
use Rattle.std.specs.List.{AllByRecursion}
use Rattle.std.specs.List.Sorted.{IsStrictlySortedBy}
use Rattle.std.specs.Map.{lookup, keys_of}
use Rattle.std.specs.Option.{option_map}
use Rattle.std.specs.BTreeMap.{is_at}
use Rattle.std.specs.BTreeMap.Range.{is_from_start}
use Rattle.wtf_kv.specs.Stores.{Store, map_at}
use Rattle.wtf_kv.specs.Walks.{AreRowsFrom, with_row}
use Rattle.wtf_kv.proofs.WalkLaws.{row_above, row_sorted, row_found, rows_past}
use Rattle.wtf_values.specs.Keys.{key_cmp}
use Rattle.wtf_values.specs.declared.key.Key.{Key}
use Rattle.wtf_values.specs.declared.value.Value.{Value}
use Rattle.wtf_values.proofs.KeyLaws.{key_total, at_same}
use Rattle.wtf_imagefmt.specs.Lookups.{Plain, plain}
use Rattle.wtf_imagefmt.specs.Shown.{shown}

-- keys of one kind, which stand side by side from a start on
pub record Kind (K : Type 0) : Type 0 where
  pub order : K → K → Ordering
  pub exact : (a b : K) → order a b ≡ Equal → a ≡ b
  pub key : K → Key
  pub of_key : Key → Option K
  pub alike : (a b : K) → key_cmp (key a) (key b) ≡ order a b
  pub back : (k : K) → of_key (key k) ≡ Some k
  pub only : (q : Key) (k : K) → of_key q ≡ Some k → q ≡ key k
  pub start : Bound Key
  pub begins : (k : K) → is_from_start key_cmp start (key k) ≡ true
  pub ends : (p q : Key) → is_from_start key_cmp start p ≡ true → of_key p ≡ None → key_cmp p q ≡ Less → of_key q ≡ None

-- entries in order, which have of each key what it has now
pub record Gathered {K X : Type 0} (order : K → K → Ordering) (now : K → Option X) (es : List (K × X)) : Type 0 where
  pub sorted : IsStrictlySortedBy order (keys_of es)
  pub each : (k : K) → lookup (is_at (order k)) es ≡ now k

module _ {K X : Type 0} (kind : Kind K) (value : K → Option Plain → Option X) where
  abbrev one_picked : Option K → Value → List (K × X) → List (K × X)
  one_picked None v es = es
  one_picked (Some k) v es = with_row k (value k (Some (plain v))) es

  -- what rows have of the keys of the kind
  abbrev pub picked : List (Key × Value) → List (K × X)
  picked [] = []
  picked (e ∷ es) = one_picked (kind.of_key e.0) e.1 (picked es)

  one_above : (k : K) (e : Key × Value) (o : Option K) (rows : List (K × X)) → kind.of_key e.0 ≡ o → key_cmp (kind.key k) e.0 ≡ Less
      → AllByRecursion (λ j. kind.order k j ≡ Less) (keys_of rows) → AllByRecursion (λ j. kind.order k j ≡ Less) (keys_of (one_picked o e.1 rows))
  one_above k e None rows is lt h = h
  one_above k e (Some j) rows is lt h =
      row_above kind.order k j (value j (Some (plain e.1))) rows (sym (kind.alike k j) ∙ ap (key_cmp (kind.key k)) (sym (kind.only e.0 j is)) ∙ lt) h

  picked_above : (k : K) (es : List (Key × Value)) → AllByRecursion (λ q. key_cmp (kind.key k) q ≡ Less) (keys_of es)
      → AllByRecursion (λ j. kind.order k j ≡ Less) (keys_of (picked es))
  picked_above k [] h = tt
  picked_above k (e ∷ es) h = one_above k e (kind.of_key e.0) (picked es) refl h.0 (picked_above k es h.1)

  one_sorted : (e : Key × Value) (es : List (Key × Value)) (o : Option K) → kind.of_key e.0 ≡ o → AllByRecursion (λ q. key_cmp e.0 q ≡ Less) (keys_of es)
      → IsStrictlySortedBy kind.order (keys_of (picked es)) → IsStrictlySortedBy kind.order (keys_of (one_picked o e.1 (picked es)))
  one_sorted e es None is above h = h
  one_sorted e es (Some k) is above h =
      row_sorted kind.order k (value k (Some (plain e.1))) (picked es)
      (picked_above k es (subst (λ p. AllByRecursion (λ q. key_cmp p q ≡ Less) (keys_of es)) (kind.only e.0 k is) above)) h

  picked_sorted : (es : List (Key × Value)) → IsStrictlySortedBy key_cmp (keys_of es) → IsStrictlySortedBy kind.order (keys_of (picked es))
  unfolding IsStrictlySortedBy
  picked_sorted [] h = h
  picked_sorted (e ∷ es) h = one_sorted e es (kind.of_key e.0) refl (sorted_head key_cmp e.0 (keys_of es) h)
      (picked_sorted es (sorted_tail key_cmp e.0 (keys_of es) h))

  -- what rows say of a key of the kind
  abbrev told : K → Option Value → Option X
  told k v = value k (option_map plain v)

  abbrev found : K → List (Key × Value) → Option Value
  found k es = lookup (is_at (key_cmp (kind.key k))) es

  -- what is listed so far and what is left of the rows are together what keys have now
  pub record Walked (now : K → Option X) (listed : List (K × X)) (left : List (Key × Value)) : Type 0 where
    pub ahead : IsStrictlySortedBy key_cmp (keys_of left)
    pub past : AllByRecursion (λ e. is_from_start key_cmp kind.start e.0 ≡ true) left
    pub all : Gathered kind.order now (listed ++ picked left)

  module _ (nothing : (k : K) → value k None ≡ None) where
    one_found : (k : K) (e : Key × Value) (es : List (Key × Value)) (o : Option K) → kind.of_key e.0 ≡ o
        → (is_at (key_cmp (kind.key k)) e.0 ≡ true → found k es ≡ None) → lookup (is_at (kind.order k)) (picked es) ≡ told k (found k es)
        → lookup (is_at (kind.order k)) (one_picked o e.1 (picked es)) ≡ told k (found k (e ∷ es))
    one_found k e es None is gone rest =
        ⊎_elim
        (λ here. let bad : Some k ≡ None = sym (kind.back k) ∙ ap kind.of_key (at_same (kind.key k) e.0 here) ∙ is in absurd (cc))
        (λ apart. rest ∙ sym (ap (λ b. told k (cond b (Some e.1) (found k es))) apart))
        (cases_Bool (is_at (key_cmp (kind.key k)) e.0))
    one_found k e es (Some j) is gone rest =
        let same : is_at (key_cmp (kind.key k)) e.0 ≡ is_at (kind.order k) j = ap (is_at (key_cmp (kind.key k))) (kind.only e.0 j is)
        ∙ ap is_eq (kind.alike k j) in
        let new : Option X = value j (Some (plain e.1)) in
        row_found (is_at (kind.order k)) j new (picked es) (λ here. rest ∙ ap (told k) (gone (same ∙ here)) ∙ nothing k)
        ∙ ⊎_elim
        (λ here. ap (λ b. cond b new (lookup (is_at (kind.order k)) (picked es))) here
        ∙ ap (λ i. value i (Some (plain e.1))) (sym (kind.exact k j ((Equal-is (kind.order k j)).0 here)))
        ∙ sym (ap (λ b. told k (cond b (Some e.1) (found k es))) (same ∙ here)))
        (λ apart. ap (λ b. cond b new (lookup (is_at (kind.order k)) (picked es))) apart ∙ rest
        ∙ sym (ap (λ b. told k (cond b (Some e.1) (found k es))) (same ∙ apart)))
        (cases_Bool (is_at (kind.order k) j))

    picked_found : (k : K) (es : List (Key × Value)) → IsStrictlySortedBy key_cmp (keys_of es) → lookup (is_at (kind.order k)) (picked es) ≡ told k (found k es)
    picked_found k [] h = sym (nothing k)
    picked_found k (e ∷ es) h =
        one_found k e es (kind.of_key e.0) refl
        (λ here. lookup-none (is_at (key_cmp (kind.key k))) es
        (none_past_head (eq_by_cmp_equiv key_total) (kind.key k) e es (IsDistinct-from_sorted key_cmp (keys_of (e ∷ es)) h) here))
        (picked_found k es (sorted_tail key_cmp e.0 (keys_of es) h))

    pub walk_begins : (kv : Store Key Value) (es : List (Key × Value)) → AreRowsFrom key_cmp kind.start (map_at key_cmp kv kv.number) es
        → Walked (λ k. value k (shown kv (kind.key k))) [] es
    walk_begins kv es are = record {
      ahead = are.ordered;
      past = rows_past key_total kind.start (map_at key_cmp kv kv.number) es are;
      all = record {
        sorted = picked_sorted es are.ordered;
        each = λ k. picked_found k es are.ordered ∙ ap (told k)
            (are.each (kind.key k) ∙ ap (λ b. cond b (map_at key_cmp kv kv.number (kind.key k)) None) (kind.begins k));
      };
    }

  module _ (now : K → Option X) (listed : List (K × X)) where
    -- a row of this kind, with what it says listed
    pub walk_goes_on : (k : K) (v : Value) (more : List (K × X)) (left rest : List (Key × Value)) → left ≡ (kind.key k, v) ∷ rest
        → more ++ picked rest ≡ listed ++ with_row k (value k (Some (plain v))) (picked rest) → Walked now listed left → Walked now more rest
    walk_goes_on k v more left rest is step walked =
        let here = subst (Walked now listed) is walked in
        record {
          ahead = sorted_tail key_cmp (kind.key k) (keys_of rest) here.ahead;
          past = here.past.1;
          all = subst (Gathered kind.order now) (ap (λ o. listed ++ one_picked o v (picked rest)) (kind.back k) ∙ sym step) here.all;
        }

    none_later : (p : Key) (es : List (Key × Value)) → is_from_start key_cmp kind.start p ≡ true → kind.of_key p ≡ None
        → AllByRecursion (λ q. key_cmp p q ≡ Less) (keys_of es) → picked es ≡ []
    none_later p [] from off above = refl
    none_later p (e ∷ es) from off above =
        ap (λ o. one_picked o e.1 (picked es)) (kind.ends p e.0 from off above.0) ∙ none_later p es from off above.1

    -- a row of another kind: all is listed
    pub walk_stops : (e : Key × Value) (left rest : List (Key × Value)) → left ≡ e ∷ rest → kind.of_key e.0 ≡ None → Walked now listed left
        → Gathered kind.order now listed
    walk_stops e left rest is off walked =
        let here = subst (Walked now listed) is walked in
        let none : picked (e ∷ rest) ≡ [] = ap (λ o. one_picked o e.1 (picked rest)) off
        ∙ none_later e.0 rest here.past.0 off (sorted_head key_cmp e.0 (keys_of rest) here.ahead) in
        subst (Gathered kind.order now) (ap (λ l. listed ++ l) none ∙ append-nil listed) here.all

    pub walk_ends : (left : List (Key × Value)) → left ≡ [] → Walked now listed left → Gathered kind.order now listed
    walk_ends left is walked = subst (Gathered kind.order now) (ap (λ l. listed ++ picked l) is ∙ append-nil listed) walked.all
