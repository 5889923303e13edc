-- What noting and dropping a position makes of an index.
use Rattle.std.proofs.Common.{◌≡◌, ℕ, ◌+◌, ◌-◌, ◌<◌, get_or, Bool, true, false, cond, List, [], ◌∷◌, ◌++◌, None, Some, refl, sym, ap, ◌∙◌, arith, ⊎_elim, length, take, append-nil, length-append, vec_len, ◌==◌}
use Rattle.std.specs.Option.{unwrap_or, option_map}
use Rattle.std.specs.declared.vec.Vec.{Vec}
use Rattle.std.specs.declared.cmp.Ordering.{Ordering}
use Rattle.std.specs.declared.cmp.Ordering.TheVariants.{Equal}
use Rattle.std.specs.Map.{lookup}
use Rattle.std.specs.BTreeMap.{is_at}
use Rattle.std.specs.Cmp.{Equal-is}
use Rattle.std.proofs.Math.Seq.{take-append_seam, take-length}
use Rattle.std.proofs.lemmas.List.{take_more, get_or-append_right}
use Rattle.std.proofs.lemmas.Map.Made.{lookup-map_values}
use Rattle.std.proofs.lemmas.Bool.{cases_Bool, eqb-true}
use Rattle.wtf_kv.specs.declared.changes.Change.{Change}
use Rattle.wtf_occ.specs.Positions.{positions_from, listed_positions, positions_of, front, is_cut, is_delta_of, IsIndex}

-- a vector whose length is reported as 0
pub nil_len : {X A : Type 0} (v : Vec X A) → (vec_len v == 0) ≡ true → length v.items ≡ 0
nil_len v e = sym v.ok.0 ∙ eqb-true (vec_len v) 0 e

-- a choice of one thing
pub either : {X : Type 0} (b : Bool) (x : X) → cond b x x ≡ x
either b x = elim b as (λ t. cond t x x ≡ x) [ true ↦ refl | false ↦ refl ]

-- ---- a list of changes that goes on by one
pub positions_from-push : {X : Type 0} (p : X → Bool) (xs : List X) (i : ℕ) (x : X) → positions_from i p (xs ++ x ∷ []) ≡ positions_from i p xs ++ cond (p x) ((i + length xs) ∷ []) []
positions_from-push p [] i x = let e : i ≡ i + 0 = omega arith in ap (λ n. cond (p x) (n ∷ []) []) e
positions_from-push p (y ∷ xs) i x =
    let e : (i + 1) + length xs ≡ i + length (y ∷ xs) = omega arith in
    let rest : positions_from (i + 1) p (xs ++ x ∷ []) ≡ positions_from (i + 1) p xs ++ cond (p x) ((i + length (y ∷ xs)) ∷ []) [] =
    positions_from-push p xs (i + 1) x ∙ ap (λ n. positions_from (i + 1) p xs ++ cond (p x) (n ∷ []) []) e in
    let more = cond (p x) ((i + length (y ∷ xs)) ∷ []) [] in
    elim (p y) as (λ b. cond b (i ∷ positions_from (i + 1) p (xs ++ x ∷ [])) (positions_from (i + 1) p (xs ++ x ∷ [])) ≡ cond b (i ∷ positions_from (i + 1) p xs) (positions_from (i + 1) p xs) ++ more) [
      | true ↦ ap (λ l. i ∷ l) rest
      | false ↦ rest
    ]

push_or_not : (b : Bool) (xs : List ℕ) (n : ℕ) → cond b (xs ++ n ∷ []) xs ≡ xs ++ cond b (n ∷ []) []
push_or_not b xs n = elim b as (λ t. cond t (xs ++ n ∷ []) xs ≡ xs ++ cond t (n ∷ []) []) [ true ↦ refl | false ↦ sym (append-nil xs) ]

front_pushed : (xs : List ℕ) (n : ℕ) → front (xs ++ n ∷ []) ≡ xs
front_pushed xs n =
    let e : length (xs ++ n ∷ []) - 1 ≡ length xs = omega (arith, length-append xs (n ∷ [])) in
    ap (λ k. take k (xs ++ n ∷ [])) e ∙ take-append_seam xs (n ∷ [])

front_or_not : (b : Bool) (xs : List ℕ) (n : ℕ) → cond b (front (xs ++ cond b (n ∷ []) [])) (xs ++ cond b (n ∷ []) []) ≡ xs
front_or_not b xs n = elim b as (λ t. cond t (front (xs ++ cond t (n ∷ []) [])) (xs ++ cond t (n ∷ []) []) ≡ xs) [ true ↦ front_pushed xs n | false ↦ append-nil xs ]

-- a list that is not empty, by its last element
pub ends_with : {X : Type 0} (xs : List X) (x : X) → 0 < length xs → x ≡ get_or xs (length xs - 1) x → xs ≡ take (length xs - 1) xs ++ x ∷ []
ends_with xs x some is =
    let e : length xs ≡ (length xs - 1) + 1 = omega arith in
    sym (take-length xs) ∙ ap (λ k. take k xs) e ∙ take_more xs (length xs - 1) x (omega arith) ∙ ap (λ y. take (length xs - 1) xs ++ y ∷ []) (sym is)

-- the last element of a list that goes on by one
pub last_is : {X : Type 0} (xs more : List X) (x y : X) (n : ℕ) → more ≡ xs ++ x ∷ [] → n ≡ length xs → y ≡ get_or more n y → y ≡ x
last_is xs more x y n is at found =
    let zeroth : n - length xs ≡ 0 = omega arith in
    found ∙ ap (λ l. get_or l n y) is ∙ get_or-append_right xs (x ∷ []) (length xs) n y refl (omega arith) ∙ ap (λ k. get_or (x ∷ []) k y) zeroth

module _ {K D : Type 0} (R : K → K → Ordering) (cs more : List (Change K D)) (c : Change K D) (es fs : List (K × List ℕ)) (cuts after : List ℕ) where
  -- a change comes to the end, and its position is noted
  pub index_pushed : IsIndex R cs es cuts → more ≡ cs ++ c ∷ [] → ((q : K) → positions_of R fs q ≡ cond (is_delta_of R q c) (positions_of R es q ++ length cs ∷ []) (positions_of R es q)) → after ≡ cond (is_cut c) (cuts ++ length cs ∷ []) cuts → IsIndex R more fs after
  index_pushed index is noted cut =
      let off : 0 + length cs ≡ length cs = omega arith in
      record {
        deltas = λ q. noted q
            ∙ ap (λ l. cond (is_delta_of R q c) (l ++ length cs ∷ []) l) (index.deltas q)
            ∙ push_or_not (is_delta_of R q c) (positions_from 0 (is_delta_of R q) cs) (length cs)
            ∙ ap (λ n. positions_from 0 (is_delta_of R q) cs ++ cond (is_delta_of R q c) (n ∷ []) []) (sym off)
            ∙ sym (ap (positions_from 0 (is_delta_of R q)) is ∙ positions_from-push (is_delta_of R q) cs 0 c);
        cuts = cut
            ∙ ap (λ l. cond (is_cut c) (l ++ length cs ∷ []) l) index.cuts
            ∙ push_or_not (is_cut c) (positions_from 0 is_cut cs) (length cs)
            ∙ ap (λ n. positions_from 0 is_cut cs ++ cond (is_cut c) (n ∷ []) []) (sym off)
            ∙ sym (ap (positions_from 0 is_cut) is ∙ positions_from-push is_cut cs 0 c);
      }

  -- the last change goes, and its position too
  pub index_dropped : IsIndex R more fs after → more ≡ cs ++ c ∷ [] → ((q : K) → positions_of R es q ≡ cond (is_delta_of R q c) (front (positions_of R fs q)) (positions_of R fs q)) → cuts ≡ cond (is_cut c) (front after) after → IsIndex R cs es cuts
  index_dropped index is gone cut = record {
    deltas = λ q. gone q
        ∙ ap (λ l. cond (is_delta_of R q c) (front l) l) (index.deltas q ∙ ap (positions_from 0 (is_delta_of R q)) is ∙ positions_from-push (is_delta_of R q) cs 0 c)
        ∙ front_or_not (is_delta_of R q c) (positions_from 0 (is_delta_of R q) cs) (0 + length cs);
    cuts = cut
        ∙ ap (λ l. cond (is_cut c) (front l) l) (index.cuts ∙ ap (positions_from 0 is_cut) is ∙ positions_from-push is_cut cs 0 c)
        ∙ front_or_not (is_cut c) (positions_from 0 is_cut cs) (0 + length cs);
  }

-- ---- a map that is changed at one key
module _ {K A : Type 0} (R : K → K → Ordering) where
  pub positions-get : (es : List (K × Vec ℕ A)) (q : K) → positions_of R (listed_positions es) q ≡ unwrap_or (option_map (λ v. v.items) (lookup (is_at (R q)) es)) []
  positions-get es q = ap (λ o. unwrap_or o []) (lookup-map_values (λ v. v.items) (is_at (R q)) es)

  pub positions_some : (es : List (K × Vec ℕ A)) (q : K) (v : Vec ℕ A) → lookup (is_at (R q)) es ≡ Some v → positions_of R (listed_positions es) q ≡ v.items
  positions_some es q v e = positions-get es q ∙ ap (λ o. unwrap_or (option_map (λ w. w.items) o) []) e

  pub positions_none : (es : List (K × Vec ℕ A)) (q : K) → lookup (is_at (R q)) es ≡ None → positions_of R (listed_positions es) q ≡ []
  positions_none es q e = positions-get es q ∙ ap (λ o. unwrap_or (option_map (λ w. w.items) o) []) e

  -- w stands at k in fs, and the other keys have what they had in es
  pub positions_updated : (exact : (x y : K) → R x y ≡ Equal → x ≡ y) (es fs : List (K × Vec ℕ A)) (k : K) (w : Vec ℕ A) (f : List ℕ → List ℕ) → ((q : K) → lookup (is_at (R q)) fs ≡ cond (is_at (R k) q) (Some w) (lookup (is_at (R q)) es)) → w.items ≡ f (positions_of R (listed_positions es) k) → (q : K) → positions_of R (listed_positions fs) q ≡ cond (is_at (R k) q) (f (positions_of R (listed_positions es) q)) (positions_of R (listed_positions es) q)
  positions_updated exact es fs k w f h made q =
      let choose = λ (b : Bool). cond b (f (positions_of R (listed_positions es) q)) (positions_of R (listed_positions es) q) in
      ⊎_elim
      (λ at. positions_some fs q w (h q ∙ ap (λ b. cond b (Some w) (lookup (is_at (R q)) es)) at) ∙ made ∙ ap (λ x. f (positions_of R (listed_positions es) x)) (exact k q ((Equal-is (R k q)).0 at)) ∙ sym (ap choose at))
      (λ apart. positions-get fs q ∙ ap (λ o. unwrap_or (option_map (λ v. v.items) o) []) (h q ∙ ap (λ b. cond b (Some w) (lookup (is_at (R q)) es)) apart) ∙ sym (positions-get es q) ∙ sym (ap choose apart))
      (cases_Bool (is_at (R k) q))

  -- nothing stands at k, where f makes nothing of nothing
  pub positions_absent : (exact : (x y : K) → R x y ≡ Equal → x ≡ y) (es : List (K × Vec ℕ A)) (k : K) (f : List ℕ → List ℕ) → lookup (is_at (R k)) es ≡ None → f [] ≡ [] → (q : K) → positions_of R (listed_positions es) q ≡ cond (is_at (R k) q) (f (positions_of R (listed_positions es) q)) (positions_of R (listed_positions es) q)
  positions_absent exact es k f none empty q =
      let choose = λ (b : Bool). cond b (f (positions_of R (listed_positions es) q)) (positions_of R (listed_positions es) q) in
      ⊎_elim
      (λ at.
      let here : positions_of R (listed_positions es) q ≡ [] = ap (positions_of R (listed_positions es)) (sym (exact k q ((Equal-is (R k q)).0 at))) ∙ positions_none es k none in
      here ∙ sym empty ∙ ap f (sym here) ∙ sym (ap choose at))
      (λ apart. sym (ap choose apart))
      (cases_Bool (is_at (R k) q))

  -- k is taken out, where f left nothing of it
  pub positions_removed : (exact : (x y : K) → R x y ≡ Equal → x ≡ y) (es fs gs : List (K × Vec ℕ A)) (k : K) (f : List ℕ → List ℕ) → ((q : K) → lookup (is_at (R q)) gs ≡ cond (is_at (R k) q) None (lookup (is_at (R q)) fs)) → f (positions_of R (listed_positions es) k) ≡ [] → ((q : K) → positions_of R (listed_positions fs) q ≡ cond (is_at (R k) q) (f (positions_of R (listed_positions es) q)) (positions_of R (listed_positions es) q)) → (q : K) → positions_of R (listed_positions gs) q ≡ cond (is_at (R k) q) (f (positions_of R (listed_positions es) q)) (positions_of R (listed_positions es) q)
  positions_removed exact es fs gs k f gone empty made q =
      let choose = λ (b : Bool). cond b (f (positions_of R (listed_positions es) q)) (positions_of R (listed_positions es) q) in
      ⊎_elim
      (λ at. positions_none gs q (gone q ∙ ap (λ b. cond b None (lookup (is_at (R q)) fs)) at) ∙ sym empty ∙ ap (λ x. f (positions_of R (listed_positions es) x)) (exact k q ((Equal-is (R k q)).0 at)) ∙ sym (ap choose at))
      (λ apart. positions-get gs q ∙ ap (λ o. unwrap_or (option_map (λ v. v.items) o) []) (gone q ∙ ap (λ b. cond b None (lookup (is_at (R q)) fs)) apart) ∙ sym (positions-get fs q) ∙ made q)
      (cases_Bool (is_at (R k) q))
