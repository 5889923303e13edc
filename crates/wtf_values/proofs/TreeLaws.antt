-- The names of a node: those before a name, that name, and those after it.
use Rattle.std.proofs.Common.{◌≡◌, ℕ, suc, ◌+◌, ◌-◌, ◌<◌, ◌≤◌, ◌++◌, Bool, true, false, ◌&&◌, List, [], ◌∷◌, length, get_or, Some, refl, ap, ap₂, sym, ◌∙◌, arith, inl, inr, length-append}
use Rattle.std.specs.Prelude.{T, slice_get}
use Rattle.std.specs.List.{insert, remove}
use Rattle.std.specs.Cmp.Lexicographic.{nat_list_cmp_total}
use Rattle.std.specs.declared.cmp.Ordering.TheVariants.{Less, Equal, Greater}
use Rattle.std.specs.FinMap.Entries.{below_all, is_sorted}
use Rattle.std.proofs.lemmas.List.{get_or_append_left, get_or-append-add, get_or_at}
use Rattle.std.proofs.lemmas.List.Edits.{insert-append_right, remove-append_right}
use Rattle.std.proofs.lemmas.Bool.{cases_lt}
use Rattle.std.specs.Ordering.{is_lt}
use Rattle.wtf_values.specs.Names.{name_cmp, as_entries, Rise, IsAt, IsGap}
use Rattle.wtf_values.proofs.NameLaws.{same_name, flipped, left_of, right_of, rise_at}

both_of : (a b : Bool) → T a → T b → T (a && b)
both_of true b h k = k
both_of false b h k = absurd h

below_front : (k : List ℕ) (l m : List (List ℕ)) → T (below_all name_cmp k (as_entries (l ++ m))) → T (below_all name_cmp k (as_entries l))
below_front k [] m h = tt
below_front k (x ∷ l) m h =
    both_of (is_lt (name_cmp k x)) (below_all name_cmp k (as_entries l)) (left_of (is_lt (name_cmp k x)) (below_all name_cmp k (as_entries (l ++ m))) h)
    (below_front k l m (right_of (is_lt (name_cmp k x)) (below_all name_cmp k (as_entries (l ++ m))) h))

-- of names that rise, those in front rise
pub rise_front : (l m : List (List ℕ)) → Rise (l ++ m) → Rise l
rise_front [] m h = tt
rise_front (k ∷ l) m h = both_of (below_all name_cmp k (as_entries l)) (is_sorted name_cmp (as_entries l))
    (below_front k l m (left_of (below_all name_cmp k (as_entries (l ++ m))) (is_sorted name_cmp (as_entries (l ++ m))) h))
    (rise_front l m (right_of (below_all name_cmp k (as_entries (l ++ m))) (is_sorted name_cmp (as_entries (l ++ m))) h))

-- and those behind a name
pub rise_back : (l : List (List ℕ)) (x : List ℕ) (r : List (List ℕ)) → Rise (l ++ x ∷ r) → Rise r
rise_back [] x r h = right_of (below_all name_cmp x (as_entries r)) (is_sorted name_cmp (as_entries r)) h
rise_back (k ∷ l) x r h = rise_back l x r (right_of (below_all name_cmp k (as_entries (l ++ x ∷ r))) (is_sorted name_cmp (as_entries (l ++ x ∷ r))) h)

-- lists with the same name at each place are the same
pub same_list : (a b : List (List ℕ)) → length a ≡ length b → ((k : ℕ) → k < length a → slice_get a k ≡ slice_get b k) → a ≡ b
same_list [] [] e h = refl
same_list [] (y ∷ b) e h = absurd (omega arith)
same_list (x ∷ a) [] e h = absurd (omega arith)
same_list (x ∷ a) (y ∷ b) e h =
    let s : Some x ≡ Some y = h 0 (omega arith) in
    let first : x ≡ y = cc in
    ap (λ z. z ∷ a) first ∙ ap (λ l. y ∷ l) (same_list a b (omega arith) (λ k lt. h (suc k) (omega arith)))

-- names around a name, part by part
pub made : {l m : List (List ℕ)} {x y : List ℕ} {r s : List (List ℕ)} → l ≡ m → x ≡ y → r ≡ s → l ++ x ∷ r ≡ m ++ y ∷ s
made p q t = ap₂ (λ a b. a ++ b) p (ap₂ (λ a b. a ∷ b) q t)

module _ (l : List (List ℕ)) (x : List ℕ) (r : List (List ℕ)) where
  -- how many names
  pub long : length (l ++ x ∷ r) ≡ length l + suc (length r)
  long = length-append l (x ∷ r)

  -- the name at a place
  at_before : (j : ℕ) (d : List ℕ) → j < length l → get_or (l ++ x ∷ r) j d ≡ get_or l j d
  at_before j d lt = get_or_append_left l (x ∷ r) d j lt

  at_here : (j : ℕ) (d : List ℕ) → j ≡ length l → get_or (l ++ x ∷ r) j d ≡ x
  at_here j d e = get_or_at l x r d j (omega arith)

  at_after : (j k : ℕ) (d : List ℕ) → j ≡ length l + suc k → get_or (l ++ x ∷ r) j d ≡ get_or r k d
  at_after j k d e = ap (λ n. get_or (l ++ x ∷ r) n d) e ∙ get_or-append-add l (x ∷ r) (suc k) d

  -- where a name stands
  pub stands_here : (name : List ℕ) (i : ℕ) → i ≡ length l → name_cmp x name ≡ Equal → IsAt (l ++ x ∷ r) name i
  stands_here name i e same = record { inside = omega (arith, long); is = at_here i name e ∙ same_name x name same }

  pub stands_after : (name : List ℕ) (i k : ℕ) → i ≡ length l + suc k → IsAt r name k → IsAt (l ++ x ∷ r) name i
  stands_after name i k e at =
      let inside = at.inside in
      record { inside = omega (arith, long); is = at_after i k name e ∙ at.is }

  -- names from a place on come after a name that the one there comes after
  from_here : (name : List ℕ) → Rise (l ++ x ∷ r) → name_cmp x name ≡ Greater → (j : ℕ) → length l ≤ j → j < length (l ++ x ∷ r) → name_cmp (get_or (l ++ x ∷ r) j name) name ≡ Greater
  from_here name rise more j le lt = elim (cases_lt (length l) j) [
    | inl later ↦
        let e = get_or (l ++ x ∷ r) j name in
        let step : name_cmp x e ≡ Less = ap (λ y. name_cmp y e) (sym (at_here (length l) name refl)) ∙ rise_at (l ++ x ∷ r) (length l) j name rise later lt in
        flipped name e Less (nat_list_cmp_total.trans name x e (flipped x name Greater more) step)
    | inr same ↦ ap (λ y. name_cmp y name) (at_here j name (omega arith)) ∙ more
  ]

  -- and names up to it before one that it comes before
  up_to_here : (name : List ℕ) → Rise (l ++ x ∷ r) → name_cmp x name ≡ Less → (j : ℕ) → j ≤ length l → name_cmp (get_or (l ++ x ∷ r) j name) name ≡ Less
  up_to_here name rise less j le = elim (cases_lt j (length l)) [
    | inl sooner ↦
        let e = get_or (l ++ x ∷ r) j name in
        let step : name_cmp e x ≡ Less = ap (name_cmp e) (sym (at_here (length l) name refl)) ∙ rise_at (l ++ x ∷ r) j (length l) name rise sooner (omega (arith, long)) in
        nat_list_cmp_total.trans e x name step less
    | inr same ↦ ap (λ y. name_cmp y name) (at_here j name (omega arith)) ∙ less
  ]

  -- where a name would go
  pub goes_before : (name : List ℕ) (i : ℕ) → Rise (l ++ x ∷ r) → name_cmp x name ≡ Greater → IsGap l name i → IsGap (l ++ x ∷ r) name i
  goes_before name i rise more gap =
      let inside = gap.inside in
      record {
        inside = omega (arith, long);
        before = λ j lt. ap (λ y. name_cmp y name) (at_before j name (omega arith)) ∙ gap.before j lt;
        after = λ j le lt. elim (cases_lt j (length l)) [
          | inl sooner ↦ ap (λ y. name_cmp y name) (at_before j name sooner) ∙ gap.after j le sooner
          | inr later ↦ from_here name rise more j later lt
        ];
      }

  pub goes_after : (name : List ℕ) (i k : ℕ) → i ≡ length l + suc k → Rise (l ++ x ∷ r) → name_cmp x name ≡ Less → IsGap r name k → IsGap (l ++ x ∷ r) name i
  goes_after name i k e rise less gap =
      let inside = gap.inside in
      record {
        inside = omega (arith, long);
        before = λ j lt. elim (cases_lt (length l) j) [
          | inl later ↦ (let s : j ≡ length l + suc (j - length l - 1) = omega arith in
              ap (λ y. name_cmp y name) (at_after j (j - length l - 1) name s) ∙ gap.before (j - length l - 1) (omega arith))
          | inr sooner ↦ up_to_here name rise less j sooner
        ];
        after = λ j le lt. (let s : j ≡ length l + suc (j - length l - 1) = omega arith in
            ap (λ y. name_cmp y name) (at_after j (j - length l - 1) name s) ∙ gap.after (j - length l - 1) (omega arith) (omega (arith, long)));
      }

  -- one more name, and one less
  pub insert_after : (i k : ℕ) (y : List ℕ) → i ≡ length l + suc k → insert (l ++ x ∷ r) i y ≡ l ++ x ∷ insert r k y
  insert_after i k y e =
      let s : i - length l ≡ suc k = omega arith in
      insert-append_right l (x ∷ r) (length l) i y refl (omega arith) ∙ ap (λ n. l ++ insert (x ∷ r) n y) s

  pub remove_here : (i : ℕ) → i ≡ length l → remove (l ++ x ∷ r) i ≡ l ++ r
  remove_here i e =
      let s : i - length l ≡ 0 = omega arith in
      remove-append_right l (x ∷ r) (length l) i refl (omega arith) ∙ ap (λ n. l ++ remove (x ∷ r) n) s

  pub remove_after : (i k : ℕ) → i ≡ length l + suc k → remove (l ++ x ∷ r) i ≡ l ++ x ∷ remove r k
  remove_after i k e =
      let s : i - length l ≡ suc k = omega arith in
      remove-append_right l (x ∷ r) (length l) i refl (omega arith) ∙ ap (λ n. l ++ remove (x ∷ r) n) s
