-- Laws of sets of names.
use Rattle.std.proofs.Common.{◌≡◌, ◌≢◌, ℕ, zero, suc, ◌+◌, ◌-◌, ◌<◌, ◌++◌, Bool, true, false, cond, not, ◌&&◌, ◌||◌, List, [], ◌∷◌, map, take, drop, length, get_or, Option, None, Some, is_some, refl, ap, sym, subst, ◌∙◌, arith, inl, inr}
use Rattle.std.specs.Prelude.{T}
use Rattle.std.specs.Ordering.{is_eq, is_lt, ordering_reverse}
use Rattle.std.specs.Cmp.{tied_itself, eq_by_cmp_equiv}
use Rattle.std.specs.Cmp.Lexicographic.{nat_list_cmp_total}
use Rattle.std.specs.declared.cmp.Ordering.{Ordering}
use Rattle.std.specs.declared.cmp.Ordering.TheVariants.{Less, Equal, Greater}
use Rattle.std.specs.FinMap.{same_entries_map, get, contains_key-keys, get-insert, get-remove, get-empty, get-from_sorted, entries-insert, entries-from_sorted, empty_of_len, len-entries, same_map, slice_cmp-IsAntisymmetric, nat_cmp-IsAntisymmetric}
use Rattle.std.specs.FinMap.Entries.{by_order, put, find, where_key, below_all, is_sorted, is_sorted-put, is_sorted-where_key, find-where_key}
use Rattle.std.specs.List.{list_any}
use Rattle.std.proofs.lemmas.List.{get_or_default}
use Rattle.std.proofs.lemmas.Bool.{cases_Bool, cases_lt, or_left, or_right}
use Rattle.wtf_values.specs.Names.{name_cmp, NamesOf, no_names, has_name, with_name, without_name, names_in, as_entries, Rise, set_of, IsAt, IsGap}

-- names that compare as equal are the same
pub same_name : (x y : List ℕ) → name_cmp x y ≡ Equal → x ≡ y
same_name = slice_cmp-IsAntisymmetric nat_cmp-IsAntisymmetric

equal_when : (o : Ordering) → is_eq o ≡ true → o ≡ Equal
equal_when Less h = absurd (cc)
equal_when Equal h = refl
equal_when Greater h = absurd (cc)

-- a name compares as equal to itself
pub name_itself : (x : List ℕ) → name_cmp x x ≡ Equal
name_itself x = tied_itself nat_list_cmp_total x

tied : (x y : List ℕ) → is_eq (name_cmp x y) ≡ true → x ≡ y
tied x y h = same_name x y (equal_when (name_cmp x y) h)

-- two names compare the other way round
pub flipped : (x y : List ℕ) (o : Ordering) → name_cmp x y ≡ o → name_cmp y x ≡ ordering_reverse o
flipped x y o h = nat_list_cmp_total.antisymm y x ∙ ap ordering_reverse h

some_or : (b : Bool) (x : Option (Unit {0})) → is_some (cond b (Some tt) x) ≡ (b || is_some x)
some_or true x = refl
some_or false x = refl

none_and : (b : Bool) (x : Option (Unit {0})) → is_some (cond b None x) ≡ (not b && is_some x)
none_and true x = refl
none_and false x = refl

same_mark : (x y : Option (Unit {0})) → is_some x ≡ is_some y → x ≡ y
same_mark None None h = refl
same_mark None (Some u) h = absurd (cc)
same_mark (Some u) None h = absurd (cc)
same_mark (Some u) (Some w) h = refl

-- sets that have the same names are equal
pub same_names : (s t : NamesOf) → ((q : List ℕ) → has_name s q ≡ has_name t q) → s ≡ t
same_names s t is = same_map nat_list_cmp_total same_name s t (λ q. same_mark (get s q) (get t q) (is q))

pub has-none : (q : List ℕ) → has_name no_names q ≡ false
has-none q = ap is_some (get-empty name_cmp q)

pub has-with : (s : NamesOf) (name q : List ℕ) → has_name (with_name s name) q ≡ (is_eq (name_cmp q name) || has_name s q)
has-with s name q = ap is_some (get-insert nat_list_cmp_total s name tt q) ∙ some_or _ _

pub has-without : (s : NamesOf) (name q : List ℕ) → has_name (without_name s name) q ≡ (not (is_eq (name_cmp q name)) && has_name s q)
has-without s name q = ap is_some (get-remove nat_list_cmp_total s name q) ∙ none_and _ _

-- a name that is added is there, and one that is taken out is not
pub has-added : (s : NamesOf) (name : List ℕ) → has_name (with_name s name) name ≡ true
has-added s name = has-with s name name ∙ ap (λ o. is_eq o || has_name s name) (name_itself name)

pub has-taken : (s : NamesOf) (name : List ℕ) → has_name (without_name s name) name ≡ false
has-taken s name = has-without s name name ∙ ap (λ o. not (is_eq o) && has_name s name) (name_itself name)

or_there : (b c : Bool) → (b ≡ true → c ≡ true) → (b || c) ≡ c
or_there true c h = sym (h refl)
or_there false c h = refl

and_missing : (b c : Bool) → (b ≡ true → c ≡ false) → (not b && c) ≡ c
and_missing true c h = sym (h refl)
and_missing false c h = refl

-- to add a name that is there changes nothing
pub with-there : (s : NamesOf) (name : List ℕ) → has_name s name ≡ true → with_name s name ≡ s
with-there s name there = same_names _ s (λ q. has-with s name q ∙ or_there (is_eq (name_cmp q name)) (has_name s q) (λ t. ap (has_name s) (tied q name t) ∙ there))

-- and to take out one that is not there neither
pub without-missing : (s : NamesOf) (name : List ℕ) → has_name s name ≡ false → without_name s name ≡ s
without-missing s name missing = same_names _ s (λ q. has-without s name q ∙ and_missing (is_eq (name_cmp q name)) (has_name s q) (λ t. ap (has_name s) (tied q name t) ∙ missing))

firsts : (names : List (List ℕ)) → map (λ (e : List ℕ × Unit {0}). e.0) (as_entries names) ≡ names
firsts [] = refl
firsts (name ∷ names) = ap (λ rest. name ∷ rest) (firsts names)

-- the names of a set that is made of names that rise
pub names_in-set_of : (names : List (List ℕ)) → Rise names → names_in (set_of names) ≡ names
names_in-set_of names rise = ap (map (λ e. e.0)) (entries-from_sorted name_cmp (as_entries names) rise) ∙ firsts names

-- a set has a name where one of its names is it
pub has-names : (s : NamesOf) (q : List ℕ) → has_name s q ≡ list_any (λ k. is_eq (name_cmp q k)) (names_in s)
has-names s q = contains_key-keys s q

-- what a test of two parts says of each
pub left_of : (a b : Bool) → T (a && b) → T a
left_of true b h = tt
left_of false b h = absurd h

pub right_of : (a b : Bool) → T (a && b) → T b
right_of true b h = h
right_of false b h = absurd h

less_when : (o : Ordering) → T (is_lt o) → o ≡ Less
less_when Less h = refl
less_when Equal h = absurd h
less_when Greater h = absurd h

below_at : (x : List ℕ) (names : List (List ℕ)) (j : ℕ) (d : List ℕ) → T (below_all name_cmp x (as_entries names)) → j < length names → name_cmp x (get_or names j d) ≡ Less
below_at x [] j d h inside = absurd (omega arith)
below_at x (k ∷ ks) zero d h inside = less_when (name_cmp x k) (left_of (is_lt (name_cmp x k)) (below_all name_cmp x (as_entries ks)) h)
below_at x (k ∷ ks) (suc j) d h inside = below_at x ks j d (right_of (is_lt (name_cmp x k)) (below_all name_cmp x (as_entries ks)) h) (omega arith)

-- of names that rise, an earlier one comes before a later one
pub rise_at : (names : List (List ℕ)) (i j : ℕ) (d : List ℕ) → Rise names → i < j → j < length names → name_cmp (get_or names i d) (get_or names j d) ≡ Less
rise_at [] i j d rise before inside = absurd (omega arith)
rise_at (k ∷ ks) i zero d rise before inside = absurd (omega arith)
rise_at (k ∷ ks) zero (suc j) d rise before inside = below_at k ks j d (left_of (below_all name_cmp k (as_entries ks)) (is_sorted name_cmp (as_entries ks)) rise) (omega arith)
rise_at (k ∷ ks) (suc i) (suc j) d rise before inside = rise_at ks i j d (right_of (below_all name_cmp k (as_entries ks)) (is_sorted name_cmp (as_entries ks)) rise) (omega arith) (omega arith)

any_at : (names : List (List ℕ)) (name : List ℕ) (i : ℕ) → i < length names → get_or names i name ≡ name → list_any (λ k. is_eq (name_cmp name k)) names ≡ true
any_at [] name i inside is = absurd (omega arith)
any_at (k ∷ ks) name zero inside is = or_left _ _ (ap (λ x. is_eq (name_cmp name x)) is ∙ ap is_eq (name_itself name))
any_at (k ∷ ks) name (suc i) inside is = or_right _ _ (any_at ks name i (omega arith) is)

any_none : (names : List (List ℕ)) (name : List ℕ) → ((j : ℕ) → j < length names → is_eq (name_cmp name (get_or names j name)) ≡ false) → list_any (λ k. is_eq (name_cmp name k)) names ≡ false
any_none [] name apart = refl
any_none (k ∷ ks) name apart = ap (λ b. b || list_any (λ x. is_eq (name_cmp name x)) ks) (apart 0 (omega arith)) ∙ any_none ks name (λ j h. apart (suc j) (omega arith))

gap_apart : (names : List (List ℕ)) (name : List ℕ) (i : ℕ) → IsGap names name i → (j : ℕ) → j < length names → is_eq (name_cmp name (get_or names j name)) ≡ false
gap_apart names name i gap j inside = elim (cases_lt j i) [
  | inl before ↦ ap is_eq (flipped (get_or names j name) name Less (gap.before j before))
  | inr after ↦ ap is_eq (flipped (get_or names j name) name Greater (gap.after j after inside))
]

-- a set has a name that stands among its own
pub has-at : (s : NamesOf) (name : List ℕ) (i : ℕ) → IsAt (names_in s) name i → has_name s name ≡ true
has-at s name i at = has-names s name ∙ any_at (names_in s) name i at.inside at.is

-- and not one that has a gap among them
pub has-gap : (s : NamesOf) (name : List ℕ) (i : ℕ) → IsGap (names_in s) name i → has_name s name ≡ false
has-gap s name i gap = has-names s name ∙ any_none (names_in s) name (gap_apart (names_in s) name i gap)

later_gap : (k : List ℕ) (ks : List (List ℕ)) (name : List ℕ) (i : ℕ) → IsGap (k ∷ ks) name (suc i) → IsGap ks name i
later_gap k ks name i gap = record {
  inside = let h = gap.inside in omega (arith, h);
  before = λ j lt. gap.before (suc j) (omega arith);
  after = λ j le lt. gap.after (suc j) (omega arith) (omega arith);
}

put_gap : (names : List (List ℕ)) (name : List ℕ) (i : ℕ) → IsGap names name i → put name_cmp name tt (as_entries names) ≡ as_entries (take i names ++ name ∷ drop i names)
put_gap [] name zero gap = refl
put_gap [] name (suc i) gap = absurd (let h = gap.inside in omega (arith, h))
put_gap (k ∷ ks) name zero gap =
    ap (λ (o : Ordering). by_order o ((name, tt) ∷ (k, tt) ∷ as_entries ks) ((k, tt) ∷ as_entries ks) ((k, tt) ∷ put name_cmp name tt (as_entries ks)))
    (flipped k name Greater (gap.after 0 (omega arith) (omega arith)))
put_gap (k ∷ ks) name (suc i) gap =
    ap (λ (o : Ordering). by_order o ((name, tt) ∷ (k, tt) ∷ as_entries ks) ((k, tt) ∷ as_entries ks) ((k, tt) ∷ put name_cmp name tt (as_entries ks)))
    (flipped k name Less (gap.before 0 (omega arith)))
    ∙ ap (λ es. (k, tt) ∷ es) (put_gap ks name i (later_gap k ks name i gap))

-- names with one more in its gap rise
pub Rise-with : (names : List (List ℕ)) (name : List ℕ) (i : ℕ) → Rise names → IsGap names name i → Rise (take i names ++ name ∷ drop i names)
Rise-with names name i rise gap = subst (λ es. T (is_sorted name_cmp es)) (put_gap names name i gap) (is_sorted-put name_cmp nat_list_cmp_total name tt (as_entries names) rise)

-- and are the set with that name
pub set_of-with : (names : List (List ℕ)) (name : List ℕ) (i : ℕ) → Rise names → IsGap names name i → set_of (take i names ++ name ∷ drop i names) ≡ with_name (set_of names) name
set_of-with names name i rise gap = same_entries_map _ _
    (entries-from_sorted name_cmp (as_entries (take i names ++ name ∷ drop i names)) (Rise-with names name i rise gap) ∙ sym (put_gap names name i gap)
    ∙ ap (put name_cmp name tt) (sym (entries-from_sorted name_cmp (as_entries names) rise)) ∙ sym (entries-insert nat_list_cmp_total (set_of names) name tt))

-- the test that keeps all but one name
abbrev others : List ℕ → List ℕ → Bool
others name x = not (is_eq (name_cmp name x))

kept_all : (names : List (List ℕ)) (name : List ℕ) → ((j : ℕ) → j < length names → is_eq (name_cmp name (get_or names j name)) ≡ false) → where_key name_cmp (others name) (as_entries names) ≡ as_entries names
kept_all [] name apart = refl
kept_all (k ∷ ks) name apart = ap (λ b. cond (not b) ((k, tt) ∷ where_key name_cmp (others name) (as_entries ks)) (where_key name_cmp (others name) (as_entries ks))) (apart 0 (omega arith))
    ∙ ap (λ es. (k, tt) ∷ es) (kept_all ks name (λ j h. apart (suc j) (omega arith)))

where_at : (names : List (List ℕ)) (name : List ℕ) (i : ℕ) → Rise names → i < length names → get_or names i name ≡ name
    → where_key name_cmp (others name) (as_entries names) ≡ as_entries (take i names ++ drop (suc i) names)
where_at [] name i rise inside is = absurd (omega arith)
where_at (k ∷ ks) name zero rise inside is =
    ap (λ b. cond (not b) ((k, tt) ∷ where_key name_cmp (others name) (as_entries ks)) (where_key name_cmp (others name) (as_entries ks))) (ap (λ x. is_eq (name_cmp name x)) is ∙ ap is_eq (name_itself name))
    ∙ kept_all ks name (λ j h. ap is_eq (ap (λ x. name_cmp x (get_or ks j name)) (sym is) ∙ rise_at (k ∷ ks) 0 (suc j) name rise (omega arith) (omega arith)))
where_at (k ∷ ks) name (suc i) rise inside is =
    ap (λ b. cond (not b) ((k, tt) ∷ where_key name_cmp (others name) (as_entries ks)) (where_key name_cmp (others name) (as_entries ks)))
    (ap is_eq (ap (λ x. name_cmp x k) (sym is) ∙ flipped k (get_or ks i name) Less (rise_at (k ∷ ks) 0 (suc i) name rise (omega arith) inside)))
    ∙ ap (λ es. (k, tt) ∷ es) (where_at ks name i (right_of (below_all name_cmp k (as_entries ks)) (is_sorted name_cmp (as_entries ks)) rise) (omega arith) is)

-- names without one of them rise
pub Rise-without : (names : List (List ℕ)) (name : List ℕ) (i : ℕ) → Rise names → IsAt names name i → Rise (take i names ++ drop (suc i) names)
Rise-without names name i rise at = subst (λ es. T (is_sorted name_cmp es)) (where_at names name i rise at.inside at.is) (is_sorted-where_key name_cmp (others name) (as_entries names) rise)

turned : (b : Bool) (x : Option (Unit {0})) → cond (not b) x None ≡ cond b None x
turned true x = refl
turned false x = refl

-- whichever it is
pub Rise-cut : (names : List (List ℕ)) (i : ℕ) → Rise names → i < length names → Rise (take i names ++ drop (suc i) names)
Rise-cut names i rise inside =
    let name = get_or names i [] in
    Rise-without names name i rise (record { inside = inside; is = get_or_default names i name [] inside })

-- and are the set without it
pub set_of-without : (names : List (List ℕ)) (name : List ℕ) (i : ℕ) → Rise names → IsAt names name i → set_of (take i names ++ drop (suc i) names) ≡ without_name (set_of names) name
set_of-without names name i rise at = same_map nat_list_cmp_total same_name _ _ (λ q.
    get-from_sorted name_cmp (as_entries (take i names ++ drop (suc i) names)) q (Rise-without names name i rise at)
    ∙ ap (find name_cmp q) (sym (where_at names name i rise at.inside at.is))
    ∙ find-where_key name_cmp (others name) q (λ x t. ap (others name) (sym (same_name q x t))) (as_entries names)
    ∙ turned (is_eq (name_cmp name q)) (find name_cmp q (as_entries names))
    ∙ ap (λ b. cond b None (find name_cmp q (as_entries names))) ((eq_by_cmp_equiv nat_list_cmp_total).symm name q)
    ∙ ap (cond (is_eq (name_cmp q name)) None) (sym (get-from_sorted name_cmp (as_entries names) q rise))
    ∙ sym (get-remove nat_list_cmp_total (set_of names) name q))

-- the set of no name
pub set_of-nil : set_of [] ≡ no_names
set_of-nil = empty_of_len (set_of []) (len-entries (set_of []) ∙ ap length (entries-from_sorted name_cmp [] tt))

-- the names of a set that is made of names that rise, by what it is
pub named : (names : List (List ℕ)) (s : NamesOf) → set_of names ≡ s → Rise names → names_in s ≡ names
named names s is rise = ap names_in (sym is) ∙ names_in-set_of names rise

-- a name that is taken out leaves the others
pub has-other : (s : NamesOf) (name other : List ℕ) → name ≢ other → has_name (without_name s name) other ≡ has_name s other
has-other s name other differ = has-without s name other ∙ elim (cases_Bool (is_eq (name_cmp other name))) [
  | inl same ↦ absurd (differ (sym (tied other name same)))
  | inr apart ↦ ap (λ b. not b && has_name s other) apart
]
