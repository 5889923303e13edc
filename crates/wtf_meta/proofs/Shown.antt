-- The names of a directory, as they are listed.
use Rattle.std.proofs.Common.{◌≡◌, ℕ, Bool, true, false, cond, ◌&&◌, List, [], ◌∷◌, map, length, Option, Some, None, Ok, Err, refl, sym, ap, ◌∙◌, subst, ⊎_elim}
use Rattle.std.proofs.Common.{arith}
use Rattle.std.specs.Prelude.{T, filter}
use Rattle.std.specs.List.{list_any}
use Rattle.std.specs.FinMap.{keys, entries, entries_sorted, contains_key-keys}
use Rattle.std.specs.FinMap.Entries.{below_all, is_sorted}
use Rattle.std.specs.Cmp.Lexicographic.{slice_cmp}
use Rattle.std.specs.Ordering.{nat_cmp, is_eq, is_lt}
use Rattle.std.specs.declared.cmp.Ordering.{Ordering}
use Rattle.std.specs.declared.cmp.Ordering.TheVariants.{Less, Equal, Greater}
use Rattle.std.proofs.lemmas.Bool.{or_left, or_right, or_cases}
use Rattle.std.proofs.lemmas.Slice.Eq.{bytes_eq-Decides}
use Rattle.wtf_path.specs.Grammar.{IsPath}
use Rattle.wtf_path.specs.Parts.{parent_of, name_of}
use Rattle.wtf_model.specs.declared.answer.Word.TheVariants.{NotEmpty}
use Rattle.wtf_model.specs.Tree.{Tree, TreeNode, IsTree, is_at, is_in, paths_in, names_in, are_none, is_empty}
use Rattle.wtf_values.specs.Names.{name_cmp, NamesOf, has_name, names_in as listed, as_entries, Rise, set_of}
use Rattle.wtf_values.proofs.NameLaws.{same_name, name_itself, same_names, has-names, names_in-set_of}
use Rattle.wtf_meta.specs.Trees.{IsListing}
use Rattle.wtf_meta.proofs.PathNames.{name-orders}

-- whether a name is among others
abbrev among : List ℕ → List (List ℕ) → Bool
among q ks = list_any (λ k. is_eq (name_cmp q k)) ks

first_of_both : (a b : Bool) → T (a && b) → T a
first_of_both true b h = tt
first_of_both false b h = absurd h

rest_of_both : (a b : Bool) → T (a && b) → T b
rest_of_both true b h = h
rest_of_both false b h = absurd h

both_hold : (a b : Bool) → T a → T b → T (a && b)
both_hold true b x y = y
both_hold false b x y = x

equal_when : (o : Ordering) → is_eq o ≡ true → o ≡ Equal
equal_when Less h = absurd (cc)
equal_when Equal h = refl
equal_when Greater h = absurd (cc)

tied : (q k : List ℕ) → is_eq (name_cmp q k) ≡ true → q ≡ k
tied q k h = same_name q k (equal_when (name_cmp q k) h)

same_test : (s t : Bool) → (s ≡ true → t ≡ true) → (t ≡ true → s ≡ true) → s ≡ t
same_test true t f g = sym (f refl)
same_test false true f g = g refl
same_test false false f g = refl

at_parent : (dir : List ℕ) (up : Option (List ℕ)) → is_at dir up ≡ true → up ≡ Some dir
at_parent dir None h = absurd (cc)
at_parent dir (Some up) h = ap Some ((bytes_eq-Decides up dir).0 h)

pub in_parent : (dir p : List ℕ) → is_in dir p ≡ true → parent_of p ≡ Some dir
in_parent dir p h = at_parent dir (parent_of p) h

pub parent_in : (dir p : List ℕ) → parent_of p ≡ Some dir → is_in dir p ≡ true
parent_in dir p up = ap (is_at dir) up ∙ (bytes_eq-Decides dir dir).1 refl

module _ (dir : List ℕ) where
  -- the names, in a directory, of the keys of entries
  abbrev names_from : List (List ℕ × TreeNode) → List (List ℕ)
  names_from es = map name_of (filter (is_in dir) (map (λ e. e.0) es))

  -- the keys of entries are paths
  abbrev ArePaths : List (List ℕ × TreeNode) → Type 0
  ArePaths es = (q : List ℕ) → among q (map (λ e. e.0) es) ≡ true → IsPath q

  head_path : (e : List ℕ × TreeNode) (es : List (List ℕ × TreeNode)) → ArePaths (e ∷ es) → IsPath e.0
  head_path e es all = all e.0 (or_left _ _ (ap is_eq (name_itself e.0)))

  tail_paths : (e : List ℕ × TreeNode) (es : List (List ℕ × TreeNode)) → ArePaths (e ∷ es) → ArePaths es
  tail_paths e es all q h = all q (or_right _ _ h)

  below_names : (x : List ℕ) (es : List (List ℕ × TreeNode)) → IsPath x → parent_of x ≡ Some dir → ArePaths es → T (below_all (slice_cmp nat_cmp) x es)
      → T (below_all name_cmp (name_of x) (as_entries (names_from es)))
  below_names x [] path up all h = tt
  below_names x (e ∷ es) path up all h =
      let left : List (List ℕ) = filter (is_in dir) (map (λ e. e.0) es) in
      let rest = below_names x es path up (tail_paths e es all) (rest_of_both (is_lt (slice_cmp nat_cmp x e.0)) (below_all (slice_cmp nat_cmp) x es) h) in
      elim (is_in dir e.0) as (λ b. is_in dir e.0 ≡ b → T (below_all name_cmp (name_of x) (as_entries (map name_of (cond b (e.0 ∷ left) left))))) [
        | true ↦ λ here. both_hold _ _
            (subst (λ o. T (is_lt o)) (name-orders x e.0 dir path (head_path e es all) up (in_parent dir e.0 here))
            (first_of_both (is_lt (slice_cmp nat_cmp x e.0)) (below_all (slice_cmp nat_cmp) x es) h))
            rest
        | false ↦ λ other. rest
      ] refl

  sorted_names : (es : List (List ℕ × TreeNode)) → ArePaths es → T (is_sorted (slice_cmp nat_cmp) es) → Rise (names_from es)
  sorted_names [] all h = tt
  sorted_names (e ∷ es) all h =
      let left : List (List ℕ) = filter (is_in dir) (map (λ e. e.0) es) in
      let rest = sorted_names es (tail_paths e es all) (rest_of_both (below_all (slice_cmp nat_cmp) e.0 es) (is_sorted (slice_cmp nat_cmp) es) h) in
      elim (is_in dir e.0) as (λ b. is_in dir e.0 ≡ b → Rise (map name_of (cond b (e.0 ∷ left) left))) [
        | true ↦ λ here. both_hold _ _
            (below_names e.0 es (head_path e es all) (in_parent dir e.0 here) (tail_paths e es all)
            (first_of_both (below_all (slice_cmp nat_cmp) e.0 es) (is_sorted (slice_cmp nat_cmp) es) h))
            rest
        | false ↦ λ other. rest
      ] refl

  -- a path among the keys that stands in the directory has its name among theirs
  name_among : (p : List ℕ) (ks : List (List ℕ)) → among p ks ≡ true → is_in dir p ≡ true → among (name_of p) (map name_of (filter (is_in dir) ks)) ≡ true
  name_among p [] there here = absurd (cc)
  name_among p (k ∷ ks) there here =
      let left : List (List ℕ) = filter (is_in dir) ks in
      ⊎_elim
      (λ same.
      let one : p ≡ k = tied p k same in
      let kept : is_in dir k ≡ true = ap (is_in dir) (sym one) ∙ here in
      ap (λ b. among (name_of p) (map name_of (cond b (k ∷ left) left))) kept
      ∙ or_left _ _ (ap (λ x. is_eq (name_cmp (name_of p) (name_of x))) (sym one) ∙ ap is_eq (name_itself (name_of p))))
      (λ later.
      let rest = name_among p ks later here in
      elim (is_in dir k) as (λ b. among (name_of p) (map name_of (cond b (k ∷ left) left)) ≡ true) [
        | true ↦ or_right _ _ rest
        | false ↦ rest
      ])
      (or_cases (is_eq (name_cmp p k)) (among p ks) there)

  -- and each of these names is that of such a path
  pub record Behind (ks : List (List ℕ)) (q : List ℕ) : Type 0 where
    pub path : List ℕ
    pub there : among path ks ≡ true
    pub up : parent_of path ≡ Some dir
    pub name : name_of path ≡ q

  more_behind : (k : List ℕ) (ks : List (List ℕ)) (q : List ℕ) → Behind ks q → Behind (k ∷ ks) q
  more_behind k ks q h = record { path = h.path; there = or_right _ _ h.there; up = h.up; name = h.name }

  name_behind : (q : List ℕ) (ks : List (List ℕ)) → among q (map name_of (filter (is_in dir) ks)) ≡ true → Behind ks q
  name_behind q [] h = absurd (cc)
  name_behind q (k ∷ ks) h =
      let left : List (List ℕ) = filter (is_in dir) ks in
      elim (is_in dir k) as (λ b. is_in dir k ≡ b → among q (map name_of (cond b (k ∷ left) left)) ≡ true → Behind (k ∷ ks) q) [
        | true ↦ λ here is. ⊎_elim
            (λ same. record { path = k; there = or_left _ _ (ap is_eq (name_itself k)); up = in_parent dir k here; name = sym (tied q (name_of k) same) })
            (λ later. more_behind k ks q (name_behind q ks later))
            (or_cases (is_eq (name_cmp q (name_of k))) (among q (map name_of left)) is)
        | false ↦ λ other is. more_behind k ks q (name_behind q ks is)
      ] refl h

module _ (t : Tree) (dir : List ℕ) (names : NamesOf) (tree : IsTree t) (is : IsListing t dir names) where
  model_rises : Rise (names_in t dir)
  model_rises = sorted_names dir (entries t) (λ q h. tree.paths q (contains_key-keys t q ∙ h)) (entries_sorted t)

  same_members : (q : List ℕ) → has_name names q ≡ has_name (set_of (names_in t dir)) q
  same_members q = same_test (has_name names q) (among q (names_in t dir))
      (λ has.
      let found = is.only q has in
      ap (λ n. among n (names_in t dir)) (sym found.2)
      ∙ name_among dir found.0 (keys t) (sym (contains_key-keys t found.0) ∙ found.3) (parent_in dir found.0 found.1))
      (λ h.
      let behind = name_behind dir q (keys t) h in
      ap (has_name names) (sym behind.name) ∙ is.each behind.path behind.up (contains_key-keys t behind.path ∙ behind.there))
      ∙ sym (has-names (set_of (names_in t dir)) q ∙ ap (among q) (names_in-set_of (names_in t dir) model_rises))

  -- the names of a directory's value are those that the definitions list
  pub listing-names : listed names ≡ names_in t dir
  listing-names = ap listed (same_names names (set_of (names_in t dir)) same_members) ∙ names_in-set_of (names_in t dir) model_rises

  -- it has none exactly where nothing stands in the directory
  pub listing-empty : length (listed names) ≡ 0 → is_empty t dir ≡ Ok tt
  listing-empty none = empty_by (paths_in t dir) (sym (ap length listing-names) ∙ none)
    where
      empty_by : (ps : List (List ℕ)) → length (map name_of ps) ≡ 0 → are_none ps ≡ Ok tt
      empty_by [] h = refl
      empty_by (p ∷ ps) h = absurd (omega arith)

  pub listing-some : (length (listed names) ≡ 0 → ⊥) → is_empty t dir ≡ Err NotEmpty
  listing-some some = some_by (paths_in t dir) (λ h. some (ap length listing-names ∙ h))
    where
      some_by : (ps : List (List ℕ)) → (length (map name_of ps) ≡ 0 → ⊥) → are_none ps ≡ Err NotEmpty
      some_by [] h = absurd (h refl)
      some_by (p ∷ ps) h = refl
