-- The names of directories, as they stay, come and go.
use Rattle.std.proofs.Common.{◌≡◌, ◌≢◌, ◌⊎◌, ℕ, true, false, not, ◌||◌, List, Option, Some, None, is_some, refl, sym, ap, ◌∙◌, subst, inl, inr, ⊎_elim}
use Rattle.std.specs.Prelude.{IsSome}
use Rattle.std.specs.FinMap.{get, insert, remove}
use Rattle.std.specs.Ordering.{is_eq}
use Rattle.std.specs.declared.cmp.Ordering.{Ordering}
use Rattle.std.specs.declared.cmp.Ordering.TheVariants.{Less, Equal, Greater}
use Rattle.std.proofs.lemmas.Bool.{cases_Bool, or_right, and_from, and_parts}
use Rattle.wtf_path.specs.Parts.{parent_of, name_of}
use Rattle.wtf_model.specs.Tree.{Tree, TreeNode, Dir, File, IsTree}
use Rattle.wtf_model.proofs.Laws.{get-node_same, get-node_other}
use Rattle.wtf_model.proofs.TreeLaws.{IsFree, same_or_other, get-taken_same, get-taken_other}
use Rattle.wtf_values.specs.declared.value.Value.{Value}
use Rattle.wtf_values.specs.declared.value.Value.TheVariants as value
use Rattle.wtf_values.specs.Names.{name_cmp, NamesOf, no_names, has_name, with_name, without_name}
use Rattle.wtf_values.proofs.NameLaws.{same_name, name_itself, has-none, has-with, has-without, has-added}
use Rattle.wtf_meta.specs.Trees.{IsListing, NamesAt}
use Rattle.wtf_meta.proofs.PathNames.{name-tells}
use Rattle.wtf_meta.proofs.Nodes.{Listed, names-of_listing, names-of_none}

some_at : (o p : Option TreeNode) → o ≡ p → IsSome p → IsSome o
some_at o p e h = subst (λ x. IsSome x) (sym e) h

equal_when : (o : Ordering) → is_eq o ≡ true → o ≡ Equal
equal_when Less h = absurd (cc)
equal_when Equal h = refl
equal_when Greater h = absurd (cc)

-- two names are one, or compare as different
names_differ : (n m : List ℕ) → (n ≡ m) ⊎ (is_eq (name_cmp n m) ≡ false)
names_differ n m = ⊎_elim (λ t. inl (same_name n m (equal_when (name_cmp n m) t))) (λ f. inr f) (cases_Bool (is_eq (name_cmp n m)))

-- the names of a directory stay where what stands in it stays
pub listing-stays : (s t : Tree) (dir : List ℕ) (names : NamesOf) → ((q : List ℕ) → parent_of q ≡ Some dir → get t q ≡ get s q) → IsListing s dir names
    → IsListing t dir names
listing-stays s t dir names same is = record {
  each = λ q up here. is.each q up (some_at (get s q) (get t q) (sym (same q up)) here);
  only = λ n has. let found = is.only n has in (found.0, found.1, found.2, some_at (get t found.0) (get s found.0) (same found.0 found.1) found.3);
}

-- a new directory has none
pub listing-none : (t : Tree) (dir : List ℕ) → ((q : List ℕ) → IsSome (get t q) → parent_of q ≡ Some dir → ⊥) → IsListing t dir no_names
listing-none t dir none = record {
  each = λ q up here. absurd (none q here up);
  only = λ n has. absurd (let bad : false ≡ true = sym (has-none n) ∙ has in cc);
}

-- one more
pub listing-added : (t : Tree) (p dir : List ℕ) (n : TreeNode) (names : NamesOf) → parent_of p ≡ Some dir → IsListing t dir names
    → IsListing (insert t p n) dir (with_name names (name_of p))
listing-added t p dir n names up is = record {
  each = λ q in_dir here. ⊎_elim
      (λ same. ap (λ x. has_name (with_name names (name_of p)) (name_of x)) same ∙ has-added names (name_of p))
      (λ other. has-with names (name_of p) (name_of q) ∙ or_right _ _
      (is.each q in_dir (some_at (get t q) (get (insert t p n) q) (sym (get-node_other t p n q other)) here)))
      (same_or_other q p);
  only = λ m has.
      let here : IsSome (get (insert t p n) p) = some_at (get (insert t p n) p) (Some n) (get-node_same t p n) refl in
      ⊎_elim
      (λ same. (p, up, sym same, here))
      (λ apart.
      let found = is.only m (sym (ap (λ b. b || has_name names m) apart) ∙ (sym (has-with names (name_of p) m) ∙ has)) in (
        found.0,
        found.1,
        found.2,
        ⊎_elim
            (λ same. subst (λ x. IsSome (get (insert t p n) x)) (sym same) here)
            (λ other. some_at (get (insert t p n) found.0) (get t found.0) (get-node_other t p n found.0 other) found.3)
            (same_or_other found.0 p),
      ))
      (names_differ m (name_of p));
}

left_there : (o p : Option TreeNode) → o ≡ None → IsSome o → ⊥
left_there o p e h = let bad : false ≡ true = sym (ap is_some e) ∙ h in cc

-- one less
pub listing-taken : (t : Tree) (p dir : List ℕ) (names : NamesOf) → IsTree t → IsSome (get t p) → parent_of p ≡ Some dir → IsListing t dir names
    → IsListing (remove t p) dir (without_name names (name_of p))
listing-taken t p dir names tree there up is =
    let stays : (q : List ℕ) → q ≢ p → get (remove t p) q ≡ get t q = λ q other. get-taken_other t p q other in
    record {
      each = λ q in_dir here. ⊎_elim
          (λ same. absurd (left_there (get (remove t p) q) None (ap (get (remove t p)) same ∙ get-taken_same t p) here))
          (λ other.
          let was : IsSome (get t q) = some_at (get t q) (get (remove t p) q) (sym (stays q other)) here in
          let apart : is_eq (name_cmp (name_of q) (name_of p)) ≡ false = ⊎_elim
          (λ same. absurd (other (name-tells q p dir (tree.paths q was) (tree.paths p there) in_dir up same)))
          (λ differ. differ)
          (names_differ (name_of q) (name_of p)) in
          has-without names (name_of p) (name_of q) ∙ and_from _ _ (ap not apart) (is.each q in_dir was))
          (same_or_other q p);
      only = λ m has.
          let parts = and_parts (not (is_eq (name_cmp m (name_of p)))) (has_name names m) (sym (has-without names (name_of p) m) ∙ has) in
          let found = is.only m parts.1 in
          let other : found.0 ≢ p = λ same.
          let tied : is_eq (name_cmp m (name_of p)) ≡ true = ap (λ x. is_eq (name_cmp m x)) (sym (sym found.2 ∙ ap name_of same)) ∙ ap is_eq (name_itself m) in
          let bad : false ≡ true = sym (ap not tied) ∙ parts.0 in absurd (cc) in
          (found.0, found.1, found.2, some_at (get (remove t p) found.0) (get t found.0) (stays found.0 other) found.3);
    }

-- what the directories of a tree have, by their paths
abbrev pub HaveNames : Tree → (List ℕ → Option Value) → Type 0
HaveNames t f = (d : List ℕ) → NamesAt t d (f d) (get t d)

names_stay : (s t : Tree) (d : List ℕ) (v : Option Value) (o : Option TreeNode) → ((q : List ℕ) → parent_of q ≡ Some d → get t q ≡ get s q) → NamesAt s d v o
    → NamesAt t d v o
names_stay s t d None None same at = tt
names_stay s t d None (Some Dir) same at = absurd at
names_stay s t d None (Some (File paths bytes)) same at = tt
names_stay s t d (Some (value.Node n)) o same at = absurd at
names_stay s t d (Some (value.Names names)) None same at = absurd at
names_stay s t d (Some (value.Names names)) (Some Dir) same at = listing-stays s t d names same at
names_stay s t d (Some (value.Names names)) (Some (File paths bytes)) same at = absurd at
names_stay s t d (Some (value.Last r)) o same at = absurd at
names_stay s t d (Some (value.Count n)) o same at = absurd at
names_stay s t d (Some (value.Region g)) o same at = absurd at

names_kept : (s t : Tree) (d : List ℕ) (v x : Option Value) (o y : Option TreeNode) → ((q : List ℕ) → parent_of q ≡ Some d → get t q ≡ get s q) → x ≡ v → y ≡ o
    → NamesAt s d v o → NamesAt t d x y
names_kept s t d v x o y same ev eo at = subst (λ z. NamesAt t d z y) (sym ev) (subst (λ z. NamesAt t d v z) (sym eo) (names_stay s t d v o same at))

-- another path of a directory
in_other : (p q dir d : List ℕ) → parent_of p ≡ Some dir → parent_of q ≡ Some d → d ≢ dir → q ≢ p
in_other p q dir d up in_d differ same = let both : Some d ≡ Some dir = sym in_d ∙ (ap parent_of same ∙ up) in let one : d ≡ dir = cc in differ one

-- something is put at a free path: its directory gets the name
pub names-added : (t : Tree) (f g : List ℕ → Option Value) (p : List ℕ) (n : TreeNode) (free : IsFree t p) (old : Listed t free.dir (f free.dir))
    → HaveNames t f → NamesAt (insert t p n) p (g p) (Some n)
    → g free.dir ≡ Some (value.Names (with_name old.names (name_of p)))
    → ((d : List ℕ) → d ≢ p → d ≢ free.dir → g d ≡ f d) → HaveNames (insert t p n) g
names-added t f g p n free old have own in_dir others = λ d. ⊎_elim
    (λ same. subst (λ x. NamesAt (insert t p n) x (g x) (get (insert t p n) x)) (sym same)
    (subst (λ o. NamesAt (insert t p n) p (g p) o) (sym (get-node_same t p n)) own))
    (λ other. ⊎_elim
    (λ here. subst (λ x. NamesAt (insert t p n) x (g x) (get (insert t p n) x)) (sym here)
    (names-of_listing (insert t p n) free.dir (g free.dir) (get (insert t p n) free.dir) (with_name old.names (name_of p)) in_dir
    (get-node_other t p n free.dir (λ e. other (here ∙ e)) ∙ free.parent)
    (listing-added t p free.dir n old.names free.up old.listing)))
    (λ there. names_kept t (insert t p n) d (f d) (g d) (get t d) (get (insert t p n) d)
    (λ q in_d. get-node_other t p n q (in_other p q free.dir d free.up in_d there))
    (others d other there) (get-node_other t p n d other) (have d))
    (same_or_other d free.dir))
    (same_or_other d p)

not_dir_none : (o : Option TreeNode) → o ≡ None → o ≡ Some Dir → ⊥
not_dir_none o e d = let bad : None ≡ Some Dir = sym e ∙ d in cc

-- something is taken out: its directory loses the name
pub names-taken : (t : Tree) (f g : List ℕ → Option Value) (p dir : List ℕ) (tree : IsTree t) (there : IsSome (get t p)) (up : parent_of p ≡ Some dir)
    (old : Listed t dir (f dir))
    → HaveNames t f → g p ≡ None
    → g dir ≡ Some (value.Names (without_name old.names (name_of p)))
    → ((d : List ℕ) → d ≢ p → d ≢ dir → g d ≡ f d) → HaveNames (remove t p) g
names-taken t f g p dir tree there up old have gone in_dir others = λ d. ⊎_elim
    (λ same. subst (λ x. NamesAt (remove t p) x (g x) (get (remove t p) x)) (sym same)
    (names-of_none (remove t p) p (g p) (get (remove t p) p) gone (not_dir_none (get (remove t p) p) (get-taken_same t p))))
    (λ other. ⊎_elim
    (λ here. subst (λ x. NamesAt (remove t p) x (g x) (get (remove t p) x)) (sym here)
    (names-of_listing (remove t p) dir (g dir) (get (remove t p) dir) (without_name old.names (name_of p)) in_dir
    (get-taken_other t p dir (λ e. other (here ∙ e)) ∙ tree.parents p dir there up)
    (listing-taken t p dir old.names tree there up old.listing)))
    (λ apart. names_kept t (remove t p) d (f d) (g d) (get t d) (get (remove t p) d)
    (λ q in_d. get-taken_other t p q (in_other p q dir d up in_d apart))
    (others d other apart) (get-taken_other t p d other) (have d))
    (same_or_other d dir))
    (same_or_other d p)
