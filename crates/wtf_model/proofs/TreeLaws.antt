-- Trees stay trees: the root alone is one, and so is what a new file or directory, or one directory less, leaves of one.
use Rattle.std.proofs.Common.{◌≡◌, ◌≢◌, ◌⊎◌, ℕ, Bool, true, false, ◌||◌, cond, ap, List, [], ◌∷◌, Option, Some, None, IsSome, Ok, refl, sym, subst, ◌∙◌, inl, inr, arith}
use Rattle.std.proofs.lemmas.List.Elements.{All-nil}
use Rattle.std.proofs.lemmas.Map.Views.{tells_apart}
use Rattle.std.specs.FinMap.{get, insert, remove, empty, keys, get-empty, get-remove, contains_key-keys, nat_cmp-IsAntisymmetric, slice_cmp-IsAntisymmetric}
use Rattle.std.specs.Cmp.{eq_by_cmp_equiv}
use Rattle.std.specs.List.{list_any, filter}
use Rattle.std.proofs.lemmas.Slice.Eq.{bytes_eq-Decides}
use Rattle.std.specs.Cmp.Lexicographic.{slice_cmp, nat_list_cmp_total}
use Rattle.std.specs.Ordering.{nat_cmp, eq_by_cmp}
use Rattle.wtf_path.specs.Grammar.{IsName, IsPath}
use Rattle.wtf_path.specs.Parts.{parent_of}
use Rattle.wtf_model.specs.Tree.{TreeNode}
use Rattle.wtf_model.specs.Tree.{Dir, File}
use Rattle.wtf_model.specs.Tree.{PathSet, only_path, has_path, Tree, IsShared, root, root_alone, IsTree, ◌>>=◌, is_parent, is_free, target_in, target, is_at, is_in, are_none, paths_in, is_empty}
use Rattle.wtf_model.proofs.Laws.{get-node_same, get-node_other}
use Rattle.wtf_model.proofs.PathLaws.{has-only, in-only}

-- two paths are one, or not
pub same_or_other : (p q : List ℕ) → (p ≡ q) ⊎ (p ≢ q)
same_or_other p q =
    elim (eq_by_cmp (slice_cmp nat_cmp) p q) as (λ b. eq_by_cmp (slice_cmp nat_cmp) p q ≡ b → (p ≡ q) ⊎ (p ≢ q)) [
      | true ↦ λ e. inl (tells_apart (slice_cmp-IsAntisymmetric nat_cmp-IsAntisymmetric) p q e)
      | false ↦ λ e. inr (λ same. let reflexive : eq_by_cmp (slice_cmp nat_cmp) p q ≡ true = subst (λ x. eq_by_cmp (slice_cmp nat_cmp) p x ≡ true) same ((eq_by_cmp_equiv nat_list_cmp_total).refl p) in absurd (cc (reflexive, e)))
    ] refl

pub IsPath-root : IsPath root
IsPath-root = record { names = []; spelled = refl; each = All-nil IsName; depth = omega arith; size = omega arith }

root_alone_paths : (p : List ℕ) → (p ≡ root) ⊎ (p ≢ root) → IsSome (get root_alone p) → IsPath p
root_alone_paths p (inl same) here = subst IsPath (sym same) IsPath-root
root_alone_paths p (inr other) here = absurd (let gone : false ≡ true = subst (λ o. IsSome o) (get-node_other empty root Dir p other ∙ get-empty (slice_cmp nat_cmp) p) here in cc)

-- the root has no parent
root_alone_parents : (p dir : List ℕ) → (p ≡ root) ⊎ (p ≢ root) → IsSome (get root_alone p) → parent_of p ≡ Some dir → get root_alone dir ≡ Some Dir
root_alone_parents p dir (inl same) here up = absurd (let none : None ≡ Some dir = subst (λ q. parent_of q ≡ Some dir) same up in cc)
root_alone_parents p dir (inr other) here up = absurd (let gone : false ≡ true = subst (λ o. IsSome o) (get-node_other empty root Dir p other ∙ get-empty (slice_cmp nat_cmp) p) here in cc)

root_alone_shared : (p : List ℕ) (paths : PathSet) (bytes : List ℕ) → (p ≡ root) ⊎ (p ≢ root) → get root_alone p ≡ Some (File paths bytes) → IsShared root_alone p paths bytes
root_alone_shared p paths bytes (inl same) file =
    absurd (let both_are : Some Dir ≡ Some (File paths bytes) = sym (get-node_same empty root Dir) ∙ subst (λ q. get root_alone q ≡ Some (File paths bytes)) same file in cc)
root_alone_shared p paths bytes (inr other) file =
    absurd (let gone : None ≡ Some (File paths bytes) = sym (get-node_other empty root Dir p other ∙ get-empty (slice_cmp nat_cmp) p) ∙ file in cc)

pub IsTree-root_alone : IsTree root_alone
IsTree-root_alone = record {
  paths = λ p here. root_alone_paths p (same_or_other p root) here;
  top = get-node_same empty root Dir;
  parents = λ p dir here up. root_alone_parents p dir (same_or_other p root) here up;
  shared = λ p paths bytes file. root_alone_shared p paths bytes (same_or_other p root) file;
}

-- a free target has a directory above it
pub record IsFree (t : Tree) (p : List ℕ) : Type 0 where
  pub dir : List ℕ
  pub up : parent_of p ≡ Some dir
  pub parent : get t dir ≡ Some Dir
  pub free : get t p ≡ None

both : (o q : Option TreeNode) → (is_parent o >>= (λ _. is_free q)) ≡ Ok tt → (o ≡ Some Dir) × (q ≡ None)
both (Some Dir) None e = (refl, refl)
both (Some Dir) (Some n) e = absurd (cc)
both (Some (File paths bytes)) q e = absurd (cc)
both None q e = absurd (cc)

free_from : (t : Tree) (p : List ℕ) (up : Option (List ℕ)) → parent_of p ≡ up → target_in t p up ≡ Ok tt → IsFree t p
free_from t p None is e = absurd (cc)
free_from t p (Some dir) is e = let parts : (get t dir ≡ Some Dir) × (get t p ≡ None) = both (get t dir) (get t p) e in
    record { dir = dir; up = is; parent = parts.0; free = parts.1 }

pub IsFree-target : (t : Tree) (p : List ℕ) → target t p ≡ Ok tt → IsFree t p
IsFree-target t p e = free_from t p (parent_of p) refl e

-- what is a directory is not the free path
not_free : (t : Tree) (p q : List ℕ) → get t p ≡ None → get t q ≡ Some Dir → q ≢ p
not_free t p q free is same = absurd (let dir : get t p ≡ Some Dir = subst (λ x. get t x ≡ Some Dir) same is in let none : None ≡ Some Dir = sym free ∙ dir in cc)

new_parents : (t : Tree) (p : List ℕ) (n : TreeNode) → IsTree t → IsFree t p → (q dir : List ℕ) → (q ≡ p) ⊎ (q ≢ p) → IsSome (get (insert t p n) q) → parent_of q ≡ Some dir → get t dir ≡ Some Dir
new_parents t p n tree f q dir (inl same) here up =
    let ours : Some f.dir ≡ Some dir = sym f.up ∙ subst (λ x. parent_of x ≡ Some dir) same up in
    let one : f.dir ≡ dir = cc in
    subst (λ x. get t x ≡ Some Dir) one f.parent
new_parents t p n tree f q dir (inr other) here up = tree.parents q dir (subst (λ o. IsSome o) (get-node_other t p n q other) here) up

new_paths : (t : Tree) (p : List ℕ) (n : TreeNode) → IsPath p → IsTree t → (q : List ℕ) → (q ≡ p) ⊎ (q ≢ p) → IsSome (get (insert t p n) q) → IsPath q
new_paths t p n path tree q (inl same) here = subst IsPath (sym same) path
new_paths t p n path tree q (inr other) here = tree.paths q (subst (λ o. IsSome o) (get-node_other t p n q other) here)

-- a directory, or a file of this path alone
abbrev pub IsNew : List ℕ → TreeNode → Type 0
IsNew p Dir = Unit {0}
IsNew p (File paths bytes) = paths ≡ only_path p

-- another file stands where it stood
still_shared : (t u : Tree) (p : List ℕ) (paths : PathSet) (bytes : List ℕ) → ((q : List ℕ) → get t q ≡ Some (File paths bytes) → get u q ≡ Some (File paths bytes)) → IsShared t p paths bytes
    → IsShared u p paths bytes
still_shared t u p paths bytes stays is = record { own = is.own; each = λ q has. stays q (is.each q has) }

not_there : (t : Tree) (p q : List ℕ) (n : TreeNode) → get t p ≡ None → get t q ≡ Some n → q ≢ p
not_there t p q n free is same = absurd (let here : get t p ≡ Some n = subst (λ x. get t x ≡ Some n) same is in let none : None ≡ Some n = sym free ∙ here in cc)

alone_there : (t : Tree) (p : List ℕ) (n : TreeNode) (paths : PathSet) (bytes : List ℕ) → get t p ≡ Some n → n ≡ File paths bytes → IsNew p n → IsShared t p paths bytes
alone_there t p Dir paths bytes here is new = absurd (cc)
alone_there t p (File ps bs) paths bytes here is new =
    let one : only_path p ≡ paths = cc in
    record {
      own = subst (λ s. has_path s p ≡ true) one (has-only p);
      each = λ q has. subst (λ x. get t x ≡ Some (File paths bytes)) (sym (in-only p q (subst (λ s. has_path s q ≡ true) (sym one) has))) (here ∙ ap (λ m. Some m) is);
    }

new_shared : (t : Tree) (p : List ℕ) (n : TreeNode) → IsTree t → get t p ≡ None → IsNew p n → (q : List ℕ) (paths : PathSet) (bytes : List ℕ) → (q ≡ p) ⊎ (q ≢ p)
    → get (insert t p n) q ≡ Some (File paths bytes) → IsShared (insert t p n) q paths bytes
new_shared t p n tree free new q paths bytes (inl same) file =
    let found : Some n ≡ Some (File paths bytes) = sym (get-node_same t p n) ∙ subst (λ x. get (insert t p n) x ≡ Some (File paths bytes)) same file in
    let is : n ≡ File paths bytes = cc in
    subst (λ x. IsShared (insert t p n) x paths bytes) (sym same) (alone_there (insert t p n) p n paths bytes (get-node_same t p n) is new)
new_shared t p n tree free new q paths bytes (inr other) file =
    still_shared t (insert t p n) q paths bytes (λ x was. get-node_other t p n x (not_there t p x (File paths bytes) free was) ∙ was)
    (tree.shared q paths bytes (sym (get-node_other t p n q other) ∙ file))

-- such may be put at a free target that is a path
pub IsTree-new : (t : Tree) (p : List ℕ) (n : TreeNode) → IsPath p → IsTree t → IsFree t p → IsNew p n → IsTree (insert t p n)
IsTree-new t p n path tree f new = record {
  paths = λ q here. new_paths t p n path tree q (same_or_other q p) here;
  top = get-node_other t p n root (not_free t p root f.free tree.top) ∙ tree.top;
  parents = λ q dir here up.
      let is : get t dir ≡ Some Dir = new_parents t p n tree f q dir (same_or_other q p) here up in
      get-node_other t p n dir (not_free t p dir f.free is) ∙ is;
  shared = λ q paths bytes file. new_shared t p n tree f.free new q paths bytes (same_or_other q p) file;
}

-- what was taken out, and what stands at the other paths

at_taken : (t : Tree) (p q : List ℕ) (n : TreeNode) → get (remove t p) q ≡ Some n → (get t q ≡ Some n) × (q ≢ p)
at_taken t p q n there =
    let found : cond (eq_by_cmp (slice_cmp nat_cmp) q p) None (get t q) ≡ Some n = sym (get-remove nat_list_cmp_total t p q) ∙ there in
    elim (eq_by_cmp (slice_cmp nat_cmp) q p) as (λ b. eq_by_cmp (slice_cmp nat_cmp) q p ≡ b → cond b None (get t q) ≡ Some n → (get t q ≡ Some n) × (q ≢ p)) [
      | true ↦ λ e is. absurd (cc)
      | false ↦ λ e is. (is, λ same. let tied : eq_by_cmp (slice_cmp nat_cmp) q p ≡ true = subst (λ x. eq_by_cmp (slice_cmp nat_cmp) q x ≡ true) same ((eq_by_cmp_equiv nat_list_cmp_total).refl q) in absurd (cc (tied, e)))
    ] refl found

pub get-taken_other : (t : Tree) (p q : List ℕ) → q ≢ p → get (remove t p) q ≡ get t q
get-taken_other t p q other =
    get-remove nat_list_cmp_total t p q
    ∙ elim (eq_by_cmp (slice_cmp nat_cmp) q p) as (λ b. eq_by_cmp (slice_cmp nat_cmp) q p ≡ b → cond b None (get t q) ≡ get t q) [
      | true ↦ λ e. absurd (other (tells_apart (slice_cmp-IsAntisymmetric nat_cmp-IsAntisymmetric) q p e))
      | false ↦ λ e. refl
    ] refl

pub get-taken_same : (t : Tree) (p : List ℕ) → get (remove t p) p ≡ None
get-taken_same t p = get-remove nat_list_cmp_total t p p ∙ ap (λ b. cond b None (get t p)) ((eq_by_cmp_equiv nat_list_cmp_total).refl p)

-- a value that is there
some_of : (o : Option TreeNode) → IsSome o → (n : TreeNode) × (o ≡ Some n)
some_of (Some n) h = (n, refl)
some_of None h = absurd (cc)

there_is : (o : Option TreeNode) (n : TreeNode) → o ≡ Some n → IsSome o
there_is o n e = subst (λ x. IsSome x) (sym e) refl

-- a directory is at no path of a file
not_dir : (t : Tree) (p q : List ℕ) (n : TreeNode) → get t p ≡ Some Dir → get t q ≡ Some n → (n ≡ Dir → ⊥) → q ≢ p
not_dir t p q n dir is differ same = absurd (differ (let both_are : Some n ≡ Some Dir = sym (subst (λ x. get t x ≡ Some n) same is) ∙ dir in cc))

file_is_no_dir : (paths : PathSet) (bytes : List ℕ) → File paths bytes ≡ Dir → ⊥
file_is_no_dir paths bytes e = cc

-- a directory in which nothing stands may be taken out
pub IsTree-taken : (t : Tree) (p : List ℕ) → IsTree t → p ≢ root → get t p ≡ Some Dir → ((q : List ℕ) → IsSome (get t q) → parent_of q ≡ Some p → ⊥) → IsTree (remove t p)
IsTree-taken t p tree inner folder none = record {
  paths = λ q here. let (n, is) = some_of (get (remove t p) q) here in tree.paths q (there_is (get t q) n (at_taken t p q n is).0);
  top = get-taken_other t p root (λ e. inner (sym e)) ∙ tree.top;
  parents = λ q dir here up.
      let (n, is) = some_of (get (remove t p) q) here in
      let was : IsSome (get t q) = there_is (get t q) n (at_taken t p q n is).0 in
      get-taken_other t p dir (λ same. none q was (up ∙ ap Some same)) ∙ tree.parents q dir was up;
  shared = λ q paths bytes file. still_shared t (remove t p) q paths bytes
      (λ x was. get-taken_other t p x (not_dir t p x (File paths bytes) folder was (file_is_no_dir paths bytes)) ∙ was)
      (tree.shared q paths bytes (at_taken t p q (File paths bytes) file).0);
}

-- nothing stands in a directory without names

passes_none : (test : List ℕ → Bool) (q : List ℕ) (ks : List (List ℕ)) → list_any (eq_by_cmp (slice_cmp nat_cmp) q) ks ≡ true → test q ≡ true → filter test ks ≡ [] → ⊥
passes_none test q [] there is none = cc
passes_none test q (k ∷ ks) there is none =
    elim (eq_by_cmp (slice_cmp nat_cmp) q k) as (λ b. eq_by_cmp (slice_cmp nat_cmp) q k ≡ b → (b || list_any (eq_by_cmp (slice_cmp nat_cmp) q) ks) ≡ true → ⊥) [
      | true ↦ λ e h.
          let same : q ≡ k = tells_apart (slice_cmp-IsAntisymmetric nat_cmp-IsAntisymmetric) q k e in
          let here : test k ≡ true = subst (λ x. test x ≡ true) same is in
          let more : k ∷ filter test ks ≡ [] = sym (ap (λ b. cond b (k ∷ filter test ks) (filter test ks)) here) ∙ none in
          cc
      | false ↦ λ e h. passes_none test q ks h is (tail_none (test k) none)
    ] refl there
  where
    tail_none : (b : Bool) → cond b (k ∷ filter test ks) (filter test ks) ≡ [] → filter test ks ≡ []
    tail_none true e = absurd (cc)
    tail_none false e = e

none_of : (ps : List (List ℕ)) → are_none ps ≡ Ok tt → ps ≡ []
none_of [] e = refl
none_of (p ∷ ps) e = absurd (cc)

pub nothing_in : (t : Tree) (p q : List ℕ) → is_empty t p ≡ Ok tt → IsSome (get t q) → parent_of q ≡ Some p → ⊥
nothing_in t p q e here up =
    passes_none (is_in p) q (keys t) (sym (contains_key-keys t q) ∙ here) (ap (is_at p) up ∙ (bytes_eq-Decides p p).1 refl) (none_of (paths_in t p) e)
