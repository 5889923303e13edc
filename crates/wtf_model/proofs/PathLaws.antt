-- Laws of sets of paths, and of a tree in which a file has other paths or other bytes.
use Rattle.std.proofs.Common.{◌≡◌, ◌≢◌, ◌⊎◌, ℕ, ◌+◌, ◌-◌, ◌<◌, ◌≤◌, Bool, true, false, cond, not, ◌&&◌, ◌||◌, List, [], ◌∷◌, map, length, Option, Some, None}
use Rattle.std.proofs.Common.{is_some, refl, sym, ap, subst, ◌∙◌, inl, inr, arith}
use Rattle.std.proofs.lemmas.Bool.{true≢false}
use Rattle.std.proofs.lemmas.Map.Views.{tells_apart}
use Rattle.std.specs.List.{list_any}
use Rattle.std.specs.FinMap.{get, insert, remove, entries, get-insert, get-remove, get-empty, contains_key-keys, entries-insert, len-entries, len-empty}
use Rattle.std.specs.FinMap.{len-insert, len-remove, same_map, nat_cmp-IsAntisymmetric, slice_cmp-IsAntisymmetric}
use Rattle.std.specs.FinMap.Entries.{put}
use Rattle.std.specs.Cmp.{eq_by_cmp_equiv}
use Rattle.std.specs.Cmp.Lexicographic.{slice_cmp, nat_list_cmp_total}
use Rattle.std.specs.Ordering.{nat_cmp, eq_by_cmp}
use Rattle.wtf_model.specs.Tree.{PathSet, no_paths, only_path, has_path, with_path, without_path, path_list, path_count, TreeNode, File, Tree, paths_of}
use Rattle.wtf_model.specs.Tree.{paths_at}
use Rattle.wtf_model.specs.Done.{put_all, take_all, refiled}
use Rattle.wtf_model.proofs.Sizes.{len-some}

-- ---- paths that are the same

-- whether two paths are one
abbrev ties : List ℕ → List ℕ → Bool
ties q p = eq_by_cmp (slice_cmp nat_cmp) q p

tied_itself : (p : List ℕ) → ties p p ≡ true
tied_itself p = (eq_by_cmp_equiv nat_list_cmp_total).refl p

tied_same : (q p : List ℕ) → ties q p ≡ true → q ≡ p
tied_same q p e = tells_apart (slice_cmp-IsAntisymmetric nat_cmp-IsAntisymmetric) q p e

tied_apart : (q p : List ℕ) → ties q p ≡ false → q ≢ p
tied_apart q p e same = true≢false (sym (subst (λ x. ties q x ≡ true) same (tied_itself q)) ∙ e)

not_tied : (q p : List ℕ) → q ≢ p → ties q p ≡ false
not_tied q p other =
    elim (ties q p) as (λ b. ties q p ≡ b → ties q p ≡ false) [
      | true ↦ λ e. absurd (other (tied_same q p e))
      | false ↦ λ e. e
    ] refl

-- ---- sets of paths

some_or : (b : Bool) (x : Option (Unit {0})) → is_some (cond b (Some tt) x) ≡ (b || is_some x)
some_or true x = refl
some_or false x = refl

none_and : (b : Bool) (x : Option (Unit {0})) → is_some (cond b None x) ≡ (not b && is_some x)
none_and true x = refl
none_and false x = refl

pub has-none : (q : List ℕ) → has_path no_paths q ≡ false
has-none q = ap is_some (get-empty (slice_cmp nat_cmp) q)

has_with : (s : PathSet) (p q : List ℕ) → has_path (with_path s p) q ≡ (ties q p || has_path s q)
has_with s p q = ap is_some (get-insert nat_list_cmp_total s p tt q) ∙ some_or _ _

has_without : (s : PathSet) (p q : List ℕ) → has_path (without_path s p) q ≡ (not (ties q p) && has_path s q)
has_without s p q = ap is_some (get-remove nat_list_cmp_total s p q) ∙ none_and _ _

-- a path that is added is there, and one that is taken out is not; the others stay
pub has-added : (s : PathSet) (p : List ℕ) → has_path (with_path s p) p ≡ true
has-added s p = has_with s p p ∙ ap (λ b. b || has_path s p) (tied_itself p)

pub has-taken : (s : PathSet) (p : List ℕ) → has_path (without_path s p) p ≡ false
has-taken s p = has_without s p p ∙ ap (λ b. not b && has_path s p) (tied_itself p)

pub has-with_other : (s : PathSet) (p q : List ℕ) → q ≢ p → has_path (with_path s p) q ≡ has_path s q
has-with_other s p q other = has_with s p q ∙ ap (λ b. b || has_path s q) (not_tied q p other)

pub has-without_other : (s : PathSet) (p q : List ℕ) → q ≢ p → has_path (without_path s p) q ≡ has_path s q
has-without_other s p q other = has_without s p q ∙ ap (λ b. not b && has_path s q) (not_tied q p other)

-- one that was not there is not there without another
pub never-without : (s : PathSet) (p q : List ℕ) → has_path s q ≡ false → has_path (without_path s p) q ≡ false
never-without s p q never = has_without s p q ∙ ap (λ b. not (ties q p) && b) never ∙ and_false (not (ties q p))
  where
    and_false : (b : Bool) → (b && false) ≡ false
    and_false true = refl
    and_false false = refl

-- and one that was there stays beside one more
pub has-still : (s : PathSet) (p q : List ℕ) → has_path s q ≡ true → has_path (with_path s p) q ≡ true
has-still s p q has = has_with s p q ∙ ap (λ b. ties q p || b) has ∙ or_true (ties q p)
  where
    or_true : (b : Bool) → (b || true) ≡ true
    or_true true = refl
    or_true false = refl

-- what a test of such a set says of a path
pub in-with : (s : PathSet) (p q : List ℕ) → has_path (with_path s p) q ≡ true → (q ≡ p) ⊎ (has_path s q ≡ true)
in-with s p q e =
    elim (ties q p) as (λ b. ties q p ≡ b → (b || has_path s q) ≡ true → (q ≡ p) ⊎ (has_path s q ≡ true)) [
      | true ↦ λ t h. inl (tied_same q p t)
      | false ↦ λ t h. inr h
    ] refl (sym (has_with s p q) ∙ e)

pub out-with : (s : PathSet) (p q : List ℕ) → has_path (with_path s p) q ≡ false → (q ≢ p) × (has_path s q ≡ false)
out-with s p q e =
    elim (ties q p) as (λ b. ties q p ≡ b → (b || has_path s q) ≡ false → (q ≢ p) × (has_path s q ≡ false)) [
      | true ↦ λ t h. absurd (cc)
      | false ↦ λ t h. (tied_apart q p t, h)
    ] refl (sym (has_with s p q) ∙ e)

pub in-without : (s : PathSet) (p q : List ℕ) → has_path (without_path s p) q ≡ true → (q ≢ p) × (has_path s q ≡ true)
in-without s p q e =
    elim (ties q p) as (λ b. ties q p ≡ b → (not b && has_path s q) ≡ true → (q ≢ p) × (has_path s q ≡ true)) [
      | true ↦ λ t h. absurd (cc)
      | false ↦ λ t h. (tied_apart q p t, h)
    ] refl (sym (has_without s p q) ∙ e)

pub out-without : (s : PathSet) (p q : List ℕ) → has_path (without_path s p) q ≡ false → (q ≡ p) ⊎ (has_path s q ≡ false)
out-without s p q e =
    elim (ties q p) as (λ b. ties q p ≡ b → (not b && has_path s q) ≡ false → (q ≡ p) ⊎ (has_path s q ≡ false)) [
      | true ↦ λ t h. inl (tied_same q p t)
      | false ↦ λ t h. inr h
    ] refl (sym (has_without s p q) ∙ e)

-- the set of one path alone
pub has-only : (p : List ℕ) → has_path (only_path p) p ≡ true
has-only p = has-added no_paths p

pub in-only : (p q : List ℕ) → has_path (only_path p) q ≡ true → q ≡ p
in-only p q e = one_or_none (in-with no_paths p q e)
  where
    one_or_none : (q ≡ p) ⊎ (has_path no_paths q ≡ true) → q ≡ p
    one_or_none (inl same) = same
    one_or_none (inr none) = absurd (true≢false (sym none ∙ has-none q))

no_entries : {A : Type 0} (es : List A) → length es ≡ 0 → es ≡ []
no_entries [] e = refl
no_entries (x ∷ es) e = absurd (omega arith)

pub list-only : (p : List ℕ) → path_list (only_path p) ≡ p ∷ []
list-only p =
    ap (map (λ e. e.0)) (entries-insert nat_list_cmp_total no_paths p tt
    ∙ ap (put (slice_cmp nat_cmp) p tt) (no_entries (entries no_paths) (sym (len-entries no_paths) ∙ len-empty (slice_cmp nat_cmp) (Unit {0}))))

pub has-listed : (s : PathSet) (q : List ℕ) → has_path s q ≡ list_any (eq_by_cmp (slice_cmp nat_cmp) q) (path_list s)
has-listed s q = contains_key-keys s q

-- how many paths a set has: one more where a new path is added, and one less where one is taken out
pub count-with : (s : PathSet) (p : List ℕ) → has_path s p ≡ false → path_count (with_path s p) ≡ path_count s + 1
count-with s p new = len-insert nat_list_cmp_total s p tt ∙ ap (λ b. cond b (path_count s) (path_count s + 1)) new

pub count-without : (s : PathSet) (p : List ℕ) → has_path s p ≡ true → path_count (without_path s p) ≡ path_count s - 1
count-without s p has = len-remove nat_list_cmp_total s p ∙ ap (λ b. cond b (path_count s - 1) (path_count s)) has

pub count-only : (p : List ℕ) → path_count (only_path p) ≡ 1
count-only p = count-with no_paths p (has-none p) ∙ ap (λ n. n + 1) (len-empty (slice_cmp nat_cmp) (Unit {0}))

-- a set that has a path is not empty
pub count-some : (s : PathSet) (p : List ℕ) → has_path s p ≡ true → 1 ≤ path_count s
count-some s p has = len-some s p has

-- as many where one becomes another
pub count-moved : (s : PathSet) (p q : List ℕ) → has_path s p ≡ true → has_path s q ≡ false → path_count (with_path (without_path s p) q) ≡ path_count s
count-moved s p q has new =
    let some : 1 ≤ path_count s = count-some s p has in
    count-with (without_path s p) q (never-without s p q new) ∙ ap (λ n. n + 1) (count-without s p has) ∙ omega arith

-- a set of one path alone has no two
pub count-alone : (s : PathSet) (p q : List ℕ) → path_count s < 2 → has_path s p ≡ true → has_path s q ≡ true → q ≡ p
count-alone s p q few has has_too =
    elim (ties q p) as (λ b. ties q p ≡ b → q ≡ p) [
      | true ↦ λ e. tied_same q p e
      | false ↦ λ e.
          let left : 1 ≤ path_count (without_path s p) = count-some (without_path s p) q (has-without_other s p q (tied_apart q p e) ∙ has_too) in
          let less : path_count (without_path s p) ≡ path_count s - 1 = count-without s p has in
          absurd (omega arith)
    ] refl

-- ---- a file with other paths or other bytes

once : {A : Type 0} (a b : Bool) (x y : A) → cond a x (cond b x y) ≡ cond (a || b) x y
once true b x y = refl
once false b x y = refl

get_put : (n : TreeNode) (t : Tree) (ps : List (List ℕ)) (q : List ℕ) → get (put_all n t ps) q ≡ cond (list_any (ties q) ps) (Some n) (get t q)
unfolding put_all
get_put n t [] q = refl
get_put n t (p ∷ ps) q =
    get-insert nat_list_cmp_total (put_all n t ps) p n q
    ∙ ap (λ o. cond (ties q p) (Some n) o) (get_put n t ps q)
    ∙ once (ties q p) (list_any (ties q) ps) (Some n) (get t q)

get_take : (t : Tree) (ps : List (List ℕ)) (q : List ℕ) → get (take_all t ps) q ≡ cond (list_any (ties q) ps) None (get t q)
unfolding take_all
get_take t [] q = refl
get_take t (p ∷ ps) q =
    get-remove nat_list_cmp_total (take_all t ps) p q
    ∙ ap (λ o. cond (ties q p) None o) (get_take t ps q)
    ∙ once (ties q p) (list_any (ties q) ps) None (get t q)

-- what stands at a path: the file at its new paths, nothing at those that it has lost, and all else as it was
pub get-refiled : (t : Tree) (old new : PathSet) (bytes q : List ℕ)
    → get (refiled t old new bytes) q ≡ cond (has_path new q) (Some (File new bytes)) (cond (has_path old q) None (get t q))
unfolding refiled
get-refiled t old new bytes q =
    get_put (File new bytes) (take_all t (path_list old)) (path_list new) q
    ∙ ap (λ o. cond (list_any (ties q) (path_list new)) (Some (File new bytes)) o) (get_take t (path_list old) q)
    ∙ ap (λ b. cond b (Some (File new bytes)) (cond (list_any (ties q) (path_list old)) None (get t q))) (sym (has-listed new q))
    ∙ ap (λ b. cond (has_path new q) (Some (File new bytes)) (cond b None (get t q))) (sym (has-listed old q))

module _ (t : Tree) (old new : PathSet) (bytes q : List ℕ) where
  pub get-refiled_in : has_path new q ≡ true → get (refiled t old new bytes) q ≡ Some (File new bytes)
  get-refiled_in here = get-refiled t old new bytes q ∙ ap (λ b. cond b (Some (File new bytes)) (cond (has_path old q) None (get t q))) here

  behind : has_path new q ≡ false → get (refiled t old new bytes) q ≡ cond (has_path old q) None (get t q)
  behind not = get-refiled t old new bytes q ∙ ap (λ b. cond b (Some (File new bytes)) (cond (has_path old q) None (get t q))) not

  pub get-refiled_gone : has_path new q ≡ false → has_path old q ≡ true → get (refiled t old new bytes) q ≡ None
  get-refiled_gone not was = behind not ∙ ap (λ b. cond b None (get t q)) was

  pub get-refiled_out : has_path new q ≡ false → has_path old q ≡ false → get (refiled t old new bytes) q ≡ get t q
  get-refiled_out not never = behind not ∙ ap (λ b. cond b None (get t q)) never

-- trees that have the same at each path are one
pub same_tree : (t u : Tree) → ((q : List ℕ) → get t q ≡ get u q) → t ≡ u
same_tree t u is = same_map nat_list_cmp_total (slice_cmp-IsAntisymmetric nat_cmp-IsAntisymmetric) t u is

-- a file of one path alone: other bytes are put there, it is taken out, or put at another path

swapped : {A : Type 0} (b : Bool) (x y z : A) → cond b x (cond b y z) ≡ cond b x z
swapped true x y z = refl
swapped false x y z = refl

has_only : (p q : List ℕ) → has_path (only_path p) q ≡ ties q p
has_only p q = has_with no_paths p q ∙ or_false (ties q p) (has-none q)
  where
    or_false : (b : Bool) {c : Bool} → c ≡ false → (b || c) ≡ b
    or_false true e = refl
    or_false false e = e

pub refiled-bytes : (t : Tree) (p bytes : List ℕ) → refiled t (only_path p) (only_path p) bytes ≡ insert t p (File (only_path p) bytes)
refiled-bytes t p bytes = same_tree _ _ (λ q.
    get-refiled t (only_path p) (only_path p) bytes q
    ∙ swapped (has_path (only_path p) q) (Some (File (only_path p) bytes)) None (get t q)
    ∙ ap (λ b. cond b (Some (File (only_path p) bytes)) (get t q)) (has_only p q)
    ∙ sym (get-insert nat_list_cmp_total t p (File (only_path p) bytes) q))

-- where the tree has the file there already
pub refiled-alone : (t : Tree) (p old bytes : List ℕ) → get t p ≡ Some (File (only_path p) old) → refiled t (paths_at t p) (paths_at t p) bytes ≡ insert t p (File (only_path p) bytes)
refiled-alone t p old bytes file = ap (λ o. refiled t (paths_of o) (paths_of o) bytes) file ∙ refiled-bytes t p bytes

without_only : (p q : List ℕ) → has_path (without_path (only_path p) p) q ≡ false
without_only p q = has_without (only_path p) p q ∙ ap (λ b. not (ties q p) && b) (has_only p q) ∙ never (ties q p)
  where
    never : (b : Bool) → (not b && b) ≡ false
    never true = refl
    never false = refl

pub refiled-taken : (t : Tree) (p bytes : List ℕ) → refiled t (only_path p) (without_path (only_path p) p) bytes ≡ remove t p
refiled-taken t p bytes = same_tree _ _ (λ q.
    get-refiled t (only_path p) (without_path (only_path p) p) bytes q
    ∙ ap (λ b. cond b (Some (File (without_path (only_path p) p) bytes)) (cond (has_path (only_path p) q) None (get t q))) (without_only p q)
    ∙ ap (λ b. cond b None (get t q)) (has_only p q)
    ∙ sym (get-remove nat_list_cmp_total t p q))
