-- Trees stay trees where a file gets other paths or other bytes: a new path of it must be free, below a directory.
use Rattle.std.proofs.Common.{◌≡◌, ◌⊎◌, ℕ, true, false, List, Option, Some, None, IsSome, refl, sym, ap, subst, ◌∙◌, inl, inr, ⊎_elim}
use Rattle.std.proofs.lemmas.Bool.{cases_Bool, true≢false}
use Rattle.std.specs.FinMap.{get}
use Rattle.wtf_path.specs.Grammar.{IsPath}
use Rattle.wtf_path.specs.Parts.{parent_of}
use Rattle.wtf_model.specs.Tree.{PathSet, has_path, with_path, without_path, TreeNode, Dir, File, Tree, root, IsShared, IsTree}
use Rattle.wtf_model.specs.Done.{refiled}
use Rattle.wtf_model.proofs.PathLaws.{in-with, in-without, get-refiled_in, get-refiled_gone, get-refiled_out}
use Rattle.wtf_model.proofs.TreeLaws.{IsFree}

file_paths : (a b : PathSet) (xs ys : List ℕ) → Some (File a xs) ≡ Some (File b ys) → a ≡ b
file_paths a b xs ys e = cc

file_no_dir : (a : PathSet) (xs : List ℕ) → Some (File a xs) ≡ Some Dir → ⊥
file_no_dir a xs e = cc

none_some : (n : TreeNode) → None ≡ Some n → ⊥
none_some n e = cc

there_is : (o : Option TreeNode) (n : TreeNode) → o ≡ Some n → IsSome o
there_is o n e = subst (λ x. IsSome x) (sym e) refl

-- the tree has a file with the paths `old` at each of them, and each path of `new` that is not of these is free
pub record MayRefile (t : Tree) (old new : PathSet) : Type 0 where
  pub whole : (q : List ℕ) → has_path old q ≡ true → (bytes : List ℕ) × (get t q ≡ Some (File old bytes))
  pub free : (q : List ℕ) → has_path new q ≡ true → has_path old q ≡ false → IsFree t q
  pub path : (q : List ℕ) → has_path new q ≡ true → has_path old q ≡ false → IsPath q

module _ (t : Tree) (old new : PathSet) (bytes : List ℕ) (tree : IsTree t) (may : MayRefile t old new) where
  abbrev u : Tree
  u = refiled t old new bytes

  -- a directory stays
  pub folder_stays : (dir : List ℕ) → get t dir ≡ Some Dir → get u dir ≡ Some Dir
  folder_stays dir is =
      let never : has_path old dir ≡ false = ⊎_elim
      (λ was. let file = may.whole dir was in absurd (file_no_dir old file.0 (sym file.1 ∙ is)))
      (λ no. no)
      (cases_Bool (has_path old dir)) in
      let not : has_path new dir ≡ false = ⊎_elim
      (λ here. absurd (none_some Dir (sym (may.free dir here never).free ∙ is)))
      (λ no. no)
      (cases_Bool (has_path new dir)) in
      get-refiled_out t old new bytes dir not never ∙ is

  -- what stands at a path: the file, or what stood there
  was_there : (q : List ℕ) → IsSome (get u q) → IsSome (get t q) ⊎ ((has_path new q ≡ true) × (has_path old q ≡ false))
  was_there q here = ⊎_elim
      (λ was. let file = may.whole q was in inl (there_is (get t q) (File old file.0) file.1))
      (λ never. ⊎_elim
      (λ here. inr (here, never))
      (λ not. inl (subst (λ o. IsSome o) (get-refiled_out t old new bytes q not never) here))
      (cases_Bool (has_path new q)))
      (cases_Bool (has_path old q))

  in_folder : (q dir : List ℕ) → IsSome (get t q) ⊎ ((has_path new q ≡ true) × (has_path old q ≡ false)) → parent_of q ≡ Some dir → get t dir ≡ Some Dir
  in_folder q dir (inl was) up = tree.parents q dir was up
  in_folder q dir (inr (here, never)) up =
      let f = may.free q here never in
      let both_are : Some f.dir ≡ Some dir = sym f.up ∙ up in
      let one : f.dir ≡ dir = cc in
      subst (λ x. get t x ≡ Some Dir) one f.parent

  is_path : (q : List ℕ) → IsSome (get t q) ⊎ ((has_path new q ≡ true) × (has_path old q ≡ false)) → IsPath q
  is_path q (inl was) = tree.paths q was
  is_path q (inr (here, never)) = may.path q here never

  -- another file has no path of this one
  other_file : (p : List ℕ) (paths : PathSet) (bs : List ℕ) → has_path old p ≡ false → get t p ≡ Some (File paths bs) → (q : List ℕ) → has_path paths q ≡ true → get u q ≡ Some (File paths bs)
  other_file p paths bs never there q has =
      let file = tree.shared p paths bs there in
      let same : get t q ≡ Some (File paths bs) = file.each q has in
      let not_old : has_path old q ≡ false = ⊎_elim
      (λ was.
      let ours = may.whole q was in
      let one : old ≡ paths = file_paths old paths ours.0 bs (sym ours.1 ∙ same) in
      absurd (true≢false (sym file.own ∙ ap (λ s. has_path s p) (sym one) ∙ never)))
      (λ no. no)
      (cases_Bool (has_path old q)) in
      let not_new : has_path new q ≡ false = ⊎_elim
      (λ here. absurd (none_some (File paths bs) (sym (may.free q here not_old).free ∙ same)))
      (λ no. no)
      (cases_Bool (has_path new q)) in
      get-refiled_out t old new bytes q not_new not_old ∙ same

  shares : (p : List ℕ) (paths : PathSet) (bs : List ℕ) → get u p ≡ Some (File paths bs) → IsShared u p paths bs
  shares p paths bs there = ⊎_elim
      (λ here.
      let both_are : Some (File new bytes) ≡ Some (File paths bs) = sym (get-refiled_in t old new bytes p here) ∙ there in
      let one : new ≡ paths = file_paths new paths bytes bs both_are in
      record {
        own = ap (λ s. has_path s p) (sym one) ∙ here;
        each = λ q has. get-refiled_in t old new bytes q (ap (λ s. has_path s q) one ∙ has) ∙ both_are;
      })
      (λ not. ⊎_elim
      (λ was. absurd (none_some (File paths bs) (sym (get-refiled_gone t old new bytes p not was) ∙ there)))
      (λ never.
      let stood : get t p ≡ Some (File paths bs) = sym (get-refiled_out t old new bytes p not never) ∙ there in
      record { own = (tree.shared p paths bs stood).own; each = other_file p paths bs never stood })
      (cases_Bool (has_path old p)))
      (cases_Bool (has_path new p))

  pub IsTree-refiled : IsTree u
  IsTree-refiled = record {
    paths = λ q here. is_path q (was_there q here);
    top = folder_stays root tree.top;
    parents = λ q dir here up. folder_stays dir (in_folder q dir (was_there q here) up);
    shared = shares;
  }

-- the file at a path may have other bytes, lose a path, and get one that is free

pub whole_at : (t : Tree) (p : List ℕ) (paths : PathSet) (bytes : List ℕ) → IsTree t → get t p ≡ Some (File paths bytes)
    → (q : List ℕ) → has_path paths q ≡ true → (bs : List ℕ) × (get t q ≡ Some (File paths bs))
whole_at t p paths bytes tree file q has = (bytes, (tree.shared p paths bytes file).each q has)

module _ (t : Tree) (p : List ℕ) (paths : PathSet) (bytes : List ℕ) (tree : IsTree t) (file : get t p ≡ Some (File paths bytes)) where
  pub may-bytes : MayRefile t paths paths
  may-bytes = record {
    whole = whole_at t p paths bytes tree file;
    free = λ q here never. absurd (true≢false (sym here ∙ never));
    path = λ q here never. absurd (true≢false (sym here ∙ never));
  }

  pub may-drop : (x : List ℕ) → MayRefile t paths (without_path paths x)
  may-drop x = record {
    whole = whole_at t p paths bytes tree file;
    free = λ q here never. absurd (true≢false (sym (in-without paths x q here).1 ∙ never));
    path = λ q here never. absurd (true≢false (sym (in-without paths x q here).1 ∙ never));
  }

  only_new : (q y : List ℕ) → has_path (with_path paths q) y ≡ true → has_path paths y ≡ false → y ≡ q
  only_new q y here never = ⊎_elim (λ same. same) (λ was. absurd (true≢false (sym was ∙ never))) (in-with paths q y here)

  new_one : (x q y : List ℕ) → has_path (with_path (without_path paths x) q) y ≡ true → has_path paths y ≡ false → y ≡ q
  new_one x q y here never = ⊎_elim (λ same. same) (λ left. absurd (true≢false (sym (in-without paths x y left).1 ∙ never))) (in-with (without_path paths x) q y here)

  pub may-add : (q : List ℕ) → IsFree t q → IsPath q → MayRefile t paths (with_path paths q)
  may-add q free path = record {
    whole = whole_at t p paths bytes tree file;
    free = λ y here never. subst (λ z. IsFree t z) (sym (only_new q y here never)) free;
    path = λ y here never. subst (λ z. IsPath z) (sym (only_new q y here never)) path;
  }

  pub may-move : (x q : List ℕ) → IsFree t q → IsPath q → MayRefile t paths (with_path (without_path paths x) q)
  may-move x q free path = record {
    whole = whole_at t p paths bytes tree file;
    free = λ y here never. subst (λ z. IsFree t z) (sym (new_one x q y here never)) free;
    path = λ y here never. subst (λ z. IsPath z) (sym (new_one x q y here never)) path;
  }
