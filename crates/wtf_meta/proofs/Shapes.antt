-- Trees of one shape: they have something at the same paths, and directories at the same. Their directories have the same names.
use Rattle.std.proofs.Common.{◌≡◌, ◌⊎◌, ℕ, ◌≤◌, List, Option, None, Some, is_some, true, false, refl, sym, ap, ◌∙◌, subst, inl, inr, ⊎_elim}
use Rattle.std.specs.Prelude.{⊤}
use Rattle.std.proofs.lemmas.Bool.{cases_Bool, true≢false}
use Rattle.std.specs.FinMap.{get, insert, remove, len}
use Rattle.wtf_model.specs.Tree.{PathSet, only_path, has_path, with_path, without_path, Tree, TreeNode, Dir, File, IsTree}
use Rattle.wtf_model.specs.Done.{refiled}
use Rattle.wtf_model.proofs.Sizes.{len-within}
use Rattle.wtf_model.proofs.Laws.{get-node_same, get-node_other}
use Rattle.wtf_model.proofs.TreeLaws.{same_or_other, get-taken_same, get-taken_other}
use Rattle.wtf_model.proofs.PathLaws.{in-with, out-with, in-without, out-without, get-refiled_in, get-refiled_gone, get-refiled_out}
use Rattle.wtf_values.specs.declared.value.Value.{Value}
use Rattle.wtf_meta.specs.Trees.{NamesAt}
use Rattle.wtf_meta.proofs.Nodes.{names-listed, names-missing, names-of_listing, names-of_none}
use Rattle.wtf_meta.proofs.Listings.{HaveNames}

-- a file stands there
abbrev pub IsFileThere : Option TreeNode → Type 0
IsFileThere (Some (File paths bytes)) = ⊤
IsFileThere (Some Dir) = ⊥
IsFileThere None = ⊥

-- both have the same there, or a file
abbrev pub AreAlike : Tree → Tree → Type 0
AreAlike t u = (q : List ℕ) → (get u q ≡ get t q) ⊎ (IsFileThere (get t q) × IsFileThere (get u q))

pub file-there : (o : Option TreeNode) (n : TreeNode) → o ≡ Some n → IsFileThere (Some n) → IsFileThere o
file-there o n e is = subst (λ x. IsFileThere x) (sym e) is

file_some : (o : Option TreeNode) → IsFileThere o → is_some o ≡ is_some (Some Dir)
file_some (Some (File paths bytes)) is = refl
file_some (Some Dir) is = absurd is
file_some None is = absurd is

not_dir : (o : Option TreeNode) → IsFileThere o → o ≡ Some Dir → ⊥
not_dir o is e = subst (λ x. IsFileThere x) e is

module _ (t u : Tree) (alike : AreAlike t u) where
  same_some : (q : List ℕ) → is_some (get u q) ≡ is_some (get t q)
  same_some q = elim (alike q) [
    | inl same ↦ ap is_some same
    | inr files ↦ file_some (get u q) files.1 ∙ sym (file_some (get t q) files.0)
  ]

  -- one has no more paths than the other
  pub len-alike : len u ≤ len t
  len-alike = len-within u t (λ q here. sym (same_some q) ∙ here)

  dir_to : (q : List ℕ) → get t q ≡ Some Dir → get u q ≡ Some Dir
  dir_to q e = elim (alike q) [
    | inl same ↦ same ∙ e
    | inr files ↦ absurd (not_dir (get t q) files.0 e)
  ]

  dir_back : (q : List ℕ) → get u q ≡ Some Dir → get t q ≡ Some Dir
  dir_back q e = elim (alike q) [
    | inl same ↦ sym same ∙ e
    | inr files ↦ absurd (not_dir (get u q) files.1 e)
  ]

  names_at : (p : List ℕ) (v : Option Value) → NamesAt t p v (get t p) → (o : Option TreeNode) → get t p ≡ o → NamesAt u p v (get u p)
  names_at p v at (Some Dir) e =
      let had = names-listed t p v (get t p) at e in
      names-of_listing u p v (get u p) had.names had.is (dir_to p e) (record {
        each = λ r up some. had.listing.each r up (sym (same_some r) ∙ some);
        only = λ n has. let found = had.listing.only n has in (found.0, found.1, found.2, same_some found.0 ∙ found.3);
      })
  names_at p v at (Some (File paths bytes)) e =
      names-of_none u p v (get u p) (names-missing t p v (get t p) at (λ d. let both : Some (File paths bytes) ≡ Some Dir = sym e ∙ d in absurd (cc)))
      (λ d. let both : Some (File paths bytes) ≡ Some Dir = sym e ∙ dir_back p d in absurd (cc))
  names_at p v at None e =
      names-of_none u p v (get u p) (names-missing t p v (get t p) at (λ d. let both : None ≡ Some Dir = sym e ∙ d in absurd (cc)))
      (λ d. let both : None ≡ Some Dir = sym e ∙ dir_back p d in absurd (cc))

  pub names-alike : (f : List ℕ → Option Value) → HaveNames t f → HaveNames u f
  names-alike f have = λ d. names_at d (f d) (have d) (get t d) refl

-- a file that has lost a path, beside one that is gone
pub alike-dropped : (t : Tree) (p : List ℕ) (paths : PathSet) (bytes : List ℕ) → IsTree t → get t p ≡ Some (File paths bytes)
    → AreAlike (remove t p) (refiled t paths (without_path paths p) bytes)
alike-dropped t p paths bytes tree file q =
    let u : Tree = refiled t paths (without_path paths p) bytes in
    let shared = tree.shared p paths bytes file in
    ⊎_elim
    (λ here.
    let parts = in-without paths p q here in
    inr (
      file-there (get (remove t p) q) (File paths bytes) (get-taken_other t p q parts.0 ∙ shared.each q parts.1) tt,
      file-there (get u q) (File (without_path paths p) bytes) (get-refiled_in t paths (without_path paths p) bytes q here) tt,
    ))
    (λ no. inl (⊎_elim
    (λ same. subst (λ x. has_path (without_path paths p) x ≡ false → get u x ≡ get (remove t p) x) (sym same)
    (λ not. get-refiled_gone t paths (without_path paths p) bytes p not shared.own ∙ sym (get-taken_same t p)) no)
    (λ never. get-refiled_out t paths (without_path paths p) bytes q no never
    ∙ sym (get-taken_other t p q (λ e. true≢false (sym shared.own ∙ ap (has_path paths) (sym e) ∙ never))))
    (out-without paths p q no)))
    (cases_Bool (has_path (without_path paths p) q))

-- a file that has got a path, beside one that was put there
pub alike-added : (t : Tree) (p q : List ℕ) (paths : PathSet) (bytes : List ℕ) → IsTree t → get t p ≡ Some (File paths bytes)
    → AreAlike (insert t q (File (only_path q) bytes)) (refiled t paths (with_path paths q) bytes)
alike-added t p q paths bytes tree file z =
    let now : PathSet = with_path paths q in
    let u : Tree = refiled t paths now bytes in
    let v : Tree = insert t q (File (only_path q) bytes) in
    let shared = tree.shared p paths bytes file in
    ⊎_elim
    (λ here. inr (
      ⊎_elim
          (λ same. file-there (get v z) (File (only_path q) bytes) (ap (get v) same ∙ get-node_same t q (File (only_path q) bytes)) tt)
          (λ other. ⊎_elim
          (λ same. absurd (other same))
          (λ has. file-there (get v z) (File paths bytes) (get-node_other t q (File (only_path q) bytes) z other ∙ shared.each z has) tt)
          (in-with paths q z here))
          (same_or_other z q),
      file-there (get u z) (File now bytes) (get-refiled_in t paths now bytes z here) tt,
    ))
    (λ no.
    let parts = out-with paths q z no in
    inl (get-refiled_out t paths now bytes z no parts.1 ∙ sym (get-node_other t q (File (only_path q) bytes) z parts.0)))
    (cases_Bool (has_path now z))

-- a file of which one path has become another, beside one that was taken out and put there
pub alike-moved : (t : Tree) (p q : List ℕ) (paths : PathSet) (bytes : List ℕ) → IsTree t → get t p ≡ Some (File paths bytes)
    → AreAlike (insert (remove t p) q (File (only_path q) bytes)) (refiled t paths (with_path (without_path paths p) q) bytes)
alike-moved t p q paths bytes tree file z =
    let now : PathSet = with_path (without_path paths p) q in
    let u : Tree = refiled t paths now bytes in
    let v : Tree = insert (remove t p) q (File (only_path q) bytes) in
    let shared = tree.shared p paths bytes file in
    ⊎_elim
    (λ here. inr (
      ⊎_elim
          (λ same. file-there (get v z) (File (only_path q) bytes) (ap (get v) same ∙ get-node_same (remove t p) q (File (only_path q) bytes)) tt)
          (λ other. ⊎_elim
          (λ same. absurd (other same))
          (λ kept.
          let parts = in-without paths p z kept in
          file-there (get v z) (File paths bytes)
          (get-node_other (remove t p) q (File (only_path q) bytes) z other ∙ get-taken_other t p z parts.0 ∙ shared.each z parts.1) tt)
          (in-with (without_path paths p) q z here))
          (same_or_other z q),
      file-there (get u z) (File now bytes) (get-refiled_in t paths now bytes z here) tt,
    ))
    (λ no.
    let parts = out-with (without_path paths p) q z no in
    inl (⊎_elim
    (λ same.
    let was : has_path paths z ≡ true = ap (has_path paths) same ∙ shared.own in
    get-refiled_gone t paths now bytes z no was ∙ sym (get-node_other (remove t p) q (File (only_path q) bytes) z parts.0
    ∙ (ap (get (remove t p)) same ∙ get-taken_same t p)))
    (λ never.
    get-refiled_out t paths now bytes z no never
    ∙ sym (get-node_other (remove t p) q (File (only_path q) bytes) z parts.0
    ∙ get-taken_other t p z (λ e. true≢false (sym shared.own ∙ ap (has_path paths) (sym e) ∙ never))))
    (out-without paths p z parts.1)))
    (cases_Bool (has_path now z))
