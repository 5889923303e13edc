-- The first map: the root alone.
use Rattle.std.proofs.Common.{◌≡◌, ◌≢◌, ◌⊎◌, ℕ, true, false, List, Option, None, Some, is_some, sym, ap, ◌∙◌, subst, ⊎_elim, inl, inr, arith}
use Rattle.std.specs.Prelude.{IsSome}
use Rattle.std.specs.FinMap.{get, empty, get-empty}
use Rattle.std.specs.Ordering.{nat_cmp}
use Rattle.std.specs.Cmp.Lexicographic.{slice_cmp}
use Rattle.wtf_path.specs.Parts.{parent_of}
use Rattle.wtf_model.specs.Tree.{Dir, root, root_alone}
use Rattle.wtf_model.proofs.Sizes.{len-root}
use Rattle.wtf_model.proofs.Laws.{get-node_same, get-node_other}
use Rattle.wtf_model.proofs.TreeLaws.{same_or_other, IsTree-root_alone}
use Rattle.wtf_values.specs.declared.key.Key.{Key}
use Rattle.wtf_values.specs.declared.key.Key.TheVariants.{Path, Dir as DirKey, Inode, Region, Links}
use Rattle.wtf_values.specs.declared.value.Node.TheVariants.{Folder}
use Rattle.wtf_values.specs.declared.value.Value.{Value}
use Rattle.wtf_values.specs.declared.value.Value.TheVariants as value
use Rattle.wtf_values.specs.Names.{no_names}
use Rattle.wtf_meta.specs.Maps.{Map}
use Rattle.wtf_meta.specs.Bytes.{ValueBytes}
use Rattle.wtf_meta.specs.Contents.{Told, is_told, is_listed}
use Rattle.wtf_meta.specs.Trees.{NodeAt, NamesAt, Stands, IsFirst}
use Rattle.wtf_meta.proofs.Nodes.{node-put, node-taken, names-of_listing, names-of_none}
use Rattle.wtf_meta.proofs.Listings.{listing-none}

-- the tree before its root
gone : (q : List ℕ) → q ≢ root → get root_alone q ≡ None
gone q other = get-node_other empty root Dir q other ∙ get-empty (slice_cmp nat_cmp) q

there : get root_alone root ≡ Some Dir
there = get-node_same empty root Dir

-- nothing stands in the root
alone : (q : List ℕ) → (q ≡ root) ⊎ (q ≢ root) → IsSome (get root_alone q) → parent_of q ≡ Some root → ⊥
alone q (inl same) some up = let none : None ≡ Some root = subst (λ x. parent_of x ≡ Some root) same up in cc
alone q (inr other) some up = let bad : false ≡ true = sym (ap is_some (gone q other)) ∙ some in cc

none_some : (v : Option Value) → v ≡ None → IsSome v → ⊥
none_some v e some = let bad : false ≡ true = sym (ap is_some e) ∙ some in cc

module _ (b : ℕ) (told : Told) (tx k : ℕ) (w : Map) (first : IsFirst w) where
  value_told : (q : Key) → ValueBytes (is_told told) (is_listed b told) (w q)
  value_told (Path q) = ⊎_elim
      (λ same. subst (λ v. ValueBytes (is_told told) (is_listed b told) v) (sym (subst (λ x. w (Path x) ≡ Some (value.Node Folder)) (sym same) first.top)) tt)
      (λ other. subst (λ v. ValueBytes (is_told told) (is_listed b told) v) (sym (first.paths q other)) tt)
      (same_or_other q root)
  value_told (DirKey q) = ⊎_elim
      (λ same. subst (λ v. ValueBytes (is_told told) (is_listed b told) v)
      (sym (subst (λ x. w (DirKey x) ≡ Some (value.Names no_names)) (sym same) first.names)) tt)
      (λ other. subst (λ v. ValueBytes (is_told told) (is_listed b told) v) (sym (first.dirs q other)) tt)
      (same_or_other q root)
  value_told (Inode i) = subst (λ v. ValueBytes (is_told told) (is_listed b told) v) (sym (first.inodes i)) tt
  value_told (Region i r) = subst (λ v. ValueBytes (is_told told) (is_listed b told) v) (sym (first.regions i r)) tt
  value_told (Links i) = subst (λ v. ValueBytes (is_told told) (is_listed b told) v) (sym (first.counts i)) tt

  -- a map with the root alone stands for the tree with the root alone
  pub stands-first : Stands b told tx k w root_alone
  stands-first = record {
    tree_is = IsTree-root_alone;
    nodes = λ q. ⊎_elim
        (λ same. subst (λ x. NodeAt b told w (w (Path x)) (get root_alone x)) (sym same)
        (node-put b told w Folder (w (Path root)) (get root_alone root) (Some Dir) first.top there tt))
        (λ other. node-taken b told w (w (Path q)) (get root_alone q) (first.paths q other) (gone q other))
        (same_or_other q root);
    names = λ q. ⊎_elim
        (λ same. subst (λ x. NamesAt root_alone x (w (DirKey x)) (get root_alone x)) (sym same)
        (names-of_listing root_alone root (w (DirKey root)) (get root_alone root) no_names first.names there
        (listing-none root_alone root (λ r some up. alone r (same_or_other r root) some up))))
        (λ other. names-of_none root_alone q (w (DirKey q)) (get root_alone q) (first.dirs q other)
        (λ e. let both : None ≡ Some Dir = sym (gone q other) ∙ e in cc))
        (same_or_other q root);
    led = λ i some. absurd (none_some (w (Inode i)) (first.inodes i) some);
    regions = λ i r some. absurd (none_some (w (Region i r)) (first.regions i r) some);
    counted = λ i some. absurd (none_some (w (Links i)) (first.counts i) some);
    bytes = value_told;
    fresh = λ i own le. first.inodes i;
    few = omega (arith, len-root);
  }
