-- Maps that stand for trees, and go on standing for them where paths change.
use Rattle.std.proofs.Common.{◌≡◌, ◌≢◌, ℕ, ◌+◌, ◌≤◌, true, false, List, Option, None, Some, is_some, refl, sym, ap, ◌∙◌, subst, ⊎_elim, arith}
use Rattle.std.specs.Prelude.{IsSome}
use Rattle.std.specs.FinMap.{get, len}
use Rattle.wtf_base.specs.declared.ids.InodeId.{InodeId}
use Rattle.wtf_model.specs.Tree.{PathSet, has_path, Tree, File, IsTree, paths_of, paths_at}
use Rattle.wtf_model.proofs.TreeLaws.{same_or_other}
use Rattle.wtf_values.specs.declared.key.Key.TheVariants.{Path, Dir as DirKey, Inode, Region, Links}
use Rattle.wtf_values.specs.declared.value.Node.TheVariants.{File as FileNode}
use Rattle.wtf_values.specs.declared.value.Value.{Value}
use Rattle.wtf_values.specs.declared.value.Value.TheVariants as value
use Rattle.wtf_meta.specs.Maps.{Map}
use Rattle.wtf_meta.specs.Bytes.{MapBytes}
use Rattle.wtf_meta.specs.Contents.{Told, is_told, is_listed}
use Rattle.wtf_meta.specs.FileEdits.{IsLast}
use Rattle.wtf_meta.specs.Trees.{LeadsTo, IsFileOf, NodeAt, Stands}
use Rattle.wtf_meta.proofs.Nodes.{FileAt, node-none, node-file, node-kept}
use Rattle.wtf_meta.proofs.Listings.{HaveNames}
use Rattle.wtf_meta.proofs.Bodies.{body-stays}

some_is : (v x : Option Value) → v ≡ x → IsSome v → IsSome x
some_is v x e h = subst (λ o. IsSome o) e h

pub none_not : (v : Option Value) → v ≡ None → IsSome v → ⊥
none_not v e h = let bad : false ≡ true = sym (ap is_some e) ∙ h in cc

pub last_some : (v : Option Value) → IsLast v → IsSome v
last_some None h = absurd h
last_some (Some v) h = refl

pub none_by : (v : Option Value) → (IsSome v → ⊥) → v ≡ None
none_by None h = refl
none_by (Some v) h = absurd (h refl)

-- a value leads to one inode
pub one_leads : (v : Option Value) (i j : InodeId) → v ≡ Some (value.Node (FileNode i)) → v ≡ Some (value.Node (FileNode j)) → i ≡ j
one_leads v i j a c = let both : Some (value.Node (FileNode i)) ≡ Some (value.Node (FileNode j)) = sym a ∙ c in cc

-- and a missing one to none
pub none_leads : (v : Option Value) (i : InodeId) → v ≡ None → v ≡ Some (value.Node (FileNode i)) → ⊥
none_leads v i a c = let both : None ≡ Some (value.Node (FileNode i)) = sym a ∙ c in cc

module _ (b : ℕ) (told : Told) (tx k : ℕ) (w : Map) (t : Tree) (st : Stands b told tx k w t) where
  -- nothing changes, and one call more is made
  pub stands-same : Stands b told tx (k + 1) w t
  stands-same = record {
    tree_is = st.tree_is;
    nodes = st.nodes;
    names = st.names;
    led = st.led;
    regions = st.regions;
    counted = st.counted;
    bytes = st.bytes;
    fresh = λ i own le. st.fresh i own (omega arith);
    few = omega (arith, st.few);
  }

  -- the file to which a path leads
  pub leads-file : (p : List ℕ) (i : InodeId) → LeadsTo w p i → FileAt b told w i (get t p)
  leads-file p i leads = node-file b told w (w (Path p)) (get t p) i (st.nodes p) leads

  pub leads-just : (p : List ℕ) (i : InodeId) (paths : PathSet) (bytes : List ℕ) → LeadsTo w p i → get t p ≡ Some (File paths bytes)
      → IsFileOf b told w i paths bytes
  leads-just p i paths bytes leads file =
      subst (λ v. NodeAt b told w v (Some (File paths bytes))) leads (subst (λ o. NodeAt b told w (w (Path p)) o) file (st.nodes p))

  -- and its paths are all that lead to it
  pub leads-paths : (p q : List ℕ) (i : InodeId) → LeadsTo w p i → LeadsTo w q i → has_path (paths_at t p) q ≡ true
  leads-paths p q i one two = let found = leads-file p i one in ap (λ o. has_path (paths_of o) q) found.there ∙ found.file.all q two

  -- nothing is there in the map where nothing stands in the tree
  pub path-none : (p : List ℕ) → get t p ≡ None → w (Path p) ≡ None
  path-none p none = node-none b told w (w (Path p)) (get t p) (st.nodes p) none

  -- an inode with no record is led to by no path, and has no region
  pub not-led : (i : InodeId) → w (Inode i) ≡ None → (q : List ℕ) → LeadsTo w q i → ⊥
  not-led i none q leads = let file = leads-file q i leads in subst (λ v. IsLast v) none file.body.has.inode

  pub no-regions : (i : InodeId) → w (Inode i) ≡ None → (r : ℕ) → w (Region i r) ≡ None
  no-regions i none r = none_by (w (Region i r)) (λ some. none_not (w (Inode i)) none (st.regions i r some))

  pub no-count : (i : InodeId) → w (Inode i) ≡ None → w (Links i) ≡ None
  no-count i none = none_by (w (Links i)) (λ some. none_not (w (Inode i)) none (st.counted i some))

  -- what stands at a path comes or goes, and no file does
  pub stands-directory : (new : Map) (p : List ℕ) (u : Tree)
      → ((i : InodeId) → LeadsTo w p i → ⊥) → ((i : InodeId) → LeadsTo new p i → ⊥)
      → NodeAt b told new (new (Path p)) (get u p)
      → ((q : List ℕ) → q ≢ p → (new (Path q) ≡ w (Path q)) × (get u q ≡ get t q))
      → ((i : InodeId) → new (Inode i) ≡ w (Inode i)) → ((i : InodeId) (r : ℕ) → new (Region i r) ≡ w (Region i r))
      → ((i : InodeId) → new (Links i) ≡ w (Links i))
      → IsTree u → HaveNames u (λ d. new (DirKey d)) → MapBytes (is_told told) (is_listed b told) new → len u ≤ len t + 1
      → Stands b told tx (k + 1) new u
  stands-directory new p u was is here others inodes regions counts tree names bytes more =
      let before : (q : List ℕ) (i : InodeId) → LeadsTo new q i → LeadsTo w q i = λ q i leads.
      sym (others q (λ e. is i (subst (λ x. LeadsTo new x i) e leads))).0 ∙ leads in
      let after : (q : List ℕ) (i : InodeId) → LeadsTo w q i → LeadsTo new q i = λ q i leads.
      (others q (λ e. was i (subst (λ x. LeadsTo w x i) e leads))).0 ∙ leads in
      record {
        tree_is = tree;
        nodes = λ q. ⊎_elim
            (λ same. subst (λ x. NodeAt b told new (new (Path x)) (get u x)) (sym same) here)
            (λ other. node-kept b told w new (w (Path q)) (new (Path q)) (get t q) (get u q)
            (λ i paths bs leads file. record {
              body = body-stays b told w new i bs (inodes i) (regions i) file.body;
              lead = λ r has. after r i (file.lead r has);
              all = λ r to. file.all r (before r i to);
              count = counts i ∙ file.count;
            })
            (others q other).0 (others q other).1 (st.nodes q))
            (same_or_other q p);
        names = names;
        led = λ i some.
            let found = st.led i (some_is (new (Inode i)) (w (Inode i)) (inodes i) some) in
            (found.0, after found.0 i found.1);
        regions = λ i r some. some_is (w (Inode i)) (new (Inode i)) (sym (inodes i))
            (st.regions i r (some_is (new (Region i r)) (w (Region i r)) (regions i r) some));
        counted = λ i some. some_is (w (Inode i)) (new (Inode i)) (sym (inodes i))
            (st.counted i (some_is (new (Links i)) (w (Links i)) (counts i) some));
        bytes = bytes;
        fresh = λ i own le. inodes i ∙ st.fresh i own (omega arith);
        few = omega (arith, st.few, more);
      }
