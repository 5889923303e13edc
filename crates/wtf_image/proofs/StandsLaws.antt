-- Metadata that stand for a tree can be saved.
use Rattle.std.proofs.Common.{◌≡◌, ℕ, ◌<◌, ◌≤◌, nat_le, ◌^◌, true, false, cond, List, length, Option, None, Some, is_some, IsSome, refl, sym, ap, subst, ◌∙◌}
use Rattle.std.proofs.Common.{arith}
use Rattle.std.specs.Option.{option_map}
use Rattle.std.specs.FinMap.{get, len}
use Rattle.wtf_base.specs.declared.ids.InodeId.{InodeId}
use Rattle.wtf_model.specs.Tree.{path_count, Tree, TreeNode, Dir, File, root}
use Rattle.wtf_values.specs.declared.key.Key.TheVariants.{Path, Dir as DirKey, Inode, Region, Links}
use Rattle.wtf_values.specs.declared.value.Node.{Node}
use Rattle.wtf_values.specs.declared.value.Node.TheVariants.{Folder, File as FileNode}
use Rattle.wtf_values.specs.declared.value.Value.{Value}
use Rattle.wtf_values.specs.declared.value.Value.TheVariants as value
use Rattle.wtf_meta.specs.Maps.{Map}
use Rattle.wtf_meta.specs.Contents.{Told}
use Rattle.wtf_meta.specs.Files.{end_of}
use Rattle.wtf_meta.specs.FileEdits.{last_of, region_of, IsLast, IsRegion}
use Rattle.wtf_meta.specs.Trees.{IsBody, count_of, NodeAt, Stands}
use Rattle.wtf_meta.proofs.Nodes.{node-folder, names-listed, names-missing}
use Rattle.wtf_meta.proofs.Standing.{last_some, leads-file}
use Rattle.wtf_imagefmt.specs.Lookups.{NodeIs, LastIs, CountIs, plain, count_row, node_at}
use Rattle.wtf_image.specs.Pictured.{IsImageOfTree}
use Rattle.wtf_image.specs.Tables.{Shown}
use Rattle.wtf_image.proofs.Counted.{paths_few}
use Rattle.wtf_image.specs.Savable.{IsNodeValue, IsLastValue, IsRegionValue, end_now, HasListing, HasNames, IsSavable}

-- ---- values, with and without where they lie

node_back : (v : Option Value) (n : Node) → option_map plain v ≡ Some (NodeIs n) → v ≡ Some (value.Node n)
node_back None n e = absurd (cc)
node_back (Some (value.Node k)) n e = let is : k ≡ n = cc in ap (λ (x : Node). Some (value.Node x)) is
node_back (Some (value.Names s)) n e = absurd (cc)
node_back (Some (value.Count c)) n e = absurd (cc)
node_back (Some (value.Last r)) n e = absurd (cc)
node_back (Some (value.Region g)) n e = absurd (cc)

last_back : (v : Option Value) (n : ℕ) → option_map plain v ≡ Some (LastIs n) → v ≡ Some (value.Last n)
last_back None n e = absurd (cc)
last_back (Some (value.Node k)) n e = absurd (cc)
last_back (Some (value.Names s)) n e = absurd (cc)
last_back (Some (value.Count c)) n e = absurd (cc)
last_back (Some (value.Last r)) n e = let is : r ≡ n = cc in ap (λ (x : ℕ). Some (value.Last x)) is
last_back (Some (value.Region g)) n e = absurd (cc)

some_back : (v : Option Value) → IsSome (option_map plain v) → IsSome v
some_back None h = absurd (cc)
some_back (Some v) h = refl

some_forth : (v : Option Value) → IsSome v → IsSome (option_map plain v)
some_forth None h = absurd (cc)
some_forth (Some v) h = refl

some_by : (v x : Option Value) → v ≡ x → IsSome x → IsSome v
some_by v x e h = subst (λ o. IsSome o) (sym e) h

last_value : (v : Option Value) → (IsSome v → IsLast v) → IsLastValue (option_map plain v)
last_value None h = tt
last_value (Some (value.Node k)) h = absurd (h refl)
last_value (Some (value.Names s)) h = absurd (h refl)
last_value (Some (value.Count n)) h = absurd (h refl)
last_value (Some (value.Last r)) h = tt
last_value (Some (value.Region g)) h = absurd (h refl)

region_value : (v : Option Value) → (IsSome v → IsRegion v) → IsRegionValue (option_map plain v)
region_value None h = tt
region_value (Some (value.Node k)) h = absurd (h refl)
region_value (Some (value.Names s)) h = absurd (h refl)
region_value (Some (value.Count n)) h = absurd (h refl)
region_value (Some (value.Last r)) h = absurd (h refl)
region_value (Some (value.Region g)) h = tt

end_is : (v : Option Value) → end_now (option_map plain v) ≡ end_of (region_of v)
end_is None = refl
end_is (Some (value.Node k)) = refl
end_is (Some (value.Names s)) = refl
end_is (Some (value.Count n)) = refl
end_is (Some (value.Last r)) = refl
end_is (Some (value.Region g)) = refl

no_region : (v : Option Value) → IsRegion v → region_of v ≡ None → v ≡ None
no_region None h e = refl
no_region (Some (value.Node k)) h e = absurd h
no_region (Some (value.Names s)) h e = absurd h
no_region (Some (value.Count n)) h e = absurd h
no_region (Some (value.Last r)) h e = absurd h
no_region (Some (value.Region g)) h e = absurd (cc)

count_plain : (n : ℕ) → option_map plain (count_of n) ≡ count_row n
count_plain n = elim (nat_le 2 n) as (λ b. option_map plain (cond b (Some (value.Count n)) None) ≡ cond b (Some (CountIs n)) None)
    [ true ↦ refl | false ↦ refl ]

-- ---- what stands at paths

module _ (b : ℕ) (told : Told) (w : Map) where
  node_value : (v : Option Value) (o : Option TreeNode) → NodeAt b told w v o → IsNodeValue (option_map plain v)
  node_value None o at = tt
  node_value (Some (value.Node n)) o at = tt
  node_value (Some (value.Names s)) o at = absurd at
  node_value (Some (value.Count n)) o at = absurd at
  node_value (Some (value.Last r)) o at = absurd at
  node_value (Some (value.Region g)) o at = absurd at

  folder_node : (v : Option Value) (o : Option TreeNode) → NodeAt b told w v o → o ≡ Some Dir → v ≡ Some (value.Node Folder)
  folder_node None None at e = absurd (cc)
  folder_node None (Some Dir) at e = absurd at
  folder_node None (Some (File paths bytes)) at e = absurd at
  folder_node (Some (value.Node Folder)) o at e = refl
  folder_node (Some (value.Node (FileNode i))) None at e = absurd at
  folder_node (Some (value.Node (FileNode i))) (Some Dir) at e = absurd at
  folder_node (Some (value.Node (FileNode i))) (Some (File paths bytes)) at e = absurd (cc)
  folder_node (Some (value.Names s)) o at e = absurd at
  folder_node (Some (value.Count n)) o at e = absurd at
  folder_node (Some (value.Last r)) o at e = absurd at
  folder_node (Some (value.Region g)) o at e = absurd at

  stands_there : (v : Option Value) (o : Option TreeNode) → NodeAt b told w v o → IsSome v → IsSome o
  stands_there None o at h = absurd (cc)
  stands_there (Some (value.Node Folder)) None at h = absurd at
  stands_there (Some (value.Node (FileNode i))) None at h = absurd at
  stands_there (Some v) (Some n) at h = refl
  stands_there (Some (value.Names s)) None at h = absurd at
  stands_there (Some (value.Count n)) None at h = absurd at
  stands_there (Some (value.Last r)) None at h = absurd at
  stands_there (Some (value.Region g)) None at h = absurd at

  told_there : (v : Option Value) (o : Option TreeNode) → NodeAt b told w v o → IsSome o → IsSome v
  told_there None None at h = absurd (cc)
  told_there None (Some Dir) at h = absurd at
  told_there None (Some (File paths bytes)) at h = absurd at
  told_there (Some v) o at h = refl

module _ (b : ℕ) (told : Told) (tx k : ℕ) (w : Map) (t : Tree) (st : Stands b told tx k w t) (n : ℕ) (begun : 0 < n)
    (before : (i : InodeId) → IsSome (w (Inode i)) → i.tx.0 < n) where
  abbrev m : Shown
  m q = option_map plain (w q)

  -- the file of an inode that has a record
  file_is : (i : InodeId) → IsSome (w (Inode i)) → (bytes : List ℕ) × IsBody b told w i bytes
  file_is i some = let led = st.led i some in let at = leads-file b told tx k w t st led.0 i led.1 in (at.bytes, at.body)

  -- the paths that lead to it
  names_there : (i : InodeId) → IsSome (w (Inode i)) → HasNames m i
  names_there i some =
      let led = st.led i some in
      let at = leads-file b told tx k w t st led.0 i led.1 in
      record {
        paths = at.paths;
        lead = λ p has. ap (option_map plain) (at.file.lead p has);
        all = λ p leads. at.file.all p (node_back (w (Path p)) (FileNode i) leads);
        count = ap (option_map plain) at.file.count ∙ count_plain (path_count at.paths);
      }

  in_tree : (p : List ℕ) → IsSome (m (Path p)) → IsSome (get t p)
  in_tree p h = stands_there b told w (w (Path p)) (get t p) (st.nodes p) (some_back (w (Path p)) h)

  in_map : (p : List ℕ) → IsSome (get t p) → IsSome (m (Path p))
  in_map p h = some_forth (w (Path p)) (told_there b told w (w (Path p)) (get t p) (st.nodes p) h)

  folder_there : (p : List ℕ) → get t p ≡ Some Dir → m (Path p) ≡ Some (NodeIs Folder)
  folder_there p e = ap (option_map plain) (folder_node b told w (w (Path p)) (get t p) (st.nodes p) e)

  listing_there : (p : List ℕ) → m (Path p) ≡ Some (NodeIs Folder) → HasListing m p
  listing_there p e =
      let dir = node-folder b told w (w (Path p)) (get t p) (st.nodes p) (node_back (w (Path p)) Folder e) in
      let listed = names-listed t p (w (DirKey p)) (get t p) (st.names p) dir in
      record {
        names = listed.names;
        value = ap (option_map plain) listed.is;
        listing = record {
          each = λ q parent some. listed.listing.each q parent (in_tree q some);
          only = λ name h. let q = listed.listing.only name h in (q.0, q.1, q.2, in_map q.0 q.3);
        };
      }

  last_there : (i : InodeId) (r : ℕ) → m (Inode i) ≡ Some (LastIs r) → (IsSome (w (Inode i))) × (last_of (w (Inode i)) ≡ r)
  last_there i r e = let is = last_back (w (Inode i)) r e in (some_by (w (Inode i)) (Some (value.Last r)) is refl, ap last_of is)

  ends_there : (i : InodeId) (r : ℕ) (v : Option Value) → w (Region i r) ≡ v → end_now (option_map plain v) ≤ b
  ends_there i r None e = omega arith
  ends_there i r (Some g) e =
      let body = (file_is i (st.regions i r (some_by (w (Region i r)) (Some g) e refl))).1 in
      let end : end_now (option_map plain (Some g)) ≡ end_of (region_of (w (Region i r))) = end_is (Some g) ∙ ap (λ o. end_of (region_of o)) (sym e) in
      subst (λ c. c ≤ b) (sym end) (body.file.ends r)

  above_there : (i : InodeId) (l r : ℕ) → m (Inode i) ≡ Some (LastIs l) → l < r → m (Region i r) ≡ None
  above_there i l r e lt =
      let last = last_there i l e in
      let body = (file_is i last.0).1 in
      ap (option_map plain) (no_region (w (Region i r)) (body.has.regions r) (body.file.above r (subst (λ c. c < r) (sym last.1) lt)))

  bytes_there : (i : InodeId) (l : ℕ) → m (Inode i) ≡ Some (LastIs l) → 0 < l → 0 < end_now (m (Region i l))
  bytes_there i l e pos =
      let last = last_there i l e in
      let body = (file_is i last.0).1 in
      let some : 0 < end_of (region_of (w (Region i (last_of (w (Inode i)))))) = body.file.some (subst (λ c. 0 < c) (sym last.1) pos) in
      subst (λ c. 0 < c) (sym (end_is (w (Region i l)))) (subst (λ c. 0 < end_of (region_of (w (Region i c)))) last.1 some)

  few_there : (i : InodeId) (l : ℕ) → m (Inode i) ≡ Some (LastIs l) → l < 4096
  few_there i l e = let last = last_there i l e in subst (λ c. c < 4096) last.1 (file_is i last.0).1.file.few

  pub stands_savable : IsSavable b n m
  stands_savable = record {
    begun = begun;
    nodes = λ p. node_value b told w (w (Path p)) (get t p) (st.nodes p);
    lasts = λ i. last_value (w (Inode i)) (λ some. (file_is i some).1.has.inode);
    regions = λ i r. region_value (w (Region i r)) (λ some. (file_is i (st.regions i r some)).1.has.regions r);
    top = folder_there root st.tree_is.top;
    parents = λ p dir some parent. folder_there dir (st.tree_is.parents p dir (in_tree p some) parent);
    folders = listing_there;
    no_names = λ p off. ap (option_map plain) (names-missing t p (w (DirKey p)) (get t p) (st.names p) (λ dir. off (folder_there p dir)));
    named = λ i some. names_there i (some_back (w (Inode i)) some);
    led = λ i some. let led = st.led i (some_back (w (Inode i)) some) in (led.0, ap (option_map plain) led.1);
    recorded = λ p i leads. some_forth (w (Inode i)) (last_some (w (Inode i))
        (leads-file b told tx k w t st p i (node_back (w (Path p)) (FileNode i) leads)).body.has.inode);
    counted = λ i some. some_forth (w (Inode i)) (st.counted i (some_back (w (Links i)) some));
    before = λ i some. before i (some_back (w (Inode i)) some);
    owned = λ i r some. some_forth (w (Inode i)) (st.regions i r (some_back (w (Region i r)) some));
    few = few_there;
    ends = λ i r. ends_there i r (w (Region i r)) refl;
    above = above_there;
    bytes = bytes_there;
  }

-- ---- how many paths a tree has that an image stands for

some_plain : (v : Option Value) → IsSome v → is_some (option_map plain v) ≡ true
some_plain None h = absurd (cc)
some_plain (Some v) h = refl

node_some : (o : Option Node) → is_some (option_map NodeIs o) ≡ is_some o
node_some None = refl
node_some (Some n) = refl

is_there : (o : Option TreeNode) → is_some o ≡ true → IsSome o
is_there None h = absurd (cc)
is_there (Some n) h = refl

pub stands_few : (told : Told) (bytes : List ℕ) (t : Tree) → IsImageOfTree told bytes t → len t < 2 ^ 32
stands_few told bytes t image =
    let x = image.rows in
    let w = image.map in
    let b = x.header.region in
    let st = image.stands x.header.next_tx (omega arith) in
    let paths = image.text.shape.paths in
    let few : len t ≤ length x.paths = paths_few x.paths t paths.ascend (λ p has.
    sym (node_some (node_at x.paths p)) ∙ ap is_some (sym (image.says (Path p)))
    ∙ some_plain (w (Path p)) (told_there b told w (w (Path p)) (get t p) (st.nodes p) (is_there (get t p) has))) in
    omega (arith, few, paths.count)
