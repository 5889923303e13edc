-- A map stands for a tree, and goes on standing for it where one file gets other paths or other bytes. All calls on files are this.
use Rattle.std.proofs.Common.{◌≡◌, ◌≢◌, ℕ, ◌+◌, ◌^◌, ◌<◌, ◌≤◌, true, false, List, Option, None, Some, sym, ap, ◌∙◌, subst, ⊎_elim, arith}
use Rattle.std.specs.Prelude.{IsSome}
use Rattle.std.proofs.lemmas.Bool.{cases_Bool, true≢false}
use Rattle.std.specs.FinMap.{get, insert, len}
use Rattle.wtf_base.specs.declared.ids.InodeId.{InodeId}
use Rattle.wtf_model.specs.Tree.{PathSet, no_paths, only_path, has_path, path_count, Tree, File, IsTree}
use Rattle.wtf_model.specs.Done.{refiled}
use Rattle.wtf_model.proofs.Laws.{get-node_same, get-node_other}
use Rattle.wtf_model.proofs.PathLaws.{has-none, in-only, out-with, get-refiled_in, get-refiled_gone, get-refiled_out}
use Rattle.wtf_values.specs.declared.key.Key.TheVariants.{Path, Dir as DirKey, Inode, Region, Links}
use Rattle.wtf_values.specs.declared.value.Node.TheVariants.{File as FileNode}
use Rattle.wtf_values.specs.declared.value.Value.{Value}
use Rattle.wtf_meta.specs.Maps.{Map}
use Rattle.wtf_meta.specs.Bytes.{MapBytes}
use Rattle.wtf_meta.specs.Contents.{Told, is_told, is_listed}
use Rattle.wtf_meta.specs.Trees.{LeadsTo, IsBody, IsFileOf, count_of, NodeAt, Stands}
use Rattle.wtf_meta.proofs.Nodes.{node-put, node-taken, node-kept}
use Rattle.wtf_meta.proofs.Listings.{HaveNames}
use Rattle.wtf_meta.proofs.Bodies.{body-stays}
use Rattle.wtf_meta.proofs.KeyPuts.{one_inode}
use Rattle.wtf_meta.proofs.Standing.{one_leads, none_leads}

-- the file of one inode: its paths before and after, of which a new file has none before and one that goes has none after, and
-- its bytes after
pub record Refile : Type 0 where
  pub inode : InodeId
  pub was : PathSet
  pub now : PathSet
  pub bytes : List ℕ

-- the tree u is t but for the file
pub record IsRefiledTree (f : Refile) (t u : Tree) : Type 0 where
  pub here : (q : List ℕ) → has_path f.now q ≡ true → get u q ≡ Some (File f.now f.bytes)
  pub gone : (q : List ℕ) → has_path f.now q ≡ false → has_path f.was q ≡ true → get u q ≡ None
  pub rest : (q : List ℕ) → has_path f.now q ≡ false → has_path f.was q ≡ false → get u q ≡ get t q

-- paths that come were free, and those that the file has lead to it, just as before
pub record IsRefiledPaths (f : Refile) (old new : Map) : Type 0 where
  pub lead : (q : List ℕ) → has_path f.was q ≡ true → LeadsTo old q f.inode
  pub all : (q : List ℕ) → LeadsTo old q f.inode → has_path f.was q ≡ true
  pub free : (q : List ℕ) → has_path f.now q ≡ true → has_path f.was q ≡ false → old (Path q) ≡ None
  pub here : (q : List ℕ) → has_path f.now q ≡ true → LeadsTo new q f.inode
  pub gone : (q : List ℕ) → has_path f.now q ≡ false → has_path f.was q ≡ true → new (Path q) ≡ None
  pub rest : (q : List ℕ) → has_path f.now q ≡ false → has_path f.was q ≡ false → new (Path q) ≡ old (Path q)

-- and the file has these bytes and tells its number of paths, where it has a path, and else no record; of other inodes all stays
pub record IsRefiledBody (b : ℕ) (told : Told) (f : Refile) (old new : Map) : Type 0 where
  pub body : (q : List ℕ) → has_path f.now q ≡ true → IsBody b told new f.inode f.bytes
  pub count : (q : List ℕ) → has_path f.now q ≡ true → new (Links f.inode) ≡ count_of (path_count f.now)
  pub some : IsSome (new (Inode f.inode)) → (q : List ℕ) × (has_path f.now q ≡ true)
  pub owned : (r : ℕ) → IsSome (new (Region f.inode r)) → IsSome (new (Inode f.inode))
  pub counted : IsSome (new (Links f.inode)) → IsSome (new (Inode f.inode))
  pub inodes : (j : InodeId) → j ≢ f.inode → new (Inode j) ≡ old (Inode j)
  pub regions : (j : InodeId) (r : ℕ) → j ≢ f.inode → new (Region j r) ≡ old (Region j r)
  pub counts : (j : InodeId) → j ≢ f.inode → new (Links j) ≡ old (Links j)

-- the tree of the definitions is one
pub IsRefiledTree-refiled : (f : Refile) (t : Tree) → IsRefiledTree f t (refiled t f.was f.now f.bytes)
IsRefiledTree-refiled f t = record {
  here = λ q. get-refiled_in t f.was f.now f.bytes q;
  gone = λ q. get-refiled_gone t f.was f.now f.bytes q;
  rest = λ q. get-refiled_out t f.was f.now f.bytes q;
}

-- and so is that with a new file, which has one path alone
pub IsRefiledTree-added : (i : InodeId) (t : Tree) (p bytes : List ℕ)
    → IsRefiledTree (record { inode = i; was = no_paths; now = only_path p; bytes = bytes }) t (insert t p (File (only_path p) bytes))
IsRefiledTree-added i t p bytes = record {
  here = λ q has. subst (λ x. get (insert t p (File (only_path p) bytes)) x ≡ Some (File (only_path p) bytes)) (sym (in-only p q has))
      (get-node_same t p (File (only_path p) bytes));
  gone = λ q no was. absurd (true≢false (sym was ∙ has-none q));
  rest = λ q no never. get-node_other t p (File (only_path p) bytes) q (out-with no_paths p q no).0;
}

some_is : (v x : Option Value) → v ≡ x → IsSome v → IsSome x
some_is v x e h = subst (λ o. IsSome o) e h

module _ (b : ℕ) (told : Told) (f : Refile) (old new : Map) (ps : IsRefiledPaths f old new) (bs : IsRefiledBody b told f old new) where
  -- the other inodes' paths lead where they led
  pub before : (q : List ℕ) (j : InodeId) → j ≢ f.inode → LeadsTo new q j → LeadsTo old q j
  before q j other to = ⊎_elim
      (λ here. absurd (other (one_leads (new (Path q)) j f.inode to (ps.here q here))))
      (λ no. ⊎_elim
      (λ was. absurd (none_leads (new (Path q)) j (ps.gone q no was) to))
      (λ never. sym (ps.rest q no never) ∙ to)
      (cases_Bool (has_path f.was q)))
      (cases_Bool (has_path f.now q))

  pub after : (q : List ℕ) (j : InodeId) → j ≢ f.inode → LeadsTo old q j → LeadsTo new q j
  after q j other to = ⊎_elim
      (λ was. absurd (other (one_leads (old (Path q)) j f.inode to (ps.lead q was))))
      (λ never. ⊎_elim
      (λ here. absurd (none_leads (old (Path q)) j (ps.free q here never) to))
      (λ no. ps.rest q no never ∙ to)
      (cases_Bool (has_path f.now q)))
      (cases_Bool (has_path f.was q))

  -- and its own are those that it has now
  pub mine : (q : List ℕ) → LeadsTo new q f.inode → has_path f.now q ≡ true
  mine q to = ⊎_elim
      (λ here. here)
      (λ no. ⊎_elim
      (λ was. absurd (none_leads (new (Path q)) f.inode (ps.gone q no was) to))
      (λ never. absurd (true≢false (sym (ps.all q (sym (ps.rest q no never) ∙ to)) ∙ never)))
      (cases_Bool (has_path f.was q)))
      (cases_Bool (has_path f.now q))

  other_file : (j : InodeId) (paths : PathSet) (bytes : List ℕ) → j ≢ f.inode → IsFileOf b told old j paths bytes → IsFileOf b told new j paths bytes
  other_file j paths bytes other is = record {
    body = body-stays b told old new j bytes (bs.inodes j other) (λ r. bs.regions j r other) is.body;
    lead = λ q has. after q j other (is.lead q has);
    all = λ q to. is.all q (before q j other to);
    count = bs.counts j other ∙ is.count;
  }

  module _ (t u : Tree) (ts : IsRefiledTree f t u) where
    refiled_node : ((q : List ℕ) → NodeAt b told old (old (Path q)) (get t q)) → (q : List ℕ) → NodeAt b told new (new (Path q)) (get u q)
    refiled_node nodes q = ⊎_elim
        (λ here. node-put b told new (FileNode f.inode) (new (Path q)) (get u q) (Some (File f.now f.bytes)) (ps.here q here) (ts.here q here)
        (record { body = bs.body q here; lead = ps.here; all = mine; count = bs.count q here }))
        (λ no. ⊎_elim
        (λ was. node-taken b told new (new (Path q)) (get u q) (ps.gone q no was) (ts.gone q no was))
        (λ never. node-kept b told old new (old (Path q)) (new (Path q)) (get t q) (get u q)
        (λ j paths bytes leads is. other_file j paths bytes (λ e. true≢false (sym (ps.all q (subst (λ x. LeadsTo old q x) e leads)) ∙ never)) is)
        (ps.rest q no never) (ts.rest q no never) (nodes q))
        (cases_Bool (has_path f.was q)))
        (cases_Bool (has_path f.now q))

    -- one law for all calls: m calls have been made of the transaction tx, or as many as before
    pub stands-refiled : (tx k m : ℕ) → Stands b told tx k old t → k ≤ m → (f.inode.tx.0 ≡ tx → m < f.inode.index → new (Inode f.inode) ≡ None)
        → IsTree u → HaveNames u (λ d. new (DirKey d)) → MapBytes (is_told told) (is_listed b told) new → len u < 2 ^ 63 + m
        → Stands b told tx m new u
    stands-refiled tx k m st more fresh tree names bytes few = record {
      tree_is = tree;
      nodes = refiled_node st.nodes;
      names = names;
      led = λ j some. ⊎_elim
          (λ same.
          let found = bs.some (subst (λ x. IsSome (new (Inode x))) same some) in
          (found.0, subst (λ x. LeadsTo new found.0 x) (sym same) (ps.here found.0 found.1)))
          (λ other.
          let found = st.led j (some_is (new (Inode j)) (old (Inode j)) (bs.inodes j other) some) in
          (found.0, after found.0 j other found.1))
          (one_inode f.inode j);
      regions = λ j r some. ⊎_elim
          (λ same. subst (λ x. IsSome (new (Inode x))) (sym same) (bs.owned r (subst (λ x. IsSome (new (Region x r))) same some)))
          (λ other. some_is (old (Inode j)) (new (Inode j)) (sym (bs.inodes j other))
          (st.regions j r (some_is (new (Region j r)) (old (Region j r)) (bs.regions j r other) some)))
          (one_inode f.inode j);
      counted = λ j some. ⊎_elim
          (λ same. subst (λ x. IsSome (new (Inode x))) (sym same) (bs.counted (subst (λ x. IsSome (new (Links x))) same some)))
          (λ other. some_is (old (Inode j)) (new (Inode j)) (sym (bs.inodes j other))
          (st.counted j (some_is (new (Links j)) (old (Links j)) (bs.counts j other) some)))
          (one_inode f.inode j);
      bytes = bytes;
      fresh = λ j own less. ⊎_elim
          (λ same. subst (λ x. new (Inode x) ≡ None) (sym same) (fresh (ap (λ x. x.tx.0) (sym same) ∙ own) (subst (λ x. m < x.index) same less)))
          (λ other. bs.inodes j other ∙ st.fresh j own (omega arith))
          (one_inode f.inode j);
      few = few;
    }
