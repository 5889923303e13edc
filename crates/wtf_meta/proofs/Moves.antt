-- What the calls on names leave: the map with a call's changes stands for the tree that the definitions' call leaves.
use Rattle.std.proofs.Common.{◌≡◌, ◌≢◌, ℕ, ◌+◌, ◌-◌, ◌^◌, ◌<◌, ◌≤◌, nat_le, Bool, true, false, cond, List, [], ◌∷◌, Option, None, Some, refl, sym, ap, ◌∙◌, subst}
use Rattle.std.proofs.Common.{⊎_elim, arith}
use Rattle.std.specs.Prelude.{IsSome}
use Rattle.std.specs.FinMap.{get, insert, remove, len}
use Rattle.std.specs.BTreeMap.{is_at}
use Rattle.std.proofs.lemmas.Bool.{cases_lt, cases_Bool, true≢false}
use Rattle.wtf_base.specs.declared.ids.InodeId.{InodeId}
use Rattle.wtf_base.specs.declared.slice.Slice.{Slice}
use Rattle.wtf_kv.specs.declared.changes.Change.TheVariants as change
use Rattle.wtf_kv.specs.Edits.{is_between, value_made}
use Rattle.wtf_overlay.specs.Origin.{Place}
use Rattle.wtf_path.specs.Grammar.{IsPath}
use Rattle.wtf_path.specs.Parts.{parent_of, name_of}
use Rattle.wtf_model.specs.declared.answer.Answer.{Answer}
use Rattle.wtf_model.specs.declared.answer.Answer.TheVariants as answer
use Rattle.wtf_model.specs.Tree.{PathSet, no_paths, only_path, has_path, with_path, without_path, path_count, Tree, TreeNode, Dir, File, IsTree, paths_of}
use Rattle.wtf_model.specs.Session.{Session}
use Rattle.wtf_model.specs.Done.{put_node, add_file, add_path, take_out, refiled, drop_path, move_file}
use Rattle.wtf_model.proofs.Laws.{get-node_same, get-node_other}
use Rattle.wtf_model.proofs.PathLaws.{has-none, has-only, has-added, in-only, in-with, out-with, in-without, out-without, count-only, count-without}
use Rattle.wtf_model.proofs.PathLaws.{count-moved, count-alone, count-with, count-some}
use Rattle.wtf_model.proofs.Growth.{count-within}
use Rattle.wtf_model.proofs.Sizes.{some-key, len-put, len-taken}
use Rattle.wtf_model.proofs.TreeLaws.{IsFree, same_or_other, get-taken_same, get-taken_other, IsTree-new}
use Rattle.wtf_model.proofs.RefileLaws.{IsTree-refiled, may-drop, may-add, may-move}
use Rattle.wtf_values.specs.declared.key.Key.{Key}
use Rattle.wtf_values.specs.declared.key.Key.TheVariants.{Path, Dir as DirKey, Inode, Region, Links}
use Rattle.wtf_values.specs.declared.value.Node.TheVariants.{Folder, File as FileNode}
use Rattle.wtf_values.specs.declared.value.Value.{Value}
use Rattle.wtf_values.specs.declared.value.Value.TheVariants as value
use Rattle.wtf_values.specs.declared.value.Delta.TheVariants as delta
use Rattle.wtf_values.specs.Keys.{key_cmp}
use Rattle.wtf_values.specs.Outcomes.{outcome_count, outcome_of}
use Rattle.wtf_values.specs.Names.{no_names, with_name, without_name}
use Rattle.wtf_meta.specs.declared.session.Handle.{Handle}
use Rattle.wtf_meta.specs.Maps.{Map, with}
use Rattle.wtf_meta.specs.Bytes.{ValueBytes, MapBytes}
use Rattle.wtf_meta.specs.Contents.{Told, is_told, is_listed}
use Rattle.wtf_meta.specs.FileEdits.{IsRegion, region_of, LAST_REGION}
use Rattle.wtf_meta.specs.Trees.{LeadsTo, count_of, Stands}
use Rattle.wtf_meta.specs.Sessions.{SessionView, Holds, IsOff}
use Rattle.wtf_meta.specs.Calls.{Caller, IsDone}
use Rattle.wtf_meta.specs.NameEdits.{mkdir_edits, rmdir_edits, create_edits, unlink_edits, unlink_one_edits, link_edits, rename_edits, put_at, add_to}
use Rattle.wtf_meta.proofs.Nodes.{Listed, node-put, node-taken, names-listed, names-missing, names-of_listing, names-of_none}
use Rattle.wtf_meta.proofs.Listings.{HaveNames, listing-none, names-added, names-taken}
use Rattle.wtf_meta.proofs.HandleLaws.{Holds-on}
use Rattle.wtf_meta.proofs.KeyPuts.{put_in, put-same, put-other, paths-apart, dirs-apart, inodes-apart, counts-apart, one_inode, with-add_to, with-drop_from}
use Rattle.wtf_meta.proofs.KeyPuts.{with-sub, with-add}
use Rattle.wtf_meta.proofs.KeyPuts.{cut-own, cut-other}
use Rattle.wtf_meta.proofs.Bodies.{body-stays, body-new}
use Rattle.wtf_meta.proofs.Standing.{none_not, last_some, none_leads, stands-same, leads-file, leads-just, path-none, not-led, no-regions, no-count, stands-directory}
use Rattle.wtf_meta.proofs.Counts.{count-kept, count-few, count-less, count-more}
use Rattle.wtf_meta.proofs.Shapes.{names-alike, len-alike, alike-dropped, alike-added, alike-moved}
use Rattle.wtf_meta.proofs.Refiling.{Refile, IsRefiledPaths, IsRefiledBody, IsRefiledTree-refiled, IsRefiledTree-added, stands-refiled}

-- values that bring no byte, or bytes that have P
bytes_if : (P : List Place → Bool) (Q : Slice → Bool) (b : Bool) (v o : Option Value) → ValueBytes P Q v → ValueBytes P Q o → ValueBytes P Q (cond b v o)
bytes_if P Q true v o x y = x
bytes_if P Q false v o x y = y

pub bytes-put : (P : List Place → Bool) (Q : Slice → Bool) (w : Map) (k : Key) (v : Option Value) → ValueBytes P Q v → MapBytes P Q w
    → MapBytes P Q (put_in w k v)
bytes-put P Q w k v here all q = bytes_if P Q (is_at (key_cmp k) q) v (w q) here (all q)

pub bytes-cut : (P : List Place → Bool) (Q : Slice → Bool) (w : Map) (from to : Key) → MapBytes P Q w → MapBytes P Q (with (change.Cut from to ∷ []) w)
bytes-cut P Q w from to all q = bytes_if P Q (is_between key_cmp from to q) None (w q) tt (all q)

-- what a directory's value leads to: no inode
pub folder_leads : (v : Option Value) (i : InodeId) → v ≡ Some (value.Node Folder) → v ≡ Some (value.Node (FileNode i)) → ⊥
folder_leads v i a c = let both : Some (value.Node Folder) ≡ Some (value.Node (FileNode i)) = sym a ∙ c in cc

two_nodes : (t : Tree) (p q : List ℕ) (n m : Option TreeNode) → get t p ≡ n → get t q ≡ m → (n ≡ m → ⊥) → p ≢ q
two_nodes t p q n m a c differ same = differ (sym a ∙ (ap (get t) same ∙ c))

file_dir : (paths : PathSet) (bytes : List ℕ) → Some (File paths bytes) ≡ Some Dir → ⊥
file_dir paths bytes e = cc

none_dir : {A : Type 0} (x : A) → None ≡ Some x → ⊥
none_dir x e = cc

there_is : (o : Option TreeNode) (n : TreeNode) → o ≡ Some n → IsSome o
there_is o n e = subst (λ x. IsSome x) (sym e) refl

no_region_by : (v : Option Value) → IsRegion v → region_of v ≡ None → v ≡ None
no_region_by None is none = refl
no_region_by (Some (value.Node n)) is none = absurd is
no_region_by (Some (value.Names s)) is none = absurd is
no_region_by (Some (value.Last r)) is none = absurd is
no_region_by (Some (value.Count n)) is none = absurd is
no_region_by (Some (value.Region g)) is none = absurd (cc)

none_cut : (b : Bool) (v : Option Value) → v ≡ None → cond b None v ≡ None
none_cut true v e = refl
none_cut false v e = e

-- without a file, directories and what is free stay
parent_without : (t : Tree) (p : List ℕ) (paths : PathSet) (bytes dir : List ℕ) → get t p ≡ Some (File paths bytes) → get t dir ≡ Some Dir
    → get (remove t p) dir ≡ Some Dir
parent_without t p paths bytes dir file is =
    get-taken_other t p dir (two_nodes t dir p (Some Dir) (Some (File paths bytes)) is file (λ e. file_dir paths bytes (sym e))) ∙ is

free_without : (t : Tree) (p : List ℕ) (paths : PathSet) (bytes q : List ℕ) → get t p ≡ Some (File paths bytes) → get t q ≡ None → get (remove t p) q ≡ None
free_without t p paths bytes q file none =
    get-taken_other t p q (two_nodes t q p None (Some (File paths bytes)) none file (none_dir (File paths bytes))) ∙ none

module _ (x : Caller) (told : Told) (w : Map) (s : SessionView) (S : Session) (st : Stands x.size told x.tx x.calls w S.tree) (holds : Holds told w s S) where
  listed : (dir : List ℕ) → get S.tree dir ≡ Some Dir → Listed S.tree dir (w (DirKey dir))
  listed dir is = names-listed S.tree dir (w (DirKey dir)) (get S.tree dir) (st.names dir) is

  -- a handle's path is none at which nothing stands
  off_free : (p : List ℕ) → w (Path p) ≡ None → (h : Handle) → LeadsTo w h.path h.inode → h.path ≢ p
  off_free p none h leads same = none_leads (w (Path p)) h.inode none (subst (λ q. LeadsTo w q h.inode) same leads)

  -- nothing changes
  pub done-same : (a : Answer) → IsDone x told w w s (record { session = S; answer = a }) a
  done-same a = record {
    answer = refl;
    stands = stands-same x.size told x.tx x.calls w S.tree st;
    holds = holds;
    own = λ i other none. none;
  }

  pub done-mkdir : (p : List ℕ) → IsPath p → (free : IsFree S.tree p)
      → IsDone x told w (with (mkdir_edits free.dir p) w) s (record { session = put_node S p Dir; answer = answer.Okay }) answer.Okay
  done-mkdir p path free =
      let t : Tree = S.tree in
      let dir : List ℕ = free.dir in
      let u : Tree = insert t p Dir in
      let old = listed dir free.parent in
      let none : w (Path p) ≡ None = path-none x.size told x.tx x.calls w t st p free.free in
      let dir_p : dir ≢ p = two_nodes t dir p (Some Dir) None free.parent free.free (λ e. none_dir Dir (sym e)) in
      let one : Map = put_in w (Path p) (Some (value.Node Folder)) in
      let two : Map = put_in one (DirKey p) (Some (value.Names no_names)) in
      let new : Map = put_in two (DirKey dir) (Some (value.Names (with_name old.names (name_of p)))) in
      let is : with (mkdir_edits dir p) w ≡ new = with-add_to two dir p old.names (put-other one (DirKey p) (DirKey dir) _ (dirs-apart p dir dir_p) ∙ old.is) in
      let here : new (Path p) ≡ Some (value.Node Folder) = put-same w (Path p) (Some (value.Node Folder)) in
      let at : (q : List ℕ) → q ≢ p → new (Path q) ≡ w (Path q) = λ q other. put-other w (Path p) (Path q) _ (paths-apart p q other) in
      let empty : new (DirKey p) ≡ Some (value.Names no_names) = put-other two (DirKey dir) (DirKey p) _ (dirs-apart dir p (λ e. dir_p (sym e)))
      ∙ put-same one (DirKey p) _ in
      let alone : (q : List ℕ) → IsSome (get u q) → parent_of q ≡ Some p → ⊥ = λ q some up. ⊎_elim
      (λ same. let both : Some dir ≡ Some p = sym free.up ∙ (ap parent_of (sym same) ∙ up) in let one_dir : dir ≡ p = cc in dir_p one_dir)
      (λ other. none_dir Dir (sym free.free ∙ st.tree_is.parents q p (subst (λ o. IsSome o) (get-node_other t p Dir q other) some) up))
      (same_or_other q p) in
      subst (λ m. IsDone x told w m s (record { session = put_node S p Dir; answer = answer.Okay }) answer.Okay) (sym is) (record {
        answer = refl;
        stands = stands-directory x.size told x.tx x.calls w t st new p u
            (λ i leads. none_leads (w (Path p)) i none leads) (λ i leads. folder_leads (new (Path p)) i here leads)
            (node-put x.size told new Folder (new (Path p)) (get u p) (Some Dir) here (get-node_same t p Dir) tt)
            (λ q other. (at q other, get-node_other t p Dir q other))
            (λ i. refl) (λ i r. refl) (λ i. refl)
            (IsTree-new t p Dir path st.tree_is free tt)
            (names-added t (λ d. w (DirKey d)) (λ d. new (DirKey d)) p Dir free old st.names
            (names-of_listing u p (new (DirKey p)) (Some Dir) no_names empty refl (listing-none u p alone))
            (put-same two (DirKey dir) _)
            (λ d other apart. put-other two (DirKey dir) (DirKey d) _ (dirs-apart dir d apart) ∙ put-other one (DirKey p) (DirKey d) _ (dirs-apart p d other)))
            (bytes-put (is_told told) (is_listed x.size told) two (DirKey dir) _ tt
            (bytes-put (is_told told) (is_listed x.size told) one (DirKey p) _ tt (bytes-put (is_told told) (is_listed x.size told) w (Path p) _ tt st.bytes)))
            (len-put t p Dir);
        holds = Holds-on told w new s S u (λ f h there leads. at h.path (off_free p none h leads) ∙ leads) holds;
        own = λ i other gone. gone;
      })

  pub done-rmdir : (p dir : List ℕ) → parent_of p ≡ Some dir → get S.tree p ≡ Some Dir → w (Path p) ≡ Some (value.Node Folder)
      → IsTree (remove S.tree p) → ((q : List ℕ) → IsSome (get S.tree q) → parent_of q ≡ Some p → ⊥)
      → IsDone x told w (with (rmdir_edits dir p) w) s (record { session = take_out S p; answer = answer.Okay }) answer.Okay
  done-rmdir p dir up there folder tree alone =
      let t : Tree = S.tree in
      let some : IsSome (get t p) = there_is (get t p) Dir there in
      let old = listed dir (st.tree_is.parents p dir some up) in
      let dir_p : dir ≢ p = λ e. alone p some (up ∙ ap Some e) in
      let one : Map = put_in w (Path p) None in
      let two : Map = put_in one (DirKey p) None in
      let new : Map = put_in two (DirKey dir) (Some (value.Names (without_name old.names (name_of p)))) in
      let is : with (rmdir_edits dir p) w ≡ new =
      with-drop_from two dir p old.names (put-other one (DirKey p) (DirKey dir) None (dirs-apart p dir dir_p) ∙ old.is) in
      let gone : new (Path p) ≡ None = put-same w (Path p) None in
      let at : (q : List ℕ) → q ≢ p → new (Path q) ≡ w (Path q) = λ q other. put-other w (Path p) (Path q) None (paths-apart p q other) in
      subst (λ m. IsDone x told w m s (record { session = take_out S p; answer = answer.Okay }) answer.Okay) (sym is) (record {
        answer = refl;
        stands = stands-directory x.size told x.tx x.calls w t st new p (remove t p)
            (λ i leads. folder_leads (w (Path p)) i folder leads) (λ i leads. none_leads (new (Path p)) i gone leads)
            (node-taken x.size told new (new (Path p)) (get (remove t p) p) gone (get-taken_same t p))
            (λ q other. (at q other, get-taken_other t p q other))
            (λ i. refl) (λ i r. refl) (λ i. refl)
            tree
            (names-taken t (λ d. w (DirKey d)) (λ d. new (DirKey d)) p dir st.tree_is some up old st.names
            (put-other two (DirKey dir) (DirKey p) _ (dirs-apart dir p (λ e. dir_p (sym e))) ∙ put-same one (DirKey p) None)
            (put-same two (DirKey dir) _)
            (λ d other apart. put-other two (DirKey dir) (DirKey d) _ (dirs-apart dir d apart)
            ∙ put-other one (DirKey p) (DirKey d) None (dirs-apart p d other)))
            (bytes-put (is_told told) (is_listed x.size told) two (DirKey dir) _ tt
            (bytes-put (is_told told) (is_listed x.size told) one (DirKey p) None tt
            (bytes-put (is_told told) (is_listed x.size told) w (Path p) None tt st.bytes)))
            (let fewer : len (remove t p) ≤ len t = len-taken t p in omega arith);
        holds = Holds-on told w new s S (remove t p)
            (λ f h is leads. at h.path (λ e. folder_leads (w (Path p)) h.inode folder (subst (λ q. LeadsTo w q h.inode) e leads)) ∙ leads) holds;
        own = λ i other none. none;
      })

  pub done-create : (p : List ℕ) (i : InodeId) → i.tx.0 ≡ x.tx → i.index ≡ x.calls + 1 → IsPath p → (free : IsFree S.tree p)
      → IsDone x told w (with (create_edits free.dir p i) w) s (record { session = add_file S p []; answer = answer.Okay }) answer.Okay
  done-create p i mine next path free =
      let t : Tree = S.tree in
      let dir : List ℕ = free.dir in
      let file : TreeNode = File (only_path p) [] in
      let u : Tree = insert t p file in
      let f : Refile = record { inode = i; was = no_paths; now = only_path p; bytes = [] } in
      let old = listed dir free.parent in
      let none : w (Path p) ≡ None = path-none x.size told x.tx x.calls w t st p free.free in
      let new_one : w (Inode i) ≡ None = st.fresh i mine (omega arith) in
      let no_regions : (r : ℕ) → w (Region i r) ≡ None = no-regions x.size told x.tx x.calls w t st i new_one in
      let no_count : w (Links i) ≡ None = no-count x.size told x.tx x.calls w t st i new_one in
      let dir_p : dir ≢ p = two_nodes t dir p (Some Dir) None free.parent free.free (λ e. none_dir Dir (sym e)) in
      let one : Map = put_in w (Path p) (Some (value.Node (FileNode i))) in
      let two : Map = put_in one (Inode i) (Some (value.Last 0)) in
      let new : Map = put_in two (DirKey dir) (Some (value.Names (with_name old.names (name_of p)))) in
      let is : with (create_edits dir p i) w ≡ new = with-add_to two dir p old.names old.is in
      let at : (q : List ℕ) → q ≢ p → new (Path q) ≡ w (Path q) = λ q other. put-other w (Path p) (Path q) _ (paths-apart p q other) in
      let inodes : (j : InodeId) → j ≢ i → new (Inode j) ≡ w (Inode j) = λ j other. put-other one (Inode i) (Inode j) _ (inodes-apart i j other) in
      let missing : w (DirKey p) ≡ None = names-missing t p (w (DirKey p)) (get t p) (st.names p) (λ e. none_dir Dir (sym free.free ∙ e)) in
      let paths : IsRefiledPaths f w new = record {
        lead = λ q was. absurd (true≢false (sym was ∙ has-none q));
        all = λ q to. absurd (not-led x.size told x.tx x.calls w t st i new_one q to);
        free = λ q here never. subst (λ z. w (Path z) ≡ None) (sym (in-only p q here)) none;
        here = λ q here. subst (λ z. LeadsTo new z i) (sym (in-only p q here)) (put-same w (Path p) _);
        gone = λ q no was. absurd (true≢false (sym was ∙ has-none q));
        rest = λ q no never. at q (out-with no_paths p q no).0;
      } in
      let body : IsRefiledBody x.size told f w new = record {
        body = λ q here. body-new x.size told new i (put-same one (Inode i) _) no_regions;
        count = λ q here. no_count ∙ sym (ap count_of (count-only p));
        some = λ some. (p, has-only p);
        owned = λ r some. absurd (none_not (w (Region i r)) (no_regions r) some);
        counted = λ some. absurd (none_not (w (Links i)) no_count some);
        inodes = inodes;
        regions = λ j r other. refl;
        counts = λ j other. refl;
      } in
      subst (λ m. IsDone x told w m s (record { session = add_file S p []; answer = answer.Okay }) answer.Okay) (sym is) (record {
        answer = refl;
        stands = stands-refiled x.size told f w new paths body t u (IsRefiledTree-added i t p []) x.tx x.calls (x.calls + 1) st (omega arith)
            (λ own later. absurd (omega arith))
            (IsTree-new t p file path st.tree_is free refl)
            (names-added t (λ d. w (DirKey d)) (λ d. new (DirKey d)) p file free old st.names
            (names-of_none u p (new (DirKey p)) (Some file)
            (put-other two (DirKey dir) (DirKey p) _ (dirs-apart dir p (λ e. dir_p (sym e))) ∙ missing) (file_dir (only_path p) []))
            (put-same two (DirKey dir) _)
            (λ d other apart. put-other two (DirKey dir) (DirKey d) _ (dirs-apart dir d apart)))
            (bytes-put (is_told told) (is_listed x.size told) two (DirKey dir) _ tt
            (bytes-put (is_told told) (is_listed x.size told) one (Inode i) _ tt (bytes-put (is_told told) (is_listed x.size told) w (Path p) _ tt st.bytes)))
            (let more : len u ≤ len t + 1 = len-put t p file in omega (arith, more, st.few));
        holds = Holds-on told w new s S u (λ f h there leads. at h.path (off_free p none h leads) ∙ leads) holds;
        own = λ j other gone. inodes j (λ e. other (ap (λ k. k.tx.0) e ∙ mine)) ∙ gone;
      })

  -- no region of a file lies above the last number that a key can have
  past_regions : (p : List ℕ) (i : InodeId) → LeadsTo w p i → (r : ℕ) → LAST_REGION < r → w (Region i r) ≡ None
  past_regions p i leads r past =
      let file = leads-file x.size told x.tx x.calls w S.tree st p i leads in
      let few = file.body.file.few in no_region_by (w (Region i r)) (file.body.has.regions r) (file.body.file.above r (omega arith))

  -- the last path of a file goes, and the file
  pub done-unlink : (p dir : List ℕ) (paths : PathSet) (bytes : List ℕ) (i : InodeId) → parent_of p ≡ Some dir → get S.tree p ≡ Some (File paths bytes)
      → LeadsTo w p i → path_count paths < 2 → IsOff p s
      → IsDone x told w (with (unlink_edits dir p i) w) s (record { session = drop_path S p bytes; answer = answer.Okay }) answer.Okay
  done-unlink p dir paths bytes i up there leads_p few off =
      let t : Tree = S.tree in
      let file = leads-just x.size told x.tx x.calls w t st p i paths bytes leads_p there in
      let now : PathSet = without_path paths p in
      let f : Refile = record { inode = i; was = paths; now = now; bytes = bytes } in
      let u : Tree = refiled t paths now bytes in
      let some : IsSome (get t p) = there_is (get t p) (File paths bytes) there in
      let parent : get t dir ≡ Some Dir = st.tree_is.parents p dir some up in
      let old = listed dir parent in
      let dir_p : dir ≢ p = two_nodes t dir p (Some Dir) (Some (File paths bytes)) parent there (λ e. file_dir paths bytes (sym e)) in
      let cut : Map = with (change.Cut (Region i 0) (Region i LAST_REGION) ∷ []) w in
      let one : Map = put_in cut (Inode i) None in
      let two : Map = put_in one (Path p) None in
      let new : Map = put_in two (DirKey dir) (Some (value.Names (without_name old.names (name_of p)))) in
      let is : with (unlink_edits dir p i) w ≡ new = with-drop_from two dir p old.names old.is in
      let at : (q : List ℕ) → q ≢ p → new (Path q) ≡ w (Path q) = λ q other. put-other one (Path p) (Path q) None (paths-apart p q other) in
      let missing : w (DirKey p) ≡ None = names-missing t p (w (DirKey p)) (get t p) (st.names p) (λ e. file_dir paths bytes (sym there ∙ e)) in
      let no_record : new (Inode i) ≡ None = put-same cut (Inode i) None in
      let no_regions : (r : ℕ) → new (Region i r) ≡ None = λ r. ⊎_elim
      (λ past. none_cut (is_between key_cmp (Region i 0) (Region i LAST_REGION) (Region i r)) (w (Region i r)) (past_regions p i leads_p r past))
      (λ within. cut-own w i 0 LAST_REGION r (omega arith) within)
      (cases_lt LAST_REGION r) in
      let no_other : (q : List ℕ) → has_path now q ≡ true → ⊥ =
      λ q has. let parts = in-without paths p q has in parts.0 (count-alone paths p q few (file.all p leads_p) parts.1) in
      let moved_paths : IsRefiledPaths f w new = record {
        lead = file.lead;
        all = file.all;
        free = λ q here never. absurd (no_other q here);
        here = λ q here. absurd (no_other q here);
        gone = λ q no was. ⊎_elim
            (λ same. subst (λ z. new (Path z) ≡ None) (sym same) (put-same one (Path p) None))
            (λ never. absurd (true≢false (sym was ∙ never)))
            (out-without paths p q no);
        rest = λ q no never. at q (λ same. true≢false (sym (file.all p leads_p) ∙ ap (has_path paths) (sym same) ∙ never));
      } in
      let body : IsRefiledBody x.size told f w new = record {
        body = λ q here. absurd (no_other q here);
        count = λ q here. absurd (no_other q here);
        some = λ some. absurd (none_not (new (Inode i)) no_record some);
        owned = λ r some. absurd (none_not (new (Region i r)) (no_regions r) some);
        counted = λ some. absurd (none_not (w (Links i)) (file.count ∙ count-few (path_count paths) few) some);
        inodes = λ j other. put-other cut (Inode i) (Inode j) None (inodes-apart i j other);
        regions = λ j r other. cut-other w i j 0 LAST_REGION r other;
        counts = λ j other. refl;
      } in
      subst (λ m. IsDone x told w m s (record { session = drop_path S p bytes; answer = answer.Okay }) answer.Okay) (sym is) (record {
        answer = refl;
        stands = subst (λ o. Stands x.size told x.tx (x.calls + 1) new (refiled t (paths_of o) (without_path (paths_of o) p) bytes)) (sym there)
            (stands-refiled x.size told f w new moved_paths body t u (IsRefiledTree-refiled f t) x.tx x.calls (x.calls + 1) st (omega arith)
            (λ own later. no_record)
            (IsTree-refiled t paths now bytes st.tree_is (may-drop t p paths bytes st.tree_is there p))
            (names-alike (remove t p) u (alike-dropped t p paths bytes st.tree_is there) (λ d. new (DirKey d))
            (names-taken t (λ d. w (DirKey d)) (λ d. new (DirKey d)) p dir st.tree_is some up old st.names
            (put-other two (DirKey dir) (DirKey p) _ (dirs-apart dir p (λ e. dir_p (sym e))) ∙ missing)
            (put-same two (DirKey dir) _)
            (λ d other apart. put-other two (DirKey dir) (DirKey d) _ (dirs-apart dir d apart))))
            (bytes-put (is_told told) (is_listed x.size told) two (DirKey dir) _ tt
            (bytes-put (is_told told) (is_listed x.size told) one (Path p) None tt
            (bytes-put (is_told told) (is_listed x.size told) cut (Inode i) None tt
            (bytes-cut (is_told told) (is_listed x.size told) w (Region i 0) (Region i LAST_REGION) st.bytes))))
            (let fewer : len (remove t p) ≤ len t = len-taken t p in
            let no_more : len u ≤ len (remove t p) = len-alike (remove t p) u (alike-dropped t p paths bytes st.tree_is there) in
            omega (arith, fewer, no_more, st.few)));
        holds = Holds-on told w new s S (refiled t (paths_of (get t p)) (without_path (paths_of (get t p)) p) bytes)
            (λ f h is leads. at h.path (off f h is) ∙ leads) holds;
        own = λ j other none. ⊎_elim
            (λ same. ap (λ k. new (Inode k)) same ∙ no_record)
            (λ apart. put-other cut (Inode i) (Inode j) None (inodes-apart i j apart) ∙ none)
            (one_inode i j);
      })

  -- a path of a file goes that has others
  pub done-unlink_one : (p dir : List ℕ) (paths : PathSet) (bytes : List ℕ) (i : InodeId) → parent_of p ≡ Some dir → get S.tree p ≡ Some (File paths bytes)
      → LeadsTo w p i → 2 ≤ path_count paths → IsOff p s
      → IsDone x told w (with (unlink_one_edits dir p i) w) s (record { session = drop_path S p bytes; answer = answer.Okay }) answer.Okay
  done-unlink_one p dir paths bytes i up there leads_p more off =
      let t : Tree = S.tree in
      let file = leads-just x.size told x.tx x.calls w t st p i paths bytes leads_p there in
      let has_p : has_path paths p ≡ true = file.all p leads_p in
      let now : PathSet = without_path paths p in
      let n : ℕ = path_count paths in
      let left : path_count now ≡ n - 1 = count-without paths p has_p in
      let f : Refile = record { inode = i; was = paths; now = now; bytes = bytes } in
      let u : Tree = refiled t paths now bytes in
      let some : IsSome (get t p) = there_is (get t p) (File paths bytes) there in
      let parent : get t dir ≡ Some Dir = st.tree_is.parents p dir some up in
      let old = listed dir parent in
      let dir_p : dir ≢ p = two_nodes t dir p (Some Dir) (Some (File paths bytes)) parent there (λ e. file_dir paths bytes (sym e)) in
      let one : Map = put_in w (Path p) None in
      let two : Map = put_in one (DirKey dir) (Some (value.Names (without_name old.names (name_of p)))) in
      let told_one : Option Value = value_made (outcome_count n delta.LinkSub) (Some (value.Count n)) in
      let new : Map = put_in two (Links i) told_one in
      let is : with (unlink_one_edits dir p i) w ≡ new =
      ap (λ m. with (change.Delta (Links i) delta.LinkSub ∷ []) m) (with-drop_from one dir p old.names old.is)
      ∙ with-sub two i n (file.count ∙ count-kept n more) in
      let at : (q : List ℕ) → q ≢ p → new (Path q) ≡ w (Path q) = λ q other. put-other w (Path p) (Path q) None (paths-apart p q other) in
      let missing : w (DirKey p) ≡ None = names-missing t p (w (DirKey p)) (get t p) (st.names p) (λ e. file_dir paths bytes (sym there ∙ e)) in
      let kept : (q : List ℕ) → has_path now q ≡ true → LeadsTo new q i =
      λ q has. let parts = in-without paths p q has in at q parts.0 ∙ file.lead q parts.1 in
      let another : (q : List ℕ) × (has_path now q ≡ true) = some-key now (omega (arith, left, more)) in
      let moved_paths : IsRefiledPaths f w new = record {
        lead = file.lead;
        all = file.all;
        free = λ q here never. absurd (true≢false (sym (in-without paths p q here).1 ∙ never));
        here = kept;
        gone = λ q no was. ⊎_elim
            (λ same. subst (λ z. new (Path z) ≡ None) (sym same) (put-same w (Path p) None))
            (λ never. absurd (true≢false (sym was ∙ never)))
            (out-without paths p q no);
        rest = λ q no never. at q (λ same. true≢false (sym has_p ∙ ap (has_path paths) (sym same) ∙ never));
      } in
      let body : IsRefiledBody x.size told f w new = record {
        body = λ q here. body-stays x.size told w new i bytes refl (λ r. refl) file.body;
        count = λ q here. put-same two (Links i) told_one ∙ count-less n more ∙ sym (ap count_of left);
        some = λ some. another;
        owned = λ r some. st.regions i r some;
        counted = λ some. st.counted i (subst (λ v. IsSome v) (sym (file.count ∙ count-kept n more)) refl);
        inodes = λ j other. refl;
        regions = λ j r other. refl;
        counts = λ j other. put-other two (Links i) (Links j) told_one (counts-apart i j other);
      } in
      subst (λ m. IsDone x told w m s (record { session = drop_path S p bytes; answer = answer.Okay }) answer.Okay) (sym is) (record {
        answer = refl;
        stands = subst (λ o. Stands x.size told x.tx (x.calls + 1) new (refiled t (paths_of o) (without_path (paths_of o) p) bytes)) (sym there)
            (stands-refiled x.size told f w new moved_paths body t u (IsRefiledTree-refiled f t) x.tx x.calls (x.calls + 1) st (omega arith)
            (λ own later. st.fresh i own (omega arith))
            (IsTree-refiled t paths now bytes st.tree_is (may-drop t p paths bytes st.tree_is there p))
            (names-alike (remove t p) u (alike-dropped t p paths bytes st.tree_is there) (λ d. new (DirKey d))
            (names-taken t (λ d. w (DirKey d)) (λ d. new (DirKey d)) p dir st.tree_is some up old st.names
            (put-other one (DirKey dir) (DirKey p) _ (dirs-apart dir p (λ e. dir_p (sym e))) ∙ missing)
            (put-same one (DirKey dir) _)
            (λ d other apart. put-other one (DirKey dir) (DirKey d) _ (dirs-apart dir d apart))))
            (bytes-put (is_told told) (is_listed x.size told) two (Links i) told_one
            (subst (λ v. ValueBytes (is_told told) (is_listed x.size told) v) (sym (count-less n more))
            (bytes_if (is_told told) (is_listed x.size told) (nat_le 2 (n - 1)) (Some (value.Count (n - 1))) None tt tt))
            (bytes-put (is_told told) (is_listed x.size told) one (DirKey dir) _ tt
            (bytes-put (is_told told) (is_listed x.size told) w (Path p) None tt st.bytes)))
            (let fewer : len (remove t p) ≤ len t = len-taken t p in
            let no_more : len u ≤ len (remove t p) = len-alike (remove t p) u (alike-dropped t p paths bytes st.tree_is there) in
            omega (arith, fewer, no_more, st.few)));
        holds = Holds-on told w new s S (refiled t (paths_of (get t p)) (without_path (paths_of (get t p)) p) bytes)
            (λ f h is leads. at h.path (off f h is) ∙ leads) holds;
        own = λ j other none. none;
      })

  -- a file gets one more path
  pub done-link : (p q : List ℕ) (paths : PathSet) (bytes : List ℕ) (i : InodeId) → get S.tree p ≡ Some (File paths bytes) → LeadsTo w p i → IsPath q
      → x.calls < 2 ^ 32
      → (free : IsFree S.tree q)
      → IsDone x told w (with (link_edits free.dir q i) w) s (record { session = add_path S p q bytes; answer = answer.Okay }) answer.Okay
  done-link p q paths bytes i there leads_p path calls free =
      let t : Tree = S.tree in
      let file = leads-just x.size told x.tx x.calls w t st p i paths bytes leads_p there in
      let now : PathSet = with_path paths q in
      let n : ℕ = path_count paths in
      let f : Refile = record { inode = i; was = paths; now = now; bytes = bytes } in
      let u : Tree = refiled t paths now bytes in
      let alone : TreeNode = File (only_path q) bytes in
      let dir : List ℕ = free.dir in
      let old = listed dir free.parent in
      let dir_q : dir ≢ q = two_nodes t dir q (Some Dir) None free.parent free.free (λ e. none_dir Dir (sym e)) in
      let free_q : w (Path q) ≡ None = path-none x.size told x.tx x.calls w t st q free.free in
      let not_q : (z : List ℕ) → has_path paths z ≡ true → z ≢ q =
      λ z has same. none_leads (w (Path q)) i free_q (subst (λ y. LeadsTo w y i) same (file.lead z has)) in
      let new_q : has_path paths q ≡ false = ⊎_elim (λ has. absurd (not_q q has refl)) (λ no. no) (cases_Bool (has_path paths q)) in
      let added : path_count now ≡ n + 1 = count-with paths q new_q in
      let some : 1 ≤ n = count-some paths p (file.all p leads_p) in
      let within : n ≤ len t = count-within t p paths bytes st.tree_is there in
      let small : n + 1 < 2 ^ 64 = omega (arith, within, st.few, calls) in
      let one : Map = put_in w (Path q) (Some (value.Node (FileNode i))) in
      let two : Map = put_in one (DirKey dir) (Some (value.Names (with_name old.names (name_of q)))) in
      let told_one : Option Value = value_made (outcome_of (count_of n) delta.LinkAdd) (count_of n) in
      let new : Map = put_in two (Links i) told_one in
      let is : with (link_edits dir q i) w ≡ new =
      ap (λ m. with (change.Delta (Links i) delta.LinkAdd ∷ []) m) (with-add_to one dir q old.names old.is)
      ∙ with-add two i (count_of n) file.count in
      let at : (z : List ℕ) → z ≢ q → new (Path z) ≡ w (Path z) = λ z other. put-other w (Path q) (Path z) _ (paths-apart q z other) in
      let missing : w (DirKey q) ≡ None = names-missing t q (w (DirKey q)) (get t q) (st.names q) (λ e. none_dir Dir (sym free.free ∙ e)) in
      let lies : (z : List ℕ) → has_path now z ≡ true → LeadsTo new z i = λ z here. ⊎_elim
      (λ same. subst (λ y. LeadsTo new y i) (sym same) (put-same w (Path q) _))
      (λ kept. at z (not_q z kept) ∙ file.lead z kept)
      (in-with paths q z here) in
      let more_paths : IsRefiledPaths f w new = record {
        lead = file.lead;
        all = file.all;
        free = λ z here never. ⊎_elim
            (λ same. subst (λ y. w (Path y) ≡ None) (sym same) free_q)
            (λ kept. absurd (true≢false (sym kept ∙ never)))
            (in-with paths q z here);
        here = lies;
        gone = λ z no was. absurd (true≢false (sym was ∙ (out-with paths q z no).1));
        rest = λ z no never. at z (out-with paths q z no).0;
      } in
      let counted : new (Links i) ≡ count_of (n + 1) = put-same two (Links i) told_one ∙ count-more n some small in
      let body : IsRefiledBody x.size told f w new = record {
        body = λ z here. body-stays x.size told w new i bytes refl (λ r. refl) file.body;
        count = λ z here. counted ∙ sym (ap count_of added);
        some = λ some. (q, has-added paths q);
        owned = λ r some. st.regions i r some;
        counted = λ some. last_some (w (Inode i)) file.body.has.inode;
        inodes = λ j other. refl;
        regions = λ j r other. refl;
        counts = λ j other. put-other two (Links i) (Links j) told_one (counts-apart i j other);
      } in
      subst (λ m. IsDone x told w m s (record { session = add_path S p q bytes; answer = answer.Okay }) answer.Okay) (sym is) (record {
        answer = refl;
        stands = subst (λ o. Stands x.size told x.tx (x.calls + 1) new (refiled t (paths_of o) (with_path (paths_of o) q) bytes)) (sym there)
            (stands-refiled x.size told f w new more_paths body t u (IsRefiledTree-refiled f t) x.tx x.calls (x.calls + 1) st (omega arith)
            (λ own later. st.fresh i own (omega arith))
            (IsTree-refiled t paths now bytes st.tree_is (may-add t p paths bytes st.tree_is there q free path))
            (names-alike (insert t q alone) u (alike-added t p q paths bytes st.tree_is there) (λ d. new (DirKey d))
            (names-added t (λ d. w (DirKey d)) (λ d. new (DirKey d)) q alone free old st.names
            (names-of_none (insert t q alone) q (new (DirKey q)) (Some alone)
            (put-other one (DirKey dir) (DirKey q) _ (dirs-apart dir q (λ e. dir_q (sym e))) ∙ missing) (file_dir (only_path q) bytes))
            (put-same one (DirKey dir) _)
            (λ d other apart. put-other one (DirKey dir) (DirKey d) _ (dirs-apart dir d apart))))
            (bytes-put (is_told told) (is_listed x.size told) two (Links i) told_one
            (subst (λ v. ValueBytes (is_told told) (is_listed x.size told) v) (sym (count-more n some small))
            (bytes_if (is_told told) (is_listed x.size told) (nat_le 2 (n + 1)) (Some (value.Count (n + 1))) None tt tt))
            (bytes-put (is_told told) (is_listed x.size told) one (DirKey dir) _ tt
            (bytes-put (is_told told) (is_listed x.size told) w (Path q) _ tt st.bytes)))
            (let more : len (insert t q alone) ≤ len t + 1 = len-put t q alone in
            let no_more : len u ≤ len (insert t q alone) = len-alike (insert t q alone) u (alike-added t p q paths bytes st.tree_is there) in
            omega (arith, more, no_more, st.few)));
        holds = Holds-on told w new s S (refiled t (paths_of (get t p)) (with_path (paths_of (get t p)) q) bytes)
            (λ f h is leads. at h.path (off_free q free_q h leads) ∙ leads) holds;
        own = λ j other none. none;
      })

  -- a path of a file becomes another one
  pub done-rename : (p up q : List ℕ) (paths : PathSet) (bytes : List ℕ) (i : InodeId) → parent_of p ≡ Some up → get S.tree p ≡ Some (File paths bytes)
      → LeadsTo w p i → IsOff p s → IsPath q
      → (free : IsFree S.tree q)
      → IsDone x told w (with (rename_edits up p free.dir q i) w) s (record { session = move_file S p q bytes; answer = answer.Okay }) answer.Okay
  done-rename p up q paths bytes i stands_in there leads_p off path free =
      let t : Tree = S.tree in
      let file = leads-just x.size told x.tx x.calls w t st p i paths bytes leads_p there in
      let now : PathSet = with_path (without_path paths p) q in
      let f : Refile = record { inode = i; was = paths; now = now; bytes = bytes } in
      let u : Tree = refiled t paths now bytes in
      let left : Tree = remove t p in
      let alone : TreeNode = File (only_path q) bytes in
      let some : IsSome (get t p) = there_is (get t p) (File paths bytes) there in
      let parent : get t up ≡ Some Dir = st.tree_is.parents p up some stands_in in
      let old = listed up parent in
      let up_p : up ≢ p = two_nodes t up p (Some Dir) (Some (File paths bytes)) parent there (λ e. file_dir paths bytes (sym e)) in
      let q_p : q ≢ p = two_nodes t q p None (Some (File paths bytes)) free.free there (none_dir (File paths bytes)) in
      let one : Map = put_in w (Path p) None in
      let two : Map = put_in one (DirKey up) (Some (value.Names (without_name old.names (name_of p)))) in
      let missing : w (DirKey p) ≡ None = names-missing t p (w (DirKey p)) (get t p) (st.names p) (λ e. file_dir paths bytes (sym there ∙ e)) in
      let have : HaveNames left (λ d. two (DirKey d)) = names-taken t (λ d. w (DirKey d)) (λ d. two (DirKey d)) p up st.tree_is some stands_in old st.names
      (put-other one (DirKey up) (DirKey p) _ (dirs-apart up p (λ e. up_p (sym e))) ∙ missing)
      (put-same one (DirKey up) _)
      (λ d other apart. put-other one (DirKey up) (DirKey d) _ (dirs-apart up d apart)) in
      let open_q : IsFree left q = record {
        dir = free.dir;
        up = free.up;
        parent = parent_without t p paths bytes free.dir there free.parent;
        free = free_without t p paths bytes q there free.free;
      } in
      let dir : List ℕ = free.dir in
      let dir_q : dir ≢ q = two_nodes t dir q (Some Dir) None free.parent free.free (λ e. none_dir Dir (sym e)) in
      let next = names-listed left dir (two (DirKey dir)) (get left dir) (have dir) open_q.parent in
      let three : Map = put_in two (Path q) (Some (value.Node (FileNode i))) in
      let new : Map = put_in three (DirKey dir) (Some (value.Names (with_name next.names (name_of q)))) in
      let is : with (rename_edits up p dir q i) w ≡ new =
      ap (λ m. with (put_at q (FileNode i) ∷ add_to dir q ∷ []) m) (with-drop_from one up p old.names old.is) ∙ with-add_to three dir q next.names next.is in
      let at : (z : List ℕ) → z ≢ p → z ≢ q → new (Path z) ≡ w (Path z) = λ z other apart. put-other two (Path q) (Path z) _ (paths-apart q z apart)
      ∙ put-other w (Path p) (Path z) None (paths-apart p z other) in
      let gone_q : two (DirKey q) ≡ None = names-missing left q (two (DirKey q)) (get left q) (have q) (λ e. none_dir Dir (sym open_q.free ∙ e)) in
      let free_q : w (Path q) ≡ None = path-none x.size told x.tx x.calls w t st q free.free in
      let not_q : (z : List ℕ) → has_path paths z ≡ true → z ≢ q =
      λ z has same. none_leads (w (Path q)) i free_q (subst (λ y. LeadsTo w y i) same (file.lead z has)) in
      let new_q : has_path paths q ≡ false = ⊎_elim (λ has. absurd (not_q q has refl)) (λ no. no) (cases_Bool (has_path paths q)) in
      let lies : (z : List ℕ) → has_path now z ≡ true → LeadsTo new z i = λ z here. ⊎_elim
      (λ same. subst (λ y. LeadsTo new y i) (sym same) (put-same two (Path q) _))
      (λ kept. let parts = in-without paths p z kept in at z parts.0 (not_q z parts.1) ∙ file.lead z parts.1)
      (in-with (without_path paths p) q z here) in
      let moved_paths : IsRefiledPaths f w new = record {
        lead = file.lead;
        all = file.all;
        free = λ z here never. ⊎_elim
            (λ same. subst (λ y. w (Path y) ≡ None) (sym same) free_q)
            (λ kept. absurd (true≢false (sym (in-without paths p z kept).1 ∙ never)))
            (in-with (without_path paths p) q z here);
        here = lies;
        gone = λ z no was. ⊎_elim
            (λ same. subst (λ y. new (Path y) ≡ None) (sym same)
            (put-other two (Path q) (Path p) _ (paths-apart q p (λ e. q_p (sym e))) ∙ put-same w (Path p) None))
            (λ never. absurd (true≢false (sym was ∙ never)))
            (out-without paths p z (out-with (without_path paths p) q z no).1);
        rest = λ z no never. at z (λ same. true≢false (sym (file.all p leads_p) ∙ ap (has_path paths) (sym same) ∙ never))
            (out-with (without_path paths p) q z no).0;
      } in
      let body : IsRefiledBody x.size told f w new = record {
        body = λ z here. body-stays x.size told w new i bytes refl (λ r. refl) file.body;
        count = λ z here. file.count ∙ sym (ap count_of (count-moved paths p q (file.all p leads_p) new_q));
        some = λ some. (q, has-added (without_path paths p) q);
        owned = λ r some. st.regions i r some;
        counted = λ some. st.counted i some;
        inodes = λ j other. refl;
        regions = λ j r other. refl;
        counts = λ j other. refl;
      } in
      subst (λ m. IsDone x told w m s (record { session = move_file S p q bytes; answer = answer.Okay }) answer.Okay) (sym is) (record {
        answer = refl;
        stands = subst (λ o. Stands x.size told x.tx (x.calls + 1) new (refiled t (paths_of o) (with_path (without_path (paths_of o) p) q) bytes)) (sym there)
            (stands-refiled x.size told f w new moved_paths body t u (IsRefiledTree-refiled f t) x.tx x.calls (x.calls + 1) st (omega arith)
            (λ own later. st.fresh i own (omega arith))
            (IsTree-refiled t paths now bytes st.tree_is (may-move t p paths bytes st.tree_is there p q free path))
            (names-alike (insert left q alone) u (alike-moved t p q paths bytes st.tree_is there) (λ d. new (DirKey d))
            (names-added left (λ d. two (DirKey d)) (λ d. new (DirKey d)) q alone open_q next have
            (names-of_none (insert left q alone) q (new (DirKey q)) (Some alone)
            (put-other three (DirKey dir) (DirKey q) _ (dirs-apart dir q (λ e. dir_q (sym e))) ∙ gone_q) (file_dir (only_path q) bytes))
            (put-same three (DirKey dir) _)
            (λ d other apart. put-other three (DirKey dir) (DirKey d) _ (dirs-apart dir d apart))))
            (bytes-put (is_told told) (is_listed x.size told) three (DirKey dir) _ tt
            (bytes-put (is_told told) (is_listed x.size told) two (Path q) _ tt
            (bytes-put (is_told told) (is_listed x.size told) one (DirKey up) _ tt
            (bytes-put (is_told told) (is_listed x.size told) w (Path p) None tt st.bytes))))
            (let fewer : len left ≤ len t = len-taken t p in
            let more : len (insert left q alone) ≤ len left + 1 = len-put left q alone in
            let no_more : len u ≤ len (insert left q alone) = len-alike (insert left q alone) u (alike-moved t p q paths bytes st.tree_is there) in
            omega (arith, fewer, more, no_more, st.few)));
        holds = Holds-on told w new s S (refiled t (paths_of (get t p)) (with_path (without_path (paths_of (get t p)) p) q) bytes)
            (λ f h is leads. at h.path (off f h is) (off_free q free_q h leads) ∙ leads) holds;
        own = λ j other none. none;
      })
