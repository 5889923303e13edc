-- Maps that stand for trees, and go on standing for them where the bytes of one file change.
use Rattle.std.proofs.Common.{◌≡◌, ◌≢◌, ◌⊎◌, ℕ, ◌+◌, ◌≤◌, true, List, None, Some, refl, sym, ◌∙◌, subst, ⊎_elim, arith, inl, inr}
use Rattle.std.proofs.lemmas.Bool.{cases_Bool, true≢false}
use Rattle.std.specs.FinMap.{get, len}
use Rattle.wtf_base.specs.declared.ids.InodeId.{InodeId}
use Rattle.wtf_model.specs.Tree.{PathSet, has_path, Tree, File, IsTree, paths_of, paths_at}
use Rattle.wtf_model.specs.Done.{refiled}
use Rattle.wtf_model.proofs.RefileLaws.{IsTree-refiled, may-bytes}
use Rattle.wtf_values.specs.declared.key.Key.TheVariants.{Path, Dir as DirKey, Inode, Region, Links}
use Rattle.wtf_meta.specs.Maps.{Map, with}
use Rattle.wtf_meta.specs.Bytes.{MapBytes, EditsBytes}
use Rattle.wtf_meta.specs.Contents.{Told, is_told, is_listed}
use Rattle.wtf_meta.specs.FileEdits.{FileEdit, IsLast, edits_of}
use Rattle.wtf_meta.specs.Trees.{LeadsTo, IsBody, NamesAt, Stands, Own}
use Rattle.wtf_meta.proofs.Nodes.{FileAt}
use Rattle.wtf_meta.proofs.Listings.{HaveNames}
use Rattle.wtf_meta.proofs.Frame.{paths_stay, dirs_stay, inodes_stay, regions_stay, links_stay}
use Rattle.wtf_meta.proofs.MapBytes.{with_bytes}
use Rattle.wtf_meta.proofs.KeyPuts.{one_inode}
use Rattle.wtf_meta.proofs.Standing.{last_some, leads-file}
use Rattle.wtf_meta.proofs.Shapes.{AreAlike, file-there, names-alike, len-alike}
use Rattle.wtf_meta.proofs.Refiling.{Refile, IsRefiledTree, IsRefiledPaths, IsRefiledTree-refiled, stands-refiled}

-- of all keys those of the bytes of one inode alone change
pub record ChangesFile (i : InodeId) (w new : Map) : Type 0 where
  pub paths : (q : List ℕ) → new (Path q) ≡ w (Path q)
  pub dirs : (q : List ℕ) → new (DirKey q) ≡ w (DirKey q)
  pub inodes : (j : InodeId) → j ≢ i → new (Inode j) ≡ w (Inode j)
  pub regions : (j : InodeId) (r : ℕ) → j ≢ i → new (Region j r) ≡ w (Region j r)
  pub counts : (j : InodeId) → new (Links j) ≡ w (Links j)

module _ (b : ℕ) (told : Told) (tx k : ℕ) (w : Map) (t : Tree) (st : Stands b told tx k w t) (p : List ℕ) (i : InodeId) (leads : LeadsTo w p i) where
  there : FileAt b told w i (get t p)
  there = leads-file b told tx k w t st p i leads

  -- the file with other bytes
  abbrev rewritten : List ℕ → Refile
  rewritten bytes = record { inode = i; was = there.paths; now = there.paths; bytes = bytes }

  -- it stands at each of its paths
  whole : (q : List ℕ) → has_path there.paths q ≡ true → get t q ≡ Some (File there.paths there.bytes)
  whole q has = (st.tree_is.shared p there.paths there.bytes there.there).each q has

  -- an inode that has a record is none that comes later
  not_later : (m : ℕ) → k ≤ m → i.tx.0 ≡ tx → m + 1 ≤ i.index → ⊥
  not_later m more own less = subst (λ v. IsLast v) (st.fresh i own (omega arith)) there.body.has.inode

  module _ (new : Map) (changes : ChangesFile i w new) where
    none_by : (j : InodeId) → (j ≡ i) ⊎ (j ≢ i) → w (Inode j) ≡ None → new (Inode j) ≡ None
    none_by j (inl same) none = absurd (subst (λ v. IsLast v) (subst (λ x. w (Inode x) ≡ None) same none) there.body.has.inode)
    none_by j (inr other) none = changes.inodes j other ∙ none

    -- no inode comes
    pub none_stays : (j : InodeId) → w (Inode j) ≡ None → new (Inode j) ≡ None
    none_stays j none = none_by j (one_inode i j) none

    module _ (u : Tree) (bytes : List ℕ) (is : IsRefiledTree (rewritten bytes) t u) where
      alike : AreAlike t u
      alike q = ⊎_elim
          (λ has. inr (file-there (get t q) (File there.paths there.bytes) (whole q has) tt, file-there (get u q) (File there.paths bytes) (is.here q has) tt))
          (λ no. inl (is.rest q no no))
          (cases_Bool (has_path there.paths q))

      have : HaveNames u (λ d. new (DirKey d))
      have d = subst (λ v. NamesAt u d v (get u d)) (sym (changes.dirs d)) (names-alike t u alike (λ d. w (DirKey d)) st.names d)

      paths_lead : IsRefiledPaths (rewritten bytes) w new
      paths_lead = record {
        lead = there.file.lead;
        all = there.file.all;
        free = λ q here never. absurd (true≢false (sym here ∙ never));
        here = λ q has. changes.paths q ∙ there.file.lead q has;
        gone = λ q no was. absurd (true≢false (sym was ∙ no));
        rest = λ q no never. changes.paths q;
      }

      stands_rebodied : (m : ℕ) → k ≤ m → IsTree u → IsBody b told new i bytes → MapBytes (is_told told) (is_listed b told) new → Stands b told tx m new u
      stands_rebodied m more tree body told_bytes =
          stands-refiled b told (rewritten bytes) w new paths_lead (record {
            body = λ q has. body;
            count = λ q has. changes.counts i ∙ there.file.count;
            some = λ some. (p, there.file.all p leads);
            owned = λ r some. last_some (new (Inode i)) body.has.inode;
            counted = λ some. last_some (new (Inode i)) body.has.inode;
            inodes = changes.inodes;
            regions = changes.regions;
            counts = λ j other. changes.counts j;
          }) t u is tx k m st more (λ own less. absurd (not_later m more own (omega arith))) tree have told_bytes
          (let no_more : len u ≤ len t = len-alike t u alike in omega (arith, no_more, st.few, more))

    -- the map stands for the tree that has these bytes at all paths of the file; m calls have been made, or as many as before
    pub stands-rebytes : (m : ℕ) → k ≤ m → (bytes : List ℕ) → IsBody b told new i bytes → MapBytes (is_told told) (is_listed b told) new
        → Stands b told tx m new (refiled t (paths_at t p) (paths_at t p) bytes)
    stands-rebytes m more bytes body told_bytes =
        subst (λ o. Stands b told tx m new (refiled t (paths_of o) (paths_of o) bytes)) (sym there.there)
        (stands_rebodied (refiled t there.paths there.paths bytes) bytes (IsRefiledTree-refiled (rewritten bytes) t) m more
        (IsTree-refiled t there.paths there.paths bytes st.tree_is (may-bytes t p there.paths there.bytes st.tree_is there.there)) body told_bytes)

    -- and where its bytes stay, for the tree as it was
    stands_still : (paths : PathSet) (bytes : List ℕ) → get t p ≡ Some (File paths bytes) → IsBody b told new i bytes
        → MapBytes (is_told told) (is_listed b told) new
        → Stands b told tx k new t
    stands_still paths bytes file body told_bytes =
        let both : Some (File paths bytes) ≡ Some (File there.paths there.bytes) = sym file ∙ there.there in
        let same : bytes ≡ there.bytes = cc in
        stands_rebodied t there.bytes (record {
          here = whole;
          gone = λ q no was. absurd (true≢false (sym was ∙ no));
          rest = λ q no never. refl;
        }) k (omega arith) st.tree_is (subst (λ bs. IsBody b told new i bs) same body) told_bytes

  module _ (ds : List FileEdit) where
    abbrev new : Map
    new = with (edits_of i ds) w

    edited : ChangesFile i w new
    edited = record {
      paths = λ q. paths_stay i ds w q;
      dirs = λ q. dirs_stay i ds w q;
      inodes = λ j other. inodes_stay i j ds w (λ e. other (sym e));
      regions = λ j r other. regions_stay i j r ds w (λ e. other (sym e));
      counts = λ j. links_stay i j ds w;
    }

    -- no inode comes
    pub own-rewritten : Own tx w new
    own-rewritten = λ j other none. none_stays new edited j none

    -- the path of each file leads to it still
    pub leads-rewritten : (q : List ℕ) (j : InodeId) → LeadsTo w q j → LeadsTo new q j
    leads-rewritten q j to = paths_stay i ds w q ∙ to

    told_after : EditsBytes (is_told told) (is_listed b told) (edits_of i ds) → MapBytes (is_told told) (is_listed b told) new
    told_after told_edits = with_bytes (is_told told) (is_listed b told) refl (edits_of i ds) w st.bytes told_edits

    pub stands-rewritten : (bytes : List ℕ) → IsBody b told new i bytes → EditsBytes (is_told told) (is_listed b told) (edits_of i ds)
        → Stands b told tx (k + 1) new (refiled t (paths_at t p) (paths_at t p) bytes)
    stands-rewritten bytes body told_edits = stands-rebytes new edited (k + 1) (omega arith) bytes body (told_after told_edits)

    -- changes that leave the bytes of the file leave the tree, and count as no call
    pub stands-kept : (paths : PathSet) (bytes : List ℕ) → get t p ≡ Some (File paths bytes) → IsBody b told new i bytes
        → EditsBytes (is_told told) (is_listed b told) (edits_of i ds) → Stands b told tx k new t
    stands-kept paths bytes file body told_edits = stands_still new edited paths bytes file body (told_after told_edits)
