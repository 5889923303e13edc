-- What others have touched since the base of a transaction or a job: at that base, where nothing was installed, over an install by another,
-- and where a key is in the way.
use Rattle.wtf_clients.proofs.Common.{InodeId, versions_with, Store, versions_of, version_of, Agree-itself, key_in_the_way, Item, Op, meets, reads_of}
use Rattle.wtf_clients.proofs.Common.{writes_of, Tree, Key, Inode, Value, key_cmp, outcome_of, cap_for, Told, Feet, Map, Edits, with, metadata_at, Stands, Own}
use Rattle.wtf_clients.proofs.Common.{TxnView, LogStands, caller_at, KeepsMaps, KeepsVersions, TablesView, metadata_now, IsTidied, above, NoneMoved, Touched}
use Rattle.wtf_clients.proofs.Common.{OwnStill, SinceBase, ◌≡◌, ◌≢◌, ◌≤◌, ◌<◌, ℕ, true, List, [], ◌++◌, take, Option, None, Some, IsSome, refl, sym, ap, ◌∙◌}
use Rattle.wtf_clients.proofs.Common.{subst, append-nil, ⊎_elim, arith}
use Rattle.wtf_clients.proofs.AboveLaws.{above-number, above-same, above-kept, above-installed}
use Rattle.wtf_clients.proofs.TouchLaws.{IsAdded, HasNone, touched_on, own_on, touched_none, own_none, touched_along, own_along, conflict_met}

-- at its base
pub touched_base : (kv : Store Key Value) → Touched (metadata_at kv kv.number) (metadata_now kv) (above kv kv.number) []
touched_base kv = touched_none (metadata_now kv) (above kv kv.number) (above-number kv)

pub since_none : (kv : Store Key Value) (tx : ℕ) → ((i : InodeId) → i.tx.0 ≡ tx → metadata_now kv (Inode i) ≡ None) → SinceBase kv tx kv.number []
since_none kv tx gone = record { touched = touched_base kv; own = own_none tx (metadata_now kv) (above kv kv.number) gone (above-number kv) }

-- ---- where nothing was installed

pub none_moved : (old new : Store Key Value) (b : ℕ) → KeepsVersions old new → NoneMoved (above old b) (above new b)
none_moved old new b versions q h = sym (above-same old new b q (versions q)) ∙ h

pub tidied_moved : (old new : TablesView) (b : ℕ) → IsTidied old new → NoneMoved (above old.kv b) (above new.kv b)
tidied_moved old new b tidy q h = ⊎_elim
    (λ same. sym (above-same old.kv new.kv b q same) ∙ h)
    (λ kept. above-kept old.kv.pins old.kv new.kv b q kept h)
    (tidy.kept q)

-- what was touched by the versions above a base, in a store
abbrev pub TouchedSince : Store Key Value → ℕ → List Item → Type 0
TouchedSince kv base items = Touched (metadata_at kv base) (metadata_now kv) (above kv base) items

module _ (old new : Store Key Value) (base : ℕ) (items : List Item) (was : TouchedSince old base items) where
  pub touched_still : metadata_at new base ≡ metadata_at old base → metadata_now new ≡ metadata_now old → NoneMoved (above old base) (above new base)
      → TouchedSince new base items
  touched_still at now fewer =
      subst (λ w. Touched w (metadata_now new) (above new base) items) (sym at) (subst (λ w. Touched (metadata_at old base) w (above new base) items) (sym now)
      (touched_along (above old base) (above new base) fewer (metadata_at old base) (metadata_now old) items was))

  -- with nothing more touched
  pub touched_kept : base ≤ old.number → KeepsMaps old new → new.number ≡ old.number → KeepsVersions old new → TouchedSince new base (items ++ [])
  touched_kept based maps number versions =
      subst (λ l. TouchedSince new base l) (sym (append-nil items))
      (touched_still (maps base based) (ap (metadata_at new) number ∙ maps old.number (omega arith)) (none_moved old new base versions))

module _ (old new : Store Key Value) (tx base : ℕ) (items : List Item) (was : SinceBase old tx base items) where
  pub since_along : metadata_at new base ≡ metadata_at old base → metadata_now new ≡ metadata_now old → NoneMoved (above old base) (above new base)
      → SinceBase new tx base items
  since_along at now fewer = record {
    touched = touched_still old new base items was.touched at now fewer;
    own = subst (λ w. OwnStill tx w (above new base)) (sym now) (own_along (above old base) (above new base) fewer tx (metadata_now old) was.own);
  }

  -- with nothing more touched
  pub since_kept : base ≤ old.number → KeepsMaps old new → new.number ≡ old.number → KeepsVersions old new → SinceBase new tx base (items ++ [])
  since_kept based maps number versions =
      subst (λ l. SinceBase new tx base l) (sym (append-nil items))
      (since_along (maps base based) (ap (metadata_at new) number ∙ maps old.number (omega arith)) (none_moved old new base versions))

-- ---- another's install

module _ (other : ℕ) (old new : Store Key Value) (ks : List Key) (cs : Edits) (n : ℕ) (R W : List Item) (feet : Feet other (metadata_now old) ks cs R W)
    (own : Own other (metadata_now old) (with cs (metadata_now old))) (sooner : HasNone (metadata_now old)) (later : HasNone (with cs (metadata_now old)))
    (now : metadata_now new ≡ with cs (metadata_now old))
    (versions : (q : Key) → versions_of key_cmp new q ≡ versions_with key_cmp outcome_of cs n q (metadata_now old q) (versions_of key_cmp old q)) where
  added : (b : ℕ) → IsAdded cs (metadata_now old) (above old b) (above new b)
  added b q h = above-installed old new cs n b (metadata_now old) q (versions q) h

  -- what it wrote was touched
  pub touched_installed : (base : ℕ) (items : List Item) → metadata_at new base ≡ metadata_at old base → TouchedSince old base items
      → TouchedSince new base (items ++ W)
  touched_installed base items at was =
      subst (λ w. Touched w (metadata_now new) (above new base) (items ++ W)) (sym at)
      (subst (λ w. Touched (metadata_at old base) w (above new base) (items ++ W)) (sym now)
      (touched_on other (metadata_at old base) (metadata_now old) (above old base) (above new base) items was ks cs R W feet (added base)))

  pub since_installed : (tx base : ℕ) (items : List Item) → tx ≢ other → metadata_at new base ≡ metadata_at old base → SinceBase old tx base items
      → SinceBase new tx base (items ++ W)
  since_installed tx base items apart at was = record {
    touched = touched_installed base items at was.touched;
    own = subst (λ w. OwnStill tx w (above new base)) (sym now)
        (own_on tx other (metadata_now old) cs (above old base) (above new base) apart own sooner later (added base) was.own);
  }

-- ---- the cause of a retry

some_is : (o : Option Key) → IsSome o → (q : Key) × (o ≡ Some q)
some_is None h = absurd (cc)
some_is (Some q) h = (q, refl)

-- of a transaction whose calls are all done, an item that they read was touched, where a key is in the way
pub retry_met : (size : ℕ) (kv : Store Key Value) (told : Told) (x : TxnView) (ops : List (Op (List ℕ))) (tree : Tree) (items : List Item)
    → LogStands size kv told x ops → take x.replayed ops ≡ ops → Stands size told x.tx 0 (metadata_at kv x.at.base) tree → SinceBase kv x.tx x.at.base items
    → IsSome (key_in_the_way key_cmp outcome_of x.at kv)
    → ((q : Key) → key_in_the_way key_cmp outcome_of x.at kv ≡ Some q → x.at.base < version_of key_cmp kv kv.number q)
    → meets items (reads_of (cap_for (caller_at size x.tx 0)) tree ops) ≡ true
retry_met size kv told x ops tree items sound done st since way moved =
    let base : Map = metadata_at kv x.at.base in
    let (q, is) = some_is (key_in_the_way key_cmp outcome_of x.at kv) way in
    let cap : ℕ = cap_for (caller_at size x.tx 0) in
    let feet : Feet x.tx base x.at.reads x.at.changes (reads_of cap tree (take x.replayed ops)) (writes_of cap tree (take x.replayed ops)) =
    sound.run.feet told base tree (Agree-itself x.at.reads base) sound.run.fits sound.told_are sound.lists_are st in
    subst (λ l. meets items (reads_of cap tree l) ≡ true) done
    (conflict_met x.tx kv x.at (metadata_now kv) items (reads_of cap tree (take x.replayed ops)) (writes_of cap tree (take x.replayed ops))
    since.touched since.own feet q is (moved q is))
