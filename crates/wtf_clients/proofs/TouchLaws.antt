-- What others have touched, over an install by another; and why a replay is asked for.
use Rattle.wtf_clients.proofs.Common.{IsSome, cases_Bool, and_parts, both_ways, false_from_ne_true, InodeId, any_touches, makes_version, Store, version_of}
use Rattle.wtf_clients.proofs.Common.{Attempted, key_in_the_way, Item, NodeOf, NamesOf, BodyOf, LinksOf, is_among, meets, is_among-left, is_among-right}
use Rattle.wtf_clients.proofs.Common.{meets-by, Key, Path, Inode, Region, Links, Value, Delta, key_cmp, outcome_of, Map, Edits, with, metadata_at, LeadsTo, Own}
use Rattle.wtf_clients.proofs.Common.{Stands, Told, Tree, Has, ReadBy, WrittenBy, EachWritten, Feet, read_in_the_way, written_at, above, NoneMoved, IsFileStill}
use Rattle.wtf_clients.proofs.Common.{Touched, OwnStill, ◌≡◌, ◌≢◌, ◌⊎◌, ◌<◌, ℕ, Bool, true, false, ◌||◌, List, [], ◌++◌, Option, None, Some, is_some, refl, sym}
use Rattle.wtf_clients.proofs.Common.{ap, ◌∙◌, inl, inr, ⊎_elim}
use Rattle.wtf_values.specs.declared.key.Key.TheVariants.{Dir}
use Rattle.wtf_clients.proofs.AboveLaws.{above-version}

-- an install adds versions of those keys alone of which its changes make one
abbrev pub IsAdded : Edits → Map → (Key → Bool) → (Key → Bool) → Type 0
IsAdded cs w before after = (q : Key) → after q ≡ true → (before q ≡ true) ⊎ (makes_version key_cmp outcome_of cs q (w q) ≡ true)

-- ---- what an install makes versions of

-- a key of which the changes make a version was written
made_written : (w : Map) (W : List Item) (cs : Edits) (q : Key) → EachWritten w W cs → makes_version key_cmp outcome_of cs q (w q) ≡ true → WrittenBy w W q
made_written w W cs q each made =
    written_at w W cs q (w q) each (and_parts (any_touches key_cmp outcome_of cs q (w q)) (is_some (w q) || is_some (with cs w q)) made).0

-- they make none of a key without a value before and after
none_made : (w : Map) (cs : Edits) (q : Key) → w q ≡ None → with cs w q ≡ None → makes_version key_cmp outcome_of cs q (w q) ≡ true → ⊥
none_made w cs q before after made =
    let some = (and_parts (any_touches key_cmp outcome_of cs q (w q)) (is_some (w q) || is_some (with cs w q)) made).1 in
    both_ways (is_some (w q) || is_some (with cs w q)) (ap (λ o. is_some o || is_some (with cs w q)) before ∙ ap is_some after) some

-- ---- another's install

module _ (other : ℕ) (base old : Map) (before after : Key → Bool) (items : List Item) (touched : Touched base old before items)
    (ks : List Key) (cs : Edits) (R W : List Item) (feet : Feet other old ks cs R W) (added : IsAdded cs old before after) where
  -- a key that has moved had moved before, or is of what the install wrote
  moved_by : (q : Key) → after q ≡ true → (before q ≡ true) ⊎ WrittenBy old W q
  moved_by q now = ⊎_elim (λ was. inl was) (λ made. inr (made_written old W cs q feet.written made)) (added q now)

  -- a file whose bytes were not touched, neither before nor by the install, stands still
  still_by : (p : List ℕ) (i : InodeId) → LeadsTo old p i → IsFileStill before i → is_among W (BodyOf p) ≡ false
      → LeadsTo (with cs old) p i × IsFileStill after i
  still_by p i to still none = (
    ⊎_elim (λ there. there) (λ gone. absurd (both_ways (is_among W (BodyOf p)) none gone.1)) (feet.stays p i to),
    record {
      inode = false_from_ne_true (after (Inode i)) (λ now. ⊎_elim
          (λ was. both_ways (before (Inode i)) still.inode was)
          (λ written. both_ways (is_among W (BodyOf p)) none (written p to))
          (moved_by (Inode i) now));
      regions = λ r. false_from_ne_true (after (Region i r)) (λ now. ⊎_elim
          (λ was. both_ways (before (Region i r)) (still.regions r) was)
          (λ written. both_ways (is_among W (BodyOf p)) none (written p to))
          (moved_by (Region i r) now));
    },
  )

  -- nor has it another number of paths, where these were not
  links_by : (p : List ℕ) (i : InodeId) → LeadsTo old p i → before (Links i) ≡ false
      → (Has (NodeOf p) W ⊎ Has (LinksOf p) W) ⊎ (LeadsTo (with cs old) p i × (after (Links i) ≡ false))
  links_by p i to none = ⊎_elim
      (λ there. ⊎_elim
      (λ now. ⊎_elim (λ was. absurd (both_ways (before (Links i)) none was)) (λ written. inl (written p to)) (moved_by (Links i) now)) (λ no. inr (there, no))
      (cases_Bool (after (Links i))))
      (λ gone. inl (inl gone.0))
      (feet.stays p i to)

  -- with what it wrote
  pub touched_on : Touched base (with cs old) after (items ++ W)
  touched_on = record {
    nodes = λ p now. ⊎_elim
        (λ was. is_among-left items W (NodeOf p) (touched.nodes p was))
        (λ written. is_among-right items W (NodeOf p) written)
        (moved_by (Path p) now);
    lists = λ p now. ⊎_elim
        (λ was. is_among-left items W (NamesOf p) (touched.lists p was))
        (λ written. is_among-right items W (NamesOf p) written)
        (moved_by (Dir p) now);
    bodies = λ p i to. ⊎_elim
        (λ was. inl (is_among-left items W (BodyOf p) was))
        (λ still. ⊎_elim
        (λ wrote. inl (is_among-right items W (BodyOf p) wrote))
        (λ none. inr (still_by p i still.0 still.1 none))
        (cases_Bool (is_among W (BodyOf p)))) (touched.bodies p i to);
    links = λ p i to. ⊎_elim
        (λ was. inl (⊎_elim (λ node. inl (is_among-left items W (NodeOf p) node)) (λ links. inr (is_among-left items W (LinksOf p) links)) was))
        (λ still. ⊎_elim
        (λ wrote. inl (⊎_elim (λ node. inl (is_among-right items W (NodeOf p) node)) (λ links. inr (is_among-right items W (LinksOf p) links)) wrote))
        (λ none. inr none)
        (links_by p i still.0 still.1)) (touched.links p i to);
  }

-- where regions and numbers of paths are of files that stand, a file that stands nowhere has none
pub record HasNone (w : Map) : Type 0 where
  pub regions : (i : InodeId) (r : ℕ) → IsSome (w (Region i r)) → IsSome (w (Inode i))
  pub counts : (i : InodeId) → IsSome (w (Links i)) → IsSome (w (Inode i))

pub has_none : (b : ℕ) (told : Told) (tx k : ℕ) (w : Map) (t : Tree) → Stands b told tx k w t → HasNone w
has_none b told tx k w t st = record { regions = st.regions; counts = st.counted }

some_of_none : (o : Option Value) → o ≡ None → IsSome o → ⊥
some_of_none None none some = cc
some_of_none (Some v) none some = cc

no_key : (o inode : Option Value) → (IsSome o → IsSome inode) → inode ≡ None → o ≡ None
no_key None inode h none = refl
no_key (Some v) inode h none = absurd (some_of_none inode none (h refl))

-- the transaction's own files stand nowhere after it, and have not moved
pub own_on : (tx other : ℕ) (old : Map) (cs : Edits) (before after : Key → Bool) → tx ≢ other → Own other old (with cs old)
    → HasNone old → HasNone (with cs old) → IsAdded cs old before after → OwnStill tx old before → OwnStill tx (with cs old) after
own_on tx other old cs before after apart own sooner later added was =
    let gone : (i : InodeId) → i.tx.0 ≡ tx → with cs old (Inode i) ≡ None = λ i mine. own i (λ e. apart (sym mine ∙ e)) (was.none i mine) in
    let still : (q : Key) → before q ≡ false → old q ≡ None → with cs old q ≡ None → after q ≡ false = λ q then a b.
    false_from_ne_true (after q) (λ now. ⊎_elim (λ moved. both_ways (before q) then moved) (λ made. none_made old cs q a b made) (added q now)) in
    record {
      none = gone;
      still = λ i mine. record {
        inode = still (Inode i) (was.still i mine).inode (was.none i mine) (gone i mine);
        regions = λ r. still (Region i r) ((was.still i mine).regions r)
            (no_key (old (Region i r)) (old (Inode i)) (sooner.regions i r) (was.none i mine))
            (no_key (with cs old (Region i r)) (with cs old (Inode i)) (later.regions i r) (gone i mine));
      };
      links = λ i mine. still (Links i) (was.links i mine)
          (no_key (old (Links i)) (old (Inode i)) (sooner.counts i) (was.none i mine))
          (no_key (with cs old (Links i)) (with cs old (Inode i)) (later.counts i) (gone i mine));
    }

-- ---- at the base, and where nothing was installed

-- at the base nothing is touched
pub touched_none : (w : Map) (moved : Key → Bool) → ((q : Key) → moved q ≡ false) → Touched w w moved []
touched_none w moved none = record {
  nodes = λ p now. absurd (both_ways (moved (Path p)) (none (Path p)) now);
  lists = λ p now. absurd (both_ways (moved (Dir p)) (none (Dir p)) now);
  bodies = λ p i to. inr (to, record { inode = none (Inode i); regions = λ r. none (Region i r) });
  links = λ p i to. inr (to, none (Links i));
}

pub own_none : (tx : ℕ) (w : Map) (moved : Key → Bool) → ((i : InodeId) → i.tx.0 ≡ tx → w (Inode i) ≡ None) → ((q : Key) → moved q ≡ false)
    → OwnStill tx w moved
own_none tx w moved gone none =
    record { none = gone; still = λ i mine. record { inode = none (Inode i); regions = λ r. none (Region i r) }; links = λ i mine. none (Links i) }

module _ (before after : Key → Bool) (fewer : NoneMoved before after) where
  still_along : (i : InodeId) → IsFileStill before i → IsFileStill after i
  still_along i still = record {
    inode = false_from_ne_true (after (Inode i)) (λ now. both_ways (before (Inode i)) still.inode (fewer (Inode i) now));
    regions = λ r. false_from_ne_true (after (Region i r)) (λ now. both_ways (before (Region i r)) (still.regions r) (fewer (Region i r) now));
  }

  links_along : (i : InodeId) → before (Links i) ≡ false → after (Links i) ≡ false
  links_along i none = false_from_ne_true (after (Links i)) (λ now. both_ways (before (Links i)) none (fewer (Links i) now))

  -- where no key moves, and the maps stay, what was touched does
  pub touched_along : (base now : Map) (items : List Item) → Touched base now before items → Touched base now after items
  touched_along base now items t = record {
    nodes = λ p moved. t.nodes p (fewer (Path p) moved);
    lists = λ p moved. t.lists p (fewer (Dir p) moved);
    bodies = λ p i to. ⊎_elim (λ was. inl was) (λ still. inr (still.0, still_along i still.1)) (t.bodies p i to);
    links = λ p i to. ⊎_elim (λ was. inl was) (λ still. inr (still.0, links_along i still.1)) (t.links p i to);
  }

  pub own_along : (tx : ℕ) (now : Map) → OwnStill tx now before → OwnStill tx now after
  own_along tx now own = record { none = own.none; still = λ i mine. still_along i (own.still i mine); links = λ i mine. links_along i (own.links i mine) }

-- ---- the cause of a retry

module _ (tx : ℕ) (base now : Map) (moved : Key → Bool) (items R : List Item) (touched : Touched base now moved items) (own : OwnStill tx now moved) where
  -- the bytes of a file, of whose keys one has moved
  met_body : (p : List ℕ) (i : InodeId) → LeadsTo base p i → Has (BodyOf p) R → (IsFileStill moved i → ⊥) → meets items R ≡ true
  met_body p i to read not_still = ⊎_elim (λ was. meets-by items R (BodyOf p) was read) (λ still. absurd (not_still still.1)) (touched.bodies p i to)

  -- its number of paths, where that has moved
  met_links : (p : List ℕ) (i : InodeId) → LeadsTo base p i → Has (NodeOf p) R → Has (LinksOf p) R → moved (Links i) ≡ true → meets items R ≡ true
  met_links p i to node links is = ⊎_elim
      (λ was. ⊎_elim (λ there. meets-by items R (NodeOf p) there node) (λ there. meets-by items R (LinksOf p) there links) was)
      (λ still. absurd (both_ways (moved (Links i)) still.1 is))
      (touched.links p i to)

  -- a key that has moved, and belongs to an item that was read
  pub met : (q : Key) → ReadBy tx base R q → moved q ≡ true → meets items R ≡ true
  met (Path p) read is = meets-by items R (NodeOf p) (touched.nodes p is) read
  met (Dir p) read is = meets-by items R (NamesOf p) (touched.lists p is) read
  met (Inode i) (inl mine) is = absurd (both_ways (moved (Inode i)) (own.still i mine).inode is)
  met (Inode i) (inr h) is = met_body h.path i h.leads h.body (λ still. both_ways (moved (Inode i)) still.inode is)
  met (Region i r) (inl mine) is = absurd (both_ways (moved (Region i r)) ((own.still i mine).regions r) is)
  met (Region i r) (inr h) is = met_body h.path i h.leads h.body (λ still. both_ways (moved (Region i r)) (still.regions r) is)
  met (Links i) (inl mine) is = absurd (both_ways (moved (Links i)) (own.links i mine) is)
  met (Links i) (inr h) is = met_links h.path i h.leads h.node h.links is

-- The key in the way of an install was recorded, or is that of a change that finds no room, so it is of an item that was read; and it
-- has moved, so that the item was touched.
pub conflict_met : (tx : ℕ) (kv : Store Key Value) (at : Attempted Key Delta) (now : Map) (items R W : List Item)
    → Touched (metadata_at kv at.base) now (above kv at.base) items → OwnStill tx now (above kv at.base)
    → Feet tx (metadata_at kv at.base) at.reads at.changes R W
    → (q : Key) → key_in_the_way key_cmp outcome_of at kv ≡ Some q → at.base < version_of key_cmp kv kv.number q → meets items R ≡ true
conflict_met tx kv at now items R W touched own feet q is moved =
    met tx (metadata_at kv at.base) now (above kv at.base) items R touched own q (read_in_the_way tx (metadata_at kv at.base) R W at kv q feet is)
    (above-version kv at.base kv.number q moved)
