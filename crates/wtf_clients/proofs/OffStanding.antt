-- What stands over stores that tell bytes stands over stores that tell those of them that it names: trees, transactions, jobs, images, tables.
use Rattle.wtf_clients.proofs.Common.{IsTrue, All, All-head, All-tail, Kept, Slice, len_of, Store, is_pinned, Place, part_origin, Held, Op, Tree, TreeNode, Dir}
use Rattle.wtf_clients.proofs.Common.{File, Transaction, Job, Machine, Calls, own_of, OpsStandFor, OpStandsFor-weaker, Key, Path, Region, RegionValue, Value}
use Rattle.wtf_clients.proofs.Common.{Folder, ListFact, TellLists, PiecesBytes, MapBytes, MaybeBytes, ListsBytes, are_in, Told, is_told, is_listed, list_has}
use Rattle.wtf_clients.proofs.Common.{lists_in, file_of, region_origin, Map, metadata_at, NodeAt, Stands, entries_from, file_bytes, region_of_bytes}
use Rattle.wtf_clients.proofs.Common.{nothing_kept, told_byte, LogBytes, TxnBytes, lists_have, LogStands, tells_slice, TxnView, JobView, target_region}
use Rattle.wtf_clients.proofs.Common.{KeepsRegion, TablesView, of_client, of_label, metadata_now, AreSound, TablesBytes, StandsForTxn, StandsForSlot}
use Rattle.wtf_clients.proofs.Common.{StandsForJob, StandsForLabel, IsImageTree, TablesStand, ListedBytes, TellsWhere, IsOwnTxn, IsOwnJob, ◌≡◌, ℕ, Bool, true}
use Rattle.wtf_clients.proofs.Common.{List, [], ◌∷◌, Option, None, Some, refl, sym, ap, ◌∙◌, subst, get_or}
use Rattle.wtf_values.specs.declared.value.Node.TheVariants.{File as FileNode}
use Rattle.wtf_meta.specs.Bytes.{SliceBytes}
use Rattle.wtf_rw.specs.Stored.{SliceBytes as OwnBytes}
use Rattle.wtf_clients.proofs.{Images.kept_pinned, JobPins.job_pinned, Lives.pinned_live, Lives.now_bytes, OffLaws.Tests, OffLaws.Passes, OffLaws.passes_on}
use Rattle.wtf_clients.proofs.{OffLaws.passes_back, OffLaws.passes_told, OffLaws.tell_where, OffLaws.facts_where, OffLaws.tell_lists_where}
use Rattle.wtf_clients.proofs.{OffLaws.slice_passes, OffLaws.pieces_pass, OffLaws.session_passes, OffLaws.region_passes, OffLaws.maybe_passes}
use Rattle.wtf_clients.proofs.{OffLaws.map_passes, OffLaws.edits_pass, OffLaws.region_origin_has, OffLaws.region_means_where, OffLaws.has_bytes_where}

module _ (set : Place → Bool) (told later : Told) (on : TellsWhere set told later) (b : ℕ) where
  -- each byte of a map lies in the set, also those that the lists of its bases name
  abbrev IsHere : Map → Type 0
  IsHere w = MapBytes (are_in set) (lists_have b told (are_in set)) w

  told_on : Passes set b told (is_told told, is_listed b told) (is_told later, is_listed b later)
  told_on = passes_told set told later on b

  node_where : (w : Map) (v : Option Value) (o : Option TreeNode) → IsHere w → NodeAt b told w v o → NodeAt b later w v o
  node_where w None None here h = h
  node_where w None (Some n) here h = absurd h
  node_where w (Some (Value.Node Folder)) (Some Dir) here h = h
  node_where w (Some (Value.Node (FileNode i))) (Some (File paths bytes)) here h =
      record {
        body = record {
          has = h.body.has;
          file = h.body.file;
          bytes_are = has_bytes_where set told later on b (file_of i w) bytes (file_bytes (are_in set) (lists_have b told (are_in set)) i w here)
              h.body.bytes_are;
        };
        lead = h.lead;
        all = h.all;
        count = h.count;
      }
  node_where w (Some (Value.Node Folder)) (Some (File paths bytes)) here h = absurd h
  node_where w (Some (Value.Node (FileNode i))) (Some Dir) here h = absurd h
  node_where w (Some (Value.Node Folder)) None here h = absurd h
  node_where w (Some (Value.Node (FileNode i))) None here h = absurd h
  node_where w (Some (Value.Names ns)) o here h = absurd h
  node_where w (Some (Value.Count n)) o here h = absurd h
  node_where w (Some (Value.Last r)) o here h = absurd h
  node_where w (Some (Value.Region v)) o here h = absurd h

  -- a map that names only such bytes goes on standing for its tree
  pub stands_where : (tx k : ℕ) (w : Map) (t : Tree) → IsHere w → Stands b told tx k w t → Stands b later tx k w t
  stands_where tx k w t here st = record {
    tree_is = st.tree_is;
    nodes = λ p. node_where w (w (Path p)) _ here (st.nodes p);
    names = st.names;
    led = st.led;
    regions = st.regions;
    counted = st.counted;
    bytes = map_passes set b told (is_told told, is_listed b told) (is_told later, is_listed b later) told_on w st.bytes here;
    fresh = st.fresh;
    few = st.few;
  }

  -- ---- transactions

  own_where : (o : Option Slice) (s : Slice) (bytes : List ℕ) → OwnBytes (are_in set) o → o ≡ Some s → tells_slice told s bytes → tells_slice later s bytes
  own_where None s bytes here is h = absurd (cc)
  own_where (Some q) s bytes here is h =
      let same : q ≡ s = cc in
      tell_where set told later on (len_of s) (part_origin (Held s)) bytes (subst (λ (z : Slice). SliceBytes (are_in set) z) same here) h

  -- logged calls stand for what they stood for, where the log's slices lie in the set
  pub ops_where : (ks : List (Op Kept)) (os : List (Op (List ℕ))) → All (λ (k : Op Kept). OwnBytes (are_in set) (own_of k)) ks
      → OpsStandFor (tells_slice told) ks os → OpsStandFor (tells_slice later) ks os
  ops_where [] [] here h = tt
  ops_where [] (o ∷ os) here h = absurd h
  ops_where (k ∷ ks) [] here h = absurd h
  ops_where (k ∷ ks) (o ∷ os) here h = (
    OpStandsFor-weaker (tells_slice told) (tells_slice later) k o
        (λ s bytes own is. own_where (own_of k) s bytes (All-head (λ (q : Op Kept). OwnBytes (are_in set) (own_of q)) k ks here) own is) h.0,
    ops_where ks os (All-tail (λ (q : Op Kept). OwnBytes (are_in set) (own_of q)) k ks here) h.1,
  )

  -- lists that slices decode to have such bytes, where the slices pass the test that theirs do
  lists_here : (P : List Place → Bool) (fs : List ListFact) → TellLists (lists_in b told) fs → ListsBytes P (lists_have b told P) fs
  lists_here P [] tell = tt
  lists_here P (f ∷ fs) tell = ((λ has. entries_from P f.list (ap (list_has P) (sym tell.0) ∙ has)), lists_here P fs tell.1)

  -- a transaction whose map at the base, and whose log, name only such bytes stands for the calls that it stood for
  pub sound_where : (kv : Store Key Value) (x : TxnView) (ops : List (Op (List ℕ))) → LogStands b kv told x ops → IsHere (metadata_at kv x.at.base)
      → LogBytes (are_in set) x.log → LogStands b kv later x ops
  sound_where kv x ops sound base log =
      let stored : PiecesBytes (are_in set) sound.stored = sound.kept (are_in set) log in
      let names = sound.run.names (are_in set) (lists_have b told (are_in set)) refl base (nothing_kept (are_in set)) stored
      (lists_here (are_in set) sound.lists sound.lists_are) in
      record {
        facts = sound.facts;
        stored = sound.stored;
        lists = sound.lists;
        ops_are = ops_where x.log.ops ops log sound.ops_are;
        told_are = facts_where set told later on sound.facts names.facts sound.told_are;
        stored_are = pieces_pass set b told (is_told told, is_listed b told) (is_told later, is_listed b later) told_on sound.stored sound.stored_are stored;
        kept = sound.kept;
        lists_are = tell_lists_where set told later on b (lists_have b told (are_in set)) sound.lists names.lists sound.lists_are;
        run = sound.run;
      }

  -- the map at the base, and all else that a transaction names, lies in the set
  pub txn_where : (kv : Store Key Value) (current : Tree) (x : TxnView) (t : Transaction) → StandsForTxn b told kv current x t
      → TxnBytes (are_in set) (lists_have b told (are_in set)) kv x → IsHere (metadata_now kv) → StandsForTxn b later kv current x t
  txn_where kv current x t st here now = record {
    sound = sound_where kv x t.ops st.sound here.hand.base here.log;
    base = st.base;
    shown = st.shown;
    replayed = st.replayed;
    tree = stands_where x.tx 0 (metadata_at kv x.at.base) t.tree here.hand.base st.tree;
    now = stands_where x.tx 0 (metadata_now kv) current now st.now;
    since = st.since;
  }

  slot_where : (kv : Store Key Value) (current : Tree) (s : Option TxnView) (o : Option Transaction)
      → ((x : TxnView) (t : Transaction) → s ≡ Some x → StandsForTxn b told kv current x t → StandsForTxn b later kv current x t)
      → StandsForSlot b told kv current s o → StandsForSlot b later kv current s o
  slot_where kv current None None f st = tt
  slot_where kv current None (Some t) f st = absurd st
  slot_where kv current (Some x) None f st = absurd st
  slot_where kv current (Some x) (Some t) f st = f x t refl st

  -- ---- jobs

  -- such a region of a map, or none
  abbrev IsHereRegion : Option RegionValue → Type 0
  IsHereRegion now = MaybeBytes (are_in set) (lists_have b told (are_in set)) now

  -- what is put in a region's place goes on having its bytes
  pub keeps_where : (now value : Option RegionValue) → MaybeBytes (is_told told) (is_listed b told) now → IsHereRegion now → IsHereRegion value
      → KeepsRegion b told now value → KeepsRegion b later now value
  keeps_where None None known was is h = tt
  keeps_where None (Some x) known was is h = absurd h
  keeps_where (Some v) None known was is h = absurd h
  keeps_where (Some v) (Some x) known was is h = record {
    same = record {
      end = h.same.end;
      bytes = λ y.
          let byte = told_byte told (region_origin (lists_in b told) (Some v) y) (region_origin_has b told (is_told told) refl (Some v) y known) in
          region_means_where set told later on b (Some x) y byte.0 is (h.same.bytes y ∙ byte.1)
          ∙ sym (region_means_where set told later on b (Some v) y byte.0 was byte.1);
    };
    named = region_passes set b told (is_told told, is_listed b told) (is_told later, is_listed b later) told_on x h.named is;
  }

  pub job_where : (kv : Store Key Value) (x : JobView) (t : Job) → IsHere (metadata_at kv x.base) → IsHereRegion x.value → StandsForJob b told kv x t
      → StandsForJob b later kv x t
  job_where kv x t here value st =
      let w : Map = metadata_at kv x.base in
      let now = target_region w x.target in
      let was : IsHereRegion now =
      region_of_bytes (are_in set) (lists_have b told (are_in set)) (w (Region x.target.inode x.target.region))
      (here (Region x.target.inode x.target.region)) in
      record {
        path = st.path;
        region = st.region;
        kind = st.kind;
        base = st.base;
        leads = st.leads;
        known = maybe_passes set b told (is_told told, is_listed b told) (is_told later, is_listed b later) told_on now st.known was;
        keeps = keeps_where now x.value st.known was value st.keeps;
        touched = st.touched;
      }

  label_where : (kv : Store Key Value) (s : Option JobView) (o : Option Job)
      → ((x : JobView) (t : Job) → s ≡ Some x → StandsForJob b told kv x t → StandsForJob b later kv x t)
      → StandsForLabel b told kv s o → StandsForLabel b later kv s o
  label_where kv None None f st = tt
  label_where kv None (Some t) f st = absurd st
  label_where kv (Some x) None f st = absurd st
  label_where kv (Some x) (Some t) f st = f x t refl st

  -- ---- images, and all tables

  pub image_where : (tables : TablesView) (n : ℕ) (may : List Tree) → IsHere (metadata_at tables.kv n) → IsImageTree b told tables n may
      → IsImageTree b later tables n may
  image_where tables n may here is = record {
    tree = is.tree;
    listed = is.listed;
    before = is.before;
    stands = λ tx le. stands_where tx 0 (metadata_at tables.kv n) is.tree here (is.stands tx le);
  }

  -- tables all of whose names lie in the set stand for the machine that they stood for
  pub tables_where : (tables : TablesView) (m : Machine) → AreSound tables → ListedBytes b told (are_in set) tables → TablesStand b told tables m
      → TablesStand b later tables m
  tables_where tables m sound here st =
      let now : IsHere (metadata_now tables.kv) = now_bytes (are_in set) (lists_have b told (are_in set)) tables here in
      let at : (n : ℕ) → IsTrue (is_pinned tables.kv n) → IsHere (metadata_at tables.kv n) = λ n pinned. here.live n (pinned_live tables.kv n pinned) in
      record {
        number = st.number;
        each = λ c. slot_where tables.kv m.now (of_client tables.clients c) _
            (λ x t is one. txn_where tables.kv m.now x t one (here.each c x is) now) (st.each c);
        jobs = λ j. label_where tables.kv (of_label tables.beside.jobs j) _
            (λ x t is one. job_where tables.kv x t (at x.base (job_pinned tables j x sound is)) (here.planned j x is) one) (st.jobs j);
        later = λ tx le. stands_where tx 0 (metadata_now tables.kv) m.now now (st.later tx le);
        before = st.before;
        none = st.none;
        images = λ n there. image_where tables n m.may_be_saved (at n (kept_pinned tables n sound there)) (st.images n there);
      }

-- ---- what holds of all that is named

module _ (set : Place → Bool) (b : ℕ) (told : Told) (F G : Tests) (pass : Passes set b told F G) where
  own_passes : (o : Option Slice) → OwnBytes F.0 o → OwnBytes (are_in set) o → OwnBytes G.0 o
  own_passes None h here = tt
  own_passes (Some s) h here = slice_passes set b told F G pass s h here

  pub log_passes : (log : Calls) → LogBytes F.0 log → LogBytes (are_in set) log → LogBytes G.0 log
  log_passes log h here = λ k d below. own_passes (own_of (get_or log.ops k d)) (h k d below) (here k d below)

  pub txn_passes : (kv : Store Key Value) (x : TxnView) → TxnBytes F.0 F.1 kv x → TxnBytes (are_in set) (lists_have b told (are_in set)) kv x
      → TxnBytes G.0 G.1 kv x
  txn_passes kv x h here = record {
    hand = record {
      base = map_passes set b told F G pass (metadata_at kv x.at.base) h.hand.base here.hand.base;
      changes = edits_pass set b told F G pass x.at.changes h.hand.changes here.hand.changes;
      slices = session_passes set b told F G pass x.session h.hand.slices here.hand.slices;
    };
    log = log_passes x.log h.log here.log;
  }

  pub tables_pass : (tables : TablesView) → TablesBytes F.0 F.1 tables → ListedBytes b told (are_in set) tables → TablesBytes G.0 G.1 tables
  tables_pass tables h here = record {
    live = λ n is. map_passes set b told F G pass (metadata_at tables.kv n) (h.live n is) (here.live n is);
    each = λ c x is. txn_passes tables.kv x (h.each c x is) (here.each c x is);
    planned = λ j x is. maybe_passes set b told F G pass x.value (h.planned j x is) (here.planned j x is);
  }

module _ (set : Place → Bool) (told later : Told) (on : TellsWhere set told later) (b : ℕ) where
  -- P holds of the places of each byte that the tables name, and then R does, of places in the set: so it does of each byte that they name
  -- over the later stores
  pub listed_where : (P R : List Place → Bool) → ((qs : List Place) → P qs ≡ true → are_in set qs ≡ true → R qs ≡ true) → (tables : TablesView)
      → ListedBytes b told P tables → ListedBytes b told (are_in set) tables → ListedBytes b later R tables
  listed_where P R stays tables h here = tables_pass set b told (P, lists_have b told P) (R, lists_have b later R) (passes_on set told later on b P R stays)
      tables h here

  -- what a transaction names that its base names, or that it stored itself, is named so over the later stores
  pub own_txn_where : (kv : Store Key Value) (x : TxnView) → TxnBytes (are_in set) (lists_have b told (are_in set)) kv x → IsOwnTxn b told kv x
      → IsOwnTxn b later kv x
  own_txn_where kv x here own P hole base log =
      let F : Tests = (P, lists_have b told P) in
      let G : Tests = (P, lists_have b later P) in
      let w = metadata_at kv x.at.base in
      txn_passes set b told F G (passes_on set told later on b P P (λ qs h at. h)) kv x
      (own P hole (map_passes set b told G F (passes_back set told later on b P) w base here.hand.base) log) here

  -- and what a job names
  pub own_job_where : (kv : Store Key Value) (x : JobView) → MapBytes (are_in set) (lists_have b told (are_in set)) (metadata_at kv x.base)
      → MaybeBytes (are_in set) (lists_have b told (are_in set)) x.value → IsOwnJob b told kv x → IsOwnJob b later kv x
  own_job_where kv x here value own P hole base stored =
      let F : Tests = (P, lists_have b told P) in
      let G : Tests = (P, lists_have b later P) in
      let now = target_region (metadata_at kv x.base) x.target in
      let was = region_of_bytes (are_in set) (lists_have b told (are_in set)) (metadata_at kv x.base (Region x.target.inode x.target.region))
      (here (Region x.target.inode x.target.region)) in
      maybe_passes set b told F G (passes_on set told later on b P P (λ qs h at. h)) x.value
      (own P hole (maybe_passes set b told G F (passes_back set told later on b P) now base was) stored) value
