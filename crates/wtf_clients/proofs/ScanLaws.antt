-- Scans and collections keep collection safe: what a scan sees when it begins, what its parts find, and what is freed.
use Rattle.wtf_clients.proofs.Common.{IsTrue, true≢false, All-weaker, InodeId, Slice, StoreKind, Place, part_origin, Held, Store, is_live, Key, RegionValue}
use Rattle.wtf_clients.proofs.Common.{Value, MaybeBytes, ValueBytes, MapBytes, any_slice, Told, region_of, Map, metadata_at, own_of, base_stays, SliceBytes}
use Rattle.wtf_clients.proofs.Common.{TxnView, LogBytes, lists_have, JobView, region_in_map, target_region, extents_cover, ScanView, RunView, GcView}
use Rattle.wtf_clients.proofs.Common.{TablesView, BesideView, of_client, of_label, was_job, AreSound, NamesTables, HasKinds, is_region_key, StartsTurn, off}
use Rattle.wtf_clients.proofs.Common.{NamesNone, is_below, scan_of, last_scan, OwnBytes, IsOwnTxn, IsOwnJob, IsMissed, IsSafe, ◌≡◌, ℕ, Bool, true, false, not}
use Rattle.wtf_clients.proofs.Common.{◌&&◌, List, Option, None, Some, is_some, refl, sym, ap, ◌∙◌, subst, arith}
use Rattle.wtf_clients.proofs.{JobPins.job_pinned, Lives.pinned_live, Naming.txn_along, Pins.base_pinned, SafeLaws.off_less, SafeLaws.map_region}

-- ---- maps
-- what holds of each region of a map holds of all of it, where only regions name bytes
keys_bytes : (P : List Place → Bool) (Q : Slice → Bool) (w : Map) → HasKinds w → ((i : InodeId) (k : ℕ) → MaybeBytes P Q (region_in_map w i k)) → MapBytes P Q w
keys_bytes P Q w kinds regions q = by q (w q) refl
  where
    of_region : (v : Option Value) → MaybeBytes P Q (region_of v) → ValueBytes P Q v
    of_region None h = tt
    of_region (Some (Value.Node n)) h = tt
    of_region (Some (Value.Names ns)) h = tt
    of_region (Some (Value.Count n)) h = tt
    of_region (Some (Value.Last r)) h = tt
    of_region (Some (Value.Region v)) h = h

    no_region : (r : Key) (v : Option Value) → w r ≡ v → is_region_key r ≡ false → ValueBytes P Q v
    no_region r None is none = tt
    no_region r (Some (Value.Node n)) is none = tt
    no_region r (Some (Value.Names ns)) is none = tt
    no_region r (Some (Value.Count n)) is none = tt
    no_region r (Some (Value.Last l)) is none = tt
    no_region r (Some (Value.Region v)) is none = absurd (true≢false (sym (kinds r v is) ∙ none))

    by : (r : Key) (v : Option Value) → w r ≡ v → ValueBytes P Q v
    by (Key.Region i k) v is = of_region v (subst (λ o. MaybeBytes P Q (region_of o)) is (regions i k))
    by e v is = no_region e v is refl

-- a transaction or a job whose map at its base stays names still only what is its own
pub own_txn_along : (size : ℕ) (told : Told) (kv after : Store Key Value) (x : TxnView) → metadata_at after x.at.base ≡ metadata_at kv x.at.base
    → IsOwnTxn size told kv x → IsOwnTxn size told after x
own_txn_along size told kv after x same own P hole base log =
    txn_along P (lists_have size told P) kv after x same (own P hole (subst (MapBytes P (lists_have size told P)) same base) log)

pub own_job_along : (size : ℕ) (told : Told) (kv after : Store Key Value) (x : JobView) → metadata_at after x.base ≡ metadata_at kv x.base
    → IsOwnJob size told kv x → IsOwnJob size told after x
own_job_along size told kv after x same own P hole base stored =
    own P hole (subst (λ (w : Map). MaybeBytes P (lists_have size told P) (target_region w x.target)) same base) stored

-- the base of a transaction that is open can be read, and so can that of a job
txn_live : (tables : TablesView) (c : ℕ) (x : TxnView) → AreSound tables → of_client tables.clients c ≡ Some x → IsTrue (is_live tables.kv x.at.base)
txn_live tables c x sound there = pinned_live tables.kv x.at.base (base_pinned tables.kv tables.clients tables.beside c x sound.pins there)

job_live : (tables : TablesView) (j : ℕ) (x : JobView) → AreSound tables → of_label tables.beside.jobs j ≡ Some x → IsTrue (is_live tables.kv x.base)
job_live tables j x sound there = pinned_live tables.kv x.base (job_pinned tables j x sound there)

-- what a log or a job stored goes on passing tests that more pass
log_stays : (P R : List Place → Bool) → ((ps : List Place) → P ps ≡ true → R ps ≡ true) → (x : TxnView) → LogBytes P x.log → LogBytes R x.log
log_stays P R more x h = All-weaker (λ o. SliceBytes P (own_of o)) (λ o. SliceBytes R (own_of o)) (λ o own. slice_stays (own_of o) own) x.log.ops h
  where
    slice_stays : (s : Option Slice) → SliceBytes P s → SliceBytes R s
    slice_stays None own = tt
    slice_stays (Some s) own = λ i below. more (part_origin (Held s) i) (own i below)

own_stays : (P R : List Place → Bool) → ((ps : List Place) → P ps ≡ true → R ps ≡ true) → (now : Option RegionValue) → OwnBytes P now → OwnBytes R now
own_stays P R more None h = tt
own_stays P R more (Some v) h = base_stays P R more any_slice any_slice (λ s is. is) v.base h

-- ---- tables of which only the scans and the pins differ, or versions that no one sees are gone
module _ (old new : TablesView) (sound : AreSound old) (live : (n : ℕ) → IsTrue (is_live new.kv n) → IsTrue (is_live old.kv n))
    (maps : (n : ℕ) → IsTrue (is_live old.kv n) → metadata_at new.kv n ≡ metadata_at old.kv n)
    (clients : new.clients ≡ old.clients) (jobs : new.beside.jobs ≡ old.beside.jobs) where
  was_txn : (c : ℕ) (x : TxnView) → of_client new.clients c ≡ Some x → of_client old.clients c ≡ Some x
  was_txn c x there = ap (λ l. of_client l c) (sym clients) ∙ there

  was_label : (j : ℕ) (x : JobView) → of_label new.beside.jobs j ≡ Some x → of_label old.beside.jobs j ≡ Some x
  was_label j x there = ap (λ l. of_label l j) (sym jobs) ∙ there

  pub kept_names : NamesTables old new
  kept_names P Q hole h = record {
    live = λ n is. let was = live n is in subst (MapBytes P Q) (sym (maps n was)) (h.live n was);
    each = λ c x is.
        let was = was_txn c x is in
        txn_along P Q old.kv new.kv x (maps x.at.base (txn_live old c x sound was)) (h.each c x was);
    planned = λ j x is. h.planned j x (was_label j x is);
  }

  pub kept_own_txns : (size : ℕ) (told : Told) → ((c : ℕ) (x : TxnView) → of_client old.clients c ≡ Some x → IsOwnTxn size told old.kv x)
      → (c : ℕ) (x : TxnView) → of_client new.clients c ≡ Some x → IsOwnTxn size told new.kv x
  kept_own_txns size told own c x is =
      let was = was_txn c x is in
      own_txn_along size told old.kv new.kv x (maps x.at.base (txn_live old c x sound was)) (own c x was)

  pub kept_own_jobs : (size : ℕ) (told : Told) → ((j : ℕ) (x : JobView) → of_label old.beside.jobs j ≡ Some x → IsOwnJob size told old.kv x)
      → (j : ℕ) (x : JobView) → of_label new.beside.jobs j ≡ Some x → IsOwnJob size told new.kv x
  kept_own_jobs size told own j x is =
      let was = was_label j x is in
      own_job_along size told old.kv new.kv x (maps x.base (job_live old j x sound was)) (own j x was)

-- ---- a scan begins
module _ {S : Type 0} (kind : StoreKind S) (shelf : List S) (size : ℕ) (told : Told) (old new : TablesView) (sound : AreSound old)
    (kinds : (n : ℕ) → IsTrue (is_live old.kv n) → HasKinds (metadata_at old.kv n)) (turn : StartsTurn kind shelf old new)
    (live : (n : ℕ) → IsTrue (is_live new.kv n) → IsTrue (is_live old.kv n))
    (maps : (n : ℕ) → IsTrue (is_live old.kv n) → metadata_at new.kv n ≡ metadata_at old.kv n) (safe : IsSafe size told old) where
  jobs_same : new.beside.jobs ≡ old.beside.jobs
  jobs_same = ap (λ (b : BesideView). b.jobs) turn.beside

  names : NamesTables old new
  names = kept_names old new sound live maps turn.clients jobs_same

  -- what was stored since lies past the marks of the scan before
  off_newer : (X : Place → Bool) → ((p : Place) → X p ≡ true → is_below old.beside.gc.newer p ≡ true) → (ps : List Place)
      → off (is_below (last_scan old.beside.gc)) ps ≡ true → off X ps ≡ true
  off_newer X below ps h =
      let newer : last_scan old.beside.gc ≡ old.beside.gc.newer = ap (λ (o : Option RunView). scan_of o old.beside.gc.newer) turn.free in
      off_less (is_below old.beside.gc.newer) X below ps (subst (λ (s : ScanView). off (is_below s) ps ≡ true) newer h)

  -- so what no part will find is named by nothing
  none_missed : (X : Place → Bool) → IsMissed size told new.kv old.beside.gc.newer turn.starts.run X → NamesNone size told X old
  none_missed X m =
      let P : List Place → Bool = off X in
      let Q : Slice → Bool = lists_have size told P in
      let all_left = turn.starts.left in
      let at : (n : ℕ) → IsTrue (is_live old.kv n) → MapBytes P Q (metadata_at old.kv n) = λ n is. keys_bytes P Q (metadata_at old.kv n) (kinds n is) (λ i k.
      subst (λ (w : Map). MaybeBytes P Q (region_in_map w i k)) (maps n is) (m.ahead n (turn.starts.seen n ∙ is) i k (omega (arith, all_left)))) in
      record {
        live = at;
        each = λ c x there.
            safe.own_txns c x there P refl (at x.at.base (txn_live old c x sound there))
            (log_stays (off (is_below (last_scan old.beside.gc))) P (off_newer X m.below) x (safe.since_txns c x there (turn.no_txn c x there)));
        planned = λ j x there.
            safe.own_jobs j x there P refl
            (map_region P Q (metadata_at old.kv x.base) (at x.base (job_live old j x sound there)) x.target.inode x.target.region)
            (own_stays (off (is_below (last_scan old.beside.gc))) P (off_newer X m.below) x.value (safe.since_jobs j x there (unmarked j x there)));
      }
    where
      unmarked : (j : ℕ) (x : JobView) → of_label old.beside.jobs j ≡ Some x → was_job old.beside j ≡ false
      unmarked j x there = ap (λ (o : Option JobView). is_some o && was_job old.beside j) (sym there) ∙ turn.no_job j

  pub start_safe : IsSafe size told new
  start_safe =
      let g : GcView = old.beside.gc in
      let started : GcView = record g { running = Some turn.starts.run } in
      let back : started ≡ new.beside.gc = sym turn.starts.is in
      record {
        gone = subst (λ (e : GcView). NamesNone size told (extents_cover e.freed) new) back
            (names (off (extents_cover g.freed)) (lists_have size told (off (extents_cover g.freed))) refl safe.gone);
        done =
            let D : Place → Bool = λ p. is_below g.older p && not (extents_cover g.newer.found p) in
            subst (λ (e : GcView). NamesNone size told (λ p. is_below e.older p && not (extents_cover e.newer.found p)) new) back
            (names (off D) (lists_have size told (off D)) refl safe.done);
        going = λ r is X missed.
            let same : Some turn.starts.run ≡ Some r = ap (λ (e : GcView). e.running) back ∙ is in
            let run : r ≡ turn.starts.run = cc in
            let was : IsMissed size told new.kv g.newer turn.starts.run X =
            subst (λ (q : RunView). IsMissed size told new.kv g.newer q X) run
            (subst (λ (e : GcView). IsMissed size told new.kv e.newer r X) (sym back) missed) in
            names (off X) (lists_have size told (off X)) refl (none_missed X was);
        since_txns = λ c x is late.
            let was : of_client old.clients c ≡ Some x = ap (λ l. of_client l c) (sym turn.clients) ∙ is in
            let older = (sound.each c x was).older in
            let bound = turn.scan_tx in
            absurd (omega (arith, late, older, bound));
        since_jobs = λ j x is unmarked.
            let was : of_label old.beside.jobs j ≡ Some x = ap (λ l. of_label l j) (sym jobs_same) ∙ is in
            absurd (true≢false (ap is_some (sym was) ∙ sym (turn.scan_jobs j) ∙ unmarked));
        own_txns = kept_own_txns old new sound live maps turn.clients jobs_same size told safe.own_txns;
        own_jobs = kept_own_jobs old new sound live maps turn.clients jobs_same size told safe.own_jobs;
      }
