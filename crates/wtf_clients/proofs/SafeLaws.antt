-- A line that is no scan and no collection keeps collection safe: what is named then was named, or was just added.
use Rattle.wtf_clients.proofs.Common.{IsTrue, and_parts, both_ways, is_pinned, BaseBytes, is_listed, lists_have, is_garbage, TablesView, FollowsTxn, FollowsJob}
use Rattle.wtf_clients.proofs.Common.{list_any, and_from, or_parts, ltb-true, InodeId, MapBytes, lists_in, list_has, region_of, of_client, NamesNone, last_scan}
use Rattle.wtf_clients.proofs.Common.{cases_Bool, false≢true, RegionValue, MaybeBytes, ValueBytes, metadata_at, lists_in-later, region_in_map, extents_cover, ℕ}
use Rattle.wtf_clients.proofs.Common.{Slice, Place, Spill, Value, Map, RunView, GcView, mark_of, was_job, AreUpto, LieIn, IsSafe, false, nat_eq, Option, ⊎_elim}
use Rattle.wtf_clients.proofs.Common.{is_live, Region, is_told, has_list, TellsOn, TxnView, LogBytes, JobView, ScanView, of_label, is_below, OwnBytes, IsMissed}
use Rattle.wtf_clients.proofs.Common.{Told, off, Went, ◌≡◌, ◌<◌, ◌≤◌, Bool, true, not, ◌&&◌, ◌||◌, List, [], ◌∷◌, None, Some, refl, sym, ap, ◌∙◌, subst, arith}
use Rattle.wtf_clients.specs.Named.{ListedBytes}
use Rattle.wtf_clients.proofs.ToldLaws.{tables_weaker}

-- ---- sets of places
-- places off a set are off each part of it
pub off_less : (X Y : Place → Bool) → ((p : Place) → Y p ≡ true → X p ≡ true) → (ps : List Place) → off X ps ≡ true → off Y ps ≡ true
off_less X Y less [] h = refl
off_less X Y less (p ∷ ps) h =
    let both = and_parts (not (X p)) (off X ps) h in
    and_from (not (Y p)) (off Y ps) (⊎_elim (λ here. absurd (both_ways (X p) (not_true (X p) both.0) (less p here))) (λ none. ap not none) (cases_Bool (Y p)))
    (off_less X Y less ps both.1)
  where
    not_true : (b : Bool) → not b ≡ true → b ≡ false
    not_true true e = absurd (false≢true e)
    not_true false e = refl

-- what names none of a set names none of its parts
pub names_less : (size : ℕ) (told : Told) (X Y : Place → Bool) → ((p : Place) → Y p ≡ true → X p ≡ true) → (tables : TablesView)
    → NamesNone size told X tables → NamesNone size told Y tables
names_less size told X Y less tables h = tables_weaker size told (off X) (off Y) (off_less X Y less) tables h

-- no garbage is named
pub garbage_unnamed : (size : ℕ) (told : Told) (tables : TablesView) → IsSafe size told tables → NamesNone size told (is_garbage tables.beside.gc) tables
garbage_unnamed size told tables safe =
    let g : GcView = tables.beside.gc in names_less size told (λ p. is_below g.older p && not (extents_cover g.newer.found p)) (is_garbage g)
    (λ p here.
    let parts = and_parts (is_below g.older p) (not (extents_cover g.older.found p || (extents_cover g.newer.found p || extents_cover g.freed p))) here in
    let none = or_parts (extents_cover g.older.found p) (extents_cover g.newer.found p || extents_cover g.freed p) (not_any _ parts.1) in
    let rest = or_parts (extents_cover g.newer.found p) (extents_cover g.freed p) none.1 in
    and_from (is_below g.older p) (not (extents_cover g.newer.found p)) parts.0 (ap not rest.0)) tables safe.done
  where
    not_any : (b : Bool) → not b ≡ true → b ≡ false
    not_any true e = absurd (false≢true e)
    not_any false e = refl

-- ---- a region's value over stores that tell more: its base's list is the one that it was
module _ (size : ℕ) (told later : Told) (P : List Place → Bool) (on : TellsOn told later) where
  pub had_list : (s : Slice) → is_listed size told s ≡ true → lists_have size later P s ≡ true → lists_have size told P s ≡ true
  had_list s listed h =
      let was = has_list (is_told told) (lists_in size told s) listed in
      ap (list_has P) (was.1 ∙ sym (lists_in-later told later size s was.0 on was.1)) ∙ h

  base_had : (base : Option Spill) → BaseBytes (is_told told) (is_listed size told) base → BaseBytes P (lists_have size later P) base
      → BaseBytes P (lists_have size told P) base
  base_had None known h = tt
  base_had (Some s) known h = (h.0, had_list s.slice known.1 h.1)

  pub region_had : (now : Option RegionValue) → MaybeBytes (is_told told) (is_listed size told) now → MaybeBytes P (lists_have size later P) now
      → MaybeBytes P (lists_have size told P) now
  region_had None known h = tt
  region_had (Some v) known h = record { base = base_had v.base known.base h.base; entries = h.entries }

-- the region's value of a map
pub map_region : (P : List Place → Bool) (Q : Slice → Bool) (w : Map) → MapBytes P Q w → (i : InodeId) (k : ℕ) → MaybeBytes P Q (region_in_map w i k)
map_region P Q w h i k = by (w (Region i k)) (h (Region i k))
  where
    by : (v : Option Value) → ValueBytes P Q v → MaybeBytes P Q (region_of v)
    by None b = tt
    by (Some (Value.Node n)) b = tt
    by (Some (Value.Names ns)) b = tt
    by (Some (Value.Count n)) b = tt
    by (Some (Value.Last r)) b = tt
    by (Some (Value.Region v)) b = b

-- ---- a line
module _ (size : ℕ) (told later : Told) (Added : (List Place → Bool) → Type 0) (length : ℕ → ℕ → ℕ) (old new : TablesView) (on : TellsOn told later)
    (names : ListedBytes size told (is_told told) old) (lie : LieIn old.beside.gc length)
    (fresh : (X : Place → Bool) → ((p : Place) → X p ≡ true → p.at < length p.server p.file) → Added (off X))
    (held : (r : RunView) → old.beside.gc.running ≡ Some r → (n : ℕ) → list_any (nat_eq n) r.seen ≡ true
    → IsTrue (is_live old.kv n) × IsTrue (is_pinned new.kv n))
    (went : Went size told later Added old new) where
  -- a set below a scan's marks lies below the lengths
  below_length : (s : ScanView) → AreUpto s length → (X : Place → Bool) → ((p : Place) → X p ≡ true → is_below s p ≡ true) → (p : Place) → X p ≡ true
      → p.at < length p.server p.file
  below_length s upto X below p here =
      let lt = ltb-true p.at (mark_of s p.server p.file) (below p here) in
      let le = upto p.server p.file in
      omega (arith, lt, le)

  none_on : (X : Place → Bool) → ((p : Place) → X p ≡ true → p.at < length p.server p.file) → NamesNone size told X old → NamesNone size later X new
  none_on X low h = went.carries (off X) refl (fresh X low) h

  -- what a scan would miss now it would have missed
  missed_before : (r : RunView) → old.beside.gc.running ≡ Some r → (X : Place → Bool) → IsMissed size later new.kv old.beside.gc.newer r X
      → IsMissed size told old.kv old.beside.gc.newer r X
  missed_before r runs X m = record {
    below = m.below;
    unfound = m.unfound;
    ahead = λ n seen i k part.
        let there = held r runs n seen in
        let known : MaybeBytes (is_told told) (is_listed size told) (region_in_map (metadata_at old.kv n) i k) =
        map_region (is_told told) (is_listed size told) (metadata_at old.kv n) (names.live n there.0) i k in
        region_had size told later (off X) on (region_in_map (metadata_at old.kv n) i k) known
        (subst (λ (w : Map). MaybeBytes (off X) (lists_have size later (off X)) (region_in_map w i k)) (went.maps n there.1) (m.ahead n seen i k part));
  }

  -- what a transaction stored lies where it may
  log_on : (X : Place → Bool) → ((p : Place) → X p ≡ true → p.at < length p.server p.file) → (y : TxnView) → new.beside.scan_tx ≤ y.tx
      → (c : ℕ) (o : Option TxnView) → of_client old.clients c ≡ o → FollowsTxn Added o y
      → ((x : TxnView) → of_client old.clients c ≡ Some x → old.beside.scan_tx ≤ x.tx → LogBytes (off X) x.log) → LogBytes (off X) y.log
  log_on X low y late c None is f since = f (off X) (fresh X low)
  log_on X low y late c (Some x) is f since =
      let same = f.0 in
      let bound = went.scan_tx in
      f.1 (off X) (fresh X low) (since x is (omega (arith, late, same, bound)))

  -- and so does what a job stored
  job_on : (X : Place → Bool) → ((p : Place) → X p ≡ true → p.at < length p.server p.file) → (j : ℕ) (y : JobView) → was_job new.beside j ≡ false
      → (o : Option JobView) → of_label old.beside.jobs j ≡ o → FollowsJob Added o y
      → ((x : JobView) → of_label old.beside.jobs j ≡ Some x → was_job old.beside j ≡ false → OwnBytes (off X) x.value) → OwnBytes (off X) y.value
  job_on X low j y unmarked None is f since = f (off X) (fresh X low)
  job_on X low j y unmarked (Some x) is f since =
      subst (λ (z : JobView). OwnBytes (off X) z.value) (sym f) (since x is (sym (went.scan_jobs j x is) ∙ unmarked))

  pub went_safe : IsSafe size told old → IsSafe size later new
  went_safe safe =
      let g : GcView = old.beside.gc in
      let Last : Place → Bool = is_below (last_scan g) in
      let low : (p : Place) → Last p ≡ true → p.at < length p.server p.file = below_length (last_scan g) lie.last Last (λ p is. is) in
      let same : g ≡ new.beside.gc = sym went.gc in
      record {
        gone = subst (λ (e : GcView). NamesNone size later (extents_cover e.freed) new) same (none_on (extents_cover g.freed) lie.freed safe.gone);
        done = subst (λ (e : GcView). NamesNone size later (λ p. is_below e.older p && not (extents_cover e.newer.found p)) new) same
            (none_on (λ p. is_below g.older p && not (extents_cover g.newer.found p))
            (below_length g.older lie.older (λ p. is_below g.older p && not (extents_cover g.newer.found p))
            (λ p here. (and_parts (is_below g.older p) (not (extents_cover g.newer.found p)) here).0)) safe.done);
        going = λ r is X missed.
            let runs : g.running ≡ Some r = ap (λ (e : GcView). e.running) same ∙ is in
            let was : IsMissed size later new.kv g.newer r X =
            subst (λ (e : GcView). IsMissed size later new.kv e.newer r X) (sym same) missed in
            none_on X (below_length g.newer lie.newer X was.below) (safe.going r runs X (missed_before r runs X was));
        since_txns = λ c y is late.
            subst (λ (e : GcView). LogBytes (off (is_below (last_scan e))) y.log) same
            (log_on Last low y late c (of_client old.clients c) refl (went.txns c y is) (λ x there early. safe.since_txns c x there early));
        since_jobs = λ j y is unmarked.
            subst (λ (e : GcView). OwnBytes (off (is_below (last_scan e))) y.value) same
            (job_on Last low j y unmarked (of_label old.beside.jobs j) refl (went.jobs j y is) (λ x there was. safe.since_jobs j x there was));
        own_txns = went.own_txns safe.own_txns;
        own_jobs = went.own_jobs safe.own_jobs;
      }

-- marks and what was freed go on to lie in files that grow
pub lie_on : (g : GcView) (length later : ℕ → ℕ → ℕ) → ((k f : ℕ) → length k f ≤ later k f) → LieIn g length → LieIn g later
lie_on g length later grows lie = record {
  older = λ k f. let a = lie.older k f in let b = grows k f in omega (arith, a, b);
  newer = λ k f. let a = lie.newer k f in let b = grows k f in omega (arith, a, b);
  last = λ k f. let a = lie.last k f in let b = grows k f in omega (arith, a, b);
  freed = λ p here. let a = lie.freed p here in let b = grows p.server p.file in omega (arith, a, b);
}
