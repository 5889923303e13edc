-- A piece of a scan keeps collection safe: what the scan would miss once the parts are done it would have missed before.
use Rattle.wtf_clients.proofs.Common.{IsTrue, list_any, cases_lt, and_from, or_right, not-true, eqb-true, stands_in, PartsRead, of_client, NamesNone, last_scan}
use Rattle.wtf_clients.proofs.Common.{All, pointers_of, EachFollows, value_among, RegionValue, RegionBytes, metadata_at, pointer_has, IsPrunedFrom, kept_region}
use Rattle.wtf_clients.proofs.Common.{cases_Bool, All-weaker, SCAN_PARTS, EntryBytes, MaybeBytes, ValueBytes, base_stays, NamesTables, ListedBytes, TellsTables}
use Rattle.wtf_clients.proofs.Common.{and_parts, both_ways, mod_below, Slice, StoreKind, remembered, lists_have, region_has, next_parts, BesideView, TablesView}
use Rattle.wtf_clients.proofs.Common.{or_left, All-nil, Key, base_has, with_run, of_label, AreSound, KeepsBut, IsPruned, DoesTurn, is_below, OwnBytes, IsMissed}
use Rattle.wtf_clients.proofs.Common.{false_from_ne_true, pointers-len, list_has-true, is_told-later, tells_all_on, region_in_map, extents_cover, with_finished}
use Rattle.wtf_clients.proofs.Common.{eq-eqb, le-leb, lt-ltb, len_of, Region, stores, Extent, LiesOn, run_on, GcView, was_job, with_gc, scan_of, IsSafe, nat_eq}
use Rattle.wtf_clients.proofs.Common.{All-cons, All-head, All-tail, Settings, place_in, KindLaws, lists_in, has_list, shown_in, LogBytes, tells_on, part_has, ℕ}
use Rattle.wtf_clients.proofs.Common.{InodeId, Pointer, Part, size_in, is_live, key_cmp, is_told, or_none, TellsOn, told_in, own_has, part_of, RunView, mark_in}
use Rattle.wtf_clients.proofs.Common.{Range, Entry, Zero, Held, Store, Spill, Value, Told, IsIn, Finds, false, nat_le, nat_lt, [], Option, subst, ⊎_elim, arith}
use Rattle.wtf_clients.proofs.Common.{HasLength, PartBytes, BaseBytes, any_slice, is_listed, region_of, TellLists, are_apart, CacheTrue, slice_has, under_has}
use Rattle.wtf_clients.proofs.Common.{Map, Dev, off, ◌≡◌, ◌+◌, ◌-◌, ◌<◌, ◌≤◌, Bool, true, not, ◌&&◌, cond, min, List, ◌∷◌, map, None, Some, refl, sym, ap, ◌∙◌}
use Rattle.wtf_base.specs.Places.{Place}
use Rattle.wtf_gc.specs.Named.{list_has as names_in}
use Rattle.wtf_clients.proofs.{Added.sizes_grow, Goings.own_txn_later, Goings.own_job_later, JobPins.job_pinned, Lives.pinned_live, Lives.number_live}
use Rattle.wtf_clients.proofs.{Lives.live_cases, Lives.seen_live, SafeLaws.region_had, SafeLaws.map_region, ScanFrames.does_reads, ScanLaws.kept_names}
use Rattle.wtf_clients.proofs.{ScanLaws.kept_own_txns, ScanLaws.kept_own_jobs, ToldLaws.tables_weaker, ToldLaws.tables_later}

-- ---- what has no byte of a set
module _ (X : Place → Bool) where
  -- no byte that passes a test is in the set
  abbrev IsOff : (Place → Bool) → Type 0
  IsOff H = (p : Place) → H p ≡ true → X p ≡ false

  -- a pointer has each byte that it points to
  in_pointer : (q : Pointer) (i : ℕ) → i < q.len → pointer_has q (place_in i q) ≡ true
  in_pointer q i below =
      and_from (nat_eq q.server.0 q.server.0) (nat_eq q.file q.file && (nat_le q.at (q.at + i) && nat_lt (q.at + i) (q.at + q.len)))
      (eq-eqb q.server.0 q.server.0 refl)
      (and_from (nat_eq q.file q.file) (nat_le q.at (q.at + i) && nat_lt (q.at + i) (q.at + q.len)) (eq-eqb q.file q.file refl)
      (and_from (nat_le q.at (q.at + i)) (nat_lt (q.at + i) (q.at + q.len)) (le-leb q.at (q.at + i) (omega arith))
      (lt-ltb (q.at + i) (q.at + q.len) (omega (arith, below)))))

  pointers_off : (n i : ℕ) → i < n → (qs : List Pointer) → All (λ (q : Pointer). q.len ≡ n) qs → IsOff (λ p. list_any (λ q. pointer_has q p) qs)
      → off X (map (place_in i) qs) ≡ true
  pointers_off n i below [] lens h = refl
  pointers_off n i below (q ∷ qs) lens h =
      let Len : Pointer → Type 0 = λ r. r.len ≡ n in
      let len : q.len ≡ n = All-head Len q qs lens in
      let p : Place = place_in i q in
      and_from (not (X p)) (off X (map (place_in i) qs))
      (ap not (h p (or_left (pointer_has q p) (list_any (λ r. pointer_has r p) qs) (in_pointer q i (omega (arith, below, len))))))
      (pointers_off n i below qs (All-tail Len q qs lens) (λ o here. h o (or_right (pointer_has q o) (list_any (λ r. pointer_has r o) qs) here)))

  slice_off : (s : Slice) → IsOff (slice_has s) → PartBytes (off X) (len_of s) (Held s)
  slice_off s h i below = pointers_off (len_of s) i below (pointers_of s) (pointers-len s) h

  part_off : (n : ℕ) (p : Part) → HasLength n p → IsOff (part_has p) → PartBytes (off X) n p
  part_off n Zero len h i below = refl
  part_off n (Held s) len h i below = let same : len_of s ≡ n = len in slice_off s h i (omega (arith, below, same))

  list_off : (es : List Entry) → IsOff (names_in es) → All (EntryBytes (off X)) es
  list_off [] h = All-nil (EntryBytes (off X))
  list_off (e ∷ es) h =
      All-cons (EntryBytes (off X)) e es (part_off e.len e.part e.held (λ p here. h p (or_left (part_has e.part p) (names_in es p) here)))
      (list_off es (λ p here. h p (or_right (part_has e.part p) (names_in es p) here)))

  -- a region whose base's list is told
  module _ (size : ℕ) (told : Told) where
    base_off : (base : Option Spill) → BaseBytes (is_told told) (is_listed size told) base → IsOff (base_has base)
        → IsOff (under_has (lists_in size told) base) → BaseBytes (off X) (lists_have size told (off X)) base
    base_off None known own under = tt
    base_off (Some s) known own under =
        let was = has_list (is_told told) (lists_in size told s.slice) known.1 in (
          slice_off s.slice own,
          list_has-true (off X) (lists_in size told s.slice) was.0 was.1
              (list_off was.0 (λ p here. under p (ap (λ (o : Option (List Entry)). names_in (or_none o) p) was.1 ∙ here))),
        )

    pub region_off : (v : RegionValue) → RegionBytes (is_told told) (is_listed size told) v → IsOff (region_has (lists_in size told) v)
        → RegionBytes (off X) (lists_have size told (off X)) v
    region_off v known h =
        let own : IsOff (own_has v) = λ p here. h p (or_left (own_has v p) (under_has (lists_in size told) v.base p) here) in
        record {
          base = base_off v.base known.base (λ p here. own p (or_left (base_has v.base p) (names_in v.list p) here))
              (λ p here. h p (or_right (own_has v p) (under_has (lists_in size told) v.base p) here));
          entries = list_off v.list (λ p here. own p (or_right (base_has v.base p) (names_in v.list p) here));
        }

-- ---- over stores that tell more tables are as safe as they were
module _ (size : ℕ) (told later : Told) (on : TellsOn told later) (tables : TablesView) (sound : AreSound tables)
    (names : ListedBytes size told (is_told told) tables) where
  region_known : (n : ℕ) → IsTrue (is_live tables.kv n) → (i : InodeId) (k : ℕ)
      → MaybeBytes (is_told told) (is_listed size told) (region_in_map (metadata_at tables.kv n) i k)
  region_known n live i k = map_region (is_told told) (is_listed size told) (metadata_at tables.kv n) (names.live n live) i k

  pub later_safe : IsSafe size told tables → IsSafe size later tables
  later_safe safe = record {
    gone = tables_later size told later (off (extents_cover tables.beside.gc.freed)) on tables safe.gone;
    done = tables_later size told later (off (λ p. is_below tables.beside.gc.older p && not (extents_cover tables.beside.gc.newer.found p))) on
        tables safe.done;
    going = λ r runs X m. tables_later size told later (off X) on tables (safe.going r runs X (record {
      below = m.below;
      unfound = m.unfound;
      ahead = λ n seen i k part. region_had size told later (off X) on (region_in_map (metadata_at tables.kv n) i k)
          (region_known n (seen_live tables r sound runs n seen) i k) (m.ahead n seen i k part);
    }));
    since_txns = safe.since_txns;
    since_jobs = safe.since_jobs;
    own_txns = λ c x there. own_txn_later size told later on tables.kv x (names.each c x there).hand.base (safe.own_txns c x there);
    own_jobs = λ j x there. own_job_later size told later on tables.kv x
        (region_known x.base (pinned_live tables.kv x.base (job_pinned tables j x sound there)) x.target.inode x.target.region) (safe.own_jobs j x there);
  }

-- ---- parts
-- what stands past the parts that are done stands in one that is left
past_parts : (left n : ℕ) (i : InodeId) → SCAN_PARTS - left ≤ part_of i → stands_in (next_parts left n) i ≡ false → SCAN_PARTS - (left - n) ≤ part_of i
past_parts left n i from apart = by (part_of i) from apart
  where
    by : (x : ℕ) → 64 - left ≤ x → (nat_le (64 - left) x && nat_lt x ((64 - left) + min left n)) ≡ false → 64 - (left - n) ≤ x
    by x from apart = ⊎_elim
        (λ below. absurd (both_ways (nat_le (64 - left) x && nat_lt x ((64 - left) + min left n)) apart
        (and_from (nat_le (64 - left) x) (nat_lt x ((64 - left) + min left n)) (le-leb (64 - left) x from) (lt-ltb x ((64 - left) + min left n) below))))
        (λ past. omega (arith, from, past))
        (cases_lt x ((64 - left) + min left n))

-- where none is left there is no other
none_past : (left n : ℕ) (i : InodeId) → left - n ≡ 0 → SCAN_PARTS - left ≤ part_of i → stands_in (next_parts left n) i ≡ false → ⊥
none_past left n i none from apart = by (part_of i) (past_parts left n i from apart) (mod_below i.tx.0 64 (omega arith))
  where
    by : (x : ℕ) → 64 - (left - n) ≤ x → x < 64 → ⊥
    by x past below = omega (arith, past, below, none)

not_none : (r : RunView) → ◌≡◌ {A = Option RunView} None (Some r) → ⊥
not_none r e = cc

-- ---- tables of which only versions that no one sees are gone, and of which the scans may be others
module _ (size : ℕ) (told : Told) (old new : TablesView) (sound : AreSound old) (live : (n : ℕ) → IsTrue (is_live new.kv n) → IsTrue (is_live old.kv n))
    (maps : (n : ℕ) → IsTrue (is_live old.kv n) → metadata_at new.kv n ≡ metadata_at old.kv n) (keeps : KeepsBut old new) (safe : IsSafe size told old) where
  jobs_same : new.beside.jobs ≡ old.beside.jobs
  jobs_same = ap (λ (b : BesideView). b.jobs) keeps.beside

  none_on : (X : Place → Bool) → NamesNone size told X old → NamesNone size told X new
  none_on X h = kept_names old new sound live maps keeps.clients jobs_same (off X) (lists_have size told (off X)) refl h

  -- They are safe where what was freed and the marks of the last scan are the same, and the others find what they have to.
  safe_by : (g : GcView) → new.beside.gc ≡ g → g.freed ≡ old.beside.gc.freed → (last_scan g).marks ≡ (last_scan old.beside.gc).marks
      → NamesNone size told (λ p. is_below g.older p && not (extents_cover g.newer.found p)) old
      → ((r : RunView) → g.running ≡ Some r → (X : Place → Bool) → IsMissed size told new.kv g.newer r X → NamesNone size told X old) → IsSafe size told new
  safe_by g is freed marks done going =
      let back : g ≡ new.beside.gc = sym is in
      let Marked : List ℕ → Place → Bool = λ ms p. nat_lt p.at (mark_in ms p.server p.file) in
      record {
        gone = subst (λ (e : GcView). NamesNone size told (extents_cover e.freed) new) back
            (none_on (extents_cover g.freed) (subst (λ (l : List Extent). NamesNone size told (extents_cover l) old) (sym freed) safe.gone));
        done = subst (λ (e : GcView). NamesNone size told (λ p. is_below e.older p && not (extents_cover e.newer.found p)) new) back
            (none_on (λ p. is_below g.older p && not (extents_cover g.newer.found p)) done);
        going = λ r is_run X missed.
            none_on X (going r (ap (λ (e : GcView). e.running) back ∙ is_run) X (subst (λ (e : GcView). IsMissed size told new.kv e.newer r X) is missed));
        since_txns = λ c x there late.
            let was : of_client old.clients c ≡ Some x = ap (λ l. of_client l c) (sym keeps.clients) ∙ there in
            let bound : new.beside.scan_tx ≡ old.beside.scan_tx = ap (λ (b : BesideView). b.scan_tx) keeps.beside in
            subst (λ (e : GcView). LogBytes (off (is_below (last_scan e))) x.log) back
            (subst (λ (ms : List ℕ). LogBytes (off (Marked ms)) x.log) (sym marks) (safe.since_txns c x was (omega (arith, late, bound))));
        since_jobs = λ j x there unmarked.
            let was : of_label old.beside.jobs j ≡ Some x = ap (λ l. of_label l j) (sym jobs_same) ∙ there in
            let mark : was_job new.beside j ≡ was_job old.beside j = ap (λ (b : BesideView). was_job b j) keeps.beside in
            subst (λ (e : GcView). OwnBytes (off (is_below (last_scan e))) x.value) back
            (subst (λ (ms : List ℕ). OwnBytes (off (Marked ms)) x.value) (sym marks) (safe.since_jobs j x was (sym mark ∙ unmarked)));
        own_txns = kept_own_txns old new sound live maps keeps.clients jobs_same size told safe.own_txns;
        own_jobs = kept_own_jobs old new sound live maps keeps.clients jobs_same size told safe.own_jobs;
      }

  -- where the scans are the same too
  pub same_safe : new.beside.gc ≡ old.beside.gc → IsSafe size told new
  same_safe is = safe_by old.beside.gc is refl refl safe.done (λ r runs X m. safe.going r runs X (record {
    below = m.below;
    unfound = m.unfound;
    ahead = λ n seen i k part.
        subst (λ (w : Map). MaybeBytes (off X) (lists_have size told (off X)) (region_in_map w i k)) (maps n (seen_live old r sound runs n seen))
        (m.ahead n seen i k part);
  }))

  -- ---- the next parts of a scan are done, which the stores tell
  module _ (names : ListedBytes size told (is_told told) old) (r : RunView) (runs : old.beside.gc.running ≡ Some r) (n : ℕ) (found : List Extent)
      (finds : Finds (lists_in size told) new.kv (next_parts r.left n) (extents_cover r.scan.found) (extents_cover found)) where
    abbrev then_run : RunView
    then_run = run_on r n found

    last_marks : (last_scan old.beside.gc).marks ≡ r.scan.marks
    last_marks = ap (λ (o : Option RunView). (scan_of o old.beside.gc.newer).marks) runs

    -- what a region of these parts names was found
    region_found : (X : Place → Bool) → ((p : Place) → X p ≡ true → extents_cover found p ≡ false) → (m : ℕ) → IsTrue (is_live old.kv m) → (i : InodeId) (k : ℕ)
        → stands_in (next_parts r.left n) i ≡ true → MaybeBytes (off X) (lists_have size told (off X)) (region_in_map (metadata_at old.kv m) i k)
    region_found X unfound m readable i k stands = by (metadata_at old.kv m (Region i k)) refl
      where
        by : (v : Option Value) → metadata_at old.kv m (Region i k) ≡ v → MaybeBytes (off X) (lists_have size told (off X)) (region_of v)
        by None is = tt
        by (Some (Value.Node d)) is = tt
        by (Some (Value.Names ns)) is = tt
        by (Some (Value.Count n)) is = tt
        by (Some (Value.Last l)) is = tt
        by (Some (Value.Region v)) is =
            let (number, among) = value_among key_cmp new.kv m (Region i k) (Value.Region v) (ap (λ (w : Map). w (Region i k)) (maps m readable) ∙ is) in
            let there : IsIn new.kv (next_parts r.left n) v = record { at = Region i k; stands = stands; number = number; among = among } in
            let known : RegionBytes (is_told told) (is_listed size told) v =
            subst (ValueBytes (is_told told) (is_listed size told)) is (names.live m readable (Region i k)) in
            region_off X size told v known (λ p here. false_from_ne_true (X p) (λ mine.
            both_ways (extents_cover found p) (unfound p mine) (finds.finds p (record { region = v; there = there; names = here }))))

    -- so what would be missed now would have been missed before, where what is left has none of it
    missed_on : (X : Place → Bool) → ((p : Place) → X p ≡ true → is_below old.beside.gc.newer p ≡ true)
        → ((p : Place) → X p ≡ true → extents_cover found p ≡ false)
        → ((m : ℕ) → list_any (nat_eq m) r.seen ≡ true → (i : InodeId) (k : ℕ) → SCAN_PARTS - r.left ≤ part_of i
        → stands_in (next_parts r.left n) i ≡ false → MaybeBytes (off X) (lists_have size told (off X)) (region_in_map (metadata_at old.kv m) i k))
        → IsMissed size told old.kv old.beside.gc.newer r X
    missed_on X below unfound rest = record {
      below = below;
      unfound = λ p mine. false_from_ne_true (extents_cover r.scan.found p) (λ had. both_ways (extents_cover found p) (unfound p mine) (finds.keeps p had));
      ahead = λ m seen i k part. ⊎_elim
          (λ here. region_found X unfound m (seen_live old r sound runs m seen) i k here)
          (λ later. rest m seen i k part later)
          (cases_Bool (stands_in (next_parts r.left n) i));
    }

    -- parts are left
    more_safe : new.beside.gc ≡ record old.beside.gc { running = Some then_run } → IsSafe size told new
    more_safe is = safe_by (record old.beside.gc { running = Some then_run }) is refl (sym last_marks) safe.done (λ q is_run X missed.
        let both : Some then_run ≡ Some q = is_run in
        let same : q ≡ then_run = cc in
        let m : IsMissed size told new.kv old.beside.gc.newer then_run X =
        subst (λ (q : RunView). IsMissed size told new.kv old.beside.gc.newer q X) same missed in
        safe.going r runs X (missed_on X m.below m.unfound (λ k seen i j from apart.
        subst (λ (w : Map). MaybeBytes (off X) (lists_have size told (off X)) (region_in_map w i j)) (maps k (seen_live old r sound runs k seen))
        (m.ahead k seen i j (past_parts r.left n i from apart)))))

    -- none is left, and the scan has finished
    last_safe : r.left - n ≡ 0 → new.beside.gc ≡ with_finished old.beside.gc then_run.scan → IsSafe size told new
    last_safe none is =
        let X : Place → Bool = λ p. is_below old.beside.gc.newer p && not (extents_cover found p) in
        safe_by (with_finished old.beside.gc then_run.scan) is refl (sym last_marks) (safe.going r runs X (missed_on X
        (λ p here. (and_parts (is_below old.beside.gc.newer p) (not (extents_cover found p)) here).0)
        (λ p here. not-true (extents_cover found p) (and_parts (is_below old.beside.gc.newer p) (not (extents_cover found p)) here).1)
        (λ k seen i j from apart. absurd (none_past r.left n i none from apart))))
        (λ q is_run X missed. absurd (not_none q is_run))

    pub parts_safe : new.beside.gc ≡ with_run old.beside.gc then_run → IsSafe size told new
    parts_safe is =
        let which : Bool → GcView = λ b. cond b (with_finished old.beside.gc then_run.scan) (record old.beside.gc { running = Some then_run }) in
        ⊎_elim
        (λ over. last_safe (eqb-true (r.left - n) 0 over) (is ∙ ap which over))
        (λ some. more_safe (is ∙ ap which some))
        (cases_Bool (nat_eq (r.left - n) 0))

-- ---- a piece
-- what can be read of a pruned store could be read
pub pruned_live : (old new : Store Key Value) → IsPrunedFrom old new → new.pins ≡ old.pins → (n : ℕ) → IsTrue (is_live new n) → IsTrue (is_live old n)
pruned_live old new pruned pins n live = ⊎_elim
    (λ now. subst (λ k. IsTrue (is_live old k)) (sym (now ∙ pruned.number)) (number_live old))
    (λ pinned. pinned_live old n (subst (λ (ps : List ℕ). list_any (nat_eq n) ps ≡ true) pins pinned))
    (live_cases new n live)

-- and no more is named
pub pruned_names : (old new : TablesView) → IsPruned old new → AreSound old → NamesTables old new
pruned_names old new p sound =
    kept_names old new sound (pruned_live old.kv new.kv p.kv p.pins) (λ m live. p.kv.maps m live) p.clients (ap (λ (b : BesideView). b.jobs) p.beside)

pub pruned_keeps : (old new : TablesView) → IsPruned old new → KeepsBut old new
pruned_keeps old new p =
    record { beside = p.beside ∙ sym (ap (λ (b : BesideView). with_gc old.beside b.gc) p.beside); clients = p.clients; next_tx = p.next_tx }

module _ {S : Type 0} {kind : StoreKind S} (laws : KindLaws kind) (before after : Dev S) (goes : EachFollows kind (stores before) (stores after) [])
    (settings : after.settings ≡ before.settings) (old new : TablesView) (sound : AreSound old) where
  abbrev told : Told
  told = told_in kind before

  abbrev later : Told
  later = told_in kind after

  abbrev size : ℕ
  size = before.settings.region

  on : TellsOn told later
  on = tells_on laws goes

  -- lists that were remembered and true are so still
  abbrev StayTrue : Type 0
  StayTrue = (ranges : List (ℕ × Range)) → CacheTrue (shown_in kind before) size ranges (remembered before)
      → CacheTrue (shown_in kind after) size ranges (remembered after)

  -- what was apart of ranges is so still, where no other bytes are named
  away_on : NamesTables old new → (ranges : List (ℕ × Range)) → ListedBytes size told (are_apart ranges) old → ListedBytes size later (are_apart ranges) new
  away_on same ranges away =
      same (are_apart ranges) (lists_have size later (are_apart ranges)) refl (tables_later size told later (are_apart ranges) on old away)

  module _ (tells : TellsTables kind (stores before) before.settings (remembered before) old) where
    names_later : ListedBytes size later (is_told later) old
    names_later =
        tables_weaker size later (is_told told) (is_told later) (λ qs is. is_told-later told later qs on is) old
        (tables_later size told later (is_told told) on old tells.names)

    -- they tell still
    pub tells_after : StayTrue → NamesTables old new → TellsTables kind (stores after) before.settings (remembered after) new
    tells_after lists same =
        let Was : ℕ × Range → Type 0 = LiesOn (size_in kind (stores before)) before.settings.servers in
        let Is : ℕ × Range → Type 0 = LiesOn (size_in kind (stores after)) before.settings.servers in
        record {
          all = tells_all_on laws goes tells.all;
          punched = tells.punched;
          lie = All-weaker Was Is (λ (r : ℕ × Range) h.
              let grows = sizes_grow laws (stores before) (stores after) [] goes r.0 r.1.file in
              let le = h.2 in
              (h.0, h.1, omega (arith, grows, le))) tells.punched tells.lie;
          cache = lists tells.punched tells.cache;
          names = same (is_told later) (lists_have size later (is_told later)) refl names_later;
          away = away_on same tells.punched tells.away;
        }

    -- what is named passes a test, and so do the slices of the bases that parts read
    bases_on : (P : List Place → Bool) → ListedBytes size told P old → IsPrunedFrom old.kv new.kv → (left n : ℕ) (v : RegionValue)
        → IsIn new.kv (next_parts left n) v → BaseBytes P any_slice v.base
    bases_on P h pruned left n v there =
        base_stays P P (λ qs is. is) (lists_have size told P) any_slice (λ s is. refl) v.base
        (kept_region P (lists_have size told P) old.kv new.kv pruned h.live (next_parts left n) v there).base

    -- so the lists that they read are those that the stores tell
    parts_tell : (left n : ℕ) (b a : Place → Bool) → IsPrunedFrom old.kv new.kv
        → (read : PartsRead kind before after new.kv (next_parts left n) b a) → TellLists (lists_in size later) read.facts
    parts_tell left n b a pruned read =
        subst (λ (st : Settings). TellLists (lists_in st.region later) read.facts) settings (read.told tells.punched tells.cache
        (read.slices (is_told told) any_slice (λ v there. bases_on (is_told told) tells.names pruned left n v there))
        (read.slices (are_apart tells.punched) any_slice (λ v there. bases_on (are_apart tells.punched) tells.away pruned left n v there)))

    module _ (n left : ℕ) (turn : DoesTurn kind before after old new n left) where
      -- and they find what the versions of their keys name there
      pub piece_finds : Finds (lists_in size later) new.kv (next_parts turn.does.run.left n) (extents_cover turn.does.run.scan.found)
          (extents_cover turn.does.found)
      piece_finds =
          turn.does.reads.finds (lists_in size later)
          (parts_tell turn.does.run.left n (extents_cover turn.does.run.scan.found) (extents_cover turn.does.found) turn.prunes turn.does.reads)

      -- no other bytes are named
      pub piece_names : NamesTables old new
      piece_names =
          kept_names old new sound (does_reads kind before after old new n left sound turn) (λ m live. turn.prunes.maps m live) turn.keeps.clients
          (ap (λ (b : BesideView). b.jobs) turn.keeps.beside)

      pub piece_tells : StayTrue → TellsTables kind (stores after) before.settings (remembered after) new
      piece_tells lists = tells_after lists piece_names

      -- and collection stays safe
      pub piece_safe : IsSafe size told old → IsSafe size later new
      piece_safe safe =
          parts_safe size later old new sound (does_reads kind before after old new n left sound turn) (λ m live. turn.prunes.maps m live) turn.keeps
          (later_safe size told later on old sound tells.names safe) names_later turn.does.run turn.does.was n turn.does.found piece_finds turn.does.is

    -- a piece that was not done
    module _ (p : IsPruned old new) where
      pub pruned_tells : StayTrue → TellsTables kind (stores after) before.settings (remembered after) new
      pruned_tells lists = tells_after lists (pruned_names old new p sound)

      pub pruned_safe : IsSafe size told old → IsSafe size later new
      pruned_safe safe = same_safe size later old new sound (pruned_live old.kv new.kv p.kv p.pins) (λ m live. p.kv.maps m live) (pruned_keeps old new p)
          (later_safe size told later on old sound tells.names safe) (ap (λ (b : BesideView). b.gc) p.beside)
