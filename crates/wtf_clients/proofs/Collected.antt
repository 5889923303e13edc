-- A collection frees only what is named by nothing: all that is named is told as before, and lies apart from what was freed.
-- NSDI 2016, section 2.8 (garbage collection in two scans).
use Rattle.wtf_clients.proofs.Common.{IsTrue, Machine, Tree, are_in, is_told, Stands, stores, told_in, Extent, LiesOn, lie_in, RunView, IsSafe, AreWide, length}
use Rattle.wtf_clients.proofs.Common.{not, Slice, Range, Place, Told, Map, Dev, off, LieIn, ◌≡◌, ◌≤◌, Bool, true, ◌&&◌, List, Some, sym, subst, ⊎_elim, arith}
use Rattle.wtf_clients.proofs.Common.{Contains, or_cases, KindLaws, size_in, is_live, MapBytes, is_inside, NamesNone, is_below, IsMissed, AreSound, AreWithin}
use Rattle.wtf_clients.proofs.Common.{All-weaker, lies_apart, are_apart, remembered, lists_have, is_garbage, TablesView, has_copies, TellsWhere, TellsTables, ℕ}
use Rattle.wtf_clients.proofs.Common.{StoreKind, tells_all-kept, metadata_at, with_ranges, inside_stays, region_in_map, extents_cover, TablesBytes, TablesStand}
use Rattle.wtf_clients.specs.Named.{ListedBytes}
use Rattle.wtf_clients.proofs.{Images.kept_pinned, JobPins.job_pinned, Lives.pinned_live, Lives.seen_live, OffLaws.Tests, OffLaws.passes_back}
use Rattle.wtf_clients.proofs.{OffLaws.maybe_passes, OffLaws.is_told_where, OffStanding.stands_where, OffStanding.tables_where, OffStanding.listed_where}
use Rattle.wtf_clients.proofs.{OffStanding.own_txn_where, OffStanding.own_job_where, Punched.listed_apart, Punched.apart_with, Punched.tells_punched}
use Rattle.wtf_clients.proofs.{SafeLaws.garbage_unnamed, SafeLaws.lie_on, SafeLaws.map_region, Added.sizes_grow, Freeing.with_freed, Freeing.Freed}
use Rattle.wtf_clients.proofs.{Freeing.off_both, Freeing.freed_low, Freeing.ranges_lie, Freeing.with_all}

-- ---- what other extents that were freed leave
freed_bytes : (P : List Place → Bool) (Q : Slice → Bool) (old : TablesView) (freed : List Extent) → TablesBytes P Q old → TablesBytes P Q (with_freed old freed)
freed_bytes P Q old freed h = record { live = h.live; each = h.each; planned = h.planned }

freed_stand : (size : ℕ) (told : Told) (old : TablesView) (freed : List Extent) (m : Machine) → TablesStand size told old m
    → TablesStand size told (with_freed old freed) m
freed_stand size told old freed m st = record {
  number = st.number;
  each = st.each;
  jobs = st.jobs;
  later = st.later;
  before = st.before;
  none = st.none;
  images = λ n there.
      let is = st.images n there in
      record { tree = is.tree; listed = is.listed; before = is.before; stands = is.stands };
}

-- ---- a collection
-- ranges of garbage hold nothing that is named
pub garbage_apart : (size : ℕ) (told : Told) (tables : TablesView) (ranges : List (ℕ × Range)) → IsSafe size told tables
    → ((p : Place) → lie_in ranges p ≡ true → is_garbage tables.beside.gc p ≡ true) → ListedBytes size told (are_apart ranges) tables
garbage_apart size told tables ranges safe are = listed_apart (is_garbage tables.beside.gc) ranges are size told tables (garbage_unnamed size told tables safe)

module _ {S : Type 0} {kind : StoreKind S} (laws : KindLaws kind) {before after : Dev S} {old new : TablesView} (freed : Freed kind before after old new) where
  -- the marks of the scans, and what was freed, lie in the files
  pub collect_lie : LieIn old.beside.gc (size_in kind (stores before)) → LieIn new.beside.gc (size_in kind (stores after))
  collect_lie lie =
      lie_on new.beside.gc (size_in kind (stores before)) (size_in kind (stores after))
      (sizes_grow laws (stores before) (stores after) freed.ranges freed.follows)
      (subst (λ (t : TablesView). LieIn t.beside.gc (size_in kind (stores before))) (sym freed.is) (record {
        older = lie.older;
        newer = lie.newer;
        last = lie.last;
        freed = λ p here. ⊎_elim
            (λ was. lie.freed p was)
            (λ there. let lt = freed_low old freed.ranges freed.garbage p there in let le = lie.older p.server p.file in omega (arith, lt, le))
            (or_cases (extents_cover old.beside.gc.freed p) (lie_in freed.ranges p) (freed.only p here));
      }))

  module _ (safe : IsSafe before.settings.region (told_in kind before) old) where
    abbrev told : Told
    told = told_in kind before

    abbrev later : Told
    later = told_in kind after

    abbrev size : ℕ
    size = before.settings.region

    abbrev set : Place → Bool
    set = lies_apart freed.ranges

    on : TellsWhere set told later
    on = tells_punched laws freed.follows

    pub collect_apart : ListedBytes size told (are_apart freed.ranges) old
    collect_apart = garbage_apart size told old freed.ranges safe freed.garbage

    -- what holds of each byte that is named, as it lies apart from the ranges, holds of it still
    listed_after : (P R : List Place → Bool) → ((qs : List Place) → P qs ≡ true → are_apart freed.ranges qs ≡ true → R qs ≡ true)
        → ListedBytes size told P old → ListedBytes size later R (with_freed old new.beside.gc.freed)
    listed_after P R stays h = freed_bytes R (lists_have size later R) old new.beside.gc.freed
        (listed_where set told later on size P R stays old h collect_apart)

    -- what holds of the tables with what was freed holds of those that are left
    from_view : (Of : TablesView → Type 0) → Of (with_freed old new.beside.gc.freed) → Of new
    from_view Of h = subst Of (sym freed.is) h

    -- ---- collection is safe still
    -- what a scan would miss now it would have missed
    missed_before : AreSound old → (r : RunView) → old.beside.gc.running ≡ Some r → (X : Place → Bool)
        → IsMissed size later old.kv old.beside.gc.newer r X → IsMissed size told old.kv old.beside.gc.newer r X
    missed_before sound r runs X m = record {
      below = m.below;
      unfound = m.unfound;
      ahead = λ n seen i k part.
          let w : Map = metadata_at old.kv n in
          let F : Tests = (off X, lists_have size later (off X)) in
          let G : Tests = (off X, lists_have size told (off X)) in
          maybe_passes set size told F G (passes_back set told later on size (off X)) (region_in_map w i k) (m.ahead n seen i k part)
          (map_region (are_in set) (lists_have size told (are_in set)) w (collect_apart.live n (seen_live old r sound runs n seen)) i k);
    }

    -- none of a set is named, so none is now
    none_now : (X : Place → Bool) → NamesNone size told X old → NamesNone size later X (with_freed old new.beside.gc.freed)
    none_now X h = listed_after (off X) (off X) (λ qs is away. is) h

    pub collect_safe : AreSound old → IsSafe size later new
    collect_safe sound = from_view (IsSafe size later) (record {
      gone = listed_after (off (extents_cover old.beside.gc.freed)) (off (extents_cover new.beside.gc.freed))
          (off_both (extents_cover old.beside.gc.freed) (extents_cover new.beside.gc.freed) freed.ranges freed.only) safe.gone;
      done = none_now (λ p. is_below old.beside.gc.older p && not (extents_cover old.beside.gc.newer.found p)) safe.done;
      going = λ r runs X missed. none_now X (safe.going r runs X (missed_before sound r runs X missed));
      since_txns = safe.since_txns;
      since_jobs = safe.since_jobs;
      own_txns = λ c x is. own_txn_where set told later on size old.kv x (collect_apart.each c x is) (safe.own_txns c x is);
      own_jobs = λ j x is.
          own_job_where set told later on size old.kv x (collect_apart.live x.base (pinned_live old.kv x.base (job_pinned old j x sound is)))
          (collect_apart.planned j x is) (safe.own_jobs j x is);
    })

    -- ---- and the tables stand for what they stood for
    pub collect_tables : (m : Machine) → AreSound old → TablesStand size told old m → TablesStand size later new m
    collect_tables m sound st = from_view (λ (t : TablesView). TablesStand size later t m)
        (freed_stand size later old new.beside.gc.freed m (tables_where set told later on size old m sound collect_apart st))

    -- so do maps that name no byte of the ranges, and those at numbers that can be read are such
    pub collect_map : (tx k : ℕ) (w : Map) (t : Tree) → MapBytes (are_apart freed.ranges) (lists_have size told (are_apart freed.ranges)) w
        → Stands size told tx k w t → Stands size later tx k w t
    collect_map tx k w t away st = stands_where set told later on size tx k w t away st

    pub collect_tree : (n tx k : ℕ) (t : Tree) → IsTrue (is_live old.kv n) → Stands size told tx k (metadata_at old.kv n) t
        → Stands size later tx k (metadata_at new.kv n) t
    collect_tree n tx k t live st = from_view (λ (tables : TablesView). Stands size later tx k (metadata_at tables.kv n) t)
        (collect_map tx k (metadata_at old.kv n) t (collect_apart.live n live) st)

    pub collect_image : (n tx k : ℕ) (t : Tree) → AreSound old → Contains old.beside.images n → Stands size told tx k (metadata_at old.kv n) t
        → Stands size later tx k (metadata_at new.kv n) t
    collect_image n tx k t sound there st = collect_tree n tx k t (pinned_live old.kv n (kept_pinned old n sound there)) st

    -- ---- what is told
    pub collect_names : ListedBytes size told (is_told told) old → ListedBytes size later (is_told later) new
    collect_names h = from_view (λ (t : TablesView). ListedBytes size later (is_told later) t)
        (listed_after (is_told told) (is_told later) (is_told_where set told later on) h)

    pub collect_away : (ranges : List (ℕ × Range)) → ListedBytes size told (are_apart ranges) old
        → ListedBytes size later (are_apart (with_ranges ranges freed.ranges)) new
    collect_away ranges h = from_view (λ (t : TablesView). ListedBytes size later (are_apart (with_ranges ranges freed.ranges)) t)
        (listed_after (are_apart ranges) (are_apart (with_ranges ranges freed.ranges)) (apart_with ranges freed.ranges) h)

    pub collect_wide : AreWide before.settings told old → AreWide before.settings later new
    collect_wide h = from_view (λ (t : TablesView). AreWide before.settings later t)
        (listed_after (has_copies before.settings.replicas) (has_copies before.settings.replicas) (λ qs is away. is) h)

    pub collect_within : before.settings.servers ≤ length (stores before) → AreWithin kind (stores before) before.settings old
        → AreWithin kind (stores after) before.settings new
    collect_within enough h = from_view (λ (t : TablesView). AreWithin kind (stores after) before.settings t)
        (listed_after (is_inside kind (stores before) before.settings) (is_inside kind (stores after) before.settings)
        (λ qs inside away. inside_stays laws freed.follows before.settings enough qs inside) h)

    pub collect_tells : LieIn old.beside.gc (size_in kind (stores before)) → TellsTables kind (stores before) before.settings (remembered before) old
        → TellsTables kind (stores after) before.settings (remembered after) new
    collect_tells lie tells =
        let was : ℕ → ℕ → ℕ = size_in kind (stores before) in
        let now : ℕ → ℕ → ℕ = size_in kind (stores after) in
        let servers : ℕ = before.settings.servers in
        let grows = sizes_grow laws (stores before) (stores after) freed.ranges freed.follows in
        record {
          all = tells_all-kept laws freed.follows tells.all;
          punched = with_ranges tells.punched freed.ranges;
          lie = All-weaker (LiesOn was servers) (LiesOn now servers)
              (λ r h. let le = h.2 in let more = grows r.0 r.1.file in (h.0, h.1, omega (arith, le, more)))
              (with_ranges tells.punched freed.ranges) (with_all (LiesOn was servers) tells.punched freed.ranges tells.lie
              (ranges_lie was servers old.beside.gc.older lie.older freed.ranges freed.apart
              (λ p there. (freed.server p there, freed_low old freed.ranges freed.garbage p there))));
          cache = freed.lists tells.punched tells.cache;
          names = collect_names tells.names;
          away = collect_away tells.punched tells.away;
        }
