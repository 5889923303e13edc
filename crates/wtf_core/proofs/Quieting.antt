-- A quiet ending goes on, line by line: a scan that begins, parts that are done, and all other scans, pieces and collections. And a save behind one
-- that has collected leaves an image that names each byte of the server that was not freed.
use Rattle.wtf_core.proofs.Common.{IsTrue, get, option_map, and_parts, Fault, InodeId, Settings, Place, EachFollows, Range, StoreKind, KindLaws, byte_at}
use Rattle.wtf_core.proofs.Common.{shown_byte, SameLengths, Span, Store, is_live, Key, RegionValue, Spill, Value, Answer, NoServer, ScanBusy, NoScan, Event}
use Rattle.wtf_core.proofs.Common.{Machine, Transaction, Job, Tree, BaseBytes, ValueBytes, MapBytes, ListSlices, any_slice, Told, is_told, is_listed, lists_in}
use Rattle.wtf_core.proofs.Common.{TellLists, Map, metadata_at, has_list, TellsOn, lists_in-later, map_stays, Dev, lies_apart, are_apart, Remembered, CacheTrue}
use Rattle.wtf_core.proofs.Common.{remembered, told_in, shown_in, IsBaseFault, fault_answer, lists_have, TxnView, tells_on, HasText, plain, IsSavable, shown}
use Rattle.wtf_core.proofs.Common.{says_all, stands_savable, JobView, extents_cover, lie_in, region_has, part_of, next_parts, IsPieceFault, ScanView, RunView}
use Rattle.wtf_core.proofs.Common.{GcView, is_garbage, kept_region, KeeperSpan, HasSaved, ListedBytes, AddsBytes, load_of, StartsTurn, DoesTurn, PieceFails}
use Rattle.wtf_core.proofs.Common.{AreSound, StandsForSlot, StandsForLabel, Clients, BesideView, TablesView, of_client, of_label, metadata_now, lists_in_same}
use Rattle.wtf_core.proofs.Common.{listed_apart, tells_punched, garbage_unnamed, start_maps, start_reads, start_sound, LeavesNamed, scene, CorePunches}
use Rattle.wtf_core.proofs.Common.{MapNames, ImageNames, IsIdle, AreIdle, WatchesNoOther, Stage, Saved, Scans, Scanned, ScansAgain, ScannedTwice, stage_begun}
use Rattle.wtf_core.proofs.Common.{stage_done, next_stage, IsScanned, IsBegun, HasScans, IsAtStage, HasCollected, StandsFor, TellsCore, GoesOnQuietly}
use Rattle.wtf_core.proofs.Common.{IsByDevices, LineTurn, CoreView, ◌≡◌, ◌<◌, ℕ, ◌-◌, Bool, true, false, ◌||◌, ◌&&◌, nat_eq, List, [], ◌∷◌, Option, None, Some}
use Rattle.wtf_core.proofs.Common.{refl, sym, ◌∙◌, ap, subst, inl, inr, true≢false, arith}
use Rattle.wtf_core.specs.Quiet.{is_kept}
use Rattle.wtf_core.proofs.Carried.{SameBases, AllSameBases, ReadsSame, reads_same, names_on, size_same, scanned_later}
use Rattle.wtf_core.proofs.Idling.{live_kept, kept_live, kept_same}
use Rattle.wtf_core.proofs.Moving.{some_is, none_some, IsCollection, InPlace, SameRest, rest_of, long_on, Moves, Leaves, moves_quietly, plainly}
use Rattle.wtf_core.proofs.Moving.{still_collected, steady, still, collects}
use Rattle.wtf_core.proofs.Parted.{part_rest, part_stays, more, done}
use Rattle.wtf_core.proofs.Freeing.{frees_move, leaves}

-- ---- lists of bases that are told as before
-- P holds of a base of such a map
base_of : (P : List Place → Bool) (Q : _ → Bool) (w : Map) (i : InodeId) (r : ℕ) (v : RegionValue) (s : Spill) → MapBytes P Q w
    → w (Key.Region i r) ≡ Some (Value.Region v) → v.base ≡ Some s → BaseBytes P Q (Some s)
base_of P Q w i r v s bytes there base = by (subst (ValueBytes P Q) there (bytes (Key.Region i r)))
  where
    by : ValueBytes P Q (Some (Value.Region v)) → BaseBytes P Q (Some s)
    by h = subst (BaseBytes P Q) base h.base

-- stores that tell more
bases_told : (size : ℕ) (told later : Told) (w : Map) → TellsOn told later → MapBytes (is_told told) (is_listed size told) w → SameBases size told later w
bases_told size told later w on bytes i r v s there base =
    let known = base_of (is_told told) (is_listed size told) w i r v s bytes there base in
    let was = has_list (is_told told) (lists_in size told s.slice) known.1 in
    lists_in-later told later size s.slice was.0 on was.1 ∙ sym was.1

-- and stores of which ranges were punched of which the map names no byte
bases_punched : {S : Type 0} {kind : StoreKind S} → KindLaws kind → {old new : List S} {ranges : List (ℕ × Range)} → EachFollows kind old new ranges
    → (size : ℕ) (w : Map) → MapBytes (are_apart ranges) (lists_have size (byte_at kind old) (are_apart ranges)) w
    → SameBases size (byte_at kind old) (byte_at kind new) w
bases_punched {kind = kind} laws {old = old} {new = new} {ranges = ranges} follows size w bytes i r v s there base =
    let known = base_of (are_apart ranges) (lists_have size (byte_at kind old) (are_apart ranges)) w i r v s bytes there base in
    lists_in_same (lies_apart ranges) (byte_at kind old) (byte_at kind new) (tells_punched laws follows) size s.slice known.0 known.1

module _ {S : Type 0} (kind : StoreKind S) (t : Span S) (old new : CoreView) (place : InPlace kind t old new) where
  abbrev told : Told
  told = byte_at kind t.before

  abbrev later : Told
  later = byte_at kind t.after

  -- ---- a scan begins
  module _ (sound : AreSound old.tables) (turn : StartsTurn kind t.before old.tables new.tables) where
    start_rest : SameRest old.tables new.tables
    start_rest = rest_of old.tables new.tables new.tables.beside turn.clients turn.beside turn.starts.pins.number

    -- none ran
    not_begun : IsBegun kind t.before old old.tables.beside.gc.running → ⊥
    not_begun h = subst (λ (o : Option RunView). IsBegun kind t.before old o) turn.free h

    module _ (idle : AreIdle old.tables) where
      was_kept : (n : ℕ) → IsTrue (is_live old.tables.kv n) → is_kept new.tables n ≡ true
      was_kept n live = kept_same old.tables new.tables start_rest.number start_rest.images start_rest.watched n
          ∙ live_kept old.tables sound idle (λ r is. absurd (none_some old.tables.beside.gc.running r turn.free is)) n live

      start_same : ReadsSame old.tables.kv new.tables.kv
      start_same = record {
        on = λ n live. kept_live new.tables (start_sound kind t.before old.tables new.tables sound turn) n (was_kept n live);
        back = start_reads kind t.before old.tables new.tables sound turn;
        maps = λ n live. start_maps kind t.before old.tables new.tables sound turn n;
      }

      -- no part of it is done
      no_part : (x : ℕ) → x < 64 - turn.starts.run.left → ⊥
      no_part x below = let all_left = turn.starts.left in omega (arith, all_left, below)

      begins : IsBegun kind t.after new new.tables.beside.gc.running
      begins =
          let all_left = turn.starts.left in
          subst (λ (o : Option RunView). IsBegun kind t.after new o) (sym (ap (λ (g : GcView). g.running) turn.starts.is)) (record {
            marks = λ k f. turn.starts.mark k f ∙ sym (long_on kind t old new place k f);
            left = omega (arith, all_left);
            all = λ p h. absurd (no_part (part_of h.kept.named.inode) h.part);
            only = λ p here. absurd (true≢false (sym here ∙ ap (λ es. extents_cover es p) turn.starts.found));
            seen = λ n here. was_kept n (sym (turn.starts.seen n) ∙ here);
          })

      newer_begun : IsScanned kind t.before old old.tables.beside.gc.newer → IsScanned kind t.after new new.tables.beside.gc.newer
      newer_begun h = subst (λ (s : ScanView). IsScanned kind t.after new s) (sym (ap (λ (g : GcView). g.newer) turn.starts.is))
          (scanned_later kind t.before t.after old new place.settings (long_on kind t old new place) start_same place.same old.tables.beside.gc.newer h)

      begun : (s : Stage) → HasScans kind t.before old s → HasScans kind t.after new (stage_begun s)
      begun Saved h = begins
      begun Scans h = absurd (not_begun h)
      begun Scanned h = (begins, newer_begun h.1)
      begun ScansAgain h = absurd (not_begun h.0)
      begun ScannedTwice h = (begins, newer_begun h.2)

    starts_move : Moves kind t old new Event.Scan Answer.Scanning
    starts_move = record {
      rest = start_rest;
      scans = λ s next is idle h. subst (λ (x : Stage). HasScans kind t.after new x) (some_is (stage_begun s) next is) (begun idle s h);
      stays = still_collected kind t old new place start_rest
          (start_maps kind t.before old.tables new.tables sound turn new.tables.kv.number
          ∙ ap (λ (n : ℕ). metadata_at old.tables.kv n) turn.starts.pins.number)
          (λ p here. ap (λ (g : GcView). extents_cover g.freed p) turn.starts.is ∙ here);
    }

-- ---- each line
-- where nothing was punched
told_bases : {S : Type 0} {kind : StoreKind S} → KindLaws kind → (before after : List S) (core : CoreView) (ranges : List (ℕ × Range)) → ranges ≡ []
    → EachFollows kind before after ranges → TellsCore kind before core
    → AllSameBases core.settings.region (byte_at kind before) (byte_at kind after) core.tables.kv
told_bases {kind = kind} laws before after core ranges none follows tells n live =
    bases_told core.settings.region (byte_at kind before) (byte_at kind after) (metadata_at core.tables.kv n)
    (tells_on laws (subst (λ (rs : List (ℕ × Range)). EachFollows kind before after rs) none follows)) (tells.tables.names.live n live)

-- the lists that parts have read are told
facts_told : {S : Type 0} (kind : StoreKind S) (t : Span S) (old new : CoreView) (n left : ℕ) → TellsCore kind t.before old
    → {Did : Dev S → Dev S → Type 0} (d : IsByDevices kind t old new Did) (turn : DoesTurn kind d.before d.after old.tables new.tables n left)
    → TellLists (lists_in old.settings.region (byte_at kind t.after)) turn.does.reads.facts
facts_told {S} kind t old new n left tells d turn =
    let reads = turn.does.reads in
    let parts = next_parts turn.does.run.left n in
    let was : t.before ≡ d.before.shelf.now = sym (ap (λ (s : Span S). s.before) d.lent.span_is) in
    let is : d.after.shelf.now ≡ t.after = ap (λ (s : Span S). s.after) d.lent.span_is in
    let told : Told = byte_at kind t.before in
    let slices : (P : List Place → Bool) → ListedBytes old.settings.region told P old.tables → ListSlices P any_slice reads.facts =
    λ P bytes. reads.slices P any_slice (λ v there. (kept_region P any_slice old.tables.kv new.tables.kv turn.prunes
    (λ m live. map_stays P P (λ qs h. h) (lists_have old.settings.region told P) any_slice (λ s h. refl) (metadata_at old.tables.kv m) (bytes.live m live))
    parts v there).base) in
    let cache : CacheTrue (shown_in kind d.before) d.before.settings.region tells.tables.punched (remembered d.before) =
    subst (λ (ls : Remembered). CacheTrue (shown_in kind d.before) d.before.settings.region tells.tables.punched ls) (sym d.remembered_before)
    (subst (λ (s : Settings). CacheTrue (shown_in kind d.before) s.region tells.tables.punched old.lists) (sym d.lent.settings_are)
    (subst (λ (shelf : List S). CacheTrue (shown_byte kind shelf) old.settings.region tells.tables.punched old.lists) was tells.tables.cache)) in
    let named : ListSlices (is_told (told_in kind d.before)) any_slice reads.facts =
    subst (λ (shelf : List S). ListSlices (is_told (byte_at kind shelf)) any_slice reads.facts) was (slices (is_told told) tells.tables.names) in
    subst (λ (shelf : List S). TellLists (lists_in old.settings.region (byte_at kind shelf)) reads.facts) is
    (subst (λ (s : Settings). TellLists (lists_in s.region (told_in kind d.after)) reads.facts) d.settings_after
    (reads.told tells.tables.punched cache named (slices (are_apart tells.tables.punched) tells.tables.away)))

-- what a collection frees is named by nothing
freed_bases : {S : Type 0} {kind : StoreKind S} → KindLaws kind → (before after : List S) (core : CoreView) (k : ℕ) (ranges : List (ℕ × Range))
    → ((p : Place) → lie_in ranges p ≡ true → (nat_eq p.server k && is_garbage core.tables.beside.gc p) ≡ true) → EachFollows kind before after ranges
    → TellsCore kind before core → AllSameBases core.settings.region (byte_at kind before) (byte_at kind after) core.tables.kv
freed_bases {kind = kind} laws before after core k ranges among follows tells n live =
    let told : Told = byte_at kind before in
    let gc : GcView = core.tables.beside.gc in
    let apart : ListedBytes core.settings.region told (are_apart ranges) core.tables =
    listed_apart (is_garbage gc) ranges (λ p here. (and_parts (nat_eq p.server k) (is_garbage gc p) (among p here)).1) core.settings.region told
    core.tables (garbage_unnamed core.settings.region told core.tables tells.safe)
    in bases_punched laws follows core.settings.region (metadata_at core.tables.kv n) (apart.live n live)

-- a piece fails for no want of servers to write to
lacks_none : {S : Type 0} (kind : StoreKind S) (before after : Dev S) (base : Option Spill) → IsBaseFault kind before after base Fault.Write → ⊥
lacks_none kind before after None is = cc
lacks_none kind before after (Some s) h = h

unwritten : {S : Type 0} (kind : StoreKind S) (before after : Dev S) (old new : TablesView) (n : ℕ) → PieceFails kind before after old new n Answer.FaultWrite
    → ⊥
unwritten kind before after old new n h = by h.why h.answer old.beside.gc.running h.cause
  where
    by : (why : Fault) → fault_answer why ≡ Some Answer.FaultWrite → (o : Option RunView) → IsPieceFault kind before after new.kv o n why → ⊥
    by Fault.Write is None h = h
    by Fault.Write is (Some r) (inl memory) = cc
    by Fault.Write is (Some r) (inr lacks) = lacks_none kind lacks.mid after lacks.region.base lacks.cause
    by (Fault.Read k) is o h = cc
    by (Fault.Punch k) is o h = cc
    by (Fault.Damaged k) is o h = cc
    by Fault.Memory is o h = cc

module _ {S : Type 0} {kind : StoreKind S} (laws : KindLaws kind) (t : Span S) (old new : CoreView) (sound : AreSound old.tables)
    (tells : TellsCore kind t.before old) where
  abbrev Quiet : Event → Answer → Type 0
  Quiet e a = GoesOnQuietly kind t old new e a

  abbrev Does : Event → Answer → Type 0
  Does e a =
      CorePunches kind t.before t.after old.tables.beside.gc new.tables.beside.gc e a → SameLengths kind t.before t.after
      → LineTurn kind t old new e a → Quiet e a

  -- one that punches nothing
  in_place : new.settings ≡ old.settings → (ranges : List (ℕ × Range)) → ranges ≡ [] → EachFollows kind t.before t.after ranges
      → SameLengths kind t.before t.after → InPlace kind t old new
  in_place settings ranges none follows lengths =
      record { settings = settings; many = follows.same_length; lengths = lengths; same = told_bases laws t.before t.after old ranges none follows tells }

  -- one that leaves the tables too
  quiet_still : (e : Event) (a : Answer) → ((s next : Stage) → next_stage s e a ≡ Some next → s ≡ next) → (IsCollection e a → ⊥)
      → new.settings ≡ old.settings → new.tables ≡ old.tables → (ranges : List (ℕ × Range)) → ranges ≡ [] → EachFollows kind t.before t.after ranges
      → SameLengths kind t.before t.after → Quiet e a
  quiet_still e a stage other settings is ranges none follows lengths =
      plainly kind t old new e a (still kind t old new (in_place settings ranges none follows lengths) e a stage is) other

  quiet_scan : Does Event.Scan Answer.Scanning
  quiet_scan punched lengths turn =
      plainly kind t old new Event.Scan Answer.Scanning (starts_move kind t old new
      (in_place (ap (λ (core : CoreView). core.settings) turn.1) punched.ranges punched.are.0 punched.follows lengths) sound turn.0) (λ h. h)

  quiet_more : (n left : ℕ) → Does (Event.Piece n) (Answer.More left)
  quiet_more n left punched lengths turn =
      let d = turn.0 in
      let place = in_place (ap (λ (core : CoreView). core.settings) turn.1) punched.ranges punched.are.0 punched.follows lengths in
      let tell = facts_told kind t old new n left tells d d.did.1 in
      plainly kind t old new (Event.Piece n) (Answer.More left) (record {
        rest = part_rest kind t old new place sound d.before d.after n left d.did.1 tell;
        scans = λ s next is idle h. subst (λ (x : Stage). HasScans kind t.after new x) (some_is s next is)
            (more kind t old new place sound d.before d.after n left d.did.1 tell d.did.0 idle s h);
        stays = part_stays kind t old new place sound d.before d.after n left d.did.1 tell;
      }) (λ h. h)

  quiet_done : (n : ℕ) → Does (Event.Piece n) Answer.Done
  quiet_done n punched lengths turn =
      let d = turn.0 in
      let place = in_place (ap (λ (core : CoreView). core.settings) turn.1) punched.ranges punched.are.0 punched.follows lengths in
      let tell = facts_told kind t old new n 0 tells d d.did in
      plainly kind t old new (Event.Piece n) Answer.Done (record {
        rest = part_rest kind t old new place sound d.before d.after n 0 d.did tell;
        scans = λ s next is idle h. subst (λ (x : Stage). HasScans kind t.after new x) (some_is (stage_done s) next is)
            (done kind t old new place sound d.before d.after n 0 d.did tell (sym d.did.does.left_is) idle s h);
        stays = part_stays kind t old new place sound d.before d.after n 0 d.did tell;
      }) (λ h. h)

  -- parts that were not done
  quiet_failed : (n : ℕ) (a : Answer) → ((s next : Stage) → next_stage s (Event.Piece n) a ≡ Some next → s ≡ next) → {before after : Dev S}
      → PieceFails kind before after old.tables new.tables n a → new.settings ≡ old.settings → (ranges : List (ℕ × Range)) → ranges ≡ []
      → EachFollows kind t.before t.after ranges → SameLengths kind t.before t.after → Quiet (Event.Piece n) a
  quiet_failed n a stage fails settings ranges none follows lengths =
      let p = fails.pruned in
      plainly kind t old new (Event.Piece n) a (steady kind t old new (in_place settings ranges none follows lengths) (Event.Piece n) a stage
      (reads_same old.tables.kv new.tables.kv p.kv.number p.pins p.kv.maps) (rest_of old.tables new.tables old.tables.beside p.clients p.beside p.kv.number)
      (record {
        running = ap (λ (b : BesideView). b.gc.running) p.beside;
        older = ap (λ (b : BesideView). b.gc.older) p.beside;
        newer = ap (λ (b : BesideView). b.gc.newer) p.beside;
      })
      (λ q here. ap (λ (b : BesideView). extents_cover b.gc.freed q) p.beside ∙ here)) (λ h. h)

  quiet_collect : (k n : ℕ) → Does (Event.Collect k) (Answer.Collected n)
  quiet_collect k n punched lengths turn =
      let all = turn.0.did.1 in
      let are = punched.are.0 in
      let size : ℕ = old.settings.region in
      let place : InPlace kind t old new = record {
        settings = ap (λ (core : CoreView). core.settings) turn.1;
        many = punched.follows.same_length;
        lengths = lengths;
        same = freed_bases laws t.before t.after old k punched.ranges (λ p here. sym (are.exact p) ∙ here) punched.follows tells;
      } in
      moves_quietly kind t old new (Event.Collect k) (Answer.Collected n) (frees_move kind t old new place all.keeps all.frees.counts k (Answer.Collected n))
      (λ j m is said. subst (λ (x : ℕ). Leaves kind t old new x) (same_server j is)
      (leaves kind t old new place all.keeps all.frees.counts sound k punched.ranges are punched.counts
      (garbage_unnamed size (byte_at kind t.before) old.tables tells.safe) tells.safe.gone))
    where
      same_server : (j : ℕ) → ◌≡◌ {A = Event} (Event.Collect k) (Event.Collect j) → k ≡ j
      same_server j is = cc

  -- some of it was freed
  quiet_some : (k j : ℕ) → Does (Event.Collect k) (Answer.FaultPunch j)
  quiet_some k j punched lengths turn =
      let some = turn.0.did.1 in
      plainly kind t old new (Event.Collect k) (Answer.FaultPunch j)
      (frees_move kind t old new (record {
        settings = ap (λ (core : CoreView). core.settings) turn.1;
        many = punched.follows.same_length;
        lengths = lengths;
        same = freed_bases laws t.before t.after old k punched.ranges punched.are.among punched.follows tells;
      }) some.keeps some.frees.counts k (Answer.FaultPunch j))
      (λ h. h)

  -- a line that ends a quiet ending
  broken : (e : Event) (a : Answer) → ((s next : Stage) → next_stage s e a ≡ Some next → ⊥) → (IsCollection e a → ⊥) → Quiet e a
  broken e a none other = record {
    on = λ s next is. absurd (none s next is);
    idle = λ s next is. absurd (none s next is);
    kept = λ k n is said. absurd (other (collects e a k n is said));
    collected = λ k n is said. absurd (other (collects e a k n is said));
    stays = λ k s next is. absurd (none s next is);
  }

never : {A : Type 0} (x : A) → ◌≡◌ {A = Option A} None (Some x) → ⊥
never x is = cc

module _ {S : Type 0} {kind : StoreKind S} (laws : KindLaws kind) (t : Span S) (old new : CoreView) where
  pub quiet_on : (e : Event) (a : Answer) → AreSound old.tables → TellsCore kind t.before old
      → CorePunches kind t.before t.after old.tables.beside.gc new.tables.beside.gc e a → AddsBytes kind t old.settings (load_of e) a
      → LineTurn kind t old new e a → GoesOnQuietly kind t old new e a
  quiet_on Event.Scan Answer.Scanning sound tells punched adds turn = quiet_scan laws t old new sound tells punched adds turn
  quiet_on Event.Scan (Answer.Refused ScanBusy) sound tells punched adds turn =
      quiet_still laws t old new sound tells Event.Scan (Answer.Refused ScanBusy) (λ s next is. some_is s next is) (λ h. h)
      (ap (λ (core : CoreView). core.settings) turn.1) turn.0.0 punched.ranges punched.are.0 punched.follows adds
  quiet_on Event.Scan (Answer.Held who) sound tells punched adds turn = quiet_still laws t old new sound tells Event.Scan (Answer.Held who)
      (λ s next is. some_is s next is) (λ h. h)
      (ap (λ (core : CoreView). core.settings) turn.1) turn.0.0 punched.ranges punched.are.0 punched.follows adds
  quiet_on Event.Scan a sound tells punched adds turn = absurd turn.0
  quiet_on (Event.Piece n) Answer.Done sound tells punched adds turn = quiet_done laws t old new sound tells n punched adds turn
  quiet_on (Event.Piece n) (Answer.More left) sound tells punched adds turn = quiet_more laws t old new sound tells n left punched adds turn
  quiet_on (Event.Piece n) (Answer.Refused NoScan) sound tells punched adds turn =
      quiet_still laws t old new sound tells (Event.Piece n) (Answer.Refused NoScan) (λ s next is. some_is s next is) (λ h. h)
      (ap (λ (core : CoreView). core.settings) turn.1) turn.0.did.0 punched.ranges punched.are.0 punched.follows adds
  quiet_on (Event.Piece n) Answer.FaultWrite sound tells punched adds turn =
      absurd (unwritten kind turn.0.before turn.0.after old.tables new.tables n turn.0.did)
  quiet_on (Event.Piece n) a sound tells punched adds turn = quiet_failed laws t old new sound tells n a (λ s next is. some_is s next is) turn.0.did
      (ap (λ (core : CoreView). core.settings) turn.1) punched.ranges punched.are.0 punched.follows adds
  quiet_on (Event.Collect k) (Answer.Collected n) sound tells punched adds turn = quiet_collect laws t old new sound tells k n punched adds turn
  quiet_on (Event.Collect k) (Answer.FaultPunch j) sound tells punched adds turn = quiet_some laws t old new sound tells k j punched adds turn
  quiet_on (Event.Collect k) (Answer.Refused NoServer) sound tells punched adds turn =
      quiet_still laws t old new sound tells (Event.Collect k) (Answer.Refused NoServer) (λ s next is. some_is s next is) (λ h. h)
      (ap (λ (core : CoreView). core.settings) turn.1) turn.0.did.0 punched.ranges punched.are.0 punched.follows adds
  quiet_on (Event.Collect k) (Answer.Refused NoScan) sound tells punched adds turn =
      quiet_still laws t old new sound tells (Event.Collect k) (Answer.Refused NoScan) (λ s next is. some_is s next is) (λ h. h)
      (ap (λ (core : CoreView). core.settings) turn.1) turn.0.did.0 punched.ranges punched.are.0 punched.follows adds
  quiet_on (Event.Collect k) a sound tells punched adds turn = absurd turn.0.did
  quiet_on e a sound tells punched adds turn = broken laws t old new sound tells e a (λ s next is. never next is) (λ h. h)

-- ---- a save
no_client : (size : ℕ) (told : Told) (kv : Store Key Value) (now : Tree) (x : Option TxnView) (y : Option Transaction) → StandsForSlot size told kv now x y
    → y ≡ None → x ≡ None
no_client size told kv now None y h none = refl
no_client size told kv now (Some x) None h none = absurd h
no_client size told kv now (Some x) (Some y) h none = absurd (cc)

no_job : (size : ℕ) (told : Told) (kv : Store Key Value) (x : Option JobView) (y : Option Job) → StandsForLabel size told kv x y → y ≡ None → x ≡ None
no_job size told kv None y h none = refl
no_job size told kv (Some x) None h none = absurd h
no_job size told kv (Some x) (Some y) h none = absurd (cc)

-- one of a machine of which nothing is open begins a quiet ending, where no other number is watched
pub rests_saved : {S : Type 0} (kind : StoreKind S) (t : Span S) (told : Told) (old new : CoreView) (m : Machine) (n : ℕ) → StandsFor told old m → IsIdle m
    → WatchesNoOther old.tables → LineTurn kind t old new Event.Save (Answer.Saved n) → IsAtStage kind t.after new Saved
rests_saved kind t told old new m n stands idle unwatched turn =
    let saves = turn.0.2 in
    let size : ℕ = old.settings.region in
    record {
      rests = record {
        idle = record {
          clients = λ c. ap (λ (cs : Clients). of_client cs c) saves.clients
              ∙ no_client size told old.tables.kv m.now (of_client old.tables.clients c) (get m.transactions c) (stands.tables.each c) (idle.transactions c);
          jobs = λ j. ap (λ (b : BesideView). of_label b.jobs j) saves.beside
              ∙ no_job size told old.tables.kv (of_label old.tables.beside.jobs j) (get m.jobs j) (stands.tables.jobs j) (idle.jobs j);
        };
        image = ap (λ (b : BesideView). b.images) saves.beside ∙ ap (λ (k : ℕ). k ∷ []) (turn.0.0 ∙ sym saves.number);
        some = ap (λ (b : BesideView). b.none) saves.beside;
        watched = λ k is. unwatched k (sym (ap (λ (b : BesideView). b.watched) saves.beside) ∙ is) ∙ sym saves.number;
      };
      scans = tt;
    }

-- and one behind a quiet ending leaves an image that names what was not freed
module _ {S : Type 0} {kind : StoreKind S} (laws : KindLaws kind) (t : Span S) (k : KeeperSpan) (old new : CoreView) (m : Machine) (j n : ℕ)
    (sound : AreSound old.tables) (stands : StandsFor (byte_at kind t.before) old m) (had : HasCollected kind t.before old j)
    (saved : HasSaved kind t k old.settings old.tables) (tells : k.before.tells ≡ true)
    (punched : CorePunches kind t.before t.after old.tables.beside.gc new.tables.beside.gc Event.Save (Answer.Saved n))
    (lengths : SameLengths kind t.before t.after) where
  abbrev was : Told
  was = byte_at kind t.before

  abbrev is : Told
  is = byte_at kind t.after

  abbrev w : Map
  w = metadata_now old.tables.kv

  savable : IsSavable old.settings.region old.tables.next_tx (shown old.tables.kv)
  savable = stands_savable old.settings.region was old.tables.next_tx 0 w m.now (stands.tables.later old.tables.next_tx (omega arith)) old.tables.next_tx
      sound.begun stands.tables.before

  -- what the map names now its image names
  image_names : (bytes : List ℕ) → saved.hands.bytes ≡ bytes → (p : Place) → MapNames old.settings.region was w p → ImageNames is bytes p
  image_names bytes same p h =
      let save = saved.hands.image in
      let follows : EachFollows kind t.before t.after [] =
      subst (λ (rs : List (ℕ × Range)). EachFollows kind t.before t.after rs) punched.are.0 punched.follows in
      let on = names_on old.settings.region was is w w refl
      (bases_told old.settings.region was is w (tells_on laws follows) (stands.tables.later old.tables.next_tx (omega arith)).bytes) p h in
      record {
        rows = save.rows;
        text = subst (λ (b : List ℕ). HasText save.rows b) same save.text;
        inode = on.inode;
        region = on.region;
        row = on.row;
        there = says_all old.settings.region old.tables.next_tx (shown old.tables.kv) savable save.rows save.text.shape save.says
            (Key.Region on.inode on.region)
            ∙ ap (λ (v : Option Value). option_map plain v) on.there;
        names = subst (λ (b : ℕ). region_has (lists_in b is) on.row p ≡ true) (sym (ap (λ h. h.region) save.header)) on.names;
      }

  pub left_named : LeavesNamed kind (scene t.after k.after new) j
  left_named bytes held p on file below =
      let same : saved.hands.bytes ≡ bytes = some_is saved.hands.bytes bytes (sym (saved.held tells) ∙ held) in
      elim (had.left p on file (omega (arith, below, size_same kind t.before t.after punched.follows.same_length lengths j p.file))) [
        | inl freed ↦ inl (punched.counts p ∙ still (extents_cover old.tables.beside.gc.freed p) (lie_in punched.ranges p) freed)
        | inr names ↦ inr (image_names bytes same p names)
      ]
    where
      still : (a b : Bool) → a ≡ true → (a || b) ≡ true
      still true b here = refl
      still false b here = absurd (true≢false (sym here))
