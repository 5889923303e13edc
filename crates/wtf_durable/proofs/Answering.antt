-- What a durable store does of an event that it answers: what its core does, and what is added to the journal then.
use Rattle.std.proofs.Common.{◌≡◌, ◌≢◌, ◌≤◌, ◌++◌, ℕ, true, List, [], Option, Some, None, Err, length, refl, sym, ap, ◌∙◌, subst, arith}
use Rattle.std.proofs.Common.{true≢false}
use Rattle.std.specs.Prelude.{Result}
use Rattle.wtf_dev.specs.Counts.{Rose}
use Rattle.wtf_dev.specs.Disk.{DiskKind}
use Rattle.wtf_dev.specs.Each.{EachFollows}
use Rattle.wtf_dev.specs.Keep.{KeeperView}
use Rattle.wtf_dev.specs.Store.{StoreKind}
use Rattle.wtf_journal.specs.Follows.{SyncedState, synced_kind}
use Rattle.wtf_replica.specs.Inside.{size_in}
use Rattle.wtf_replica.specs.Spans.{Span}
use Rattle.wtf_model.specs.declared.answer.Answer.{Answer}
use Rattle.wtf_model.specs.declared.event.Event.{Event}
use Rattle.wtf_region.specs.Cached.{Remembered}
use Rattle.wtf_clients.specs.Asked.{lending}
use Rattle.wtf_clients.specs.Leaving.{LeavesAlone}
use Rattle.wtf_clients.specs.Safe.{LieIn}
use Rattle.wtf_clients.specs.Saves.{Saves}
use Rattle.wtf_clients.specs.Sounds.{AreSound}
use Rattle.wtf_clients.specs.Views.{TablesView, watching}
use Rattle.wtf_clients.proofs.Soundness.{watched_sound}
use Rattle.wtf_core.specs.Promises.{CoreGoesOn, GoesOnTold, HasPunched, IsCaused, Obeys, Scene, Stores, scene, span_of}
use Rattle.wtf_core.specs.Turns.{IsLine}
use Rattle.wtf_core.specs.Views.{CoreView, lent_of}
use Rattle.wtf_core.proofs.ToldLines.{none_ranges}
use Rattle.wtf_durable.specs.Handled.{Handled, Noted}
use Rattle.wtf_durable.specs.Promises.{DurableDoes, LeavesStores, Records}
use Rattle.wtf_durable.specs.Sound.{IsSoundDurable}
use Rattle.wtf_durable.specs.Views.{DurableScene, DurableView, blind, core_scene, durable_scene}
use Rattle.wtf_durable.proofs.Blind.{caused_blind, goes_blind, obeys_blind, save_fault, stores_blind}
use Rattle.wtf_durable.proofs.Recorded.{collected_number, goes_behind, lawful_behind, punched_behind, told_behind}

some_is : (x y : ℕ) → Some x ≡ Some y → x ≡ y
some_is x y is = cc

-- ---- the core behind a line, and behind what is told of it
module _ {S : Type 0} (kind : StoreKind S) (old : Scene S) (shelf : List S) (keeper : KeeperView) (mid : CoreView) (e : Event) (a : Answer) where
  -- what it promised still, and that its number is watched
  pub record IsAnsweredBy (core : CoreView) : Type 0 where
    pub goes_on : CoreGoesOn kind old (scene shelf keeper core) e a
    pub lawful : Obeys kind old (scene shelf keeper core) e a
    pub stored : Stores kind old (scene shelf keeper core) e a
    pub caused : IsCaused kind old (scene shelf keeper core) e a
    pub told : GoesOnTold kind old (scene shelf keeper core) e a
    pub punched : HasPunched kind old (scene shelf keeper core) e a
    pub sound : AreSound core.tables
    pub watched : core.tables.beside.watched ≡ Some core.tables.kv.number
    pub settings : core.settings ≡ mid.settings
    pub number : core.tables.kv.number ≡ mid.tables.kv.number
    pub next_tx : core.tables.next_tx ≡ mid.tables.next_tx
    pub lists : core.lists ≡ mid.lists

  module _ (on : CoreGoesOn kind old (scene shelf keeper mid) e a) (obeys : Obeys kind old (scene shelf keeper mid) e a)
      (stored : Stores kind old (scene shelf keeper mid) e a) (caused : IsCaused kind old (scene shelf keeper mid) e a)
      (told : GoesOnTold kind old (scene shelf keeper mid) e a) (punched : HasPunched kind old (scene shelf keeper mid) e a) (sound : AreSound mid.tables) where
    answered_same : mid.tables.beside.watched ≡ Some mid.tables.kv.number → IsAnsweredBy mid
    answered_same watched = record {
      goes_on = on;
      lawful = obeys;
      stored = stored;
      caused = caused;
      told = told;
      punched = punched;
      sound = sound;
      watched = watched;
      settings = refl;
      number = refl;
      next_tx = refl;
      lists = refl;
    }

    answered_behind : (blind : old.keeper.tells ≡ true → ⊥) → IsLine kind (span_of old (scene shelf keeper mid)) old.core mid e a
        → mid.settings ≡ old.core.settings → mid.tables.kv.number ≢ old.core.tables.kv.number → (tables : TablesView)
        → Saves mid.tables tables (watching mid.tables.beside mid.tables.kv.number) → IsAnsweredBy (record mid { tables = tables })
    answered_behind blind line same moved tables saves =
        let lie : LieIn mid.tables.beside.gc (size_in kind shelf) = on.inside.scans in
        record {
          goes_on = goes_behind kind shelf mid tables sound saves old keeper e a on;
          lawful = λ tells m small stands.
              lawful_behind kind shelf mid tables sound saves old keeper e a line moved m on.same_number blind (obeys tells m small stands);
          stored = record { adds = stored.adds; placed = stored.placed };
          caused = record { cause = caused.cause; failed = caused.failed };
          told = λ tells m stands. told_behind kind shelf mid tables sound saves old keeper e a line moved same lie (told tells m stands);
          punched = punched_behind kind shelf mid tables sound saves old keeper e a punched;
          sound = watched_sound mid.tables tables sound saves;
          watched = ap (λ b. b.watched) saves.beside ∙ ap (λ n. Some n) (sym saves.number);
          settings = refl;
          number = saves.number;
          next_tx = saves.next_tx;
          lists = refl;
        }

    pub answered_by : (blind : old.keeper.tells ≡ true → ⊥) → IsLine kind (span_of old (scene shelf keeper mid)) old.core mid e a
        → mid.settings ≡ old.core.settings → mid.tables.beside.watched ≡ Some old.core.tables.kv.number → (new : CoreView) (changes : Option (List ℕ))
        → Records mid new changes → IsAnsweredBy new
    answered_by blind line same watched new None records = subst IsAnsweredBy (sym records.1) (answered_same records.0)
    answered_by blind line same watched new (Some changes) records =
        subst IsAnsweredBy (sym records.watches.rest)
        (answered_behind blind line same
        (λ still. records.later (some_is records.since old.core.tables.kv.number (sym records.was ∙ watched) ∙ sym still))
        new.tables records.watches.tables)

-- ---- the store
module _ {S D : Type 0} (stores : DiskKind S) (kind : DiskKind D) (old : DurableScene S D) (shelf : List (SyncedState S)) (between after : D)
    (mid new : DurableView) (e : Event) (a : Answer) (sound : IsSoundDurable (synced_kind stores) old.shelf old.durable)
    (handled : Handled stores kind old (durable_scene shelf between mid) e a) (noted : Noted kind between after mid new) where
  abbrev k : StoreKind (SyncedState S)
  k = synced_kind stores

  abbrev v : KeeperView
  v = blind (kind.view old.disk)

  abbrev w : KeeperView
  w = blind (kind.view between)

  abbrev w' : KeeperView
  w' = blind (kind.view after)

  core_answered : IsAnsweredBy k (core_scene kind old) shelf w mid.core e a new.core
  core_answered =
      answered_by k (core_scene kind old) shelf w mid.core e a handled.goes_on handled.lawful handled.stored handled.caused handled.told handled.punched
      handled.stays.sound (λ tell. true≢false (sym tell)) handled.line handled.stays.settings (handled.stays.watched ∙ sound.watched) new.core
      noted.notes.changes noted.records

  servers_there : new.core.settings.servers ≤ length shelf
  servers_there =
      let one = ap (λ s. s.servers) core_answered.settings in
      let two = ap (λ s. s.servers) handled.stays.settings in
      let same = handled.punched.punches.follows.same_length in
      let enough = sound.servers in
      omega (arith, one, two, same, enough)

  rose_on : Rose (kind.view old.disk).faults (kind.view between).faults → Rose (kind.view old.disk).faults (kind.view after).faults
  rose_on rose below =
      let le = noted.notes.goes_on.faults in
      let more = rose (omega (arith, le, below)) in
      omega (arith, more, le)

  pub durable_does : DurableDoes stores kind old (durable_scene shelf after new) e a
  durable_does =
      let by = core_answered in
      record {
        line = record {
          answered = mid.core;
          line = handled.line;
          changes = noted.notes.changes;
          told = noted.records;
          saved = handled.saved;
          saved_is = handled.saved_is;
          added = λ tells bodies rests.
              noted.added (handled.hands.goes_on.tells ∙ tells) (bodies ++ handled.saved) (handled.added tells bodies rests);
        };
        stays = record {
          sound = record {
            not_closed = by.goes_on.not_closed;
            tables = by.sound;
            watched = by.watched;
            servers = servers_there;
            inside = by.goes_on.inside;
            whole = noted.whole;
          };
          settings = by.settings ∙ handled.stays.settings;
          reach = noted.reach;
          number = let same = by.number in let le = handled.stays.number in omega (arith, same, le);
          next_tx = let same = by.next_tx in let le = handled.stays.next_tx in omega (arith, same, le);
        };
        goes_on = goes_blind k old.shelf shelf old.durable.core new.core v w v w' e a by.goes_on;
        lawful = obeys_blind k old.shelf shelf old.durable.core new.core v w v w' e a (λ tell. true≢false (sym tell)) by.lawful;
        stored = stores_blind k old.shelf shelf old.durable.core new.core v w v w' e a by.stored;
        caused = caused_blind k old.shelf shelf old.durable.core new.core v w v w' e a
            (λ is h. save_fault k (span_of (core_scene kind old) (scene shelf w new.core)) old.durable.core.settings _ _ e rose_on h) by.caused;
        told = by.told;
        punched = by.punched;
        leaves = subst (λ (lists : Remembered). LeavesAlone k (span_of (core_scene kind old) (scene shelf w' new.core))
            (lending old.durable.core.settings old.durable.core.lists lists) old.durable.core.tables e) (sym by.lists) handled.leaves;
        saves = record { synced = handled.saves.synced; out = handled.saves.out };
      }

-- ---- an event that ends behind the core's call
module _ {S D : Type 0} (stores : DiskKind S) (kind : DiskKind D) (old mid : DurableScene S D) (e : Event) (a : Answer)
    (sound : IsSoundDurable (synced_kind stores) old.shelf old.durable) (handled : Handled stores kind old mid e a) where
  -- a number is watched, that of installs before the line
  pub watched_then : mid.durable.core.tables.beside.watched ≡ Some old.durable.core.tables.kv.number
  watched_then = handled.stays.watched ∙ sound.watched

  -- where something was installed nothing was punched
  pub cut_follows : (mid.durable.core.tables.beside.watched ≡ Some mid.durable.core.tables.kv.number → ⊥)
      → EachFollows (synced_kind stores) old.shelf mid.shelf []
  cut_follows installed =
      subst (EachFollows (synced_kind stores) old.shelf mid.shelf)
      (none_ranges old.durable.core.tables.beside.gc e a handled.punched.punches.ranges
      (λ k is. installed (watched_then ∙ ap (λ n. Some n)
      (sym (collected_number (synced_kind stores) (span_of (core_scene kind old) (core_scene kind mid)) old.durable.core mid.durable.core k e a is
      handled.line))))
      handled.punched.punches.are)
      handled.punched.punches.follows

-- what a line leaves alone, whatever is known of the lists then
pub stores_left : {S : Type 0} (kind : StoreKind S) (t : Span S) (old mid : CoreView) (e : Event)
    → LeavesAlone kind t (lent_of old mid) old.tables e → LeavesStores kind t old e
stores_left kind t old mid e leaves = record { down = leaves.down; past = leaves.past; syncs = leaves.syncs; lists = mid.lists; files = leaves.files }

-- a count that rose later rose
pub rose_later : (a b c : ℕ) → a ≤ b → Rose b c → Rose a c
rose_later a b c le rose below = let more = rose below in omega (arith, le, more)

-- why a call failed, whatever it would have answered
pub same_fault : {T U E : Type 0} (x y : E) → ◌≡◌ {A = Result T E} (Err x) (Err y) → ◌≡◌ {A = Result U E} (Err x) (Err y)
same_fault {E = E} x y is = ap (λ (z : E). Err z) (fault_is x y is)
  where
    fault_is : {T : Type 0} (a b : E) → ◌≡◌ {A = Result T E} (Err a) (Err b) → a ≡ b
    fault_is a b same = cc
