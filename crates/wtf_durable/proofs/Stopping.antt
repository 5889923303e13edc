-- A stop at any moment of an event leaves the store before it or the one behind it.
use Rattle.std.proofs.Common.{◌≡◌, ◌⊎◌, ◌++◌, ◌∙◌, ◌≤◌, ℕ, true, List, [], ◌∷◌, Option, None, Some, Ok, Err, refl, sym, ap}
use Rattle.std.proofs.Common.{subst, inl, inr, ⊎_elim, append-nil, arith}
use Rattle.std.specs.Option.{option_map}
use Rattle.std.specs.Prelude.{IsTrue, MatchOption, ⊤}
use Rattle.wtf_dev.specs.Disk.{DiskKind, DiskLaws}
use Rattle.wtf_dev.specs.Each.{EachFollows}
use Rattle.wtf_dev.specs.Store.{KindLaws, Range}
use Rattle.wtf_imagefmt.specs.Lookups.{plain}
use Rattle.wtf_imagefmt.specs.Savable.{IsSavable}
use Rattle.wtf_imagefmt.specs.Shown.{shown, shown_at}
use Rattle.wtf_journal.specs.Follows.{SyncedState, synced_kind, synced_laws}
use Rattle.wtf_journal.specs.Records.{HasBodies, RestsAt}
use Rattle.wtf_kv.specs.Stores.{is_pinned}
use Rattle.wtf_replica.specs.Bytes.{byte_at}
use Rattle.wtf_region.specs.Apart.{are_apart, lies_apart}
use Rattle.wtf_model.specs.declared.answer.Answer.{Answer}
use Rattle.wtf_model.specs.declared.answer.Answer.TheVariants as answer
use Rattle.wtf_model.specs.declared.event.Event.{Event}
use Rattle.wtf_model.specs.declared.event.Event.TheVariants as event
use Rattle.wtf_model.specs.Machines.{Machine}
use Rattle.wtf_model.specs.Steps.{after}
use Rattle.wtf_meta.specs.Bytes.{MapBytes}
use Rattle.wtf_meta.specs.Contents.{Told}
use Rattle.wtf_meta.specs.Maps.{Map, metadata_at}
use Rattle.wtf_meta.proofs.Telling.{TellsOn}
use Rattle.wtf_replay.specs.Insides.{lists_have}
use Rattle.wtf_clients.specs.Off.{TellsWhere}
use Rattle.wtf_clients.specs.Views.{metadata_now}
use Rattle.wtf_clients.proofs.Later.{Stands-later}
use Rattle.wtf_clients.proofs.Lives.{number_live}
use Rattle.wtf_clients.proofs.OffStanding.{stands_where}
use Rattle.wtf_clients.proofs.Punched.{tells_punched}
use Rattle.wtf_core.specs.Named.{IsInside}
use Rattle.wtf_core.specs.Promises.{CoreHasRoom, IsCoreLawful, span_of}
use Rattle.wtf_core.specs.Standing.{IsSmall}
use Rattle.wtf_core.specs.Views.{CoreView}
use Rattle.wtf_core.proofs.Watching.{watched_pinned}
use Rattle.wtf_durable.specs.Handled.{AreChanges, Handled, HandlesNot, Notes}
use Rattle.wtf_durable.specs.Journaled.{StandsDurably}
use Rattle.wtf_durable.specs.Promises.{MayBecome, Survives, changes_body}
use Rattle.wtf_durable.specs.Sound.{IsSoundDurable}
use Rattle.wtf_durable.specs.Stops.{Leftover, LeavesStore, StopEarly, StopIn, StopLate, StopNow, StoresMayLeave, left_at}
use Rattle.wtf_durable.specs.Views.{DurableScene, core_scene}
use Rattle.wtf_durable.proofs.Apart.{now_apart}
use Rattle.wtf_durable.proofs.Cores.{now_savable, now_stands, watched_map}
use Rattle.wtf_durable.proofs.Pictures.{GivesPicture, HavePicture, bodies_give, changes_have, handed_gives, journaled_gives, journaled_has, journaled_stands}
use Rattle.wtf_durable.proofs.Pictures.{have_same, saved_have}
use Rattle.wtf_durable.proofs.Stores.{stores_now, stores_since}
use Rattle.wtf_durable.proofs.Trees.{store_left}

some_one : (a b : ℕ) → Some a ≡ Some b → a ≡ b
some_one a b e = cc

module _ {S D : Type 0} (stores : DiskKind S) (kind : DiskKind D) (store_laws : DiskLaws stores) (disk_laws : DiskLaws kind) where
  laws : KindLaws (synced_kind stores)
  laws = synced_laws stores store_laws

  abbrev told_at : List (SyncedState S) → Told
  told_at shelf = byte_at (synced_kind stores) shelf

  -- between events a stop leaves the store as it is
  pub durable_leaves : (s : DurableScene S D) (m : Machine) → StandsDurably stores kind s m → IsInside (synced_kind stores) s.shelf s.durable.core
      → (left : Leftover) → StopNow stores kind s left → LeavesStore left m s.durable.core.tables.next_tx
  durable_leaves s m stands inside left stop =
      let core : CoreView = s.durable.core in
      store_left stores s.shelf (told_at s.shelf) core m left core.tables.next_tx inside stands.machine
      (Stands-later (told_at s.shelf) (left_at left.stores) (stores_now stores s.shelf left.stores stop.shelf) core.settings.region core.tables.next_tx 0
      (metadata_now core.tables.kv) m.now (now_stands (told_at s.shelf) core m stands.machine))
      (omega arith)
      (journaled_gives kind s.disk s.durable stands.journaled (left.journal 0) (stop.disk 0))

  -- what is left behind a call is also left in it
  late_from : (old new : DurableScene S D) → (kind.view old.disk).moment ≤ (kind.view new.disk).moment → (kind.view new.disk).tells ≡ true
      → (left : Leftover) → StopNow stores kind new left → StopLate stores kind old new left
  late_from old new le tells left stop = record {
    shelf = stop.shelf;
    disk = disk_laws.counts_now new.disk (kind.view old.disk).moment left.journal tells le stop.disk;
  }

  -- The stores go on, and of what was punched no byte is named by the map as it was.
  record Spares (old : DurableScene S D) (shelf : List (SyncedState S)) : Type 0 where
    ranges : List (ℕ × Range)
    follows : EachFollows (synced_kind stores) old.shelf shelf ranges
    apart : MapBytes (are_apart ranges) (lists_have old.durable.core.settings.region (told_at old.shelf) (are_apart ranges))
        (metadata_now old.durable.core.tables.kv)

  -- ---- the store before the call
  module _ (old new : DurableScene S D) (m : Machine) (stands : StandsDurably stores kind old m)
      (inside : IsInside (synced_kind stores) old.shelf old.durable.core) (later : old.durable.core.tables.next_tx ≤ new.durable.core.tables.next_tx)
      (spares : Spares old new.shelf) where
    abbrev Gives : List ℕ → Type 0
    Gives c = GivesPicture old.durable.core.tables.kv old.durable.core.settings old.durable.core.tables.next_tx c

    abbrev Leaves : Leftover → Type 0
    Leaves left = LeavesStore left m new.durable.core.tables.next_tx

    found_over : (left : Leftover) → TellsWhere (lies_apart spares.ranges) (told_at old.shelf) (left_at left.stores) → Gives (left.journal 0) → Leaves left
    found_over left on gives =
        let core : CoreView = old.durable.core in
        store_left stores old.shelf (told_at old.shelf) core m left new.durable.core.tables.next_tx inside stands.machine
        (stands_where (lies_apart spares.ranges) (told_at old.shelf) (left_at left.stores) on core.settings.region core.tables.next_tx 0
        (metadata_now core.tables.kv) m.now spares.apart (now_stands (told_at old.shelf) core m stands.machine))
        later gives

    early_leaves : (left : Leftover) → StopEarly stores kind old new left → Leaves left
    early_leaves left stop =
        found_over left
        (stores_since stores store_laws old.shelf new.shelf spares.ranges spares.follows stands.shelf.tables.all left.stores stop.shelf)
        (journaled_gives kind old.disk old.durable stands.journaled (left.journal 0) (stop.disk 0))

    late_leaves : (left : Leftover) → StoresMayLeave stores new.shelf left.stores → Gives (left.journal 0) → Leaves left
    late_leaves left may gives =
        found_over left (λ p b apart is. stores_now stores new.shelf left.stores may p b (tells_punched laws spares.follows p b apart is)) gives

  -- ---- an event that ends with the core's call
  module _ (old new : DurableScene S D) (e : Event) (sound : IsSoundDurable (synced_kind stores) old.shelf old.durable)
      (lost : HandlesNot stores kind old new e) (m : Machine) (stands : StandsDurably stores kind old m) (room : CoreHasRoom new.durable.core) where
    unpunched : Spares old new.shelf
    unpunched = record {
      ranges = [];
      follows = lost.follows;
      apart = now_apart (synced_kind stores) old.shelf old.durable.core event.Tree answer.Okay [] stands.shelf (refl, tt);
    }

    -- its image has few installs, so it has
    was_room : CoreHasRoom old.durable.core
    was_room = (
      let few = stands.journaled.good.installs in
          let same = ap (λ h. h.installs) stands.journaled.picture.header in
          omega (arith, few, same),
      let le = lost.no_earlier in let top = room.1 in omega (arith, le, top),
    )

    lost_leaves : (left : Leftover) → StopIn stores kind old new left → LeavesStore left m new.durable.core.tables.next_tx
    lost_leaves left (inl early) = early_leaves old new m stands sound.inside lost.no_earlier unpunched left early
    lost_leaves left (inr late) =
        late_leaves old new m stands sound.inside lost.no_earlier unpunched left late.shelf
        (handed_gives kind disk_laws old.disk new.disk old.durable stands.disk stands.journaled lost.hands
        (now_savable (told_at old.shelf) old.durable.core m sound.tables stands.machine) was_room left.journal late.disk)

    lost_late : (left : Leftover) → StopNow stores kind new left → StopLate stores kind old new left
    lost_late left stop =
        late_from old new (lost.hands.moments stands.disk (journaled_stands kind old.disk old.durable stands.journaled)).later
        (lost.hands.goes_on.tells ∙ stands.disk) left stop

  pub unhandled_survives : {E : Type 0} (old new : DurableScene S D) (e : Event) (why : E) → IsSoundDurable (synced_kind stores) old.shelf old.durable
      → HandlesNot stores kind old new e → Survives stores kind old new e (Err why)
  unhandled_survives old new e why sound lost = record {
    during = λ m small stands room left stop. (m, inl refl, lost_leaves old new e sound lost m stands room left stop);
    behind = λ m small stands room left stop. (
      m,
      inl refl,
      lost_leaves old new e sound lost m stands room left (inr (lost_late old new e sound lost m stands room left stop)),
    );
  }

  -- ---- one that the core answered, and that ends with what is added to the journal
  module _ (old mid new : DurableScene S D) (e : Event) (a : Answer) (sound : IsSoundDurable (synced_kind stores) old.shelf old.durable)
      (handled : Handled stores kind old mid e a) (shelf : new.shelf ≡ mid.shelf)
      (notes : Notes kind mid.disk new.disk mid.durable.journal.end mid.durable.core new.durable.core) where
    abbrev before : CoreView
    before = old.durable.core

    abbrev then : CoreView
    then = mid.durable.core

    module _ (m : Machine) (small : IsSmall m) (stands : StandsDurably stores kind old m) (room : CoreHasRoom new.durable.core) where
      spares : Spares old new.shelf
      spares = record {
        ranges = handled.punched.punches.ranges;
        follows = subst (λ s. EachFollows (synced_kind stores) old.shelf s handled.punched.punches.ranges) (sym shelf) handled.punched.punches.follows;
        apart = now_apart (synced_kind stores) old.shelf before e a handled.punched.punches.ranges stands.shelf handled.punched.punches.are;
      }

      savable : IsSavable before.settings.region before.tables.next_tx (shown before.tables.kv)
      savable = now_savable (told_at old.shelf) before m sound.tables stands.machine

      pub telling : (kind.view mid.disk).tells ≡ true
      telling = handled.hands.goes_on.tells ∙ stands.disk

      later : (kind.view old.disk).moment ≤ (kind.view mid.disk).moment
      later = (handled.hands.moments stands.disk (journaled_stands kind old.disk old.durable stands.journaled)).later

      -- the records behind the core's call: of what was before, or its image
      abbrev had : List (List ℕ)
      had = stands.journaled.bodies ++ handled.saved

      pub rests : RestsAt kind mid.disk mid.durable.journal.end had
      rests = handled.added stands.disk stands.journaled.bodies stands.journaled.rests

      no_earlier : before.tables.next_tx ≤ then.tables.next_tx
      no_earlier = handled.goes_on.next_tx

      -- of the core as it was, too
      room_before : CoreHasRoom before
      room_before = (
        let up = handled.goes_on.number in let same = notes.number in let top = room.0 in omega (arith, up, same, top),
        let up = handled.goes_on.next_tx in let same = notes.next_tx in let top = room.1 in omega (arith, up, same, top),
      )

      old_have : HavePicture (shown before.tables.kv) before.settings before.tables.kv.number before.tables.next_tx had
      old_have =
          saved_have before room_before stands.journaled.bodies (journaled_has kind old.disk old.durable stands.journaled) savable e a handled.saved
          handled.saved_is

      pub lawful : IsCoreLawful (synced_kind stores) (core_scene kind old) (core_scene kind mid) m e a
      lawful = handled.lawful stands.shelf m small stands.machine

      -- the map there is what it was
      pub have_at : (n : ℕ) → n ≡ before.tables.kv.number → HavePicture (shown_at then.tables.kv n) then.settings n then.tables.next_tx had
      have_at n is =
          let map : metadata_at then.tables.kv before.tables.kv.number ≡ metadata_at before.tables.kv before.tables.kv.number =
          watched_map (synced_kind stores) (span_of (core_scene kind old) (core_scene kind mid)) before then e a before.tables.kv.number sound.tables
          handled.stays.sound handled.line sound.watched (number_live before.tables.kv) in
          subst (λ k. HavePicture (shown_at then.tables.kv k) then.settings k then.tables.next_tx had) (sym is)
          (have_same had (ap (λ (w : Map). λ q. option_map plain (w q)) map) handled.stays.settings refl no_earlier old_have)

      pub watched_is : (n : ℕ) → then.tables.beside.watched ≡ Some n → n ≡ before.tables.kv.number
      watched_is n is = some_one n before.tables.kv.number (sym is ∙ handled.stays.watched ∙ sound.watched)

      pub new_have : (changes : List ℕ) → AreChanges then changes
          → HavePicture (shown then.tables.kv) then.settings then.tables.kv.number then.tables.next_tx (had ++ (1 ∷ changes) ∷ [])
      new_have changes are =
          let pinned : IsTrue (is_pinned then.tables.kv are.since) = watched_pinned then.tables are.since handled.stays.sound are.was in
          changes_have then.tables.kv then.settings are.since then.tables.next_tx had (have_at are.since (watched_is are.since are.was)) pinned
          (handled.stays.sound.upto are.since pinned) changes are.changes are.counted
          (now_savable (told_at mid.shelf) then (after m e a) handled.stays.sound lawful.event.stands)
          (let same = notes.number in let le = room.0 in omega (arith, same, le)) (let same = notes.next_tx in let le = room.1 in omega (arith, same, le))

      no_later : then.tables.next_tx ≤ new.durable.core.tables.next_tx
      no_later = let same = notes.next_tx in omega (arith, same)

      new_leaves : (left : Leftover) → StoresMayLeave stores new.shelf left.stores
          → GivesPicture then.tables.kv then.settings then.tables.next_tx (left.journal 0)
          → LeavesStore left (after m e a) new.durable.core.tables.next_tx
      new_leaves left may gives =
          let on : TellsOn (told_at mid.shelf) (left_at left.stores) =
          subst (λ s. TellsOn (told_at s) (left_at left.stores)) shelf (stores_now stores new.shelf left.stores may) in
          store_left stores mid.shelf (told_at mid.shelf) then (after m e a) left new.durable.core.tables.next_tx handled.goes_on.inside lawful.event.stands
          (Stands-later (told_at mid.shelf) (left_at left.stores) on then.settings.region then.tables.next_tx 0 (metadata_now then.tables.kv) (after m e a).now
          (now_stands (told_at mid.shelf) then (after m e a) lawful.event.stands))
          no_later gives

      -- that from one of both machines
      abbrev Found : Leftover → Type 0
      Found left = (n : Machine) × ((n ≡ m) ⊎ (n ≡ after m e a)) × LeavesStore left n new.durable.core.tables.next_tx

      was_later : before.tables.next_tx ≤ new.durable.core.tables.next_tx
      was_later = let one = no_earlier in let two = no_later in omega (arith, one, two)

      old_found : (left : Leftover) → StoresMayLeave stores new.shelf left.stores
          → GivesPicture before.tables.kv before.settings before.tables.next_tx (left.journal 0) → Found left
      old_found left may gives = (m, inl refl, late_leaves old new m stands sound.inside was_later spares left may gives)

      with_changes : (left : Leftover) → StoresMayLeave stores new.shelf left.stores → (changes : Option (List ℕ)) → MatchOption changes ⊤ (AreChanges then)
          → HasBodies (had ++ changes_body changes) (left.journal 0) → Found left
      with_changes left may None are has =
          old_found left may
          (bodies_give before.tables.kv before.settings before.tables.next_tx had old_have (left.journal 0)
          (subst (λ (l : List (List ℕ)). HasBodies l (left.journal 0)) (append-nil had) has))
      with_changes left may (Some changes) are has = (
        after m e a,
        inr refl,
        new_leaves left may
            (bodies_give then.tables.kv then.settings then.tables.next_tx (had ++ (1 ∷ changes) ∷ []) (new_have changes are) (left.journal 0) has),
      )

      noted_found : (left : Leftover) → StoresMayLeave stores new.shelf left.stores
          → HasBodies had (left.journal 0) ⊎ HasBodies (had ++ changes_body notes.changes) (left.journal 0) → Found left
      noted_found left may (inl has) = old_found left may (bodies_give before.tables.kv before.settings before.tables.next_tx had old_have (left.journal 0) has)
      noted_found left may (inr has) = with_changes left may notes.changes notes.are has

      stop_found : (left : Leftover) → StopIn stores kind old new left → Found left
      stop_found left (inl early) = (m, inl refl, early_leaves old new m stands sound.inside was_later spares left early)
      stop_found left (inr late) =
          ⊎_elim
          (λ was. old_found left late.shelf
          (handed_gives kind disk_laws old.disk mid.disk old.durable stands.disk stands.journaled handled.hands savable room_before left.journal was))
          (λ has. noted_found left late.shelf has)
          ((notes.moments telling had rests).since (kind.view old.disk).moment left.journal later late.disk)

      behind_found : (left : Leftover) → StopNow stores kind new left → Found left
      behind_found left stop =
          let more = (notes.moments telling had rests).later in
          stop_found left (inr (late_from old new (omega (arith, later, more)) (notes.goes_on.tells ∙ telling) left stop))

      result_cut : {E : Type 0} (why : E) (n : Machine) → (n ≡ m) ⊎ (n ≡ after m e a) → (n ≡ m) ⊎ MayBecome m e (Err why) n
      result_cut why n (inl was) = inl was
      result_cut why n (inr is) = inr (a, lawful.event.may, is)

    -- done
    pub handled_survives : {E : Type 0} → Survives {E = E} stores kind old new e (Ok a)
    handled_survives = record {
      during = λ m small stands room left stop. stop_found m small stands room left stop;
      behind = λ m small stands room left stop. behind_found m small stands room left stop;
    }

    -- or with a fault
    pub cut_survives : {E : Type 0} (why : E) → Survives stores kind old new e (Err why)
    cut_survives why = record {
      during = λ m small stands room left stop.
          let is = stop_found m small stands room left stop in (is.0, result_cut m small stands room why is.0 is.1, is.2);
      behind = λ m small stands room left stop.
          let is = behind_found m small stands room left stop in (is.0, result_cut m small stands room why is.0 is.1, is.2);
    }
