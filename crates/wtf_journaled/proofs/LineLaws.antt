-- What answering a line promises of a durable store with its journal's disk.
use Rattle.std.proofs.Common.{◌≡◌, ◌≤◌, ◌+◌, true, false, Ok, Err, refl, sym, ◌∙◌, inr, true≢false, arith}
use Rattle.std.proofs.Math.Path.{fun_ext}
use Rattle.wtf_dev.specs.Counts.{Rose}
use Rattle.wtf_dev.specs.Disk.{DiskGoesOn, DiskKind, DiskLaws}
use Rattle.wtf_dev.specs.Store.{KindLaws}
use Rattle.wtf_journal.specs.Follows.{SyncedState, synced_kind}
use Rattle.wtf_replica.specs.Bytes.{byte_at}
use Rattle.wtf_model.specs.declared.answer.Answer.{Answer}
use Rattle.wtf_model.specs.declared.answer.Answer.TheVariants as answer
use Rattle.wtf_model.specs.declared.event.Event.{Event}
use Rattle.wtf_model.specs.declared.event.Event.TheVariants as event
use Rattle.wtf_model.specs.Lines.{Line, after_line}
use Rattle.wtf_core.specs.Saves.{SaveTurn}
use Rattle.wtf_core.specs.Named.{IsBased, IsFull}
use Rattle.wtf_core.specs.Outcomes.{HasCause, SaveFault, load_of}
use Rattle.wtf_core.specs.Promises.{CoreHasRoom, span_of}
use Rattle.wtf_core.specs.Standing.{StandsFor}
use Rattle.wtf_core.specs.Turns.{IsLine}
use Rattle.wtf_core.specs.Views.{CoreView, TablesView}
use Rattle.wtf_serve.specs.Answering.{IsBad}
use Rattle.wtf_serve.specs.Engines.{StateGoesOn, IsAnswer, HandsOnlySaves, Obeys, LinePunches, Saves, Step, EngineTells, is_save_event, step}
use Rattle.wtf_serve.specs.Stocks.{KeeperGoesOn, KeeperStays, Stock, stock}
use Rattle.wtf_serve.proofs.LineLaws.{bad_punches}
use Rattle.wtf_serve.proofs.LineLaws as of_core
use Rattle.wtf_durable.specs.Promises.{DurableDoes, Lasts, Survives}
use Rattle.wtf_durable.specs.Views.{DurableScene, blind, core_scene}
use Rattle.wtf_durable.proofs.Stopping.{durable_leaves}
use Rattle.wtf_durable.proofs.Trees.{store_later}
use Rattle.wtf_journaled.specs.Breaks.{SurvivesLine}
use Rattle.wtf_journaled.specs.Engine.{IsSoundJournaled, JournaledState, StandsJournaled, journaled, journaled_engine}

-- a disk that goes on is a keeper that does, of which nothing is seen
pub blind_on : {D : Type 0} (kind : DiskKind D) (old new : D) → DiskGoesOn kind old new → KeeperGoesOn (blind (kind.view old)) (blind (kind.view new))
blind_on kind old new goes = record { faults = goes.faults; tells = refl }

pub blind_stays : {D : Type 0} (kind : DiskKind D) (old new : D) → DiskGoesOn kind old new → KeeperStays (blind (kind.view old)) (blind (kind.view new))
blind_stays kind old new goes = record { goes_on = blind_on kind old new goes; held = λ bytes is. absurd (cc) }

pub disk_same : {D : Type 0} (kind : DiskKind D) (d : D) → DiskGoesOn kind d d
disk_same kind d = record { faults = omega arith; size = λ f. omega arith; tells = refl }

-- which tells nothing
untold : {A : Type 0} → false ≡ true → A
untold is = absurd (true≢false (sym is))

save_is : (e : Event) → is_save_event e ≡ true → e ≡ event.Save
save_is event.Save is = refl
save_is e is = absurd (true≢false (sym is))

-- ---- an event
module _ {S D : Type 0} (stores : DiskKind S) (kind : DiskKind D) (old new : DurableScene S D) (e : Event) (a : Answer) where
  abbrev before : Stock (SyncedState S)
  before = stock old.shelf (blind (kind.view old.disk))

  abbrev behind : Stock (SyncedState S)
  behind = stock new.shelf (blind (kind.view new.disk))

  abbrev t : Step (SyncedState S) (JournaledState D)
  t = step before behind (journaled old.durable old.disk) (journaled new.durable new.disk)

  module _ (does : DurableDoes stores kind old new e a) (goes : DiskGoesOn kind old.disk new.disk) where
    event_goes_on : StateGoesOn (journaled_engine stores kind) t (Ok e) a
    event_goes_on = record {
      sound = record { durable = does.stays.sound; reach = does.stays.reach };
      settings = does.stays.settings;
      down = fun_ext does.goes_on.down;
      number = does.stays.number;
      next_tx = does.stays.next_tx;
      same_next_tx = λ is. does.goes_on.same_next_tx (save_is e is);
      bare = does.goes_on.bare;
      full = does.goes_on.full;
      own = tt;
      kept = λ tells. untold tells;
    }

    event_obeys : Lasts stores kind old new e a → Obeys (journaled_engine stores kind) t (Ok e) a
    event_obeys lasts = λ tells m small stands.
        let core : StandsFor (byte_at (synced_kind stores) old.shelf) old.durable.core m = stands.core tells.tables.all in
        let law = does.lawful tells m small core in
        record {
          stands = record {
            core = λ all. law.event.stands;
            journal = λ all told room.
                let was : CoreHasRoom old.durable.core = (
                  let up = does.goes_on.number in let top = room.0 in omega (arith, up, top),
                  let up = does.goes_on.next_tx in let top = room.1 in omega (arith, up, top),
                ) in
                lasts.stands m small (stands.journal tells.tables.all (sym goes.tells ∙ told) was) room;
          };
          may = law.event.may;
          number = sym law.event.stands.tables.number;
          saved = λ keeps. untold keeps;
          taken = λ keeps. untold keeps;
          leaves = λ keeps. untold keeps;
          rests = λ idle n line is. tt;
          left = λ k n had line is keeps. untold keeps;
        }

    event_told : EngineTells (journaled_engine stores kind) t (Ok e) a
    event_told = λ tells m stands.
        let is = does.told tells m (stands.core tells.tables.all) in
        record {
          next = is.next;
          wide = is.wide;
          unread = is.unread;
          within = λ h. (is.next.tables.all, is.within h.1);
          undamaged = λ h. is.undamaged h.1;
          quiet = λ s next stage h. tt;
          collected = λ k n line is h. tt;
          stays = λ k s next stage h. tt;
        }

    event_punches : LinePunches (journaled_engine stores kind) t (Ok e) a
    event_punches =
        let did = of_core.event_punches (synced_kind stores) (step before behind old.durable.core new.durable.core) e a does.punched in
        record { ranges = did.ranges; are = did.are; counts = did.counts; follows = did.follows }

    -- what was caused, by the event
    abbrev Cause : Event → Answer → Type 0
    Cause f b = HasCause (synced_kind stores) (span_of (core_scene kind old) (core_scene kind new)) old.durable.core.settings
        (SaveFault (synced_kind stores) (span_of (core_scene kind old) (core_scene kind new)) old.durable.core.settings
        (Rose (kind.view old.disk).faults (kind.view new.disk).faults) f) (IsBased old.durable.core) (IsFull old.durable.core) (load_of f) b

    save_kept : (Up : Type 0) (tables : TablesView) (b : Answer) → SaveTurn Up old.durable.core.tables tables b → Cause event.Save b
        → Saves (journaled_engine stores kind) t b
    save_kept Up tables (answer.Saved n) turn cause = λ tells. untold tells
    save_kept Up tables answer.FaultSave turn cause = cause
    save_kept Up tables b turn cause = absurd turn

    event_keeps : (f : Event) (b : Answer) (answered : CoreView)
        → IsLine (synced_kind stores) (span_of (core_scene kind old) (core_scene kind new)) old.durable.core answered f b → Cause f b
        → HandsOnlySaves (journaled_engine stores kind) t (Ok f) b
    event_keeps event.Save b answered line cause = save_kept _ line.answered.tables b line.turn.0 cause
    event_keeps f b answered line cause = blind_stays kind old.disk new.disk goes

    pub event_is : Lasts stores kind old new e a → IsAnswer (journaled_engine stores kind) t (Ok e) a
    event_is lasts = record {
      goes_on = event_goes_on;
      lawful = event_obeys lasts;
      stored = does.stored.adds;
      caused = does.caused.cause;
      told = event_told;
      punched = event_punches;
      kept = event_keeps e a does.line.answered does.line.line does.caused.cause;
    }

-- ---- an event that was not answered
pub event_survives : {S D E : Type 0} (stores : DiskKind S) (kind : DiskKind D) (old new : DurableScene S D) (e : Event) (why : E)
    → Survives {E = E} stores kind old new e (Err why)
    → (new.durable.core.tables.kv.number ≤ old.durable.core.tables.kv.number + 1) × (new.durable.core.tables.next_tx ≤ old.durable.core.tables.next_tx + 1)
    → SurvivesLine stores kind old new (Ok e)
event_survives stores kind old new e why survives numbers = λ m small stands grow left stop.
    let room : CoreHasRoom new.durable.core = (
      let low = grow.0 in let more = numbers.0 in omega (arith, low, more),
      let low = grow.1 in let more = numbers.1 in omega (arith, low, more),
    ) in
    let (n, which, leaves) = survives.behind m small stands room left stop in
    (n, which, store_later left n new.durable.core.tables.next_tx (old.durable.core.tables.next_tx + 1) numbers.1 leaves)

-- ---- a line that was answered
pub answered_survives : {S D : Type 0} (stores : DiskKind S) (kind : DiskKind D) → DiskLaws stores → DiskLaws kind → (old new : DurableScene S D) (line : Line)
    (a : Answer) → DiskGoesOn kind old.disk new.disk
    → IsAnswer (journaled_engine stores kind) (step (stock old.shelf (blind (kind.view old.disk))) (stock new.shelf (blind (kind.view new.disk)))
    (journaled old.durable old.disk) (journaled new.durable new.disk)) line a
    → SurvivesLine stores kind old new line
answered_survives stores kind store_laws disk_laws old new line a goes is = λ m small stands grow left stop.
    let was : StandsJournaled stores kind old.shelf (journaled old.durable old.disk) m
    = record { core = λ all. stands.machine; journal = λ all told room. stands } in
    let law = is.lawful stands.shelf m small was in
    let room : CoreHasRoom new.durable.core = (
      let low = grow.0 in let more = is.goes_on.number in omega (arith, low, more),
      let low = grow.1 in let more = is.goes_on.next_tx in omega (arith, low, more),
    ) in (
      after_line m line a,
      inr (a, law.may, refl),
      store_later left (after_line m line a) new.durable.core.tables.next_tx (old.durable.core.tables.next_tx + 1) is.goes_on.next_tx
          (durable_leaves stores kind store_laws disk_laws new (after_line m line a)
          (law.stands.journal (is.told stands.shelf m was).next.tables.all (goes.tells ∙ stands.disk) room) is.goes_on.sound.durable.inside left stop),
    )

-- ---- a line that asks nothing leaves all as it was
pub bad_is : {S D : Type 0} (stores : DiskKind S) (kind : DiskKind D) → KindLaws (synced_kind stores) → (here : DurableScene S D) (bad : Answer)
    → IsSoundJournaled stores kind here.shelf (journaled here.durable here.disk) → IsBad bad
    → IsAnswer (journaled_engine stores kind) (step (stock here.shelf (blind (kind.view here.disk))) (stock here.shelf (blind (kind.view here.disk)))
    (journaled here.durable here.disk) (journaled here.durable here.disk)) (Err bad) bad
bad_is stores kind laws here (answer.Bad w) sound is =
    let at = stock here.shelf (blind (kind.view here.disk)) in
    let did = bad_punches (synced_kind stores) laws at here.durable.core (answer.Bad w) tt in
    record {
      goes_on = record {
        sound = sound;
        settings = refl;
        down = refl;
        number = omega arith;
        next_tx = omega arith;
        same_next_tx = λ saves. refl;
        bare = λ unspilled h. h;
        full = λ unspilled h. h;
        own = refl;
        kept = λ tells h. h;
      };
      lawful = λ tells m small stands. record {
        stands = stands;
        may = refl;
        number = sym (stands.core tells.tables.all).tables.number;
        saved = λ keeps room kept holds. holds;
        taken = λ keeps room holds. holds;
        leaves = λ keeps room. tt;
        rests = λ idle n is. absurd (cc);
        left = λ k n had is. absurd (cc);
      };
      stored = λ k d there f. refl;
      caused = tt;
      told = λ tells m stands. record {
        next = tells;
        wide = λ h. h;
        unread = λ h k e. absurd (cc);
        within = λ h. h;
        undamaged = λ h k e. absurd (cc);
        quiet = λ s next e. absurd (cc);
        collected = λ k n e. absurd (cc);
        stays = λ k s next e. absurd (cc);
      };
      punched = record { ranges = did.ranges; are = did.are; counts = did.counts; follows = did.follows };
      kept = record { goes_on = record { faults = omega arith; tells = refl }; held = λ bytes h. h };
    }
bad_is stores kind laws here a sound is = absurd is
