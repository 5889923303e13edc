-- An event that was answered, and added to the journal, outlives every later stop.
use Rattle.std.proofs.Common.{◌≡◌, ◌++◌, ◌∙◌, ℕ, List, Option, None, Some, sym, ap, subst, append-nil, arith}
use Rattle.std.specs.Option.{option_map}
use Rattle.std.specs.Prelude.{MatchOption, ⊤}
use Rattle.wtf_dev.specs.Disk.{DiskKind, DiskLaws}
use Rattle.wtf_imagefmt.specs.Lookups.{plain}
use Rattle.wtf_imagefmt.specs.Shown.{shown}
use Rattle.wtf_journal.specs.Follows.{SyncedState, synced_kind}
use Rattle.wtf_replica.specs.Bytes.{byte_at}
use Rattle.wtf_replica.specs.Inside.{size_in}
use Rattle.wtf_model.specs.declared.answer.Answer.{Answer}
use Rattle.wtf_model.specs.declared.event.Event.{Event}
use Rattle.wtf_model.specs.Machines.{Machine}
use Rattle.wtf_model.specs.Steps.{after}
use Rattle.wtf_meta.specs.Contents.{Told}
use Rattle.wtf_meta.specs.Maps.{Map}
use Rattle.wtf_clients.specs.Safe.{LieIn}
use Rattle.wtf_clients.specs.Sounds.{AreSound}
use Rattle.wtf_core.specs.Named.{IsInside}
use Rattle.wtf_core.specs.Promises.{CoreHasRoom, Watches}
use Rattle.wtf_core.specs.Standing.{StandsFor, IsSmall}
use Rattle.wtf_core.specs.Telling.{TellsCore}
use Rattle.wtf_core.specs.Views.{CoreView}
use Rattle.wtf_durable.specs.Handled.{AreChanges, Handled, Noted}
use Rattle.wtf_durable.specs.Journaled.{IsJournaled, StandsDurably}
use Rattle.wtf_durable.specs.Promises.{Lasts, Records, changes_body}
use Rattle.wtf_durable.specs.Sound.{IsSoundDurable}
use Rattle.wtf_durable.specs.Views.{DurableScene}
use Rattle.wtf_durable.proofs.Behind.{now_was}
use Rattle.wtf_durable.proofs.Pictures.{HavePicture, have_same}
use Rattle.wtf_durable.proofs.Recorded.{inside_behind, stands_behind, tells_behind}
use Rattle.wtf_durable.proofs.Stopping.{durable_leaves, have_at, lawful, new_have, rests, telling, watched_is}

-- What is shown, and what stands, of a core that told of its changes, or had none to tell.
pub record Carries {S : Type 0} (stores : DiskKind S) (shelf : List (SyncedState S)) (mid new : CoreView) : Type 0 where
  pub shown_is : shown new.tables.kv ≡ shown mid.tables.kv
  pub number : new.tables.kv.number ≡ mid.tables.kv.number
  pub settings : new.settings ≡ mid.settings
  pub stands : (told : Told) (m : Machine) → StandsFor told mid m → StandsFor told new m
  pub tells : TellsCore (synced_kind stores) shelf mid → TellsCore (synced_kind stores) shelf new
  pub inside : IsInside (synced_kind stores) shelf mid → IsInside (synced_kind stores) shelf new
  pub next_tx : new.tables.next_tx ≡ mid.tables.next_tx

pub watches_carry : {S : Type 0} (stores : DiskKind S) (shelf : List (SyncedState S)) (mid new : CoreView) → AreSound mid.tables
    → LieIn mid.tables.beside.gc (size_in (synced_kind stores) shelf) → Watches mid new → Carries stores shelf mid new
watches_carry stores shelf mid new sound lie watches = record {
  shown_is = ap (λ (w : Map). λ q. option_map plain (w q)) (now_was mid.tables new.tables sound watches.tables);
  number = watches.tables.number;
  settings = ap (λ (c : CoreView). c.settings) watches.rest;
  stands = λ told m st.
      subst (λ (c : CoreView). StandsFor told c m) (sym watches.rest)
      (stands_behind (synced_kind stores) shelf mid new.tables sound watches.tables told m st);
  tells = λ tells.
      subst (λ (c : CoreView). TellsCore (synced_kind stores) shelf c) (sym watches.rest)
      (tells_behind (synced_kind stores) shelf mid new.tables sound watches.tables lie tells);
  inside = λ inside.
      subst (λ (c : CoreView). IsInside (synced_kind stores) shelf c) (sym watches.rest)
      (inside_behind (synced_kind stores) shelf mid new.tables sound watches.tables inside);
  next_tx = watches.tables.next_tx;
}

carries : {S : Type 0} (stores : DiskKind S) (shelf : List (SyncedState S)) (mid new : CoreView) → AreSound mid.tables
    → LieIn mid.tables.beside.gc (size_in (synced_kind stores) shelf) → (changes : Option (List ℕ)) → Records mid new changes → Carries stores shelf mid new
carries stores shelf mid new sound lie None (watched, same) = record {
  shown_is = ap (λ (c : CoreView). shown c.tables.kv) same;
  number = ap (λ (c : CoreView). c.tables.kv.number) same;
  settings = ap (λ (c : CoreView). c.settings) same;
  stands = λ told m st. subst (λ (c : CoreView). StandsFor told c m) (sym same) st;
  tells = λ tells. subst (λ (c : CoreView). TellsCore (synced_kind stores) shelf c) (sym same) tells;
  inside = λ inside. subst (λ (c : CoreView). IsInside (synced_kind stores) shelf c) (sym same) inside;
  next_tx = ap (λ (c : CoreView). c.tables.next_tx) same;
}
carries stores shelf mid new sound lie (Some changes) is = watches_carry stores shelf mid new sound lie is.watches

module _ {S D : Type 0} (stores : DiskKind S) (kind : DiskKind D) (store_laws : DiskLaws stores) (disk_laws : DiskLaws kind)
    (old mid new : DurableScene S D) (e : Event) (a : Answer) (sound : IsSoundDurable (synced_kind stores) old.shelf old.durable)
    (handled : Handled stores kind old mid e a) (shelf : new.shelf ≡ mid.shelf) (noted : Noted kind mid.disk new.disk mid.durable new.durable) where
  abbrev then : CoreView
  then = mid.durable.core

  goes : Carries stores mid.shelf then new.durable.core
  goes = carries stores mid.shelf then new.durable.core handled.stays.sound handled.goes_on.inside.scans noted.notes.changes noted.records

  module _ (m : Machine) (small : IsSmall m) (stands : StandsDurably stores kind old m) (room : CoreHasRoom new.durable.core) where
    abbrev had : List (List ℕ)
    had = stands.journaled.bodies ++ handled.saved

    abbrev Have : List (List ℕ) → Type 0
    Have bodies = HavePicture (shown then.tables.kv) then.settings then.tables.kv.number then.tables.next_tx bodies

    mid_have : (changes : Option (List ℕ)) → MatchOption changes ⊤ (AreChanges then) → Records then new.durable.core changes
        → Have (had ++ changes_body changes)
    mid_have None are (watched, same) =
        subst Have (sym (append-nil had))
        (have_at stores kind store_laws disk_laws old mid new e a sound handled shelf noted.notes m small stands room then.tables.kv.number
        (watched_is stores kind store_laws disk_laws old mid new e a sound handled shelf noted.notes m small stands room then.tables.kv.number watched))
    mid_have (Some changes) are is = new_have stores kind store_laws disk_laws old mid new e a sound handled shelf noted.notes m small stands room changes are

    behind_have : HavePicture (shown new.durable.core.tables.kv) new.durable.core.settings new.durable.core.tables.kv.number
        new.durable.core.tables.next_tx (had ++ changes_body noted.notes.changes)
    behind_have =
        have_same (had ++ changes_body noted.notes.changes) goes.shown_is goes.settings goes.number
        (let same = goes.next_tx in omega (arith, same))
        (mid_have noted.notes.changes noted.notes.are noted.records)

    journaled : IsJournaled kind new.disk new.durable
    journaled = record {
      bodies = had ++ changes_body noted.notes.changes;
      rests = noted.added (telling stores kind store_laws disk_laws old mid new e a sound handled shelf noted.notes m small stands room) had
          (rests stores kind store_laws disk_laws old mid new e a sound handled shelf noted.notes m small stands room);
      rows = behind_have.rows;
      gives = behind_have.gives;
      next = behind_have.next;
      picture = behind_have.picture;
      good = behind_have.good;
      tree = behind_have.tree;
      begun = behind_have.begun;
    }

    stands_then : StandsDurably stores kind new (after m e a)
    stands_then = record {
      shelf = subst (λ s. TellsCore (synced_kind stores) s new.durable.core) (sym shelf) (goes.tells (handled.told stands.shelf m stands.machine).next);
      machine = subst (λ s. StandsFor (byte_at (synced_kind stores) s) new.durable.core (after m e a)) (sym shelf)
          (goes.stands (byte_at (synced_kind stores) mid.shelf) (after m e a)
          (lawful stores kind store_laws disk_laws old mid new e a sound handled shelf noted.notes m small stands room).event.stands);
      disk = noted.notes.goes_on.tells ∙ telling stores kind store_laws disk_laws old mid new e a sound handled shelf noted.notes m small stands room;
      journaled = journaled;
    }

  pub handled_lasts : Lasts stores kind old new e a
  handled_lasts = record {
    stands = λ m small stands room. stands_then m small stands room;
    leaves = λ m small stands room left stop.
        durable_leaves stores kind store_laws disk_laws new (after m e a) (stands_then m small stands room)
        (subst (λ s. IsInside (synced_kind stores) s new.durable.core) (sym shelf) (goes.inside handled.goes_on.inside)) left stop;
  }
