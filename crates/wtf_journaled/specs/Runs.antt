-- What a journaled run promises.
use Rattle.std.specs.Prelude.{◌≡◌, ◌≢◌, ◌⊎◌, ◌≤◌, ◌+◌, ◌^◌, ℕ, true, List, [], length, Option, None, Some, ⊤}
use Rattle.wtf_base.specs.declared.settings.Settings.{Settings}
use Rattle.wtf_dev.specs.Counts.{Rose}
use Rattle.wtf_dev.specs.Disk.{DiskGoesOn, DiskKind, MayLeave}
use Rattle.wtf_dev.specs.Each.{EachFollows}
use Rattle.wtf_dev.specs.Streams.{SourceView, SinkView}
use Rattle.wtf_dev.specs.Sums.{TellsAll}
use Rattle.wtf_journal.specs.Follows.{SyncedState, synced_kind}
use Rattle.wtf_journal.specs.Held.{held_by}
use Rattle.wtf_journal.specs.Scan.{IsBadAt}
use Rattle.wtf_replica.specs.Bytes.{byte_at}
use Rattle.wtf_replica.specs.Outs.{SameFrom, SameLengths}
use Rattle.wtf_model.specs.Machines.{Machine}
use Rattle.wtf_model.specs.Tree.{Tree}
use Rattle.wtf_words.specs.Words.{Request, numbers}
use Rattle.wtf_words.specs.declared.Script.{Script}
use Rattle.wtf_words.specs.declared.Script.TheVariants as script
use Rattle.wtf_serve.specs.Endings.{Devices, IsNextLine, Served, devices}
use Rattle.wtf_serve.specs.Logs.{Log, last}
use Rattle.wtf_serve.specs.Openings.{Opening, Opens, StartsFrom}
use Rattle.wtf_serve.specs.Scripts.{line_of}
use Rattle.wtf_durable.specs.declared.fault.Unopened.{Unopened}
use Rattle.wtf_durable.specs.Opened.{IsGivenBy, LeavesRecords, OpeningSurvives, UnopenedFor}
use Rattle.wtf_durable.specs.Stops.{LeavesStore, Leftover, StoresLeft, StoresMayLeave}
use Rattle.wtf_durable.specs.Views.{blind}
use Rattle.wtf_journaled.specs.Added.{AddedRecords}
use Rattle.wtf_journaled.specs.Breaks.{MayGive, text_status}
use Rattle.wtf_journaled.specs.Refusals.{EndsUnopened}

-- the devices of a run: its source, its sink, its stores and the disk of its journal
pub record JournaledDevices (S D : Type 0) : Type 0 where
  pub source : SourceView
  pub sink : SinkView
  pub shelf : List (SyncedState S)
  pub disk : D

abbrev pub on_devices : {S D : Type 0} → SourceView → SinkView → List (SyncedState S) → D → JournaledDevices S D
on_devices source sink shelf disk = record { source = source; sink = sink; shelf = shelf; disk = disk }

-- as a run knows them that has a keeper, over these stores and this disk
abbrev pub blind_devices : {S D : Type 0} → DiskKind D → JournaledDevices S D → Devices (SyncedState S)
blind_devices kind d = devices d.source d.sink d.shelf (blind (kind.view d.disk))

-- the next line of the script behind these was not answered, or its answer was not written, and it may have led to this machine
pub record IsOfNextLine (m : Machine) (script : Option (List ℕ)) (lines : List (List ℕ)) (n : Machine) : Type 0 where
  pub line : List ℕ
  pub next : IsNextLine script lines line
  pub may : MayGive m (line_of line) n

-- The machine that a stop leaves behind a run: the one behind the lines that were answered, or, where the journal failed or memory was wanted, behind
-- the line that ended the run as well.
abbrev pub IsLast : Machine → Option (List ℕ) → List (List ℕ) → ℕ → Machine → Type 0
IsLast m script lines status n = (n ≡ m) ⊎ (((status ≡ 5) ⊎ (status ≡ 7)) × IsOfNextLine m script lines n)

-- The journal's disk failed at a line: the next one of the script behind these, which has no answer.
pub record FailsAtNext {D : Type 0} (kind : DiskKind D) (before after : D) (script : Option (List ℕ)) (lines : List (List ℕ)) : Type 0 where
  pub rose : Rose (kind.view before).faults (kind.view after).faults
  pub line : List ℕ
  pub next : IsNextLine script lines line

module _ {S D : Type 0} (stores : DiskKind S) (kind : DiskKind D) where
  -- a stop behind the run leaves so much of the devices
  pub record StopBehind (new : JournaledDevices S D) (left : Leftover) : Type 0 where
    pub shelf : StoresMayLeave stores new.shelf left.stores
    pub disk : MayLeave (kind.view new.disk) left.journal

  -- A stop at any moment of opening the journal leaves one that stands for the same as one that could be left before, or in the place of no record a
  -- new store with these settings. One that stands for nothing keeps its bytes.
  abbrev pub BeginsSafely : Settings → (old new : JournaledDevices S D) → Type 0
  BeginsSafely asked old new =
      (kind.view old.disk).tells ≡ true → (left : Leftover) → StoresLeft stores old.shelf new.shelf left.stores
      → kind.left_since new.disk (kind.view old.disk).moment left.journal → OpeningSurvives stores kind asked old.shelf old.disk left

  -- a run whose journal was not opened: nothing was read, nothing was punched, no file of a store grew, and no store behind those that were asked
  -- for was touched
  pub record IsUnopened (asked : Settings) (status : ℕ) (old new : JournaledDevices S D) : Type 0 where
    pub why : Unopened
    pub cause : UnopenedFor stores kind asked old.shelf new.shelf old.disk new.disk why
    pub ends : EndsUnopened why status old.sink new.sink
    pub source_is : new.source ≡ old.source
    pub follows : EachFollows (synced_kind stores) old.shelf new.shelf []
    pub lengths : SameLengths (synced_kind stores) old.shelf new.shelf
    pub past : SameFrom asked.servers old.shelf new.shelf
    pub goes_on : DiskGoesOn kind old.disk new.disk
    pub safe : BeginsSafely asked old new

  -- The journal was opened, behind which the stores and the disk are these: it has no bad record, and its image, or that it has none, opens the run. No
  -- file of a store grew, no store was touched that the settings do not have, and the journal has the records that it had; behind changes one of their
  -- image, and where it had none that of the root.
  pub record HasBegun (asked : Settings) (old : JournaledDevices S D) (shelf : List (SyncedState S)) (disk : D) (opening : Opening) : Type 0 where
    pub follows : EachFollows (synced_kind stores) old.shelf shelf []
    pub lengths : SameLengths (synced_kind stores) old.shelf shelf
    pub past : SameFrom opening.settings.servers old.shelf shelf
    pub goes_on : DiskGoesOn kind old.disk disk
    pub safe : BeginsSafely asked old (on_devices old.source old.sink shelf disk)
    pub sane : (kind.view old.disk).tells ≡ true → (n : ℕ) → IsBadAt held_by None ((kind.view old.disk).file 0).seen n → ⊥
    pub opens : Opens asked opening.bytes opening
    pub given : IsGivenBy kind old.disk opening.bytes
    pub records : (kind.view old.disk).tells ≡ true
        → (end : ℕ) × LeavesRecords kind asked (byte_at (synced_kind stores) shelf) old.disk disk end opening.bytes

  -- Where the devices tell their content, and the numbers of the image leave room for the script's: a stop behind the run leaves a store to go on with,
  -- from the machine behind the lines that were answered, or behind the line that ended the run as well. Each line began one transaction at most.
  abbrev pub LastsBehind : (old : JournaledDevices S D) → List (SyncedState S) → Opening → ℕ → (new : JournaledDevices S D) → Log → Type 0
  LastsBehind old shelf opening status new log =
      TellsAll (synced_kind stores) shelf → (kind.view old.disk).tells ≡ true → opening.number ≤ 2 ^ 61 → opening.next_tx ≤ 2 ^ 61
      → (t : Tree) → StartsFrom (byte_at (synced_kind stores) shelf) opening.bytes t → (left : Leftover) → StopBehind new left
      → (final : Machine) × IsLast (last opening t log) old.source.rest log.lines status final
      × LeavesStore left final (opening.next_tx + length log.lines + 1)

  -- Where the devices tell their content: the run added to the records that opening left an image for each line that answered `saved`, and changes for
  -- each install, and no others.
  abbrev pub AddsRecords : (old : JournaledDevices S D) → List (SyncedState S) → D → Opening → (new : JournaledDevices S D) → Log → Type 0
  AddsRecords old shelf disk opening new log =
      TellsAll (synced_kind stores) shelf → (kind.view old.disk).tells ≡ true → (t : Tree) → StartsFrom (byte_at (synced_kind stores) shelf) opening.bytes t
      → AddedRecords kind disk new.disk opening t log

  -- A run that was opened. What `Served` says of a keeper says nothing here; and with status 5 it is as for want of memory: the answer of the line at
  -- which the journal failed is not written. In all of it no store was touched that its settings do not have. With the statuses 5 and 7 one line more
  -- may have added records of its own.
  pub record IsOpened (asked : Settings) (status : ℕ) (old new : JournaledDevices S D) : Type 0 where
    pub shelf : List (SyncedState S)
    pub disk : D
    pub opening : Opening
    pub begun : HasBegun asked old shelf disk opening
    pub served : Served (synced_kind stores) (λ images. ⊤) opening (text_status status) (blind_devices kind (on_devices old.source old.sink shelf disk))
        (blind_devices kind new)
    pub cause : status ≡ 5 → FailsAtNext kind disk new.disk old.source.rest served.log.lines
    pub lasts : LastsBehind old shelf opening status new served.log
    pub past : SameFrom opening.settings.servers old.shelf new.shelf
    pub adds : status ≢ 5 → status ≢ 7 → AddsRecords old shelf disk opening new served.log

  -- a run of a script, where these settings were asked for
  abbrev pub IsJournaledRun : Settings → ℕ → (old new : JournaledDevices S D) → Type 0
  IsJournaledRun asked status old new = IsUnopened asked status old new ⊎ IsOpened asked status old new

  -- by where the script comes from: none is made from a number
  abbrev pub IsScriptRun : Settings → Script → ℕ → (old new : JournaledDevices S D) → Type 0
  IsScriptRun asked script.Read status old new = IsJournaledRun asked status old new
  IsScriptRun asked (script.Generated recipe) status old new = (status ≡ 2) × (new ≡ old)

  -- a run over the servers and copies that were asked for
  pub record IsRunOf (request : Request) (status : ℕ) (old new : JournaledDevices S D) : Type 0 where
    pub settings : Settings
    pub asked_is : numbers settings ≡ request.numbers
    pub run : IsScriptRun settings request.script status old new

  -- A run by what its words ask for: words that are refused touch nothing, nor does a want of memory that comes before they are read.
  abbrev pub IsProgramRun : Option Request → ℕ → (old new : JournaledDevices S D) → Type 0
  IsProgramRun None status old new = ((status ≡ 2) ⊎ (status ≡ 7)) × (new ≡ old)
  IsProgramRun (Some request) status old new = ((status ≡ 7) × (new ≡ old)) ⊎ IsRunOf request status old new
