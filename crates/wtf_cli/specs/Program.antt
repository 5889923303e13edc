-- How the program ends, the line that it writes for each status, and its devices.
use Rattle.std.specs.Prelude.{◌≡◌, ◌⊎◌, ◌==◌, ◌^◌, ◌-◌, if◌then◌else◌, ℕ, zero, suc, List, Option, Some, None, codes, [], ◌∷◌, ◌++◌, map, replicate}
use Rattle.wtf_real.specs.declared.fault.OpenFault.{OpenFault}
use Rattle.wtf_real.specs.declared.fault.OpenFault.TheVariants.{Failed, Memory}
use Rattle.wtf_dev.specs.Calls.{uncalled}
use Rattle.wtf_journal.specs.Follows.{SyncedState}
use Rattle.wtf_journaled.specs.Runs.{JournaledDevices, on_devices}
use Rattle.wtf_journaled.specs.Runs.{IsProgramRun as IsJournaledProgram}
use Rattle.wtf_real.specs.Disks.{DiskFolder}
use Rattle.wtf_real.specs.Folders.{FolderState, folder_of}
use Rattle.wtf_dev.specs.Counts.{Rose}
use Rattle.wtf_dev.specs.Disk.{DiskKind}
use Rattle.wtf_dev.specs.DiskTape.{DiskState}
use Rattle.wtf_dev.specs.Memory.{StoreState, KeeperState}
use Rattle.wtf_dev.specs.Store.{StoreKind}
use Rattle.wtf_dev.specs.Streams.{SinkView}
use Rattle.wtf_words.specs.Words.{asked_of}
use Rattle.wtf_serve.specs.Endings.{Devices}
use Rattle.wtf_serve.specs.Program.{IsProgramRun}
use Rattle.wtf_serve.specs.Unopened.{IsRunStatus}

-- the line on standard error for a status, without its line feed
abbrev pub status_line : ℕ → Option (List ℕ)
status_line status =
    if status == 1 then Some (codes "wtf: bad lines") else (
    if status == 2 then Some (codes "wtf: words refused") else (
    if status == 3 then Some (codes "wtf: reading failed") else (
    if status == 4 then Some (codes "wtf: writing failed") else (
    if status == 5 then Some (codes "wtf: save failed") else (
    if status == 6 then Some (codes "wtf: image refused") else (
    if status == 7 then Some (codes "wtf: out of memory") else (
    if status == 8 then Some (codes "wtf: load failed") else (
    if status == 9 then Some (codes "wtf: script too long") else (
    if status == 10 then Some (codes "wtf: no directory") else None)))))))))

-- the line with its line feed, or no byte
abbrev pub printed_line : Option (List ℕ) → List ℕ
printed_line None = []
printed_line (Some line) = line ++ 10 ∷ []

-- what is written on standard error for a status
abbrev pub error_text : ℕ → List ℕ
error_text status = printed_line (status_line status)

-- the statuses that the program ends with
abbrev pub IsProgramStatus : ℕ → Type 0
IsProgramStatus status = (status ≡ 10) ⊎ IsRunStatus status

-- a store in memory with eight empty files, which fails only for want of memory
abbrev pub empty_store : StoreState
empty_store = record { files = replicate 8 []; calls = uncalled []; syncs = 0 }

-- a keeper in memory that holds no image, which fails only for want of memory
abbrev pub empty_keeper : KeeperState
empty_keeper = record { bytes = []; calls = uncalled [] }

-- a disk in memory with eight empty files, which fails only for want of memory
abbrev pub empty_disk : DiskState
empty_disk = record { noted = []; counts = uncalled []; fuse = 2 ^ 64 - 1 }

-- a store over a disk, before its first sync
abbrev pub unsynced : {D : Type 0} → D → SyncedState D
unsynced disk = record { disk = disk; syncs = 0 }

-- the folders that stores are in
abbrev pub folders : List FolderState → List (List ℕ)
folders stores = map (λ (s : FolderState). s.folder) stores

-- the folders that the disks of stores are in
abbrev pub disk_folders : List (SyncedState DiskFolder) → List (List ℕ)
disk_folders stores = map (λ (s : SyncedState DiskFolder). s.disk.folder) stores

-- the folders of the first servers in a folder of this path
abbrev pub folders_of : List ℕ → ℕ → List (List ℕ)
folders_of dir zero = []
folders_of dir (suc k) = folders_of dir k ++ folder_of dir k ∷ []

-- What the sink of a run with this status held back was brought out, and no byte was added: the status is the same, or 4 where the sink
-- failed then.
pub record IsBroughtOut (found status : ℕ) (old new : SinkView) : Type 0 where
  pub taken : (bytes : List ℕ) → old.taken ≡ Some bytes → new.taken ≡ Some bytes
  pub ended : ((status ≡ found) × (new.faults ≡ old.faults)) ⊎ ((status ≡ 4) × Rose old.faults new.faults)

-- a run of these words over devices that ended with this status once what its sink held back was brought out
pub record IsRunOver {S : Type 0} (kind : StoreKind S) (handed : List (List ℕ) → Type 0) (words : List (List ℕ)) (status : ℕ)
    (old new : Devices S) : Type 0 where
  pub found : ℕ
  pub sink : SinkView
  pub run : IsProgramRun kind handed (asked_of words) found old (record { source = new.source; sink = sink; stock = new.stock })
  pub out : IsBroughtOut found status sink new.sink

-- the same of a run with a journal
pub record IsJournaledOver {S D : Type 0} (stores : DiskKind S) (kind : DiskKind D) (words : List (List ℕ)) (status : ℕ)
    (old new : JournaledDevices S D) : Type 0 where
  pub found : ℕ
  pub sink : SinkView
  pub run : IsJournaledProgram stores kind (asked_of words) found old (on_devices new.source sink new.shelf new.disk)
  pub out : IsBroughtOut found status sink new.sink

-- the status where a device could not be opened
abbrev pub open_status : OpenFault → ℕ
open_status Failed = 10
open_status Memory = 7
