-- How the program ends, and its devices.
use Rattle.std.specs.Prelude.{◌≡◌, ◌⊎◌, ◌==◌, Bool, false, not, ℕ, zero, suc, List, [], ◌∷◌, ◌++◌, map, replicate, Option, Some}
use Rattle.wtf_dev.specs.Calls.{uncalled}
use Rattle.wtf_dev.specs.Counts.{Rose}
use Rattle.wtf_dev.specs.Memory.{StoreState, KeeperState}
use Rattle.wtf_dev.specs.Store.{StoreKind}
use Rattle.wtf_dev.specs.Streams.{SinkView}
use Rattle.wtf_real.specs.declared.fault.OpenFault.{OpenFault}
use Rattle.wtf_real.specs.declared.fault.OpenFault.TheVariants.{Failed, Memory}
use Rattle.wtf_real.specs.Folders.{FolderState, folder_of}
use Rattle.wtf_healer.specs.Ends.{RunSpan, SinkSpan, sink_span, IsHealOver}
use Rattle.wtf_healer.specs.Runs.{IsHealStatus}

-- the status where a device could not be opened
abbrev pub heal_open_status : OpenFault → ℕ
heal_open_status Failed = 10
heal_open_status Memory = 7

-- the statuses that the program ends with
abbrev pub IsEnd : ℕ → Type 0
IsEnd status = (status ≡ 10) ⊎ IsHealStatus status

-- What the sink of a run with this status held back was brought out, and no byte was added: the status is the same, or 4 where the sink
-- failed then.
pub record IsBroughtOut (found status : ℕ) (old new : SinkView) : Type 0 where
  pub taken : (bytes : List ℕ) → old.taken ≡ Some bytes → new.taken ≡ Some bytes
  pub ended : ((status ≡ found) × (new.faults ≡ old.faults)) ⊎ ((status ≡ 4) × Rose old.faults new.faults)

-- the healer ran for the servers that its words name, and ended with this status once what its sink held back was brought out
pub record IsHealRun {S O : Type 0} (kind : StoreKind S) (names : Option (List ℕ)) (t : RunSpan S) (s : SinkSpan O) (status : ℕ) : Type 0 where
  pub found : ℕ
  pub sink : O
  pub ran : IsHealOver kind names t (sink_span s.view s.old sink) found
  pub out : IsBroughtOut found status (s.view sink) (s.view s.new)

-- a word names a folder: it has a byte, and does not look like an option
abbrev pub is_name : List ℕ → Bool
is_name [] = false
is_name (b ∷ bytes) = not (b == 45)

-- a store in memory with eight empty files, which fails only for want of memory
abbrev pub empty_store : StoreState
empty_store = record { files = replicate 8 []; calls = uncalled []; syncs = 0 }

-- a keeper in memory that holds no image, which fails only for want of memory
abbrev pub empty_keeper : KeeperState
empty_keeper = record { bytes = []; calls = uncalled [] }

-- the folders that stores are in
abbrev pub folders : List FolderState → List (List ℕ)
folders stores = map (λ (s : FolderState). s.folder) stores

-- the folders of the first servers in a folder of this path
abbrev pub folders_of : List ℕ → ℕ → List (List ℕ)
folders_of dir zero = []
folders_of dir (suc k) = folders_of dir k ++ folder_of dir k ∷ []
