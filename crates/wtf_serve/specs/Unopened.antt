-- A run that was not opened, and the whole of what a run promises.
use Rattle.std.specs.Prelude.{◌≡◌, ◌≢◌, ◌⊎◌, ◌≤◌, ℕ, List, [], ◌∷◌, ◌++◌, length, Some, codes}
use Rattle.wtf_base.specs.declared.settings.Settings.{Settings}
use Rattle.wtf_dev.specs.Counts.{Rose}
use Rattle.wtf_dev.specs.Store.{StoreKind}
use Rattle.wtf_dev.specs.Streams.{SinkView}
use Rattle.wtf_replica.specs.Outs.{SameFrom}
use Rattle.wtf_image.specs.declared.error.LoadError.{LoadError}
use Rattle.wtf_image.specs.declared.error.LoadError.TheVariants as error
use Rattle.wtf_image.specs.Rows.{ImageRows}
use Rattle.wtf_image.specs.Images.{HasText}
use Rattle.wtf_image.specs.Rules.{AreGoodSettings, size_in}
use Rattle.wtf_image.specs.Loading.{IsLoadRefusal}
use Rattle.wtf_script.specs.ScriptLines.{line_feed}
use Rattle.wtf_serve.specs.Openings.{Opening, Opens}
use Rattle.wtf_serve.specs.Endings.{Devices, IsKeeperKept, Served}
use Rattle.wtf_serve.specs.Spared.{RunSpares}
use Rattle.wtf_serve.specs.Turns.{WroteFront}

-- the line of a refused image: the number of the refusal, and its name
abbrev pub refusal_text : LoadError → List ℕ
refusal_text error.NotAnImage = codes "image refused 1 notanimage"
refusal_text error.BadTree = codes "image refused 2 badtree"
refusal_text error.PointerOutside = codes "image refused 3 pointeroutside"
refusal_text error.BadSettings = codes "image refused 4 badsettings"
refusal_text error.Memory = []

abbrev pub refusal_line : LoadError → List ℕ
refusal_line why = refusal_text why ++ line_feed ∷ []

-- as many servers as an image with good settings asks for are there
abbrev pub HasServers : List ℕ → ℕ → Type 0
HasServers bytes stores = (x : ImageRows) → HasText x bytes → AreGoodSettings x → x.header.servers ≤ stores

-- an image is refused, by the first of the rules that it breaks
pub record IsRefusedBy (size : ℕ → ℕ → ℕ) (stores : ℕ) (bytes : List ℕ) (why : LoadError) : Type 0 where
  pub some : bytes ≢ []
  pub refusal : IsLoadRefusal size bytes why
  pub not_memory : why ≢ error.Memory
  -- with fewer stores than that the run ends before the tree is looked at
  pub enough : HasServers bytes stores

-- the bytes are an image that is refused, where there are so many stores
abbrev pub IsRefusedImage : (ℕ → ℕ → ℕ) → ℕ → List ℕ → Type 0
IsRefusedImage size stores bytes = (why : LoadError) × IsRefusedBy size stores bytes why

-- The line of a refused image is written; or, with status 4, a front of it, as the sink failed.
pub record Refuses (why : LoadError) (status : ℕ) (old new : SinkView) : Type 0 where
  pub status_is : (status ≡ 6) ⊎ (status ≡ 4)
  pub wrote : status ≡ 6 → (text : List ℕ) → old.taken ≡ Some text → new.taken ≡ Some (text ++ refusal_line why)
  pub cut : status ≡ 4 → (text : List ℕ) → old.taken ≡ Some text → WroteFront text (refusal_line why) new.taken
  pub cause : status ≡ 4 → Rose old.faults new.faults
  pub still : status ≢ 4 → new.faults ≡ old.faults

-- the image that the keeper gave is refused, and that is told
pub record HasRefused {S : Type 0} (kind : StoreKind S) (status : ℕ) (old new : Devices S) : Type 0 where
  pub bytes : List ℕ
  pub given : (held : List ℕ) → old.stock.keeper.held ≡ Some held → bytes ≡ held
  pub why : LoadError
  pub refused : IsRefusedBy (size_in kind old.stock.shelf) (length old.stock.shelf) bytes why
  pub told : Refuses why status old.sink new.sink

-- Why a run was not opened: for want of memory, as the keeper failed, or as its image is refused
abbrev pub IsWhy : {S : Type 0} → StoreKind S → ℕ → Devices S → Devices S → Type 0
IsWhy kind status old new =
    ((status ≡ 7) × (new.sink ≡ old.sink))
    ⊎ ((status ≡ 8) × (new.sink ≡ old.sink) × Rose old.stock.keeper.faults new.stock.keeper.faults)
    ⊎ HasRefused kind status old new

-- A run that was not opened: nothing was read, no store was touched, and nothing was handed to the keeper.
pub record IsUnopened {S : Type 0} (kind : StoreKind S) (handed : List (List ℕ) → Type 0) (status : ℕ)
    (old new : Devices S) : Type 0 where
  pub why : IsWhy kind status old new
  pub source_is : new.source ≡ old.source
  pub shelf_is : new.stock.shelf ≡ old.stock.shelf
  pub kept : IsKeeperKept handed old.stock.keeper new.stock.keeper

-- A run that was opened by what the keeper gave, which is what it held where it tells that. Through all of it the stores that its settings do not
-- have are as they were.
pub record IsOpened {S : Type 0} (kind : StoreKind S) (handed : List (List ℕ) → Type 0) (settings : Settings) (status : ℕ)
    (old new : Devices S) : Type 0 where
  pub opening : Opening
  pub opens : Opens settings opening.bytes opening
  pub given : (held : List ℕ) → old.stock.keeper.held ≡ Some held → opening.bytes ≡ held
  pub served : Served kind handed opening status old new
  pub spares : RunSpares kind handed status served.log served.mid.shelf old new
  pub past : SameFrom opening.settings.servers old.stock.shelf new.stock.shelf

-- a whole run, where these settings were asked for
abbrev pub IsRunWith : {S : Type 0} → StoreKind S → (List (List ℕ) → Type 0) → Settings → ℕ → Devices S → Devices S → Type 0
IsRunWith kind handed settings status old new = IsUnopened kind handed status old new ⊎ IsOpened kind handed settings status old new

-- the statuses of runs
abbrev pub IsRunStatus : ℕ → Type 0
IsRunStatus status = status ≤ 9
