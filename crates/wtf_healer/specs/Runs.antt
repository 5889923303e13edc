-- What a run of the healer promises: which status it ends with, what it writes, and what it leaves of stores and keeper.
use Rattle.std.specs.Prelude.{◌≡◌, ◌≢◌, ◌⊎◌, ℕ, ◌<◌, ◌^◌, Bool, true, false, List, [], ◌∷◌, ◌++◌, length, map, take, slice_index_or}
use Rattle.std.specs.Prelude.{Option, None, Some, ⊤}
use Rattle.std.specs.List.{All, AllPairs, Contains, sum_by}
use Rattle.std.specs.Option.{option_map}
use Rattle.wtf_base.specs.declared.fault.Fault.{Fault}
use Rattle.wtf_base.specs.declared.fault.Fault.TheVariants as fault
use Rattle.wtf_base.specs.declared.ids.InodeId.{InodeId}
use Rattle.wtf_base.specs.declared.settings.Settings.{Settings}
use Rattle.wtf_dev.specs.Counts.{Rose}
use Rattle.wtf_dev.specs.Keep.{KeeperView}
use Rattle.wtf_dev.specs.Store.{StoreKind}
use Rattle.wtf_dev.specs.Streams.{SinkView}
use Rattle.wtf_overlay.specs.Spilled.{decoded}
use Rattle.wtf_overlay.specs.declared.part.Entry.{Entry}
use Rattle.wtf_replica.specs.Bytes.{byte_at}
use Rattle.wtf_replica.specs.Outs.{HasRisen, HasSynced}
use Rattle.wtf_values.specs.declared.key.Key.{Key}
use Rattle.wtf_values.specs.declared.key.Key.TheVariants.{Region}
use Rattle.wtf_values.specs.declared.region.RegionValue.{RegionValue}
use Rattle.wtf_values.specs.declared.region.Spill.{Spill}
use Rattle.wtf_values.specs.declared.value.Value.TheVariants as value
use Rattle.wtf_model.specs.Tree.{Tree}
use Rattle.wtf_meta.specs.Contents.{Told}
use Rattle.wtf_meta.specs.Maps.{Map}
use Rattle.wtf_image.specs.declared.error.LoadError.{LoadError}
use Rattle.wtf_image.specs.declared.error.LoadError.TheVariants as error
use Rattle.wtf_image.specs.Images.{HasText}
use Rattle.wtf_image.specs.Loading.{AreSettingsOf, IsRefusalWithout, IsTaken}
use Rattle.wtf_image.specs.Lookups.{plain, row_at}
use Rattle.wtf_image.specs.Pictured.{IsImageOfTree}
use Rattle.wtf_image.specs.Rows.{ImageRows}
use Rattle.wtf_image.specs.Rules.{AreGoodSettings}
use Rattle.wtf_region.specs.declared.cache.RegionKey.{RegionKey}
use Rattle.wtf_region.specs.declared.dev.Dev.{Dev}
use Rattle.wtf_region.specs.Devs.{stores, is_down_in}
use Rattle.wtf_healer.specs.Bases.{UpTells}
use Rattle.wtf_healer.specs.Lines.{done_lines, fault_line, refusal_line, ReportFront}
use Rattle.wtf_healer.specs.Live.{IsLiveTree}
use Rattle.wtf_healer.specs.Regions.{IsCompacted, IsHealFault}
use Rattle.wtf_healer.specs.Spared.{AreSpared}
use Rattle.wtf_healer.specs.Sparse.{is_to_heal, sparse_bytes}
use Rattle.wtf_healer.specs.Words.{is_server_in}

-- ---- statuses, and what is written

-- the statuses of runs
abbrev pub IsHealStatus : ℕ → Type 0
IsHealStatus n = (n ≡ 0) ⊎ (n ≡ 2) ⊎ (n ≡ 4) ⊎ (n ≡ 5) ⊎ (n ≡ 6) ⊎ (n ≡ 7) ⊎ (n ≡ 8) ⊎ (n ≡ 11)

-- those of runs that write nothing
abbrev pub IsQuiet : ℕ → Type 0
IsQuiet n = (n ≡ 2) ⊎ (n ≡ 5) ⊎ (n ≡ 7) ⊎ (n ≡ 8)

-- those of runs that hand nothing to the keeper
abbrev pub IsUnkept : ℕ → Type 0
IsUnkept n = (n ≡ 2) ⊎ (n ≡ 6) ⊎ (n ≡ 7) ⊎ (n ≡ 8) ⊎ (n ≡ 11)

-- and those of runs that touch no store
abbrev pub IsUntouched : ℕ → Type 0
IsUntouched n = (n ≡ 2) ⊎ (n ≡ 6) ⊎ (n ≡ 8)

-- the text that is due with a status
abbrev pub IsDue : ℕ → List ℕ → Type 0
IsDue status text =
    ((status ≡ 0) × (n : ℕ) × (m : ℕ) × (text ≡ done_lines n m))
    ⊎ ((status ≡ 6) × (why : LoadError) × (why ≢ error.Memory) × (text ≡ refusal_line why))
    ⊎ ((status ≡ 11) × (why : Fault) × (why ≢ fault.Memory) × (text ≡ fault_line why))

-- it was written whole, or, with status 4, a front of the text that was due with another status
abbrev pub WroteReport : ℕ → List ℕ → Option (List ℕ) → Type 0
WroteReport status old new =
    (IsQuiet status × (new ≡ Some old))
    ⊎ ((due : List ℕ) × IsDue status due × (new ≡ Some (old ++ due)))
    ⊎ ((status ≡ 4) × (instead : ℕ) × (due : List ℕ) × IsDue instead due × ReportFront old due new)

-- a text was written whole, and the status is this one; or, with status 4, a front of it, as the sink failed
pub record SaysText (text : List ℕ) (wanted status : ℕ) (old new : SinkView) : Type 0 where
  pub status_is : (status ≡ wanted) ⊎ (status ≡ 4)
  pub whole : status ≡ wanted → (taken : List ℕ) → old.taken ≡ Some taken → new.taken ≡ Some (taken ++ text)
  pub front : status ≡ 4 → (taken : List ℕ) → old.taken ≡ Some taken → ReportFront taken text new.taken
  pub cause : status ≡ 4 → Rose old.faults new.faults
  pub still : status ≢ 4 → new.faults ≡ old.faults

-- ---- what is refused

-- an image with good settings that cannot do without these servers, where there are so many stores
pub record AreNotSpared (ks : List ℕ) (bytes : List ℕ) (stores : ℕ) : Type 0 where
  pub rows : ImageRows
  pub text : HasText rows bytes
  pub good : AreGoodSettings rows
  pub bad : (s : Settings) → AreSettingsOf rows s → AreSpared ks s stores → ⊥

-- the words name no servers, or those without which the image that is held cannot do
abbrev pub AreRefused : Option (List ℕ) → List ℕ → ℕ → Type 0
AreRefused None held stores = ⊤
AreRefused (Some ks) [] stores = ⊥
AreRefused (Some ks) (b ∷ bytes) stores = AreNotSpared ks (b ∷ bytes) stores

-- the image breaks a rule, where the lengths of lost stores are not looked at
pub record IsRefusedImage (ks : List ℕ) (size : ℕ → ℕ → ℕ) (bytes : List ℕ) : Type 0 where
  pub some : bytes ≢ []
  pub why : LoadError
  pub refusal : IsRefusalWithout (is_server_in ks) size bytes why
  pub not_memory : why ≢ error.Memory

-- ---- why a run fails

-- In the closing sync the store of a server that is left failed, and then nothing was handed to the keeper; or the keeper failed.
abbrev pub IsSaveFault : {S : Type 0} → StoreKind S → (handed : List (List ℕ) → Type 0) → List ℕ → (before after : List S) → KeeperView × KeeperView → Type 0
IsSaveFault kind handed ks before after (old, new) =
    ((k : ℕ) × (is_server_in ks k ≡ false) × HasRisen kind before after k × handed []) ⊎ Rose old.faults new.faults

-- the stores of all servers of an image that are left were synced
abbrev pub AreSynced : {S : Type 0} → StoreKind S → List ℕ → (before after : List S) → List ℕ → Type 0
AreSynced kind ks before after bytes =
    (x : ImageRows) → HasText x bytes → (k : ℕ) → k < x.header.servers → is_server_in ks k ≡ false → HasSynced kind before after k

-- no count of faults rose: not that of the sink, of a store, or of the keeper
abbrev pub NoFaultRose : {S : Type 0} → StoreKind S → (old new : SinkView × List S × KeeperView) → Type 0
NoFaultRose kind (sink, shelf, keeper) (sink', shelf', keeper') =
    (Rose sink.faults sink'.faults → ⊥) × ((k : ℕ) → HasRisen kind shelf shelf' k → ⊥) × (Rose keeper.faults keeper'.faults → ⊥)

-- these stores are lent, for these settings, while these servers are down
pub record AreStoresLent {S : Type 0} (shelf : List S) (settings : Settings) (ks : List ℕ) (dev : Dev S) : Type 0 where
  pub stores_are : stores dev ≡ shelf
  pub settings_are : dev.settings ≡ settings
  pub down : (k : ℕ) → is_down_in dev k ≡ is_server_in ks k

-- A region of the image was not healed: a list or bytes were not read, bytes were not stored, or what was read is no list of bytes
-- inside the stores. That is what the fault says.
pub record HasFault {S : Type 0} (kind : StoreKind S) (ks : List ℕ) (old new : List S) (bytes : List ℕ) (why : Fault) : Type 0 where
  pub rows : ImageRows
  pub map : Map
  pub text : HasText rows bytes
  pub says : (q : Key) → option_map plain (map q) ≡ row_at rows q
  pub settings : Settings
  pub settings_are : AreSettingsOf rows settings
  pub spared : AreSpared ks settings (length old)
  pub before : Dev S
  pub before_is : AreStoresLent old settings ks before
  pub after : Dev S
  pub after_is : AreStoresLent new settings ks after
  pub cause : IsHealFault kind before after map why

-- ---- what is healed

-- the list of a base, by what the copies of its slice on servers that are left tell
abbrev pub IsUnder : (b : ℕ) → Told → (ℕ → Bool) → Option Spill → List Entry → Type 0
IsUnder b told lost None under = under ≡ []
IsUnder b told lost (Some s) under = (bytes : List ℕ) × UpTells lost told s.slice bytes × (decoded b bytes ≡ Some under)

-- a region, and how many of its bytes are stored anew
pub record Work : Type 0 where
  pub key : RegionKey
  pub bytes : ℕ

-- the region of a map is to be healed, with so many bytes: those of the sparse entries of its compact list
pub record IsWork (b n : ℕ) (told : Told) (lost : ℕ → Bool) (w : Map) (x : Work) : Type 0 where
  pub was : RegionValue
  pub there : w (Region x.key.inode x.key.region) ≡ Some (value.Region was)
  pub under : List Entry
  pub under_is : IsUnder b told lost was.base under
  pub sparse : is_to_heal lost n under was ≡ true
  pub short : List Entry
  pub short_is : IsCompacted was under short
  pub bytes_are : x.bytes ≡ sparse_bytes lost n short

-- a region of which no slice is sparse
pub record IsWholeRegion (b n : ℕ) (told : Told) (lost : ℕ → Bool) (v : RegionValue) : Type 0 where
  pub under : List Entry
  pub under_is : IsUnder b told lost v.base under
  pub whole : is_to_heal lost n under v ≡ false

-- the regions of an image that are to be healed, each once, and how many bytes they have together that are stored anew
pub record AreToHeal (told : Told) (lost : ℕ → Bool) (bytes : List ℕ) (regions anew : ℕ) : Type 0 where
  pub rows : ImageRows
  pub map_is : Map
  pub text : HasText rows bytes
  pub says : (q : Key) → option_map plain (map_is q) ≡ row_at rows q
  pub work : List Work
  pub each : All (IsWork rows.header.region rows.header.replicas told lost map_is) work
  pub once : AllPairs (λ (x y : Work). x.key ≢ y.key) work
  pub others : (i : InodeId) (r : ℕ) (v : RegionValue) → map_is (Region i r) ≡ Some (value.Region v)
      → Contains (map (λ (x : Work). x.key) work) (record { inode = i; region = r }) ⊎ IsWholeRegion rows.header.region rows.header.replicas told lost v
  pub regions_are : regions ≡ length work
  pub anew_is : anew ≡ sum_by (λ (x : Work). x.bytes) work

-- no slice of an image is sparse, also none of the lists in its bases
pub record IsWholeImage (told : Told) (lost : ℕ → Bool) (bytes : List ℕ) : Type 0 where
  pub rows : ImageRows
  pub map : Map
  pub text : HasText rows bytes
  pub says : (q : Key) → option_map plain (map q) ≡ row_at rows q
  pub whole : (i : InodeId) (r : ℕ) (v : RegionValue) → map (Region i r) ≡ Some (value.Region v)
      → IsWholeRegion rows.header.region rows.header.replicas told lost v

-- both have the same settings and the same next transaction
pub record SameSettings (bytes kept : List ℕ) : Type 0 where
  pub was : ImageRows
  pub was_text : HasText was bytes
  pub is : ImageRows
  pub is_text : HasText is kept
  pub servers : is.header.servers ≡ was.header.servers
  pub replicas : is.header.replicas ≡ was.header.replicas
  pub region : is.header.region ≡ was.header.region
  pub next_tx : is.header.next_tx ≡ was.header.next_tx

-- The image that a whole pass leaves: it has the settings of the one before, breaks no rule over the stores as they are left, whose
-- files have these sizes, and no slice of it is sparse. Its tree is the one that the image before had without the lost servers, with
-- them as well as without them.
pub record IsHealedImage (now : Told) (size : ℕ → ℕ → ℕ) (lost : ℕ → Bool) (t : Tree) (bytes kept : List ℕ) : Type 0 where
  pub settings : SameSettings bytes kept
  pub rows : ImageRows
  pub taken : IsTaken size kept rows
  pub tree : IsImageOfTree now kept t
  pub live : IsLiveTree now lost kept t
  pub whole : IsWholeImage now lost kept

-- the tree of an image while servers are lost, by what the stores of its own servers tell: where there are more, these are not looked at
abbrev pub IsLiveTreeIn : {S : Type 0} → StoreKind S → List S → (ℕ → Bool) → List ℕ → Tree → Type 0
IsLiveTreeIn kind shelf lost bytes t = (x : ImageRows) → HasText x bytes → IsLiveTree (byte_at kind (take x.header.servers shelf)) lost bytes t

-- the numbers of installs of an image leave room for one more
abbrev pub HasNextNumber : List ℕ → Type 0
HasNextNumber bytes = (x : ImageRows) → HasText x bytes → x.header.installs < 2 ^ 62

-- the stores of servers that are left tell their content, and the keeper tells what it holds and what it is handed
pub record AreTelling {S : Type 0} (kind : StoreKind S) (ks : List ℕ) (shelf : List S) (keeper : KeeperView) (bytes : List ℕ) : Type 0 where
  pub stores_tell : (k : ℕ) (d : S) → k < length shelf → is_server_in ks k ≡ false → (kind.view (slice_index_or shelf k d)).tells ≡ true
  pub keeper_tells : keeper.tells ≡ true
  pub held : keeper.held ≡ Some bytes
