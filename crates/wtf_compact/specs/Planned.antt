-- What a job puts in a region's place, what was read and stored for it, and why it was not planned.
use Rattle.std.specs.Prelude.{◌≡◌, ◌⊎◌, ℕ, ◌*◌, ◌++◌, nat_lt, Bool, true, false, List, [], ◌∷◌, length, Option, None, Some, is_some, ⊤}
use Rattle.std.specs.List.{All}
use Rattle.wtf_base.specs.declared.fault.Fault.{Fault}
use Rattle.wtf_base.specs.declared.fault.Fault.TheVariants as fault
use Rattle.wtf_base.specs.declared.slice.Slice.{Slice}
use Rattle.wtf_dev.specs.Store.{Range, StoreKind}
use Rattle.wtf_dev.specs.Sums.{TellsAll}
use Rattle.wtf_overlay.specs.Clips.{Within}
use Rattle.wtf_overlay.specs.Compact.{IsCompact}
use Rattle.wtf_overlay.specs.Origin.{Place, origin}
use Rattle.wtf_overlay.specs.Spilled.{encoded}
use Rattle.wtf_overlay.specs.declared.part.Entry.{Entry}
use Rattle.wtf_model.specs.declared.op.JobKind.{JobKind}
use Rattle.wtf_model.specs.declared.op.JobKind.TheVariants as job
use Rattle.wtf_replica.specs.Copies.{IsStored, GrowsOnce}
use Rattle.wtf_replica.specs.Faults.{IsWriteFault}
use Rattle.wtf_values.specs.declared.region.RegionValue.{RegionValue}
use Rattle.wtf_meta.specs.Lists.{Lists, ListFact, TellLists, base_facts, region_facts, list_of}
use Rattle.wtf_meta.specs.Files.{end_of}
use Rattle.wtf_meta.specs.Contents.{Told, SamePlaces, SameRegion, is_told, is_listed, lists_in}
use Rattle.wtf_meta.specs.Bytes.{EntryBytes, ListSlices, ListsBytes, MaybeBytes, RegionBytes, any_slice}
use Rattle.wtf_replica.specs.Outs.{IsLeftDown, SameLengths, SameSyncs}
use Rattle.wtf_region.specs.declared.dev.Dev.{Dev}
use Rattle.wtf_region.specs.Apart.{are_apart}
use Rattle.wtf_region.specs.Cached.{RemembersOnly}
use Rattle.wtf_region.specs.Devs.{GoesOn, stores, remembered, told_in, between, place_in, RemembersTrue}
use Rattle.wtf_region.specs.Reads.{Recalls, IsOfBase, TellsFacts, AreInsideLists, LeavesRegion}
use Rattle.wtf_region.specs.Showing.{OnlyRead}
use Rattle.wtf_compact.specs.declared.target.Target.{Target}

-- whether a job of a region that ends there stores a list: a spill does, but of a region without bytes
abbrev pub spills : JobKind → ℕ → Bool
spills job.Compact end = false
spills job.Spill end = nat_lt 0 end

-- The compact list of a region, whose base was read, and is remembered: slices alone, sorted and disjoint, of which no two neighbours could be
-- one. Over all lists that agree with what was read it has each byte of the region at the same places. It passes the region's end
-- nowhere, and names no other bytes than the region and the list of its base.
pub record IsShortList {S : Type 0} (kind : StoreKind S) (old new : Dev S) (v : RegionValue) (es : List Entry) : Type 0 where
  pub under : List Entry
  pub recalls : Recalls kind old new (base_facts v.base under)
  pub compact : IsCompact es
  pub origins : (lists : Lists) → TellLists lists (base_facts v.base under) → (y : ℕ) → origin es y ≡ origin (list_of lists v) y
  pub within : Within v.end es
  pub named : (P : List Place → Bool) (Q : Slice → Bool) → RegionBytes P Q v → ListsBytes P Q (base_facts v.base under) → All (EntryBytes P) es
  pub inside : AreInsideLists kind new (base_facts v.base under)
  pub told : TellsFacts kind old new (base_facts v.base under)

-- nothing was stored, and the value is a compact list, without a base
abbrev pub IsUnstoredShort : List ListFact → Option RegionValue → Type 0
IsUnstoredShort stored None = stored ≡ []
IsUnstoredShort stored (Some x) = (stored ≡ []) × (x.base ≡ None) × IsCompact x.list

-- one compact list was stored, in a slice of its own, which is the base of the value, seen up to its end, with no entry over it
pub record IsSpilled (stored : List ListFact) (value : Option RegionValue) : Type 0 where
  pub own : ListFact
  pub one : stored ≡ own ∷ []
  pub x : RegionValue
  pub is : value ≡ Some x
  pub base : x.base ≡ Some (record { slice = own.slice; visible = x.end })
  pub list : x.list ≡ []
  pub compact : IsCompact own.list
  pub within : Within x.end own.list

-- so is what a job is to put in a region's place, whatever became of its region since
pub record HasForm (t : Target) (value : Option RegionValue) : Type 0 where
  pub stored : List ListFact
  pub short : spills t.kind (end_of value) ≡ false → IsUnstoredShort stored value
  pub spilled : spills t.kind (end_of value) ≡ true → IsSpilled stored value

-- Behind the reads, with no other write, the bytes of one list were stored: once on each server of those that the region's place
-- gives, as every slice is.
pub record StoresList {S : Type 0} (kind : StoreKind S) (old new : Dev S) (t : Target) (stored : List ListFact) : Type 0 where
  pub own : ListFact
  pub one : stored ≡ own ∷ []
  pub mid : Dev S
  pub goes : GoesOn kind old mid []
  pub reads : OnlyRead kind (between old mid)
  pub slice : IsStored kind (between mid new) mid.settings.replicas (place_in mid t.inode (t.region * mid.settings.region)) (encoded own.list) own.slice

-- What holds of each byte that the region and the list of its base name, and of each slice of a base, holds of the list that was
-- stored; and if it holds of that list's slice, of the value that is put.
pub record NamesPlanned (now : Option RegionValue) (read stored : List ListFact) (value : Option RegionValue) : Type 0 where
  pub lists : (P : List Place → Bool) (Q : Slice → Bool) → MaybeBytes P Q now → ListsBytes P Q read
      → All (λ (f : ListFact). All (EntryBytes P) f.list) stored
  pub is_in : (P : List Place → Bool) (Q : Slice → Bool) → MaybeBytes P Q now → ListsBytes P Q read → ListSlices P Q stored → MaybeBytes P Q value

-- What is put in a region's place: it has the region's end, and each byte at the same places, over all lists that agree with what
-- was read of its base, which is remembered, and with what was stored. A region that is missing stays so.
pub record IsPlanned {S : Type 0} (kind : StoreKind S) (old new : Dev S) (t : Target) (now value : Option RegionValue) : Type 0 where
  pub under : List Entry
  pub recalls : Recalls kind old new (region_facts now under)
  pub stored : List ListFact
  pub same : SamePlaces (region_facts now under ++ stored) now value
  pub there : is_some value ≡ is_some now
  pub short : spills t.kind (end_of now) ≡ false → IsUnstoredShort stored value
  pub spilled : spills t.kind (end_of now) ≡ true → IsSpilled stored value
  pub told : TellsFacts kind old new (region_facts now under)
  pub told_own : TellsAll kind (stores old) → TellLists (lists_in new.settings.region (told_in kind new)) stored
  pub inside : AreInsideLists kind new (region_facts now under ++ stored)
  pub names : NamesPlanned now (region_facts now under) stored value
  pub unwritten : spills t.kind (end_of now) ≡ false → OnlyRead kind (between old new)
  pub written : spills t.kind (end_of now) ≡ true → StoresList kind old new t stored

-- the slice is that of the base of a region, which may be missing
abbrev pub IsOfRegion : Option RegionValue → Slice → Type 0
IsOfRegion None s = ⊥
IsOfRegion (Some v) s = IsOfBase v.base s

-- no list came to be remembered but that of the region's base, which was read: so none that was stored
abbrev pub RemembersItsBase : {S : Type 0} → (old new : Dev S) → Option RegionValue → Type 0
RemembersItsBase old new now = RemembersOnly (IsOfRegion now) (remembered old) (remembered new)

-- The stores grew by a list that a spill of a region with bytes was to store: no file but that of the region's place, and on each of the
-- place's servers once at most, by the bytes of the list.
pub record GrowsByList {S : Type 0} (kind : StoreKind S) (old new : Dev S) (t : Target) (now : Option RegionValue) : Type 0 where
  pub spilled : spills t.kind (end_of now) ≡ true
  pub list : List Entry
  pub compact : IsCompact list
  pub grows : GrowsOnce kind (between old new) (place_in old t.inode (t.region * old.settings.region)) (length (encoded list))

-- What a plan leaves of the stores, whatever comes of it: none of a server that is down is touched, none is synced, and no file grows, but
-- by a list that is to be stored.
pub record SparesStores {S : Type 0} (kind : StoreKind S) (old new : Dev S) (t : Target) (now : Option RegionValue) : Type 0 where
  pub down : IsLeftDown (between old new)
  pub syncs : SameSyncs kind (stores old) (stores new)
  pub grows : SameLengths kind (stores old) (stores new) ⊎ GrowsByList kind old new t now

-- the list of the region was not read, which leaves the lists that are remembered, and no store was written
pub record PlanLacksBase {S : Type 0} (kind : StoreKind S) (old new : Dev S) (now : Option RegionValue) (why : Fault) : Type 0 where
  pub cause : LeavesRegion kind old new now why
  pub reads : OnlyRead kind (between old new)

-- The list was read and is remembered, and too few servers took its bytes: only the file to which these were to go may have grown by them.
pub record LacksServers {S : Type 0} (kind : StoreKind S) (old new : Dev S) (t : Target) (now : Option RegionValue) (why : Fault) : Type 0 where
  pub spilled : spills t.kind (end_of now) ≡ true
  pub mid : Dev S
  pub goes : GoesOn kind old mid []
  pub reads : OnlyRead kind (between old mid)
  pub under : List Entry
  pub recalls : Recalls kind old mid (region_facts now under)
  pub out : IsWriteFault kind (between mid new) mid.settings why
  pub grows : GrowsByList kind mid new t now
  pub left : remembered new ≡ remembered mid

-- why a job was not planned; memory may be short at any time
abbrev pub IsPlanFault : {S : Type 0} → StoreKind S → (old new : Dev S) → Target → Option RegionValue → Fault → Type 0
IsPlanFault kind old new t now why = (why ≡ fault.Memory) ⊎ (PlanLacksBase kind old new now why ⊎ LacksServers kind old new t now why)

-- the value has the end and the bytes of the region, and each byte that it names is told, also those of its base's list; a region
-- without a value has nothing put in its place
pub record KeepsBytes (b : ℕ) (told : Told) (v x : RegionValue) : Type 0 where
  pub same : SameRegion told b (Some v) (Some x)
  pub named : RegionBytes (is_told told) (is_listed b told) x

abbrev pub KeepsRegion : ℕ → Told → Option RegionValue → Option RegionValue → Type 0
KeepsRegion b told None None = ⊤
KeepsRegion b told (Some v) (Some x) = KeepsBytes b told v x
KeepsRegion b told now value = ⊥

-- the stores tell their content, and each byte of the region, also of its base's list; the lists that are remembered are true, but of
-- slices of which a byte lies in these ranges, and the region's base is none of these
pub record TellsRegion {S : Type 0} (kind : StoreKind S) (dev : Dev S) (ranges : List (ℕ × Range)) (now : Option RegionValue) : Type 0 where
  pub all : TellsAll kind (stores dev)
  pub region : MaybeBytes (is_told (told_in kind dev)) (is_listed dev.settings.region (told_in kind dev)) now
  pub cache : RemembersTrue kind dev ranges
  pub away : MaybeBytes (are_apart ranges) any_slice now
