-- The regions of a store that are healed: what is put in their places, and why a region was not healed.
use Rattle.std.specs.Prelude.{◌≡◌, ◌≢◌, ◌⊎◌, ℕ, ◌+◌, ◌≤◌, ◌<◌, ◌++◌, Bool, true, false, List, [], ◌∷◌, map, Option, None, Some, ⊤}
use Rattle.std.specs.List.{All, AllPairs, Contains, sum_by}
use Rattle.std.specs.declared.cmp.Ordering.TheVariants.{Less}
use Rattle.wtf_base.specs.declared.fault.Fault.{Fault}
use Rattle.wtf_base.specs.declared.fault.Fault.TheVariants as fault
use Rattle.wtf_base.specs.declared.ids.InodeId.{InodeId}
use Rattle.wtf_dev.specs.Store.{StoreKind}
use Rattle.wtf_kv.specs.declared.changes.Change.{Change}
use Rattle.wtf_kv.specs.declared.changes.Change.TheVariants as change
use Rattle.wtf_overlay.specs.Clips.{Within, clip_list}
use Rattle.wtf_overlay.specs.Compact.{IsCompact}
use Rattle.wtf_overlay.specs.Origin.{Place, origin}
use Rattle.wtf_overlay.specs.declared.part.Entry.{Entry}
use Rattle.wtf_replica.specs.Faults.{AreAllOut}
use Rattle.wtf_replica.specs.Spans.{Span}
use Rattle.wtf_values.specs.declared.key.Key.{Key}
use Rattle.wtf_values.specs.declared.key.Key.TheVariants.{Region}
use Rattle.wtf_values.specs.Keys.{key_cmp}
use Rattle.wtf_values.specs.declared.region.RegionValue.{RegionValue}
use Rattle.wtf_values.specs.declared.region.Spill.{Spill}
use Rattle.wtf_values.specs.declared.value.Value.TheVariants as value
use Rattle.wtf_values.specs.declared.value.Delta.{Delta}
use Rattle.wtf_values.specs.declared.value.Delta.TheVariants as delta
use Rattle.wtf_model.specs.declared.limits.TheConstants.{MAX_REGIONS}
use Rattle.wtf_meta.specs.Bytes.{EntryBytes, MapBytes, any_slice}
use Rattle.wtf_meta.specs.Maps.{Map}
use Rattle.wtf_region.specs.declared.cache.RegionKey.{RegionKey}
use Rattle.wtf_region.specs.declared.dev.Dev.{Dev}
use Rattle.wtf_region.specs.Devs.{is_down_in, between}
use Rattle.wtf_healer.specs.Bases.{IsBaseRead, IsDamaged, inside_left}
use Rattle.wtf_healer.specs.Sparse.{is_to_heal}
use Rattle.wtf_healer.specs.Restored.{AreRestored, Grew, LacksEntry, LacksServers}
use Rattle.wtf_healer.specs.declared.entries.Restored.{Restored}
use Rattle.wtf_healer.specs.declared.regions.Healed.{Healed}

-- ---- one region

-- the entries of a region over what is seen of the list in its base
abbrev pub list_over : Option Spill → List Entry → List Entry → List Entry
list_over None under list = list
list_over (Some s) under list = clip_list s.visible under ++ list

-- the compact list of the same bytes at the same places, of a region whose base has the list `under`
pub record IsCompacted (v : RegionValue) (under es : List Entry) : Type 0 where
  pub compact : IsCompact es
  pub origins : (x : ℕ) → origin es x ≡ origin (list_over v.base under v.list) x
  pub within : Within v.end es
  pub named : (P : List Place → Bool) → All (EntryBytes P) under → All (EntryBytes P) v.list → All (EntryBytes P) es

-- no slice of a region is sparse, also none of the list in its base
pub record HasNoSparse {S : Type 0} (kind : StoreKind S) (old new : Dev S) (v : RegionValue) : Type 0 where
  pub under : List Entry
  pub read : IsBaseRead kind old new v.base under
  pub whole : is_to_heal (is_down_in old) old.settings.replicas under v ≡ false

-- The region at a key was healed: its compact list, of which the sparse entries were stored anew, is what is put in its place.
pub record IsHealed {S : Type 0} (kind : StoreKind S) (old new : Dev S) (key : RegionKey) (v : RegionValue) (made : Restored) : Type 0 where
  pub under : List Entry
  pub read : IsBaseRead kind old new v.base under
  pub sparse : is_to_heal (is_down_in old) old.settings.replicas under v ≡ true
  pub short : List Entry
  pub short_is : IsCompacted v under short
  pub restored : AreRestored kind old new key short made.list made.bytes

abbrev pub IsHealedOr : {S : Type 0} → StoreKind S → (old new : Dev S) → RegionKey → RegionValue → Option Restored → Type 0
IsHealedOr kind old new key v None = HasNoSparse kind old new v
IsHealedOr kind old new key v (Some made) = IsHealed kind old new key v made

-- how many of its bytes were stored anew
abbrev pub bytes_restored : Option Restored → ℕ
bytes_restored None = 0
bytes_restored (Some made) = made.bytes

-- all servers of the slice of a base are out, the last of them k
abbrev pub HealLacksBase : {S : Type 0} → StoreKind S → Span S → Option Spill → ℕ → Type 0
HealLacksBase kind t None k = ⊥
HealLacksBase kind t (Some s) k = AreAllOut kind t s.slice k

-- what was read of the slice of a base from server k is no list, or one that names bytes outside the stores
abbrev pub HasDamage : {S : Type 0} → StoreKind S → (old new : Dev S) → Option Spill → ℕ → Type 0
HasDamage kind old new None k = ⊥
HasDamage kind old new (Some s) k = IsDamaged kind old new s.slice k

-- an entry that was to be stored anew was not read
pub record LacksBytes {S : Type 0} (kind : StoreKind S) (old new : Dev S) (v : RegionValue) (k : ℕ) : Type 0 where
  pub under : List Entry
  pub read : IsBaseRead kind old new v.base under
  pub short : List Entry
  pub short_is : IsCompacted v under short
  pub lacks : LacksEntry kind old new short k

-- an entry that was to be stored anew was not stored, of a region that is to be healed
pub record LacksCopies {S : Type 0} (kind : StoreKind S) (old new : Dev S) (v : RegionValue) : Type 0 where
  pub under : List Entry
  pub read : IsBaseRead kind old new v.base under
  pub sparse : is_to_heal (is_down_in old) old.settings.replicas under v ≡ true
  pub short : List Entry
  pub short_is : IsCompacted v under short
  pub lacks : LacksServers kind old new short

-- why a region was not healed; memory may be short at any time
abbrev pub IsRegionFault : {S : Type 0} → StoreKind S → (old new : Dev S) → RegionValue → Fault → Type 0
IsRegionFault kind old new v (fault.Read k) = HealLacksBase kind (between old new) v.base k.0 ⊎ LacksBytes kind old new v k.0
IsRegionFault kind old new v (fault.Damaged k) = HasDamage kind old new v.base k.0
IsRegionFault kind old new v fault.Write = LacksCopies kind old new v
IsRegionFault kind old new v fault.Memory = ⊤
IsRegionFault kind old new v other = ⊥

-- ---- all regions

-- what can be healed: all bytes that the regions name lie inside the stores, but for those on servers that are down, and each region
-- keeps the limits of its number and its end
pub record CanHeal {S : Type 0} (kind : StoreKind S) (dev : Dev S) (w : Map) : Type 0 where
  pub inside : MapBytes (inside_left kind dev) any_slice w
  pub few : (i : InodeId) (r : ℕ) (v : RegionValue) → w (Region i r) ≡ Some (value.Region v) → r < MAX_REGIONS
  pub ends : (i : InodeId) (r : ℕ) (v : RegionValue) → w (Region i r) ≡ Some (value.Region v) → v.end ≤ dev.settings.region

-- a region, the value that is put in its place, and how many bytes of it were stored anew
pub record Put : Type 0 where
  pub key : RegionKey
  pub value : RegionValue
  pub bytes : ℕ

abbrev pub change_of : Put → Change Key Delta
change_of p = change.Delta (Region p.key.inode p.key.region) (delta.Put (value.Region p.value))

-- it has the list that was restored, up to the region's end and without a base
pub record IsPutOf (key : RegionKey) (end : ℕ) (made : Restored) (p : Put) : Type 0 where
  pub key_is : p.key ≡ key
  pub end_is : p.value.end ≡ end
  pub base_is : p.value.base ≡ None
  pub list_is : p.value.list ≡ made.list
  pub bytes_are : p.bytes ≡ made.bytes

-- the region of a map was healed, and this is what is put there
pub record IsPutFor {S : Type 0} (kind : StoreKind S) (old new : Dev S) (w : Map) (p : Put) : Type 0 where
  pub was : RegionValue
  pub there : w (Region p.key.inode p.key.region) ≡ Some (value.Region was)
  pub made : Restored
  pub healed : IsHealed kind old new p.key was made
  pub put : IsPutOf p.key was.end made p

-- the region at a key was healed, and what is put there stands behind the other changes
pub record IsPutAt {S : Type 0} (kind : StoreKind S) (t : Dev S × Dev S) (w : Map) (key : Key) (was now : Healed) : Type 0 where
  pub put : Put
  pub key_is : key ≡ Region put.key.inode put.key.region
  pub for_it : IsPutFor kind t.0 t.1 w put
  pub changes : now.changes ≡ was.changes ++ change_of put ∷ []
  pub bytes : now.bytes ≡ was.bytes + put.bytes
  pub grew : Grew kind t.0 t.1 put.bytes

-- there is none at it, or one of which no slice is sparse
pub record IsLeftAt {S : Type 0} (kind : StoreKind S) (t : Dev S × Dev S) (w : Map) (key : Key) (was now : Healed) : Type 0 where
  pub changes : now.changes ≡ was.changes
  pub bytes : now.bytes ≡ was.bytes
  pub sound : (i : InodeId) (r : ℕ) (v : RegionValue) → key ≡ Region i r → w key ≡ Some (value.Region v) → HasNoSparse kind t.0 t.1 v
  pub grew : Grew kind t.0 t.1 0

-- one key was looked at, in the time in which what was lent became what it is
abbrev pub IsHealedAt : {S : Type 0} → StoreKind S → Dev S × Dev S → Map → Key → (was now : Healed) → Type 0
IsHealedAt kind t w key was now = IsPutAt kind t w key was now ⊎ IsLeftAt kind t w key was now

-- the region at a key was not healed
pub record LacksRegionAt {S : Type 0} (kind : StoreKind S) (t : Dev S × Dev S) (w : Map) (key : Key) (why : Fault) : Type 0 where
  pub inode : InodeId
  pub region : ℕ
  pub value_is : RegionValue
  pub key_is : key ≡ Region inode region
  pub there : w (Region inode region) ≡ Some (value.Region value_is)
  pub cause : IsRegionFault kind t.0 t.1 value_is why

-- why the region at a key was not healed
abbrev pub IsFaultAt : {S : Type 0} → StoreKind S → Dev S × Dev S → Map → Key → Fault → Type 0
IsFaultAt kind t w key why = (why ≡ fault.Memory) ⊎ LacksRegionAt kind t w key why

-- Each region of a map that has a sparse slice was healed, once, and no other one. So many bytes of them were stored anew.
pub record AreHealed {S : Type 0} (kind : StoreKind S) (old new : Dev S) (w : Map) (h : Healed) : Type 0 where
  pub puts : List Put
  pub changes : h.changes ≡ map change_of puts
  pub bytes : h.bytes ≡ sum_by (λ (p : Put). p.bytes) puts
  pub each : All (IsPutFor kind old new w) puts
  pub once : AllPairs (λ (p q : Put). p.key ≢ q.key) puts
  pub others : (i : InodeId) (r : ℕ) (v : RegionValue) → w (Region i r) ≡ Some (value.Region v)
      → Contains (map (λ (p : Put). p.key) puts) (record { inode = i; region = r }) ⊎ HasNoSparse kind old new v
  pub grew : Grew kind old new h.bytes

-- no slice of the region at a key is sparse, or it was healed
abbrev pub IsDone : {S : Type 0} → StoreKind S → (old new : Dev S) → RegionKey → RegionValue → Type 0
IsDone kind old new key v = HasNoSparse kind old new v ⊎ ((made : Restored) × IsHealed kind old new key v made)

-- why not all regions were healed: one of them was not, the first one in the order of keys
pub record LacksRegion {S : Type 0} (kind : StoreKind S) (old new : Dev S) (w : Map) (why : Fault) : Type 0 where
  pub inode : InodeId
  pub region : ℕ
  pub value_is : RegionValue
  pub there : w (Region inode region) ≡ Some (value.Region value_is)
  pub cause : IsRegionFault kind old new value_is why
  pub earlier : (i : InodeId) (r : ℕ) (v : RegionValue) → w (Region i r) ≡ Some (value.Region v)
      → key_cmp (Region i r) (Region inode region) ≡ Less → IsDone kind old new (record { inode = i; region = r }) v

abbrev pub IsHealFault : {S : Type 0} → StoreKind S → (old new : Dev S) → Map → Fault → Type 0
IsHealFault kind old new w why = (why ≡ fault.Memory) ⊎ LacksRegion kind old new w why
