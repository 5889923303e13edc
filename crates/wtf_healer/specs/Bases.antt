-- Reading the list in the base of a region while servers are down, and why it is not read.
use Rattle.std.specs.Prelude.{◌≡◌, ℕ, ◌<◌, Bool, true, false, ◌&&◌, ◌||◌, nat_lt, List, [], Option, None, Some, length, slice_index, ⊤}
use Rattle.std.specs.List.{All, list_all}
use Rattle.wtf_base.specs.declared.fault.Fault.{Fault}
use Rattle.wtf_base.specs.declared.fault.Fault.TheVariants as fault
use Rattle.wtf_base.specs.declared.settings.Settings.{Settings}
use Rattle.wtf_base.specs.declared.slice.Slice.{Slice}
use Rattle.wtf_base.specs.Slices.{len_of, pointers_of}
use Rattle.wtf_dev.specs.Store.{StoreKind}
use Rattle.wtf_overlay.specs.declared.part.Part.{Part}
use Rattle.wtf_overlay.specs.declared.part.Part.TheVariants.{Zero, Held}
use Rattle.wtf_overlay.specs.declared.part.Entry.{Entry}
use Rattle.wtf_overlay.specs.Origin.{Place}
use Rattle.wtf_overlay.specs.Spilled.{decoded}
use Rattle.wtf_replica.specs.Bytes.{HasByteUp}
use Rattle.wtf_replica.specs.Copies.{IsFetched}
use Rattle.wtf_replica.specs.Faults.{AreAllOut}
use Rattle.wtf_replica.specs.Inside.{size_in}
use Rattle.wtf_values.specs.declared.region.Spill.{Spill}
use Rattle.wtf_meta.specs.Bytes.{EntryBytes}
use Rattle.wtf_meta.specs.Contents.{Told}
use Rattle.wtf_image.specs.Rules.{lies_inside_without}
use Rattle.wtf_region.specs.declared.dev.Dev.{Dev}
use Rattle.wtf_region.specs.Devs.{stores, is_down_in, told_in, between}

-- each copy of a slice lies inside the stores of so many servers, whose files have these sizes; those on lost servers are not
-- looked at
abbrev pub slice_lies : (ℕ → Bool) → ℕ → (ℕ → ℕ → ℕ) → Slice → Bool
slice_lies lost servers size s = list_all (lies_inside_without lost servers size) (pointers_of s)

abbrev pub part_lies : (ℕ → Bool) → ℕ → (ℕ → ℕ → ℕ) → Part → Bool
part_lies lost servers size Zero = true
part_lies lost servers size (Held s) = slice_lies lost servers size s

-- all that a list names does
abbrev pub list_lies : (ℕ → Bool) → ℕ → (ℕ → ℕ → ℕ) → List Entry → Bool
list_lies lost servers size es = list_all (λ (e : Entry). part_lies lost servers size e.part) es

-- the same over the stores that are lent
abbrev pub list_lies_lent : {S : Type 0} → StoreKind S → Dev S → List Entry → Bool
list_lies_lent kind dev es = list_lies (is_down_in dev) dev.settings.servers (size_in kind (stores dev)) es

-- a place lies on a server of the settings, in one of its eight files, and before its end where that server is not down
abbrev pub is_place_left : {S : Type 0} → StoreKind S → List S → Settings → (ℕ → Bool) → Place → Bool
is_place_left kind shelf settings down p =
    nat_lt p.server settings.servers && (nat_lt p.file 8 && (down p.server || nat_lt p.at (size_in kind shelf p.server p.file)))

-- the places of a byte all do; a hole has none
abbrev pub inside_left : {S : Type 0} → StoreKind S → Dev S → List Place → Bool
inside_left kind dev places = list_all (is_place_left kind (stores dev) dev.settings (is_down_in dev)) places

-- each copy of a slice on a server that is up tells these bytes
pub record UpTells (down : ℕ → Bool) (told : Told) (s : Slice) (bytes : List ℕ) : Type 0 where
  pub len : len_of s ≡ length bytes
  pub tells : (i : ℕ) → i < len_of s → HasByteUp down told s i (slice_index bytes i)

-- the bytes are those of a list that names only bytes inside the stores
pub record IsListIn {S : Type 0} (kind : StoreKind S) (dev : Dev S) (bytes : List ℕ) (es : List Entry) : Type 0 where
  pub decodes : decoded dev.settings.region bytes ≡ Some es
  pub lies : list_lies_lent kind dev es ≡ true

-- they are of no list, or of one that names bytes outside the stores
abbrev pub AreNoList : {S : Type 0} → StoreKind S → Dev S → List ℕ → Type 0
AreNoList kind dev bytes = (es : List Entry) → decoded dev.settings.region bytes ≡ Some es → list_lies_lent kind dev es ≡ false

-- why bytes that server k gave are taken for no list; memory may be short at any time
abbrev pub IsNoListIn : {S : Type 0} → StoreKind S → Dev S → List ℕ → ℕ → Fault → Type 0
IsNoListIn kind dev bytes k (fault.Damaged j) = (j.0 ≡ k) × AreNoList kind dev bytes
IsNoListIn kind dev bytes k fault.Memory = ⊤
IsNoListIn kind dev bytes k other = ⊥

-- the list of a slice was read: what each copy of it on a server that is up tells decodes to it, and it names bytes inside the
-- stores
pub record IsListRead {S : Type 0} (kind : StoreKind S) (old new : Dev S) (s : Slice) (es : List Entry) : Type 0 where
  pub decodes : (bytes : List ℕ) → UpTells (is_down_in old) (told_in kind old) s bytes → decoded old.settings.region bytes ≡ Some es
  pub inside : All (EntryBytes (inside_left kind new)) es

-- that of a base; without one there is no entry
abbrev pub IsBaseRead : {S : Type 0} → StoreKind S → (old new : Dev S) → Option Spill → List Entry → Type 0
IsBaseRead kind old new None es = es ≡ []
IsBaseRead kind old new (Some s) es = IsListRead kind old new s.slice es

-- what was read of a slice from server k is no list, or one that names bytes outside the stores
pub record IsDamaged {S : Type 0} (kind : StoreKind S) (old new : Dev S) (s : Slice) (k : ℕ) : Type 0 where
  pub bytes : List ℕ
  pub whole : length bytes ≡ len_of s
  pub read : IsFetched kind (between old new) s 0 bytes k
  pub bad : AreNoList kind new bytes

-- why the list of a slice was not read; memory may be short at any time
abbrev pub IsListFault : {S : Type 0} → StoreKind S → (old new : Dev S) → Slice → Fault → Type 0
IsListFault kind old new s (fault.Read k) = AreAllOut kind (between old new) s k.0
IsListFault kind old new s (fault.Damaged k) = IsDamaged kind old new s k.0
IsListFault kind old new s fault.Memory = ⊤
IsListFault kind old new s other = ⊥

-- or that of a base
abbrev pub IsBaseFault : {S : Type 0} → StoreKind S → (old new : Dev S) → Option Spill → Fault → Type 0
IsBaseFault kind old new None why = why ≡ fault.Memory
IsBaseFault kind old new (Some s) why = IsListFault kind old new s.slice why
