-- What a call reads of the lists of bases, and why it does not.
use Rattle.std.specs.Prelude.{◌≡◌, ◌⊎◌, ℕ, ◌+◌, ◌-◌, ◌*◌, ◌<◌, ◌≤◌, false, List, [], ◌∷◌, Option, None, Some, length, ⊤}
use Rattle.std.specs.List.{All}
use Rattle.wtf_base.specs.declared.fault.Fault.{Fault}
use Rattle.wtf_base.specs.declared.fault.Fault.TheVariants as fault
use Rattle.wtf_base.specs.declared.slice.Slice.{Slice}
use Rattle.wtf_base.specs.Slices.{len_of}
use Rattle.wtf_dev.specs.Store.{Range, StoreKind}
use Rattle.wtf_overlay.specs.Spilled.{decoded}
use Rattle.wtf_overlay.specs.declared.part.Entry.{Entry}
use Rattle.wtf_overlay.specs.declared.part.Piece.{Piece}
use Rattle.wtf_values.specs.declared.region.RegionValue.{RegionValue}
use Rattle.wtf_values.specs.declared.region.Spill.{Spill}
use Rattle.wtf_replica.specs.Copies.{IsFetched}
use Rattle.wtf_replica.specs.Faults.{AreAllOut}
use Rattle.wtf_replica.specs.Inside.{size_in}
use Rattle.wtf_replica.specs.Spans.{Span}
use Rattle.wtf_meta.specs.Lists.{Lists, ListFact, TellLists, list_of, base_facts}
use Rattle.wtf_meta.specs.Files.{FileView}
use Rattle.wtf_meta.specs.Contents.{SliceTells, is_told, lists_in}
use Rattle.wtf_meta.specs.Bytes.{EntryBytes, SliceBytes, ListSlices, any_slice}
use Rattle.wtf_meta.specs.Reads.{ReadsRegion, ReadsFile}
use Rattle.wtf_region.specs.declared.dev.Dev.{Dev}
use Rattle.wtf_region.specs.Apart.{are_apart}
use Rattle.wtf_region.specs.Bases.{slices_of, region_slices, bases_in}
use Rattle.wtf_region.specs.Cached.{Remembered, cached, list_fact, recalled_one, recalled}
use Rattle.wtf_region.specs.Inside.{list_lies_inside}
use Rattle.wtf_region.specs.Devs.{GoesOn, RemembersTrue, stores, remembered, told_in, shown_in, inside_of, between}

-- the list may be remembered of the slice: both name only bytes inside the stores, and where it is known what a read of the slice gives, that
-- decodes to it
pub record IsTrueList {S : Type 0} (kind : StoreKind S) (dev : Dev S) (s : Slice) (es : List Entry) : Type 0 where
  pub lies : SliceBytes (inside_of kind dev) s
  pub inside : All (EntryBytes (inside_of kind dev)) es
  pub decodes : (bytes : List ℕ) → SliceTells (shown_in kind dev) s bytes → decoded dev.settings.region bytes ≡ Some es

-- over a cache that was true, the present stores tell the facts, if the bytes of their slices were told and lie apart from what
-- was punched
abbrev pub TellsFacts : {S : Type 0} → StoreKind S → (old new : Dev S) → List ListFact → Type 0
TellsFacts kind old new facts =
    (ranges : List (ℕ × Range)) → RemembersTrue kind old ranges
    → ListSlices (is_told (told_in kind old)) any_slice facts → ListSlices (are_apart ranges) any_slice facts
    → TellLists (lists_in new.settings.region (told_in kind new)) facts

-- each byte of each of the lists lies inside the stores
abbrev pub AreInsideLists : {S : Type 0} → StoreKind S → Dev S → List ListFact → Type 0
AreInsideLists kind dev facts = All (λ (f : ListFact). All (EntryBytes (inside_of kind dev)) f.list) facts

-- the slice is that of a base, if there is one
abbrev pub IsOfBase : Option Spill → Slice → Type 0
IsOfBase None s = ⊥
IsOfBase (Some base) s = s ≡ base.slice

-- A list was not among those that were remembered, and all bytes of its slice were read from server k, the first one with a copy that is
-- not out: they decode to it, where a region has b bytes.
pub record IsListFetched {S : Type 0} (kind : StoreKind S) (t : Span S) (b : ℕ) (had : Remembered) (s : Slice) (es : List Entry) : Type 0 where
  pub uncached : cached had s ≡ None
  pub bytes : List ℕ
  pub server : ℕ
  pub whole : length bytes ≡ len_of s
  pub fetched : IsFetched kind t s 0 bytes server
  pub decodes : decoded b bytes ≡ Some es

-- where a list comes from: it was remembered, or was read
abbrev pub IsListGot : {S : Type 0} → StoreKind S → Span S → (b : ℕ) → Remembered → Slice → List Entry → Type 0
IsListGot kind t b had s es = (cached had s ≡ Some es) ⊎ IsListFetched kind t b had s es

-- where each of these lists comes from, by what was remembered when it was asked for: the lists before it are then
abbrev pub AreListsGot : {S : Type 0} → StoreKind S → Span S → (b : ℕ) → Remembered → List ListFact → Type 0
AreListsGot kind t b had [] = ⊤
AreListsGot kind t b had (f ∷ fs) = IsListGot kind t b had f.slice f.list × AreListsGot kind t b (recalled_one f had) fs

-- these lists were asked for, one after another: each was remembered or was read, and what is remembered is as that leaves it
pub record Recalls {S : Type 0} (kind : StoreKind S) (old new : Dev S) (facts : List ListFact) : Type 0 where
  pub got : AreListsGot kind (between old new) old.settings.region (remembered old) facts
  pub left : remembered new ≡ recalled facts (remembered old)

-- the list of a slice was read: it is the last to be forgotten now, and is what the slice decodes to
pub record IsSliceRead {S : Type 0} (kind : StoreKind S) (old new : Dev S) (s : Slice) (es : List Entry) : Type 0 where
  pub recalls : Recalls kind old new (list_fact s es ∷ [])
  pub stands : cached (remembered new) s ≡ Some es
  pub inside : All (EntryBytes (inside_of kind new)) es
  pub told : (ranges : List (ℕ × Range)) → RemembersTrue kind old ranges → SliceBytes (is_told (told_in kind old)) s
      → SliceBytes (are_apart ranges) s → lists_in new.settings.region (told_in kind new) s ≡ Some es

-- the list of a region was read: over all lists that agree with what was read of its base it is the region's
pub record IsListRead {S : Type 0} (kind : StoreKind S) (old new : Dev S) (v : RegionValue) (list : List Entry) : Type 0 where
  pub under : List Entry
  pub is : (lists : Lists) → TellLists lists (base_facts v.base under) → list ≡ list_of lists v
  pub recalls : Recalls kind old new (base_facts v.base under)
  pub stands : All (λ (f : ListFact). cached (remembered new) f.slice ≡ Some f.list) (base_facts v.base under)
  pub inside : AreInsideLists kind new (base_facts v.base under)
  pub told : TellsFacts kind old new (base_facts v.base under)

-- a part of a region, which may be missing, was read as pieces, and the list of its base, if it has one
pub record IsPartRead {S : Type 0} (kind : StoreKind S) (old new : Dev S) (now : Option RegionValue) (off n : ℕ) (ps : List Piece) : Type 0 where
  pub facts : List ListFact
  pub wants : slices_of facts ≡ region_slices now
  pub recalls : Recalls kind old new facts
  pub reads : ReadsRegion now off n facts ps
  pub inside : AreInsideLists kind new facts
  pub told : TellsFacts kind old new facts

-- and n bytes of a file from off on: the lists of the bases of the regions in which they lie, in order
pub record IsFileRead {S : Type 0} (kind : StoreKind S) (old new : Dev S) (file : FileView) (off n : ℕ) (ps : List Piece) : Type 0 where
  pub facts : List ListFact
  pub wants : slices_of facts ≡ bases_in old.settings.region file off n
  pub recalls : Recalls kind old new facts
  pub reads : ReadsFile old.settings.region file off n facts ps
  pub inside : AreInsideLists kind new facts
  pub told : TellsFacts kind old new facts

-- why a slice's list was not read: it was not remembered, and all servers of the slice are out
pub record LacksList {S : Type 0} (kind : StoreKind S) (old new : Dev S) (s : Slice) (k : ℕ) : Type 0 where
  pub uncached : cached (remembered old) s ≡ None
  pub out : AreAllOut kind (between old new) s k

-- or what was read of it from server k is no list, or one that names bytes outside the stores
pub record IsDamaged {S : Type 0} (kind : StoreKind S) (old new : Dev S) (s : Slice) (k : ℕ) : Type 0 where
  pub uncached : cached (remembered old) s ≡ None
  pub bytes : List ℕ
  pub whole : length bytes ≡ len_of s
  pub read : IsFetched kind (between old new) s 0 bytes k
  pub bad : (es : List Entry) → decoded old.settings.region bytes ≡ Some es → list_lies_inside old.settings.servers (size_in kind (stores new)) es ≡ false

-- the faults of a slice; memory may be short at any time
abbrev pub IsSliceFault : {S : Type 0} → StoreKind S → (old new : Dev S) → Slice → Fault → Type 0
IsSliceFault kind old new s (fault.Read k) = LacksList kind old new s k.0
IsSliceFault kind old new s (fault.Damaged k) = IsDamaged kind old new s k.0
IsSliceFault kind old new s fault.Memory = ⊤
IsSliceFault kind old new s other = ⊥

-- of a region's base: where there is none, no server is asked
abbrev pub IsBaseFault : {S : Type 0} → StoreKind S → (old new : Dev S) → Option Spill → Fault → Type 0
IsBaseFault kind old new None why = why ≡ fault.Memory
IsBaseFault kind old new (Some s) why = IsSliceFault kind old new s.slice why

-- and of a region, which may be missing
abbrev pub IsRegionFault : {S : Type 0} → StoreKind S → (old new : Dev S) → Option RegionValue → Fault → Type 0
IsRegionFault kind old new None why = why ≡ fault.Memory
IsRegionFault kind old new (Some v) why = IsBaseFault kind old new v.base why

-- the lists of these slices were asked for, or none was
abbrev pub MayRecall : {S : Type 0} → StoreKind S → List Slice → (old new : Dev S) → Type 0
MayRecall kind wants old new =
    (remembered new ≡ remembered old) ⊎ ((facts : List ListFact) × (slices_of facts ≡ wants) × Recalls kind old new facts)

-- a fault leaves the lists that are remembered; want of memory may come after those of these slices were read
abbrev pub LeavesLists : {S : Type 0} → StoreKind S → List Slice → (old new : Dev S) → Fault → Type 0
LeavesLists kind wants old new fault.Memory = MayRecall kind wants old new
LeavesLists kind wants old new other = remembered new ≡ remembered old

-- why a region's list was not read, and what is remembered then
pub record LeavesRegion {S : Type 0} (kind : StoreKind S) (old new : Dev S) (now : Option RegionValue) (why : Fault) : Type 0 where
  pub cause : IsRegionFault kind old new now why
  pub left : LeavesLists kind (region_slices now) old new why

-- A region in which one of n bytes from off on lies has a list that was not read, at a moment to which the call had gone on: it is
-- the first one, and the lists of the bases of the regions before it were read, in order, and no others.
pub record LacksRegion {S : Type 0} (kind : StoreKind S) (old new : Dev S) (file : FileView) (off n : ℕ) (why : Fault) : Type 0 where
  pub mid : Dev S
  pub goes : GoesOn kind old mid []
  pub before : List ListFact
  pub recalls : Recalls kind old mid before
  pub some : 0 < n
  pub region : ℕ
  pub from : off < region * old.settings.region + old.settings.region
  pub upto : region * old.settings.region < off + n
  pub earlier : slices_of before ≡ bases_in old.settings.region file off (region * old.settings.region - off)
  pub cause : IsRegionFault kind mid new (file.region region) why
  pub left : LeavesLists kind (region_slices (file.region region)) mid new why

-- why n bytes of a file from off on were not read as pieces
abbrev pub IsFileFault : {S : Type 0} → StoreKind S → (old new : Dev S) → FileView → (off n : ℕ) → Fault → Type 0
IsFileFault kind old new file off n why = (why ≡ fault.Memory) ⊎ LacksRegion kind old new file off n why

-- of n bytes of a file from off on, the lists of the bases under the first so many of them were asked for, in order, and no others
pub record RecallsFirst {S : Type 0} (kind : StoreKind S) (old new : Dev S) (file : FileView) (off n : ℕ) : Type 0 where
  pub upto : ℕ
  pub within : upto ≤ n
  pub facts : List ListFact
  pub wants : slices_of facts ≡ bases_in old.settings.region file off upto
  pub recalls : Recalls kind old new facts
