-- A quiet ending of a run: from a moment on no transaction and no job is open, and only scans, pieces of any number of parts and collections
-- follow. Then two scans find just what the versions that are kept name, and what these do not name a collection frees. Where the tree was
-- saved at that moment, that is what the image does not name.
use Rattle.std.specs.Prelude.{◌≡◌, ◌⊎◌, ◌↔◌, ◌<◌, ◌≤◌, ℕ, ◌-◌, Bool, ◌||◌, nat_eq, true, false, List, [], ◌∷◌, Option, Some, None, IsTrue, ⊤}
use Rattle.std.specs.FinMap.{get}
use Rattle.std.specs.List.{list_any}
use Rattle.wtf_base.specs.declared.ids.InodeId.{InodeId}
use Rattle.wtf_base.specs.Places.{Place}
use Rattle.wtf_dev.specs.Store.{StoreKind}
use Rattle.wtf_kv.specs.Stores.{Store, is_live}
use Rattle.wtf_replica.specs.Bytes.{byte_at}
use Rattle.wtf_replica.specs.Inside.{size_in}
use Rattle.wtf_values.specs.declared.key.Key.{Key}
use Rattle.wtf_values.specs.declared.key.Key.TheVariants.{Region}
use Rattle.wtf_values.specs.declared.region.RegionValue.{RegionValue}
use Rattle.wtf_values.specs.declared.value.Value.{Value}
use Rattle.wtf_values.specs.declared.value.Value.TheVariants as value
use Rattle.wtf_model.specs.declared.answer.Answer.{Answer}
use Rattle.wtf_model.specs.declared.answer.Answer.TheVariants as answer
use Rattle.wtf_model.specs.declared.event.Event.{Event}
use Rattle.wtf_model.specs.declared.event.Event.TheVariants as event
use Rattle.wtf_model.specs.declared.limits.TheConstants.{SCAN_PARTS}
use Rattle.wtf_model.specs.Machines.{Machine}
use Rattle.wtf_meta.specs.Contents.{Told, lists_in}
use Rattle.wtf_meta.specs.Maps.{Map, metadata_at}
use Rattle.wtf_image.specs.Images.{HasText}
use Rattle.wtf_image.specs.Lookups.{plain, row_at}
use Rattle.wtf_image.specs.Rows.{ImageRows}
use Rattle.wtf_gc.specs.Extents.{extents_cover}
use Rattle.wtf_gc.specs.Named.{region_has}
use Rattle.wtf_gc.specs.Parts.{part_of}
use Rattle.wtf_gc.specs.Views.{ScanView, RunView, mark_of, length_in}
use Rattle.wtf_clients.specs.Views.{TablesView, of_client, of_label, metadata_now}
use Rattle.wtf_core.specs.Views.{CoreView}

-- a region of a map names the byte at a place, itself or by its base's list, as stores that tell this decode it
pub record MapNames (size : ℕ) (told : Told) (w : Map) (p : Place) : Type 0 where
  pub inode : InodeId
  pub region : ℕ
  pub row : RegionValue
  pub there : w (Region inode region) ≡ Some (value.Region row)
  pub names : region_has (lists_in size told) row p ≡ true

-- a version that is kept does: one of the map at a number that can be read
pub record KeptNames (size : ℕ) (told : Told) (kv : Store Key Value) (p : Place) : Type 0 where
  pub number : ℕ
  pub live : IsTrue (is_live kv number)
  pub named : MapNames size told (metadata_at kv number) p

-- one of a region that stands in the first n parts
pub record PartsName (size : ℕ) (told : Told) (kv : Store Key Value) (n : ℕ) (p : Place) : Type 0 where
  pub kept : KeptNames size told kv p
  pub part : part_of kept.named.inode < n

-- and a region of an image does
pub record ImageNames (told : Told) (bytes : List ℕ) (p : Place) : Type 0 where
  pub rows : ImageRows
  pub text : HasText rows bytes
  pub inode : InodeId
  pub region : ℕ
  pub row : RegionValue
  pub there : row_at rows (Region inode region) ≡ Some (plain (value.Region row))
  pub names : region_has (lists_in rows.header.region told) row p ≡ true

-- no transaction and no job of a machine is open
pub record IsIdle (m : Machine) : Type 0 where
  pub transactions : (c : ℕ) → get m.transactions c ≡ None
  pub jobs : (j : ℕ) → get m.jobs j ≡ None

-- the same of the tables
pub record AreIdle (tables : TablesView) : Type 0 where
  pub clients : (c : ℕ) → of_client tables.clients c ≡ None
  pub jobs : (j : ℕ) → of_label tables.beside.jobs j ≡ None

-- no number but that of installs is watched
abbrev pub WatchesNoOther : TablesView → Type 0
WatchesNoOther tables = (n : ℕ) → tables.beside.watched ≡ Some n → n ≡ tables.kv.number

-- and the image at the number is the only one that may be on the keeper, and no other number is watched
pub record IsAtRest (tables : TablesView) : Type 0 where
  pub idle : AreIdle tables
  pub image : tables.beside.images ≡ tables.kv.number ∷ []
  pub some : tables.beside.none ≡ false
  pub watched : WatchesNoOther tables

-- the number that is watched
abbrev pub is_watched : Option ℕ → ℕ → Bool
is_watched None n = false
is_watched (Some w) n = nat_eq n w

-- the number now, that of an image that may be on the keeper, or the one that is watched
abbrev pub is_kept : TablesView → ℕ → Bool
is_kept tables n = nat_eq n tables.kv.number || (list_any (nat_eq n) tables.beside.images || is_watched tables.beside.watched n)

-- a scan began when the files were as long as they are, and found just what the versions that are kept name
pub record HasScanned (size : ℕ) (told : Told) (length : ℕ → ℕ → ℕ) (kv : Store Key Value) (s : ScanView) : Type 0 where
  pub marks : (k f : ℕ) → mark_of s k f ≡ length k f
  pub all : (p : Place) → KeptNames size told kv p → extents_cover s.found p ≡ true
  pub only : (p : Place) → extents_cover s.found p ≡ true → KeptNames size told kv p

-- One began then, and has pinned no number but the one now, the images' and the one that is watched. It has found just what is named in the
-- parts that are done.
pub record HasBegun (size : ℕ) (told : Told) (length : ℕ → ℕ → ℕ) (tables : TablesView) (r : RunView) : Type 0 where
  pub marks : (k f : ℕ) → mark_of r.scan k f ≡ length k f
  pub left : r.left ≤ SCAN_PARTS
  pub all : (p : Place) → PartsName size told tables.kv (SCAN_PARTS - r.left) p → extents_cover r.scan.found p ≡ true
  pub only : (p : Place) → extents_cover r.scan.found p ≡ true → PartsName size told tables.kv (SCAN_PARTS - r.left) p
  pub seen : (n : ℕ) → list_any (nat_eq n) r.seen ≡ true → is_kept tables n ≡ true

-- how far a quiet ending has come; one that has just begun is as far as a save brings it
pub data Stage : Type 0 where
  Saved : Stage
  Scans : Stage
  Scanned : Stage
  ScansAgain : Stage
  ScannedTwice : Stage

-- where a scan that begins brings it; one of which two scans are done may go on with a third
abbrev pub stage_begun : Stage → Stage
stage_begun Saved = Scans
stage_begun Scanned = ScansAgain
stage_begun ScannedTwice = ScansAgain
stage_begun s = s

-- and where the last part of one does
abbrev pub stage_done : Stage → Stage
stage_done Scans = Scanned
stage_done ScansAgain = ScannedTwice
stage_done s = s

-- How far a line brings it, by its answer. All other scans, pieces and collections leave it there, those that fail too; no other line may come.
abbrev pub next_stage : Stage → Event → Answer → Option Stage
next_stage s event.Scan answer.Scanning = Some (stage_begun s)
next_stage s event.Scan a = Some s
next_stage s (event.Piece n) answer.Done = Some (stage_done s)
next_stage s (event.Piece n) a = Some s
next_stage s (event.Collect k) a = Some s
next_stage s e a = None

module _ {S : Type 0} (kind : StoreKind S) (shelf : List S) (core : CoreView) where
  -- a version that is kept names a byte, over these stores
  abbrev pub IsKeptByte : Place → Type 0
  IsKeptByte p = KeptNames core.settings.region (byte_at kind shelf) core.tables.kv p

  -- a scan of these stores is done, or has begun
  abbrev pub IsScanned : ScanView → Type 0
  IsScanned s = HasScanned core.settings.region (byte_at kind shelf) (length_in kind shelf) core.tables.kv s

  abbrev pub IsBegun : Option RunView → Type 0
  IsBegun None = ⊥
  IsBegun (Some r) = HasBegun core.settings.region (byte_at kind shelf) (length_in kind shelf) core.tables r

  abbrev pub HasScans : Stage → Type 0
  HasScans Saved = ⊤
  HasScans Scans = IsBegun core.tables.beside.gc.running
  HasScans Scanned = (core.tables.beside.gc.running ≡ None) × IsScanned core.tables.beside.gc.newer
  HasScans ScansAgain = IsBegun core.tables.beside.gc.running × IsScanned core.tables.beside.gc.newer
  HasScans ScannedTwice = (core.tables.beside.gc.running ≡ None) × IsScanned core.tables.beside.gc.older × IsScanned core.tables.beside.gc.newer

  -- nothing is open, and the scans have come so far since
  pub record IsIdleAt (s : Stage) : Type 0 where
    pub idle : AreIdle core.tables
    pub scans : HasScans s

  -- the same behind a save
  pub record IsAtStage (s : Stage) : Type 0 where
    pub rests : IsAtRest core.tables
    pub scans : HasScans s

  -- the last two scans found no byte but those that versions that are kept name
  pub record FoundOnlyKept : Type 0 where
    pub older : (p : Place) → extents_cover core.tables.beside.gc.older.found p ≡ true → IsKeptByte p
    pub newer : (p : Place) → extents_cover core.tables.beside.gc.newer.found p ≡ true → IsKeptByte p

  -- of server k, the bytes below the marks of the first of them that were not freed are just those that are named
  abbrev pub LeavesKept : ℕ → Type 0
  LeavesKept k = (p : Place) → p.server ≡ k → p.at < mark_of core.tables.beside.gc.older p.server p.file
      → (extents_cover core.tables.beside.gc.freed p ≡ false) ↔ IsKeptByte p

  -- each byte of server k was freed, or is named by the map now, whose image is the only one that may be on the keeper
  pub record HasCollected (k : ℕ) : Type 0 where
    pub rests : IsAtRest core.tables
    pub left : (p : Place) → p.server ≡ k → p.file < 8 → p.at < size_in kind shelf k p.file
        → (extents_cover core.tables.beside.gc.freed p ≡ true) ⊎ MapNames core.settings.region (byte_at kind shelf) (metadata_now core.tables.kv) p
