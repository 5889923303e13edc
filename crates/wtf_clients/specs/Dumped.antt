-- The bytes of a whole file: what a dump shows, and why it did not.
use Rattle.std.specs.Prelude.{◌≡◌, ◌≢◌, ◌≤◌, ◌*◌, ℕ, min, nat_le, List, [], length, Option, Some, if◌then◌else◌, ⊤}
use Rattle.wtf_base.specs.declared.fault.Fault.{Fault}
use Rattle.wtf_base.specs.declared.ids.InodeId.{InodeId}
use Rattle.wtf_dev.specs.Store.{Range, StoreKind}
use Rattle.wtf_model.specs.declared.answer.Answer.{Answer}
use Rattle.wtf_model.specs.declared.answer.Answer.TheVariants as answer
use Rattle.wtf_model.specs.declared.answer.Word.TheVariants.{Long}
use Rattle.wtf_model.specs.declared.limits.TheConstants.{MAX_DUMPED, MAX_REGIONS}
use Rattle.wtf_model.specs.Lawful.{dumped, or_refusal}
use Rattle.wtf_model.specs.Tree.{Tree}
use Rattle.wtf_values.specs.declared.value.Node.{Node}
use Rattle.wtf_values.specs.declared.value.Node.TheVariants.{File}
use Rattle.wtf_base.specs.declared.slice.Slice.{Slice}
use Rattle.wtf_meta.specs.Lists.{ListFact}
use Rattle.wtf_meta.specs.Bytes.{MapBytes, any_slice}
use Rattle.wtf_meta.specs.Contents.{Told, is_told, is_listed}
use Rattle.wtf_meta.specs.FileEdits.{file_of}
use Rattle.wtf_meta.specs.Files.{FileView, file_len}
use Rattle.wtf_meta.specs.Maps.{Map}
use Rattle.wtf_meta.specs.Trees.{IsBody, Stands}
use Rattle.wtf_index.specs.Checks.{stands_at}
use Rattle.wtf_region.specs.declared.dev.Dev.{Dev}
use Rattle.wtf_region.specs.Apart.{are_apart}
use Rattle.wtf_region.specs.Bases.{slices_of, bases_in}
use Rattle.wtf_region.specs.Cached.{TrueBut}
use Rattle.wtf_region.specs.Reads.{Recalls}
use Rattle.wtf_rw.specs.Reads.{LacksRead}

-- what is answered of a file with these bytes
abbrev pub file_answer : List ℕ → Answer
file_answer bytes = if nat_le (length bytes) MAX_DUMPED then answer.Shown bytes else answer.Refused Long

-- a dump shows bytes, or is refused
abbrev pub IsDumpAnswer : Answer → Type 0
IsDumpAnswer (answer.Shown bytes) = ⊤
IsDumpAnswer (answer.Refused w) = ⊤
IsDumpAnswer a = ⊥

-- the slices of the bases under the bytes of a file that are shown; no file is longer than its greatest number of regions
abbrev pub file_bases : ℕ → FileView → Answer → List Slice
file_bases size v (answer.Shown bytes) = bases_in size v 0 (min (file_len size v) (MAX_REGIONS * size))
file_bases size v a = []

abbrev pub dump_bases_of : ℕ → Map → Option Node → Answer → List Slice
dump_bases_of size w (Some (File i)) a = file_bases size (file_of i w) a
dump_bases_of size w other a = []

-- no file stands at a path
abbrev pub IsNoFile : Map → List ℕ → Type 0
IsNoFile w p = (i : InodeId) → stands_at w p ≢ Some (File i)

-- by what stands at the path
abbrev pub dump_bases : ℕ → Map → List ℕ → Answer → List Slice
dump_bases size w p a = dump_bases_of size w (stands_at w p) a

-- the lists of these slices were asked for, in order, and are remembered
pub record ReadsBases {S : Type 0} (kind : StoreKind S) (old new : Dev S) (slices : List Slice) : Type 0 where
  pub facts : List ListFact
  pub recalls : Recalls kind old new facts
  pub wants : slices_of facts ≡ slices

-- The lists that are remembered are true, but where a byte of the slice lies in a range that was punched; and a map names no byte of these
-- ranges.
abbrev pub IsTrueFor : TrueBut → Map → Type 0
IsTrueFor lists w = (ranges : List (ℕ × Range)) × lists ranges × MapBytes (are_apart ranges) any_slice w

-- Over stores that tell each byte of a map, with the lists of its bases, the answer shows the file of an inode; where the lists that were
-- remembered are true for the map.
abbrev pub IsShownFile : ℕ → Told → TrueBut → Map → InodeId → Answer → Type 0
IsShownFile size told lists w i a =
    IsTrueFor lists w → MapBytes (is_told told) (is_listed size told) w → (bytes : List ℕ) → IsBody size told w i bytes → a ≡ file_answer bytes

-- on each tree for which the map stands, it is that of the definitions
abbrev pub IsDumped : ℕ → Told → TrueBut → Map → List ℕ → Answer → Type 0
IsDumped size told lists w p a =
    IsTrueFor lists w → (tx k : ℕ) (t : Tree) → Stands size told tx k w t → a ≡ or_refusal (dumped t p)

-- the bytes of a file that is not too long were not shown, since a list of it was not read, or some of the bytes; no file is longer
-- than its greatest number of regions
pub record LacksFile {S : Type 0} (kind : StoreKind S) (old new : Dev S) (v : FileView) (why : Fault) : Type 0 where
  pub short : file_len old.settings.region v ≤ MAX_DUMPED
  pub lacks : LacksRead kind old new v 0 (min (file_len old.settings.region v) (MAX_REGIONS * old.settings.region)) why

-- it is the file at a path
pub record LacksDump {S : Type 0} (kind : StoreKind S) (old new : Dev S) (w : Map) (p : List ℕ) (why : Fault) : Type 0 where
  pub inode : InodeId
  pub there : stands_at w p ≡ Some (File inode)
  pub file : LacksFile kind old new (file_of inode w) why
