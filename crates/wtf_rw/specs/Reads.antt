-- What a read tells of the stores, and why its bytes were not shown.
use Rattle.std.specs.Prelude.{◌≡◌, ◌⊎◌, ℕ, Bool, List, [], Some, ⊤}
use Rattle.wtf_base.specs.declared.fault.Fault.{Fault}
use Rattle.wtf_base.specs.declared.slice.Slice.{Slice}
use Rattle.wtf_dev.specs.Store.{StoreKind}
use Rattle.wtf_overlay.specs.Origin.{Place}
use Rattle.wtf_meta.specs.declared.session.Handle.{Handle}
use Rattle.wtf_meta.specs.FileEdits.{file_of}
use Rattle.wtf_meta.specs.Lists.{ListFact, TellLists}
use Rattle.wtf_meta.specs.Maps.{Map}
use Rattle.wtf_meta.specs.Bytes.{MapBytes, ListSlices}
use Rattle.wtf_meta.specs.Contents.{is_told, is_listed, lists_in}
use Rattle.wtf_meta.specs.Files.{FileView}
use Rattle.wtf_meta.specs.Calls.{Did, TellFacts}
use Rattle.wtf_meta.specs.Sessions.{SessionView, handle_in}
use Rattle.wtf_region.specs.declared.dev.Dev.{Dev}
use Rattle.wtf_region.specs.Devs.{told_in}
use Rattle.wtf_region.specs.Reads.{TellsFacts, AreInsideLists, IsFileRead, LacksRegion}
use Rattle.wtf_steps.specs.Faults.{LacksBytes}
use Rattle.wtf_steps.specs.Recalling.{AreListsOf}
use Rattle.wtf_steps.specs.Recorded.{found_in}
use Rattle.wtf_rw.specs.declared.op.RwOp.{RwOp}
use Rattle.wtf_rw.specs.declared.op.RwOp.TheVariants as rw

-- A call stored no byte. The lists that it read are of bases of the map, and are those of their slices, if these were told and
-- not punched since the cache was true; and where the map's bytes were told, with its lists, the stores tell what it read.
pub record TellsRead {S : Type 0} (kind : StoreKind S) (old new : Dev S) (b : Map) (did : Did) : Type 0 where
  pub stored : did.stored ≡ []
  pub slices : (P : List Place → Bool) (Q : Slice → Bool) → MapBytes P Q b → ListSlices P Q did.lists
  pub inside : AreInsideLists kind new did.lists
  pub lists : TellsFacts kind old new did.lists
  pub told : MapBytes (is_told (told_in kind old)) (is_listed old.settings.region (told_in kind old)) b
      → TellLists (lists_in new.settings.region (told_in kind new)) did.lists
      → TellFacts (told_in kind new) did.facts

-- the lists that a call reads, where a region has b bytes: those under the bytes that a read finds, and of any other call none
abbrev pub RwReads : ℕ → Map → SessionView → RwOp → List ListFact → Type 0
RwReads b w s (rw.Read f n) facts = (h : Handle) × (handle_in s f ≡ Some h) × AreListsOf b (file_of h.inode w) h.off (found_in b w h n) facts
RwReads b w s o facts = facts ≡ []

-- a call that reads no list
abbrev pub ReadsNoList : RwOp → Type 0
ReadsNoList (rw.Read f n) = ⊥
ReadsNoList o = ⊤

-- n bytes of a file were not shown: a list of a base was not read, or bytes of the pieces were not
abbrev pub LacksRead : {S : Type 0} → StoreKind S → (old new : Dev S) → FileView → (off n : ℕ) → Fault → Type 0
LacksRead kind old new file off n why = LacksRegion kind old new file off n why ⊎ LacksBytes kind old new n (λ ps. IsFileRead kind old new file off n ps) why
