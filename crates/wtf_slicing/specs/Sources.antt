-- The files that a call puts together.
use Rattle.std.specs.Prelude.{◌≡◌, ℕ, ◌+◌, Bool, true, List, [], ◌∷◌, ◌++◌, Result, Ok}
use Rattle.wtf_base.specs.declared.fault.Fault.{Fault}
use Rattle.wtf_base.specs.declared.ids.InodeId.{InodeId}
use Rattle.wtf_base.specs.declared.slice.Slice.{Slice}
use Rattle.wtf_dev.specs.Store.{StoreKind}
use Rattle.wtf_overlay.specs.Origin.{Place, Plans, pieces_len}
use Rattle.wtf_overlay.specs.declared.part.Piece.{Piece}
use Rattle.wtf_model.specs.declared.answer.Word.{Word}
use Rattle.wtf_model.specs.Tree.{◌>>=◌}
use Rattle.wtf_meta.specs.Lists.{Lists, ListFact, TellLists}
use Rattle.wtf_meta.specs.Maps.{Map}
use Rattle.wtf_meta.specs.Bytes.{MapBytes, PiecesBytes, ListSlices, ListsBytes}
use Rattle.wtf_meta.specs.Files.{file_len, file_origin}
use Rattle.wtf_meta.specs.FileEdits.{file_of}
use Rattle.wtf_region.specs.declared.dev.Dev.{Dev}
use Rattle.wtf_region.specs.Bases.{slices_of, bases_in}
use Rattle.wtf_region.specs.Devs.{GoesOn}
use Rattle.wtf_region.specs.Reads.{Recalls, TellsFacts, AreInsideLists, LacksRegion}
use Rattle.wtf_index.specs.Checks.{source_of}

-- the inodes of files, in order, or why the first of them that is none is none
abbrev pub sources_of : Map → List (List ℕ) → Result (List InodeId) Word
sources_of w [] = Ok []
sources_of w (p ∷ ps) = do
  i ← source_of w p
  is ← sources_of w ps
  Ok (i ∷ is)

-- the number of bytes of files together, where a region has b
abbrev pub lens_of : ℕ → Map → List InodeId → ℕ
lens_of b w [] = 0
lens_of b w (i ∷ is) = file_len b (file_of i w) + lens_of b w is

-- the slices of the bases of all regions of files, in order
abbrev pub files_bases : ℕ → Map → List InodeId → List Slice
files_bases b w [] = []
files_bases b w (i ∷ is) = bases_in b (file_of i w) 0 (file_len b (file_of i w)) ++ files_bases b w is

-- pieces have the bytes of files, one file behind the other
abbrev pub ArePlans : ℕ → Lists → Map → List InodeId → List Piece → Type 0
ArePlans b lists w [] ps = ps ≡ []
ArePlans b lists w (i ∷ is) ps =
    (qs : List Piece) × (rs : List Piece) × (ps ≡ qs ++ rs) × Plans qs (file_len b (file_of i w)) (file_origin b lists (file_of i w)) × ArePlans b lists w is rs

-- They have them over all lists that agree with those that were read, and name no bytes but those of the map and of these lists.
pub record ReadsFiles (b : ℕ) (w : Map) (is : List InodeId) (facts : List ListFact) (ps : List Piece) : Type 0 where
  pub len : pieces_len ps ≡ lens_of b w is
  pub plans : (lists : Lists) → TellLists lists facts → ArePlans b lists w is ps
  pub names : (P : List Place → Bool) (Q : Slice → Bool) → P [] ≡ true → MapBytes P Q w → ListsBytes P Q facts → PiecesBytes P ps
  pub slices : (P : List Place → Bool) (Q : Slice → Bool) → MapBytes P Q w → ListSlices P Q facts

-- files were read as pieces, one file behind the other, and the lists of all their bases
pub record AreFilesRead {S : Type 0} (kind : StoreKind S) (old new : Dev S) (w : Map) (is : List InodeId) (ps : List Piece) : Type 0 where
  pub facts : List ListFact
  pub wants : slices_of facts ≡ files_bases old.settings.region w is
  pub recalls : Recalls kind old new facts
  pub reads : ReadsFiles old.settings.region w is facts ps
  pub inside : AreInsideLists kind new facts
  pub told : TellsFacts kind old new facts

-- A list of one of the files was not read, at a moment to which the call had gone on: it is the first such file, and the lists of those
-- before it were read, in order, and no others.
pub record LacksFile {S : Type 0} (kind : StoreKind S) (old new : Dev S) (w : Map) (is : List InodeId) (why : Fault) : Type 0 where
  pub mid : Dev S
  pub goes : GoesOn kind old mid []
  pub read : List InodeId
  pub inode : InodeId
  pub rest : List InodeId
  pub split : is ≡ read ++ inode ∷ rest
  pub before : List ListFact
  pub earlier : slices_of before ≡ files_bases old.settings.region w read
  pub recalls : Recalls kind old mid before
  pub cause : LacksRegion kind mid new (file_of inode w) 0 (file_len old.settings.region (file_of inode w)) why
