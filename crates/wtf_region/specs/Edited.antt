-- What a call recorded of a file, and how it changed it.
use Rattle.std.specs.Prelude.{◌≡◌, ℕ, ◌+◌, ◌*◌, ◌<◌, Bool, List, []}
use Rattle.wtf_base.specs.declared.ids.InodeId.{InodeId}
use Rattle.wtf_base.specs.declared.slice.Slice.{Slice}
use Rattle.wtf_occ.specs.Attempts.{Attempted, GrowsBy}
use Rattle.wtf_overlay.specs.Origin.{Place, part_origin, pieces_len, pieces_origin}
use Rattle.wtf_overlay.specs.declared.part.Piece.{Piece}
use Rattle.wtf_values.specs.declared.key.Key.{Key}
use Rattle.wtf_values.specs.declared.value.Delta.{Delta}
use Rattle.wtf_model.specs.declared.limits.TheConstants.{MAX_REGIONS}
use Rattle.wtf_meta.specs.Files.{FileView, end_of, file_len}
use Rattle.wtf_meta.specs.FileEdits.{FileEdit, edits_of}
use Rattle.wtf_meta.specs.Bytes.{PartBytes, PiecesBytes, EditsBytes}
use Rattle.wtf_meta.specs.Ranges.{Covers, Lays}
use Rattle.wtf_meta.specs.Appends.{FileKey, keys_of, append_keys, Appends, HasNoRoom}
use Rattle.wtf_region.specs.declared.added.Added.{Added}
use Rattle.wtf_region.specs.declared.added.Added.TheVariants.{Done, TooBig}
use Rattle.wtf_region.specs.declared.ends.FileEnd.{FileEnd}
use Rattle.wtf_region.specs.Laid.{ArePushes, IsLaid, IsAppend}

-- an attempt recorded these of a file's keys and made no change
abbrev pub Recorded : InodeId → List FileKey → Attempted Key Delta → Attempted Key Delta → Type 0
Recorded i keys old new = GrowsBy old new (keys_of i keys) []

-- an attempt recorded these of a file's keys, and made changes of the file of which F holds
pub record Edited (i : InodeId) (keys : List FileKey) (F : List FileEdit → Type 0) (old new : Attempted Key Delta) : Type 0 where
  pub edits : List FileEdit
  pub grows : GrowsBy old new (keys_of i keys) (edits_of i edits)
  pub does : F edits

-- the changes name no other bytes than those of the pieces, and bring no base: what holds of the places of each of these holds of
-- theirs
abbrev pub NamesOnly : InodeId → List Piece → List FileEdit → Type 0
NamesOnly i ps ds = (P : List Place → Bool) (Q : Slice → Bool) → PiecesBytes P ps → EditsBytes P Q (edits_of i ds)

-- the changes lay the first n bytes of a piece over every file's regions from off on, and name no other bytes than its own;
-- they are its entries, and nothing else
pub record CoversPart (b off : ℕ) (i : InodeId) (p : Piece) (n : ℕ) (ds : List FileEdit) : Type 0 where
  pub covers : Covers b ds off n (part_origin p.part)
  pub exact : ArePushes b off p.len (part_origin p.part) 0 ds n
  pub names : (P : List Place → Bool) (Q : Slice → Bool) → PartBytes P p.len p.part → EditsBytes P Q (edits_of i ds)

-- the changes lay pieces over every file from off on, and name no other bytes; they are these, and nothing else
pub record LaysPieces (b off : ℕ) (i : InodeId) (ps : List Piece) (ds : List FileEdit) : Type 0 where
  pub lays : Lays b ds off (pieces_len ps) (pieces_origin ps)
  pub exact : IsLaid b off ps ds
  pub names : NamesOnly i ps ds

-- whatever file the changes meet that agrees with the one that was read, they add the pieces at its own end; they are
-- those of an append to the file that was read, and nothing else
pub record AddsPieces (b : ℕ) (i : InodeId) (read : FileView) (ps : List Piece) (ds : List FileEdit) : Type 0 where
  pub appends : Appends b read (append_keys b read (pieces_len ps)) ds (pieces_len ps) (pieces_origin ps)
  pub exact : IsAppend b read ps ds
  pub names : NamesOnly i ps ds

-- a file ends there
pub record IsFileEnd (v : FileView) (e : FileEnd) : Type 0 where
  pub region : e.region ≡ v.last
  pub off : e.off ≡ end_of (v.region v.last)

-- n bytes find no room in the last region of a file, nor below the greatest length
pub record LacksRoom (b : ℕ) (v : FileView) (n : ℕ) : Type 0 where
  pub region : b < end_of (v.region v.last) + n
  pub file : MAX_REGIONS * b < file_len b v + n

-- pieces were refused: no file that agrees with the one that was read has room for them, and nothing was changed
pub record IsTooBig (b : ℕ) (i : InodeId) (read : FileView) (ps : List Piece) (old new : Attempted Key Delta) : Type 0 where
  pub recorded : Recorded i (append_keys b read (pieces_len ps)) old new
  pub full : HasNoRoom b read (append_keys b read (pieces_len ps)) (pieces_len ps)

-- what came of adding pieces at the end of a file
abbrev pub IsAdded : ℕ → InodeId → FileView → List Piece → Attempted Key Delta → Attempted Key Delta → Added → Type 0
IsAdded b i read ps old new Done = Edited i (append_keys b read (pieces_len ps)) (AddsPieces b i read ps) old new
IsAdded b i read ps old new TooBig = IsTooBig b i read ps old new
