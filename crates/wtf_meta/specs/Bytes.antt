-- The bytes that values and changes name, hidden ones too: a fact of each byte's places. Of a region's base it is one of the
-- slice's own bytes; what the slice decodes to is told by a test of slices beside it.
use Rattle.std.specs.Prelude.{◌≡◌, ◌⊎◌, ℕ, ◌<◌, Bool, true, List, [], ◌∷◌, Option, None, Some, ⊤}
use Rattle.std.specs.List.{All, Contains, list_all}
use Rattle.wtf_base.specs.declared.slice.Slice.{Slice}
use Rattle.wtf_base.specs.Slices.{len_of}
use Rattle.wtf_kv.specs.declared.changes.Change.{Change}
use Rattle.wtf_kv.specs.declared.changes.Change.TheVariants as change
use Rattle.wtf_overlay.specs.Origin.{Place, part_origin}
use Rattle.wtf_overlay.specs.declared.part.Part.{Part}
use Rattle.wtf_overlay.specs.declared.part.Part.TheVariants.{Held}
use Rattle.wtf_overlay.specs.declared.part.Entry.{Entry}
use Rattle.wtf_overlay.specs.declared.part.Piece.{Piece}
use Rattle.wtf_values.specs.declared.key.Key.{Key}
use Rattle.wtf_values.specs.declared.region.RegionValue.{RegionValue}
use Rattle.wtf_values.specs.declared.region.Spill.{Spill}
use Rattle.wtf_values.specs.declared.value.Value.{Value}
use Rattle.wtf_values.specs.declared.value.Value.TheVariants as value
use Rattle.wtf_values.specs.declared.value.Delta.{Delta}
use Rattle.wtf_values.specs.declared.value.Delta.TheVariants as delta
use Rattle.wtf_meta.specs.Maps.{Map, Edits}
use Rattle.wtf_meta.specs.Lists.{ListFact}
use Rattle.wtf_meta.specs.Files.{FileView}

-- the test that every slice passes
abbrev pub any_slice : Slice → Bool
any_slice s = true

module _ (P : List Place → Bool) where
  -- P holds of the places of each of the n bytes of a part
  abbrev pub PartBytes : ℕ → Part → Type 0
  PartBytes n p = (i : ℕ) → i < n → P (part_origin p i) ≡ true

  abbrev pub EntryBytes : Entry → Type 0
  EntryBytes e = PartBytes e.len e.part

  -- and of each byte of pieces
  abbrev pub PiecesBytes : List Piece → Type 0
  PiecesBytes ps = All (λ p. PartBytes p.len p.part) ps

  -- and of each byte of a slice
  abbrev pub SliceBytes : Slice → Type 0
  SliceBytes s = PartBytes (len_of s) (Held s)

module _ (P : List Place → Bool) (Q : Slice → Bool) where
  -- P holds of each byte of the slice of a base, and Q of the slice
  abbrev pub BaseBytes : Option Spill → Type 0
  BaseBytes None = ⊤
  BaseBytes (Some s) = SliceBytes P s.slice × (Q s.slice ≡ true)

  -- and P of each byte of a region, also of one that later entries hide
  pub record RegionBytes (v : RegionValue) : Type 0 where
    pub base : BaseBytes v.base
    pub entries : All (EntryBytes P) v.list

  -- a region's value, or none
  abbrev pub MaybeBytes : Option RegionValue → Type 0
  MaybeBytes None = ⊤
  MaybeBytes (Some v) = RegionBytes v

  -- and of each region of a file
  abbrev pub FileBytes : FileView → Type 0
  FileBytes v = (r : ℕ) → MaybeBytes (v.region r)

  abbrev pub ValueBytes : Option Value → Type 0
  ValueBytes None = ⊤
  ValueBytes (Some (value.Node n)) = ⊤
  ValueBytes (Some (value.Names ns)) = ⊤
  ValueBytes (Some (value.Last r)) = ⊤
  ValueBytes (Some (value.Count n)) = ⊤
  ValueBytes (Some (value.Region v)) = RegionBytes v

  -- and of all bytes of a map
  abbrev pub MapBytes : Map → Type 0
  MapBytes w = (q : Key) → ValueBytes (w q)

  -- and of each byte that a change brings
  abbrev pub DeltaBytes : Delta → Type 0
  DeltaBytes (delta.Push e) = EntryBytes P e
  DeltaBytes (delta.PushRel ps b) = PiecesBytes P ps
  DeltaBytes (delta.Put v) = ValueBytes (Some v)
  DeltaBytes d = ⊤

  abbrev pub EditBytes : Change Key Delta → Type 0
  EditBytes (change.Delta key d) = DeltaBytes d
  EditBytes (change.Cut from to) = ⊤

  abbrev pub EditsBytes : Edits → Type 0
  EditsBytes [] = ⊤
  EditsBytes (c ∷ cs) = EditBytes c × EditsBytes cs

  -- P holds of each byte of the slices whose lists were read, and Q of the slices
  abbrev pub ListSlices : List ListFact → Type 0
  ListSlices [] = ⊤
  ListSlices (f ∷ fs) = (SliceBytes P f.slice × (Q f.slice ≡ true)) × ListSlices fs

  -- P holds of each byte of each list that was read of a slice of which Q holds
  abbrev pub ListsBytes : List ListFact → Type 0
  ListsBytes [] = ⊤
  ListsBytes (f ∷ fs) = (Q f.slice ≡ true → All (EntryBytes P) f.list) × ListsBytes fs

-- a place is that of a copy of one of the n bytes of a part
pub record PartHas (n : ℕ) (p : Part) (q : Place) : Type 0 where
  pub index : ℕ
  pub below : index < n
  pub is : Contains (part_origin p index) q

-- or of an entry of a list, also of one that later entries hide
pub record ListHas (es : List Entry) (q : Place) : Type 0 where
  pub entry : Entry
  pub there : Contains es entry
  pub has : PartHas entry.len entry.part q

-- or of the slice of a base
abbrev pub BaseHas : Option Spill → Place → Type 0
BaseHas None q = ⊥
BaseHas (Some s) q = PartHas (len_of s.slice) (Held s.slice) q

-- a value names a place
abbrev pub ValueHas : Option Value → Place → Type 0
ValueHas (Some (value.Region v)) q = BaseHas v.base q ⊎ ListHas v.list q
ValueHas v q = ⊥

-- all of these places are in the set
abbrev pub are_in : (Place → Bool) → List Place → Bool
are_in set places = list_all set places
