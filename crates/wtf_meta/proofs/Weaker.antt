-- What follows of the places of a byte, and of a slice, does so of all bytes.
use Rattle.std.proofs.Common.{◌≡◌, ℕ, Bool, true, List, [], ◌∷◌, Option, None, Some}
use Rattle.std.specs.List.{All}
use Rattle.std.proofs.lemmas.List.Elements.{All-weaker}
use Rattle.wtf_base.specs.declared.slice.Slice.{Slice}
use Rattle.wtf_base.specs.Slices.{len_of}
use Rattle.wtf_overlay.specs.Origin.{Place, part_origin}
use Rattle.wtf_overlay.specs.declared.part.Entry.{Entry}
use Rattle.wtf_overlay.specs.declared.part.Part.{Part}
use Rattle.wtf_overlay.specs.declared.part.Part.TheVariants.{Held}
use Rattle.wtf_overlay.specs.declared.part.Piece.{Piece}
use Rattle.wtf_values.specs.declared.region.RegionValue.{RegionValue}
use Rattle.wtf_values.specs.declared.region.Spill.{Spill}
use Rattle.wtf_values.specs.declared.value.Value.{Value}
use Rattle.wtf_values.specs.declared.value.Value.TheVariants as value
use Rattle.wtf_meta.specs.Lists.{ListFact}
use Rattle.wtf_meta.specs.Maps.{Map}
use Rattle.wtf_meta.specs.Files.{FileView}
use Rattle.wtf_meta.specs.Bytes.{PartBytes, EntryBytes, PiecesBytes, BaseBytes, MaybeBytes, FileBytes, ValueBytes, MapBytes, ListSlices}
use Rattle.wtf_meta.specs.Sessions.{SessionView, SessionBytes}

module _ (P R : List Place → Bool) (places : (ps : List Place) → P ps ≡ true → R ps ≡ true) where
  pub part_stays : (n : ℕ) (p : Part) → PartBytes P n p → PartBytes R n p
  part_stays n p h = λ i below. places (part_origin p i) (h i below)

  pub entries_stay : (es : List Entry) → All (EntryBytes P) es → All (EntryBytes R) es
  entries_stay es h = All-weaker (EntryBytes P) (EntryBytes R) (λ (e : Entry) was. part_stays e.len e.part was) es h

  pub pieces_stay : (ps : List Piece) → PiecesBytes P ps → PiecesBytes R ps
  pieces_stay ps h = All-weaker (λ (p : Piece). PartBytes P p.len p.part) (λ (p : Piece). PartBytes R p.len p.part)
      (λ (p : Piece) was. part_stays p.len p.part was) ps h

  pub session_stays : (s : SessionView) → SessionBytes P s → SessionBytes R s
  session_stays s h = λ label ps e. pieces_stay ps (h label ps e)

  module _ (Q O : Slice → Bool) (slices : (s : Slice) → Q s ≡ true → O s ≡ true) where
    pub base_stays : (base : Option Spill) → BaseBytes P Q base → BaseBytes R O base
    base_stays None h = tt
    base_stays (Some s) h = (part_stays (len_of s.slice) (Held s.slice) h.0, slices s.slice h.1)

    pub value_stays : (v : Option Value) → ValueBytes P Q v → ValueBytes R O v
    value_stays None h = tt
    value_stays (Some (value.Node n)) h = tt
    value_stays (Some (value.Names ns)) h = tt
    value_stays (Some (value.Last r)) h = tt
    value_stays (Some (value.Count n)) h = tt
    value_stays (Some (value.Region v)) h = record { base = base_stays v.base h.base; entries = entries_stay v.list h.entries }

    pub map_stays : (w : Map) → MapBytes P Q w → MapBytes R O w
    map_stays w h = λ q. value_stays (w q) (h q)

    pub maybe_stays : (now : Option RegionValue) → MaybeBytes P Q now → MaybeBytes R O now
    maybe_stays None h = tt
    maybe_stays (Some v) h = record { base = base_stays v.base h.base; entries = entries_stay v.list h.entries }

    pub file_bytes_stay : (v : FileView) → FileBytes P Q v → FileBytes R O v
    file_bytes_stay v h = λ r. maybe_stays (v.region r) (h r)

    pub slices_stay : (fs : List ListFact) → ListSlices P Q fs → ListSlices R O fs
    slices_stay [] h = tt
    slices_stay (f ∷ fs) h = ((part_stays (len_of f.slice) (Held f.slice) h.0.0, slices f.slice h.0.1), slices_stay fs h.1)
