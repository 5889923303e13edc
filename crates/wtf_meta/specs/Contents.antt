-- The bytes of files, of pieces and of slices, by what the stores tell at each place.
use Rattle.std.specs.Prelude.{◌≡◌, ℕ, zero, suc, ◌<◌, ◌&&◌, List, [], ◌∷◌, length, slice_index, Option, None, Some, is_some, Bool, true, false}
use Rattle.std.specs.List.{list_all}
use Rattle.wtf_base.specs.declared.slice.Slice.{Slice}
use Rattle.wtf_base.specs.Slices.{len_of}
use Rattle.wtf_base.specs.Places.{places_of}
use Rattle.wtf_overlay.specs.Origin.{Place, part_origin, pieces_len, pieces_origin}
use Rattle.wtf_overlay.specs.Meaning.{meaning}
use Rattle.wtf_overlay.specs.Spilled.{decoded}
use Rattle.wtf_overlay.specs.declared.part.Entry.{Entry}
use Rattle.wtf_overlay.specs.declared.part.Piece.{Piece}
use Rattle.wtf_values.specs.declared.region.RegionValue.{RegionValue}
use Rattle.wtf_meta.specs.Lists.{Lists, ListFact, TellLists}
use Rattle.wtf_meta.specs.Files.{FileView, file_len, file_origin, region_origin, end_of}

-- what the stores tell: the byte at a place, or none where they do not tell it
abbrev pub Told : Type 0
Told = Place → Option ℕ

-- the byte with these places is told: it is a hole, or all its places tell the same
abbrev pub is_told : Told → List Place → Bool
is_told told places = is_some (meaning told places)

-- n places have these bytes
pub record TellBytes (told : Told) (n : ℕ) (f : ℕ → List Place) (bytes : List ℕ) : Type 0 where
  pub len : n ≡ length bytes
  pub tells : (i : ℕ) → i < n → meaning told (f i) ≡ Some (slice_index bytes i)

-- pieces have these bytes
abbrev pub PiecesTell : Told → List Piece → List ℕ → Type 0
PiecesTell told ps bytes = TellBytes told (pieces_len ps) (pieces_origin ps) bytes

-- and a slice has these
abbrev pub SliceTells : Told → Slice → List ℕ → Type 0
SliceTells told s bytes = TellBytes told (len_of s) (places_of s) bytes

abbrev pub cons_told : Option ℕ → Option (List ℕ) → Option (List ℕ)
cons_told (Some b) (Some bs) = Some (b ∷ bs)
cons_told (Some b) None = None
cons_told None bs = None

-- n bytes, if each of them is told
abbrev pub collect : (ℕ → Option ℕ) → ℕ → Option (List ℕ)
collect f zero = Some []
collect f (suc n) = cons_told (f 0) (collect (λ i. f (suc i)) n)

-- the bytes of a slice, if the stores tell them
abbrev pub slice_bytes : Told → Slice → Option (List ℕ)
slice_bytes told s = collect (λ i. meaning told (places_of s i)) (len_of s)

abbrev pub decode_told : ℕ → Option (List ℕ) → Option (List Entry)
decode_told b None = None
decode_told b (Some bytes) = decoded b bytes

-- the list that each slice decodes to over stores that tell this, for a region of b bytes
abbrev pub lists_in : ℕ → Told → Lists
lists_in b told s = decode_told b (slice_bytes told s)

-- P holds of the first n of these
abbrev pub has_first : (List Place → Bool) → (ℕ → List Place) → ℕ → Bool
has_first P f zero = true
has_first P f (suc n) = P (f 0) && has_first P (λ i. f (suc i)) n

-- P holds of the places of each byte of an entry
abbrev pub entry_has : (List Place → Bool) → Entry → Bool
entry_has P e = has_first P (part_origin e.part) e.len

-- there is a list, and P holds of each byte of its entries
abbrev pub list_has : (List Place → Bool) → Option (List Entry) → Bool
list_has P None = false
list_has P (Some es) = list_all (entry_has P) es

-- the slice decodes to a list each byte of which is told, also one that later entries hide
abbrev pub is_listed : ℕ → Told → Slice → Bool
is_listed b told s = list_has (is_told told) (lists_in b told s)

-- a file has these bytes; past its end it reads as zeros
pub record HasBytes (told : Told) (b : ℕ) (v : FileView) (bytes : List ℕ) : Type 0 where
  pub len : file_len b v ≡ length bytes
  pub tells : (x : ℕ) → meaning told (file_origin b (lists_in b told) v x) ≡ Some (slice_index bytes x)

-- two regions end at the same offset, and have the same bytes
pub record SameRegion (told : Told) (b : ℕ) (v w : Option RegionValue) : Type 0 where
  pub end : end_of w ≡ end_of v
  pub bytes : (y : ℕ) → meaning told (region_origin (lists_in b told) w y) ≡ meaning told (region_origin (lists_in b told) v y)

-- and they have them at the same places, over all lists that agree with these facts
pub record SamePlaces (facts : List ListFact) (v w : Option RegionValue) : Type 0 where
  pub end : end_of w ≡ end_of v
  pub origins : (lists : Lists) → TellLists lists facts → (y : ℕ) → region_origin lists w y ≡ region_origin lists v y
