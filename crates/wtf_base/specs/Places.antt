-- Where the bytes of slices lie.
use Rattle.std.specs.Prelude.{◌≡◌, ℕ, ◌+◌, List, map, Option, Some}
use Rattle.std.specs.List.{All}
use Rattle.wtf_base.specs.declared.pointer.Pointer.{Pointer}
use Rattle.wtf_base.specs.declared.slice.Slice.{Slice}
use Rattle.wtf_base.specs.Slices.{pointers_of}

-- the server, backing file and offset of one copy of a byte
pub record Place : Type 0 where
  pub server : ℕ
  pub file : ℕ
  pub at : ℕ

-- the place of the byte at i of what a pointer points to
abbrev pub place_in : ℕ → Pointer → Place
place_in i p = record { server = p.server.0; file = p.file; at = p.at + i }

-- the places of the byte at i of a slice, one for each copy
abbrev pub places_of : Slice → ℕ → List Place
places_of s i = map (place_in i) (pointers_of s)

-- Every copy of the byte at i of a slice holds b, where `byte_at` says what is held at a place.
abbrev pub HasByte : (Place → Option ℕ) → Slice → ℕ → ℕ → Type 0
HasByte byte_at s i b = All (λ q. byte_at q ≡ Some b) (places_of s i)
