-- Where the bytes of a list of entries and of a plan come from. A file is a list of slice pointers, and
-- later entries overlay earlier ones (NSDI 2016, section 2.1).
use Rattle.std.specs.Prelude.{◌≡◌, ℕ, ◌+◌, ◌-◌, ◌<◌, ◌&&◌, Bool, nat_le, nat_lt, if◌then◌else◌, List, [], ◌∷◌, map}
use Rattle.wtf_base.specs.Slices.{pointers_of}
use Rattle.wtf_overlay.specs.declared.part.Part.{Part}
use Rattle.wtf_overlay.specs.declared.part.Part.TheVariants.{Zero, Held}
use Rattle.wtf_overlay.specs.declared.part.Entry.{Entry}
use Rattle.wtf_overlay.specs.declared.part.Piece.{Piece}
pub use Rattle.wtf_base.specs.Places.{Place, place_in}

-- the places of the byte at i of a part, one for each copy; none for a zero that no slice holds
abbrev pub part_origin : Part → ℕ → List Place
part_origin Zero i = []
part_origin (Held s) i = map (place_in i) (pointers_of s)

abbrev pub covers : Entry → ℕ → Bool
covers e x = nat_le e.off x && nat_lt x (e.off + e.len)

-- the places of the byte at x once e is laid over a list that has `below` there
abbrev pub over : Entry → ℕ → List Place → List Place
over e x below = if covers e x then part_origin e.part (x - e.off) else below

-- the same once all of these entries are laid over it, the first one first
abbrev pub origin_from : List Place → List Entry → ℕ → List Place
origin_from below [] x = below
origin_from below (e ∷ es) x = origin_from (over e x below) es x

-- the places of the byte at x of a list: those in the last entry that covers it, else none
abbrev pub origin : List Entry → ℕ → List Place
origin es x = origin_from [] es x

-- the number of bytes of consecutive pieces
abbrev pub pieces_len : List Piece → ℕ
pieces_len [] = 0
pieces_len (p ∷ ps) = p.len + pieces_len ps

-- the places of the byte at i of consecutive pieces
abbrev pub pieces_origin : List Piece → ℕ → List Place
pieces_origin [] i = []
pieces_origin (p ∷ ps) i = if nat_lt i p.len then part_origin p.part i else pieces_origin ps (i - p.len)

-- the pieces have n bytes, with the places that f tells
pub record Plans (ps : List Piece) (n : ℕ) (f : ℕ → List Place) : Type 0 where
  pub len : pieces_len ps ≡ n
  pub origin : (i : ℕ) → i < n → pieces_origin ps i ≡ f i
