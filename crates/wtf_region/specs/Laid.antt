-- Which changes lay pieces over a file and add them at its end, one by one. They are said entry by entry, since an entry
-- is known by its range and by the places of its bytes.
-- NSDI 2016, section 2.3 (a write that crosses the border of regions becomes one in each; an append is relative to a region's end).
use Rattle.std.specs.Prelude.{◌≡◌, ◌⊎◌, ℕ, ◌+◌, ◌-◌, ◌*◌, ◌/◌, ◌<◌, ◌≤◌, ◌++◌, nat_lt, if◌then◌else◌, List, [], ◌∷◌}
use Rattle.wtf_overlay.specs.Origin.{Place, part_origin, pieces_len}
use Rattle.wtf_overlay.specs.declared.part.Entry.{Entry}
use Rattle.wtf_overlay.specs.declared.part.Piece.{Piece}
use Rattle.wtf_meta.specs.Files.{FileView, end_of, file_len}
use Rattle.wtf_meta.specs.FileEdits.{FileEdit, Push, PushRel, RaiseLast}

-- Of n bytes from off on, of which f tells the places, the entry of region r has those from `done` on, up to the region's
-- end or the last of them.
pub record IsEntryOf (b off n : ℕ) (f : ℕ → List Place) (done r : ℕ) (e : Entry) : Type 0 where
  pub place : r * b + e.off ≡ off + done
  pub within : e.off + e.len ≤ b
  pub inside : done + e.len ≤ n
  pub whole : (done + e.len ≡ n) ⊎ (e.off + e.len ≡ b)
  pub holds : (i : ℕ) → i < e.len → part_origin e.part i ≡ f (done + i)

-- the changes push these bytes from `done` up to `upto`: one entry on each region that they touch, and nothing else
abbrev pub ArePushes : (b off n : ℕ) → (ℕ → List Place) → ℕ → List FileEdit → ℕ → Type 0
ArePushes b off n f done [] upto = done ≡ upto
ArePushes b off n f done (Push r e ∷ ds) upto = IsEntryOf b off n f done r e × ArePushes b off n f (done + e.len) ds upto
ArePushes b off n f done (d ∷ ds) upto = ⊥

-- they push pieces from off on, one after another
abbrev pub ArePiecePushes : (b off : ℕ) → List Piece → List FileEdit → Type 0
ArePiecePushes b off [] ds = ds ≡ []
ArePiecePushes b off (p ∷ ps) ds =
    (es : List FileEdit) × (fs : List FileEdit) × (ds ≡ es ++ fs) × ArePushes b off p.len (part_origin p.part) 0 es p.len × ArePiecePushes b (off + p.len) ps fs

-- the last region of a file that reaches as far as n bytes from off on; no byte raises it
abbrev pub raised : ℕ → ℕ → ℕ → List FileEdit
raised b off n = if nat_lt 0 n then RaiseLast ((off + n - 1) / b) ∷ [] else []

-- the pieces are pushed from off on, and then the last region is raised, once
pub record IsLaid (b off : ℕ) (ps : List Piece) (ds : List FileEdit) : Type 0 where
  pub pushes : List FileEdit
  pub pushed : ArePiecePushes b off ps pushes
  pub is : ds ≡ pushes ++ raised b off (pieces_len ps)

-- Pieces are added at the end of the file that was read: no byte is no change; those that fit into its last region are one
-- change, relative to that region's end, and nothing else; others are laid at the length that was read.
pub record IsAppend (b : ℕ) (read : FileView) (ps : List Piece) (ds : List FileEdit) : Type 0 where
  pub none : pieces_len ps ≡ 0 → ds ≡ []
  pub fits : 0 < pieces_len ps → end_of (read.region read.last) + pieces_len ps ≤ b → ds ≡ PushRel read.last ps b ∷ []
  pub laid : 0 < pieces_len ps → b < end_of (read.region read.last) + pieces_len ps → IsLaid b (file_len b read) ps ds
