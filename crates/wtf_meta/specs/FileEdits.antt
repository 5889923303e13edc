-- The file that a map shows for an inode, and changes of one file as changes of a map.
use Rattle.std.specs.Prelude.{ℕ, ◌+◌, ◌&&◌, nat_lt, nat_le, nat_eq, Bool, true, max, if◌then◌else◌, List, [], ◌∷◌, map, Option, None, Some, ⊤}
use Rattle.wtf_base.specs.declared.ids.InodeId.{InodeId}
use Rattle.wtf_kv.specs.declared.changes.Change.{Change}
use Rattle.wtf_kv.specs.declared.changes.Change.TheVariants as change
use Rattle.wtf_overlay.specs.declared.part.Entry.{Entry}
use Rattle.wtf_overlay.specs.declared.part.Piece.{Piece}
use Rattle.wtf_values.specs.declared.key.Key.{Key}
use Rattle.wtf_values.specs.declared.key.Key.TheVariants.{Inode, Region}
use Rattle.wtf_values.specs.declared.region.RegionValue.{RegionValue}
use Rattle.wtf_values.specs.declared.value.Value.{Value}
use Rattle.wtf_values.specs.declared.value.Value.TheVariants as value
use Rattle.wtf_values.specs.declared.value.Delta.{Delta}
use Rattle.wtf_values.specs.declared.value.Delta.TheVariants as delta
use Rattle.wtf_values.specs.Regions.{pushed, clipped, zeroed, added, fits_at_end}
use Rattle.wtf_meta.specs.Maps.{Map, Edits}
use Rattle.wtf_meta.specs.Files.{FileView}

-- the last region that a value tells, 0 where it tells none
abbrev pub last_of : Option Value → ℕ
last_of (Some (value.Last n)) = n
last_of v = 0

abbrev pub region_of : Option Value → Option RegionValue
region_of (Some (value.Region v)) = Some v
region_of v = None

-- the file of an inode
abbrev pub file_of : InodeId → Map → FileView
file_of i w = record { last = last_of (w (Inode i)); region = λ r. region_of (w (Region i r)) }

-- a value of the kind of its key
abbrev pub IsLast : Option Value → Type 0
IsLast (Some (value.Last n)) = ⊤
IsLast v = ⊥

abbrev pub IsRegion : Option Value → Type 0
IsRegion None = ⊤
IsRegion (Some (value.Region v)) = ⊤
IsRegion v = ⊥

-- a map has a file for the inode, with values of the kinds of their keys
pub record HasFile (i : InodeId) (w : Map) : Type 0 where
  pub inode : IsLast (w (Inode i))
  pub regions : (r : ℕ) → IsRegion (w (Region i r))

-- a change of one file
pub data FileEdit : Type 0 where
  Push : (r : ℕ) (e : Entry) → FileEdit
  PushRel : (r : ℕ) (ps : List Piece) (b : ℕ) → FileEdit
  Clip : (r end : ℕ) → FileEdit
  ZeroWithin : (r from upto : ℕ) → FileEdit
  CutAbove : (r : ℕ) → FileEdit
  RaiseLast : (r : ℕ) → FileEdit
  SetLast : (r : ℕ) → FileEdit
  Put : (r : ℕ) (x : RegionValue) → FileEdit

-- the greatest number that a region's key can have
abbrev pub LAST_REGION : ℕ
LAST_REGION = 65535

-- a change of a file as one of a map
abbrev pub edit_of : InodeId → FileEdit → Change Key Delta
edit_of i (Push r e) = change.Delta (Region i r) (delta.Push e)
edit_of i (PushRel r ps b) = change.Delta (Region i r) (delta.PushRel ps b)
edit_of i (Clip r end) = change.Delta (Region i r) (delta.Clip end)
edit_of i (ZeroWithin r from upto) = change.Delta (Region i r) (delta.ZeroWithin from upto)
edit_of i (CutAbove r) = change.Cut (Region i (r + 1)) (Region i LAST_REGION)
edit_of i (RaiseLast r) = change.Delta (Inode i) (delta.RaiseLast r)
edit_of i (SetLast r) = change.Delta (Inode i) (delta.SetLast r)
edit_of i (Put r x) = change.Delta (Region i r) (delta.Put (value.Region x))

abbrev pub edits_of : InodeId → List FileEdit → Edits
edits_of i ds = map (edit_of i) ds

-- a file with a region's value set
abbrev pub put_region : FileView → ℕ → Option RegionValue → FileView
put_region v r now = record { last = v.last; region = λ q. if nat_eq q r then now else v.region q }

-- the number of a region above r
abbrev pub lies_above : ℕ → ℕ → Bool
lies_above r q = nat_lt r q && nat_le q LAST_REGION

abbrev pub after_edit : FileEdit → FileView → FileView
after_edit (Push r e) v = put_region v r (Some (pushed (v.region r) e))
after_edit (PushRel r ps b) v = put_region v r (added (v.region r) ps b)
after_edit (Clip r end) v = put_region v r (Some (clipped end (v.region r)))
after_edit (ZeroWithin r from upto) v = put_region v r (zeroed from upto (v.region r))
after_edit (CutAbove r) v = record { last = v.last; region = λ q. if lies_above r q then None else v.region q }
after_edit (RaiseLast r) v = record { last = max v.last r; region = v.region }
after_edit (SetLast r) v = record { last = r; region = v.region }
after_edit (Put r x) v = put_region v r (Some x)

-- a change fits: only pieces at a region's end may find no room
abbrev pub fits_edit : FileEdit → FileView → Bool
fits_edit (PushRel r ps b) v = fits_at_end (v.region r) ps b
fits_edit d v = true

abbrev pub after : List FileEdit → FileView → FileView
after [] v = v
after (d ∷ ds) v = after ds (after_edit d v)

-- each of the changes fits, in order
abbrev pub all_fit : List FileEdit → FileView → Bool
all_fit [] v = true
all_fit (d ∷ ds) v = fits_edit d v && all_fit ds (after_edit d v)
