-- The handles and slices that a transaction has in hand, and when they are those of the definitions' session.
-- NSDI 2016, sections 2.3 and 2.5.
use Rattle.std.specs.Prelude.{◌≡◌, ◌≢◌, ℕ, Bool, List, length, replicate, map, Option, None, Some, slice_get, ⊤}
use Rattle.std.specs.Option.{option_map}
use Rattle.std.specs.FinMap.{get}
use Rattle.wtf_overlay.specs.Origin.{Place}
use Rattle.wtf_overlay.specs.declared.part.Piece.{Piece}
use Rattle.wtf_model.specs.Session.{Session}
use Rattle.wtf_model.specs.Session as model
use Rattle.wtf_model.specs.declared.limits.TheConstants.{MAX_HANDLES, MAX_SLICES}
use Rattle.wtf_meta.specs.declared.kept.Kept.{Kept}
use Rattle.wtf_meta.specs.declared.session.Handle.{Handle}
use Rattle.wtf_meta.specs.Maps.{Map}
use Rattle.wtf_meta.specs.Bytes.{PiecesBytes}
use Rattle.wtf_meta.specs.Contents.{Told, PiecesTell}
use Rattle.wtf_meta.specs.Trees.{LeadsTo}

-- by label: open handles, and slices as pieces
pub record SessionView : Type 0 where
  pub handles : List (Option Handle)
  pub slices : List (Option (List Piece))

-- what stands at a label, if anything
abbrev pub at_label : {A : Type 0} → List (Option A) → ℕ → Option A
at_label xs n = flat (slice_get xs n)
  where
    flat : {A : Type 0} → Option (Option A) → Option A
    flat None = None
    flat (Some x) = x

abbrev pub handle_in : SessionView → ℕ → Option Handle
handle_in s f = at_label s.handles f

abbrev pub slice_in : SessionView → ℕ → Option (List Piece)
slice_in s label = at_label s.slices label

abbrev pub items_of : Kept → List Piece
items_of kept = kept.pieces.items

-- what is seen of handles and slices
abbrev pub session_view : List (Option Handle) → List (Option Kept) → SessionView
session_view handles slices = record {
  handles = handles;
  slices = map (option_map items_of) slices;
}

-- there is a place for each label
abbrev pub AreLabels : List (Option Handle) → List (Option Kept) → Type 0
AreLabels handles slices = (length handles ≡ MAX_HANDLES) × (length slices ≡ MAX_SLICES)

-- of all handles and slices the handle of one label alone is set
pub record SetsHandle (f : ℕ) (now : Option Handle) (old new : SessionView) : Type 0 where
  pub is : handle_in new f ≡ now
  pub others : (g : ℕ) → g ≢ f → handle_in new g ≡ handle_in old g
  pub slices : (label : ℕ) → slice_in new label ≡ slice_in old label

-- and the slice of one label alone
pub record SetsSlice (label : ℕ) (now : Option (List Piece)) (old new : SessionView) : Type 0 where
  pub is : slice_in new label ≡ now
  pub others : (other : ℕ) → other ≢ label → slice_in new other ≡ slice_in old other
  pub handles : (f : ℕ) → handle_in new f ≡ handle_in old f

-- a handle at another offset
abbrev pub moved_to : ℕ → Handle → Handle
moved_to off h = record { path = h.path; inode = h.inode; off = off }

-- nothing is open
abbrev pub nothing_open : SessionView
nothing_open = record { handles = replicate MAX_HANDLES None; slices = replicate MAX_SLICES None }

-- a handle is the definitions', and its path leads to its inode
pub record IsHandleOf (w : Map) (h : Handle) (g : model.Handle) : Type 0 where
  pub path : g.path ≡ h.path
  pub off : g.off ≡ h.off
  pub leads : LeadsTo w h.path h.inode

abbrev pub HandleAt : Map → Option Handle → Option model.Handle → Type 0
HandleAt w None None = ⊤
HandleAt w (Some h) (Some g) = IsHandleOf w h g
HandleAt w h g = ⊥

-- a slice's pieces tell its bytes
abbrev pub SliceAt : Told → Option (List Piece) → Option (List ℕ) → Type 0
SliceAt told None None = ⊤
SliceAt told (Some ps) (Some bytes) = PiecesTell told ps bytes
SliceAt told ps bytes = ⊥

-- the handles and slices are those of the session
pub record Holds (told : Told) (w : Map) (s : SessionView) (S : Session) : Type 0 where
  pub handles : (f : ℕ) → HandleAt w (handle_in s f) (get S.handles f)
  pub slices : (label : ℕ) → SliceAt told (slice_in s label) (get S.slices label)

-- no handle is open on a path
abbrev pub IsOff : List ℕ → SessionView → Type 0
IsOff p s = (f : ℕ) (h : Handle) → handle_in s f ≡ Some h → h.path ≢ p

-- P holds of the places of each byte of the slices
abbrev pub SessionBytes : (List Place → Bool) → SessionView → Type 0
SessionBytes P s = (label : ℕ) (ps : List Piece) → slice_in s label ≡ Some ps → PiecesBytes P ps
