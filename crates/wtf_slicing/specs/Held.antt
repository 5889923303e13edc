-- What each call leaves in hand, by what it sees, where it is not refused, and the lists of bases that it reads.
use Rattle.std.specs.Prelude.{◌≡◌, ◌≤◌, ℕ, ◌+◌, List, [], Some, Ok}
use Rattle.wtf_base.specs.declared.ids.InodeId.{InodeId}
use Rattle.wtf_overlay.specs.Origin.{Plans, pieces_len, pieces_origin}
use Rattle.wtf_overlay.specs.declared.part.Piece.{Piece}
use Rattle.wtf_model.specs.declared.answer.Answer.{Answer}
use Rattle.wtf_meta.specs.declared.session.Handle.{Handle}
use Rattle.wtf_meta.specs.Lists.{ListFact}
use Rattle.wtf_meta.specs.FileEdits.{file_of}
use Rattle.wtf_meta.specs.Reads.{ReadsFile}
use Rattle.wtf_meta.specs.Sessions.{SessionView, handle_in, slice_in, SetsHandle, SetsSlice, moved_to}
use Rattle.wtf_meta.specs.Calls.{InHand}
use Rattle.wtf_region.specs.Bases.{slices_of, bases_in}
use Rattle.wtf_steps.specs.Scenes.{Scene}
use Rattle.wtf_steps.specs.Recorded.{found_in}
use Rattle.wtf_steps.specs.Made.{Makes}
use Rattle.wtf_steps.specs.Holding.{LeavesHand, MovesOn}
use Rattle.wtf_steps.specs.Recalling.{RecallsFor}
use Rattle.wtf_slicing.specs.declared.op.SliceOp.{SliceOp}
use Rattle.wtf_slicing.specs.declared.op.SliceOp.TheVariants.{Yank, Cut, Paste, Concat}
use Rattle.wtf_slicing.specs.Changed.{kept_pieces, SliceMade}
use Rattle.wtf_slicing.specs.Sights.{Sight, sight}
use Rattle.wtf_slicing.specs.Sources.{sources_of, files_bases}

-- The bytes that are found at a handle are kept as a slice: the pieces that the lists of their bases tell. The handle goes on by their
-- number.
pub record Yanks (x : Sight) (f n label : ℕ) (old new : SessionView) : Type 0 where
  pub handle : Handle
  pub stood : handle_in old f ≡ Some handle
  pub pieces : List Piece
  pub reads : ReadsFile x.size (file_of handle.inode x.map) handle.off (found_in x.size x.map handle n) x.lists pieces
  pub mid : SessionView
  pub kept : SetsSlice label (Some pieces) old mid
  pub moved : SetsHandle f (Some (moved_to (handle.off + found_in x.size x.map handle n) handle)) mid new

-- a part of a slice is kept as a slice, with the places that its bytes have there
pub record Cuts (label off n made : ℕ) (old new : SessionView) : Type 0 where
  pub pieces : List Piece
  pub stood : slice_in old label ≡ Some pieces
  pub within : off + n ≤ pieces_len pieces
  pub part : List Piece
  pub plans : Plans part n (λ i. pieces_origin pieces (off + i))
  pub kept : SetsSlice made (Some part) old new

-- a handle goes on by the number of a slice's bytes, which were laid there
abbrev pub Pastes : ℕ → ℕ → (old new : SessionView) → Type 0
Pastes f label old new = MovesOn f (λ h. pieces_len (kept_pieces old label)) old new

-- what each call leaves in hand
abbrev pub SliceHolds : Sight → SliceOp → (old new : SessionView) → Type 0
SliceHolds x (Yank f n label) old new = Yanks x f n label old new
SliceHolds x (Cut label off n made) old new = Cuts label off n made old new
SliceHolds x (Paste f label) old new = Pastes f label old new
SliceHolds x o old new = new ≡ old

-- the lists that each call reads are those of the bases under the bytes that it takes, in order
abbrev pub SliceReads : Sight → SliceOp → Type 0
SliceReads x (Yank f n label) = (h : Handle) × (handle_in x.hand f ≡ Some h) × (slices_of x.lists ≡ bases_in x.size (file_of h.inode x.map) h.off
    (found_in x.size x.map h n))
SliceReads x (Concat q ps) = (is : List InodeId) × (sources_of x.map ps.now ≡ Ok is) × (slices_of x.lists ≡ files_bases x.size x.map is)
SliceReads x o = x.lists ≡ []

-- what a call sees that makes a file of this inode, if any
abbrev pub sees : {S : Type 0} → Scene S → InodeId → SessionView → List ListFact → Sight
sees sc made s lists = sight sc.before.settings.region sc.map s made lists

-- A call that answered a read these lists, and over them made its changes and set what is in hand; where it was refused there are
-- none of all these.
pub record SliceDone {S : Type 0} (sc : Scene S) (made : InodeId) (o : SliceOp) (a : Answer) (old new : InHand) : Type 0 where
  pub recalls : RecallsFor sc.kind a (λ lists. SliceReads (sees sc made old.session lists) o) sc.before sc.after
  pub makes : Makes a (SliceMade (sees sc made old.session recalls.facts) o) old.at new.at
  pub holds : LeavesHand a (SliceHolds (sees sc made old.session recalls.facts) o) old.session new.session
