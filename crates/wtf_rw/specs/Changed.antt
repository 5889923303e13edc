-- The changes that each call makes, by what the attempt saw and what is in hand, where it is not refused: none for a call
-- that shows, and for no bytes.
use Rattle.std.specs.Prelude.{◌≡◌, ℕ, List, [], Option}
use Rattle.wtf_base.specs.declared.slice.Slice.{Slice}
use Rattle.wtf_overlay.specs.declared.part.Piece.{Piece}
use Rattle.wtf_meta.specs.declared.session.Handle.{Handle}
use Rattle.wtf_meta.specs.Maps.{Map, Edits}
use Rattle.wtf_meta.specs.Sessions.{SessionView, handle_in}
use Rattle.wtf_rw.specs.declared.op.Given.{Given}
use Rattle.wtf_rw.specs.declared.op.Given.TheVariants.{Fresh, Stored}
use Rattle.wtf_rw.specs.declared.op.RwOp.{RwOp}
use Rattle.wtf_rw.specs.declared.op.RwOp.TheVariants as rw
use Rattle.wtf_steps.specs.Made.{OfFile, LaysAt, AddsAt}
use Rattle.wtf_rw.specs.Sizes.{cut_to, IsPunched}
use Rattle.wtf_rw.specs.Stored.{ArePieces}

-- the slice of a call's data: the one that it stored, or the one that was stored before
abbrev pub slice_for : Given → Option Slice → Option Slice
slice_for (Fresh bs) own = own
slice_for (Stored kept) own = kept.slice

-- changes that bring a slice, if there is one, as one piece
abbrev pub OfSlice : Option Slice → (List Piece → Edits → Type 0) → Edits → Type 0
OfSlice o F cs = (ps : List Piece) × ArePieces o ps × F ps cs

-- the file of a handle is made n bytes long
abbrev pub CutsAt : ℕ → Option Handle → ℕ → Edits → Type 0
CutsAt b h n cs = OfFile h (λ g ds. ds ≡ cut_to b n) cs

-- and gets a hole of n bytes at its offset
abbrev pub PunchesAt : ℕ → Option Handle → ℕ → Edits → Type 0
PunchesAt b h n cs = OfFile h (λ g ds. IsPunched b g.off n ds) cs

-- where a region has b bytes, and of the data the slice `own` was stored
abbrev pub RwMade : ℕ → Map → SessionView → RwOp → Option Slice → Edits → Type 0
RwMade b w s (rw.Write f d) own cs = OfSlice (slice_for d own) (LaysAt b (handle_in s f)) cs
RwMade b w s (rw.Append f d) own cs = OfSlice (slice_for d own) (AddsAt b w (handle_in s f)) cs
RwMade b w s (rw.Truncate f n) own cs = CutsAt b (handle_in s f) n cs
RwMade b w s (rw.Punch f n) own cs = PunchesAt b (handle_in s f) n cs
RwMade b w s o own cs = cs ≡ []
