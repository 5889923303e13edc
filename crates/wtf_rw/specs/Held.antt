-- What each call leaves in hand, by what the attempt saw, where it is not refused: the handle that it opens, closes or moves,
-- and nothing else.
use Rattle.std.specs.Prelude.{◌≡◌, ℕ, ◌*◌, List, length, Option, Some, None}
use Rattle.wtf_base.specs.declared.ids.InodeId.{InodeId}
use Rattle.wtf_base.specs.declared.slice.Slice.{Slice}
use Rattle.wtf_base.specs.Slices.{len_of}
use Rattle.wtf_model.specs.declared.limits.TheConstants.{MAX_REGIONS}
use Rattle.wtf_model.specs.declared.op.Seek.{Seek}
use Rattle.wtf_values.specs.declared.value.Node.TheVariants.{File}
use Rattle.wtf_meta.specs.Maps.{Map}
use Rattle.wtf_meta.specs.Files.{file_len}
use Rattle.wtf_meta.specs.FileEdits.{file_of}
use Rattle.wtf_meta.specs.Sessions.{SessionView, SetsHandle}
use Rattle.wtf_index.specs.Checks.{stands_at}
use Rattle.wtf_steps.specs.Holding.{MovesHandle, MovesOn}
use Rattle.wtf_steps.specs.Recorded.{found_in}
use Rattle.wtf_rw.specs.declared.op.Given.{Given}
use Rattle.wtf_rw.specs.declared.op.Given.TheVariants.{Fresh, Stored}
use Rattle.wtf_rw.specs.declared.op.RwOp.{RwOp}
use Rattle.wtf_rw.specs.declared.op.RwOp.TheVariants as rw
use Rattle.wtf_rw.specs.Seeks.{lands}

-- a handle is opened at the begin of the file that stands at a path, and nothing else becomes another
pub record OpensFile (w : Map) (f : ℕ) (p : List ℕ) (old new : SessionView) : Type 0 where
  pub inode : InodeId
  pub stands : stands_at w p ≡ Some (File inode)
  pub opened : SetsHandle f (Some (record { path = p; inode = inode; off = 0 })) old new

-- an open handle goes to where a seek leads, and nothing else becomes another
abbrev pub SeeksTo : ℕ → Map → ℕ → Seek → (old new : SessionView) → Type 0
SeeksTo b w f place old new = MovesHandle f (λ h n. lands (MAX_REGIONS * b) (file_len b (file_of h.inode w)) h.off place ≡ Some n) old new

-- how many bytes a slice has, if there is one
abbrev pub held_len : Option Slice → ℕ
held_len None = 0
held_len (Some s) = len_of s

-- the number of bytes that are laid of data: of data that was stored before those of its slice
abbrev pub laid_len : Given → ℕ
laid_len (Fresh bs) = length bs.now
laid_len (Stored kept) = held_len kept.slice

-- where a region has b bytes
abbrev pub RwHolds : ℕ → Map → RwOp → (old new : SessionView) → Type 0
RwHolds b w (rw.Open f p) old new = OpensFile w f p.now old new
RwHolds b w (rw.Close f) old new = SetsHandle f None old new
RwHolds b w (rw.Seek f place) old new = SeeksTo b w f place old new
RwHolds b w (rw.Read f n) old new = MovesOn f (λ h. found_in b w h n) old new
RwHolds b w (rw.Write f d) old new = MovesOn f (λ h. laid_len d) old new
RwHolds b w o old new = new ≡ old
