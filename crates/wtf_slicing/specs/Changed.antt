-- The changes that each call makes, by what the attempt saw and what is in hand, where it is not refused: none for a call
-- that shows or keeps a slice.
use Rattle.std.specs.Prelude.{◌≡◌, ℕ, ◌++◌, List, [], Ok}
use Rattle.std.specs.Option.{unwrap_or}
use Rattle.wtf_base.specs.declared.ids.InodeId.{InodeId}
use Rattle.wtf_overlay.specs.declared.part.Piece.{Piece}
use Rattle.wtf_meta.specs.Maps.{Map, Edits}
use Rattle.wtf_meta.specs.FileEdits.{FileEdit, file_of, edits_of}
use Rattle.wtf_meta.specs.NameEdits.{create_edits}
use Rattle.wtf_meta.specs.Sessions.{SessionView, handle_in, slice_in}
use Rattle.wtf_index.specs.Checks.{source_of, target_of}
use Rattle.wtf_index.specs.Changed.{edits_if}
use Rattle.wtf_region.specs.Laid.{IsLaid}
use Rattle.wtf_steps.specs.Made.{LaysAt, AddsAt}
use Rattle.wtf_slicing.specs.declared.op.SliceOp.{SliceOp}
use Rattle.wtf_slicing.specs.declared.op.SliceOp.TheVariants.{Paste, Glue, Concat, Copy}
use Rattle.wtf_slicing.specs.Copies.{regions_of, fill_edits}
use Rattle.wtf_slicing.specs.Sights.{Sight}
use Rattle.wtf_slicing.specs.Sources.{sources_of, ReadsFiles}

-- the pieces of a slice in hand; none of one that was never set
abbrev pub kept_pieces : SessionView → ℕ → List Piece
kept_pieces s label = unwrap_or (slice_in s label) []

-- a file is made of others: an empty one, over which the bytes of all of them are laid from its begin on, as the pieces that the
-- lists of their bases tell
pub record IsConcat (x : Sight) (q : List ℕ) (paths : List (List ℕ)) (cs : Edits) : Type 0 where
  pub dir : List ℕ
  pub target : target_of x.map q ≡ Ok dir
  pub files : List InodeId
  pub sources : sources_of x.map paths ≡ Ok files
  pub pieces : List Piece
  pub reads : ReadsFiles x.size x.map files x.lists pieces
  pub edits : List FileEdit
  pub laid : IsLaid x.size 0 pieces edits
  pub is : cs ≡ create_edits dir q x.new ++ edits_of x.new edits

-- a file is made, and gets all regions of another
abbrev pub copy_changes : Map → List ℕ → List ℕ → InodeId → Edits
copy_changes w p q new =
    edits_if (source_of w p) (λ i. edits_if (target_of w q) (λ dir. create_edits dir q new ++ fill_edits new (file_of i w).last (regions_of (file_of i w))))

abbrev pub IsCopied : Map → List ℕ → List ℕ → InodeId → Edits → Type 0
IsCopied w p q new cs = cs ≡ copy_changes w p q new

-- the changes of each call, by what it sees
abbrev pub SliceMade : Sight → SliceOp → Edits → Type 0
SliceMade x (Paste f label) cs = LaysAt x.size (handle_in x.hand f) (kept_pieces x.hand label) cs
SliceMade x (Glue f label) cs = AddsAt x.size x.map (handle_in x.hand f) (kept_pieces x.hand label) cs
SliceMade x (Concat q paths) cs = IsConcat x q.now paths.now cs
SliceMade x (Copy p q) cs = IsCopied x.map p.now q.now x.new cs
SliceMade x o cs = cs ≡ []
