-- The changes of a call, by the way that it takes.
use Rattle.std.proofs.Common.{◌≡◌, ℕ, ◌++◌, List, [], ◌∷◌, Option, Some, Result, Ok, refl, sym, ap, ◌∙◌, subst, arith}
use Rattle.std.specs.Option.{unwrap_or}
use Rattle.wtf_base.specs.declared.ids.InodeId.{InodeId}
use Rattle.wtf_dev.specs.Store.{StoreKind}
use Rattle.wtf_overlay.specs.Origin.{pieces_len}
use Rattle.wtf_overlay.specs.declared.part.Piece.{Piece}
use Rattle.wtf_model.specs.declared.answer.Word.{Word}
use Rattle.wtf_meta.specs.Maps.{Map}
use Rattle.wtf_meta.specs.FileEdits.{file_of}
use Rattle.wtf_meta.specs.NameEdits.{create_edits}
use Rattle.wtf_meta.specs.Sessions.{SessionView, slice_in}
use Rattle.wtf_index.specs.Checks.{source_of, target_of}
use Rattle.wtf_index.specs.Changed.{edits_if}
use Rattle.wtf_region.specs.declared.dev.Dev.{Dev}
use Rattle.wtf_region.specs.Reads.{TellsFacts}
use Rattle.wtf_steps.specs.Made.{LaysAt}
use Rattle.wtf_steps.proofs.Making.{lays_none}
use Rattle.wtf_slicing.specs.Copies.{regions_of, fill_edits}
use Rattle.wtf_slicing.specs.Changed.{kept_pieces, copy_changes}
use Rattle.wtf_meta.specs.declared.session.Handle.{Handle}

-- no list was read
pub told_none : {S : Type 0} (kind : StoreKind S) (from to : Dev S) → TellsFacts kind from to []
told_none kind from to ranges was told apart = tt

-- pieces without a byte are none
pub no_pieces : (ps : List Piece) → pieces_len ps ≡ 0 → ps ≡ []
no_pieces [] none = refl
no_pieces (p ∷ ps) none = absurd (omega (arith, p.positive, none))

-- what is kept of a slice in hand
pub kept_is : (s : SessionView) (label : ℕ) (ps : List Piece) → slice_in s label ≡ Some ps → kept_pieces s label ≡ ps
kept_is s label ps there = ap (λ (o : Option (List Piece)). unwrap_or o []) there

-- a slice without a byte lays nothing
pub lays_no_byte : (b : ℕ) (o : Option Handle) (s : SessionView) (label : ℕ) (ps : List Piece) → slice_in s label ≡ Some ps → pieces_len ps ≡ 0
    → LaysAt b o (kept_pieces s label) []
lays_no_byte b o s label ps there none =
    subst (λ (qs : List Piece). LaysAt b o qs []) (sym (kept_is s label ps there ∙ no_pieces ps none)) (lays_none b o)

-- a copy that is made
pub copy_made : (b : Map) (p q dir : List ℕ) (i new : InodeId) → source_of b p ≡ Ok i → target_of b q ≡ Ok dir
    → copy_changes b p q new ≡ create_edits dir q new ++ fill_edits new (file_of i b).last (regions_of (file_of i b))
copy_made b p q dir i new e f =
    ap (λ (r : Result InodeId Word). edits_if r (λ j. edits_if (target_of b q) (λ d. create_edits d q new ++ fill_edits new (file_of j b).last
    (regions_of (file_of j b))))) e
    ∙ ap (λ (r : Result (List ℕ) Word). edits_if r (λ d. create_edits d q new ++ fill_edits new (file_of i b).last (regions_of (file_of i b)))) f
