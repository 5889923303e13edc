-- The changes that a call makes: none where it is refused, else those that its own definition names, and nothing else.
use Rattle.std.specs.Prelude.{◌≡◌, ◌++◌, ℕ, List, [], Option, Some, None}
use Rattle.wtf_occ.specs.Attempts.{Attempted}
use Rattle.wtf_overlay.specs.declared.part.Piece.{Piece}
use Rattle.wtf_model.specs.declared.answer.Answer.{Answer}
use Rattle.wtf_values.specs.declared.key.Key.{Key}
use Rattle.wtf_values.specs.declared.value.Delta.{Delta}
use Rattle.wtf_meta.specs.declared.session.Handle.{Handle}
use Rattle.wtf_meta.specs.Maps.{Map, Edits}
use Rattle.wtf_meta.specs.FileEdits.{FileEdit, file_of, edits_of}
use Rattle.wtf_region.specs.Laid.{IsLaid, IsAppend}
use Rattle.wtf_steps.specs.Steps.{IsRefusal}

-- an attempt goes on by the changes of a call that answered a: F holds of them, and of a refusal there are none
pub record Makes (a : Answer) (F : Edits → Type 0) (old new : Attempted Key Delta) : Type 0 where
  pub edits : Edits
  pub changes : new.changes ≡ old.changes ++ edits
  pub refused : IsRefusal a → edits ≡ []
  pub made : (IsRefusal a → ⊥) → F edits

-- changes of the file of an open handle, of which F holds; of one that is not open there are none
abbrev pub OfFile : Option Handle → (Handle → List FileEdit → Type 0) → Edits → Type 0
OfFile None F cs = cs ≡ []
OfFile (Some h) F cs = (ds : List FileEdit) × (cs ≡ edits_of h.inode ds) × F h ds

-- pieces are laid over the file of a handle at its offset, where a region has b bytes
abbrev pub LaysAt : ℕ → Option Handle → List Piece → Edits → Type 0
LaysAt b h ps cs = OfFile h (λ g ds. IsLaid b g.off ps ds) cs

-- and they are added at the end of the file of a handle, as a map has it
abbrev pub AddsAt : ℕ → Map → Option Handle → List Piece → Edits → Type 0
AddsAt b w h ps cs = OfFile h (λ g ds. IsAppend b (file_of g.inode w) ps ds) cs
