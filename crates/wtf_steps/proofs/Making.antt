-- The changes of a call, from what is known of its parts.
use Rattle.std.proofs.Common.{◌≡◌, ℕ, ◌++◌, List, [], Option, None, Some, refl, sym, ap, ◌∙◌, subst, append-nil, arith}
use Rattle.wtf_base.specs.declared.ids.InodeId.{InodeId}
use Rattle.wtf_occ.specs.Attempts.{Attempted, GrowsBy}
use Rattle.wtf_overlay.specs.declared.part.Piece.{Piece}
use Rattle.wtf_model.specs.declared.answer.Answer.{Answer}
use Rattle.wtf_model.specs.declared.answer.Answer.TheVariants as answer
use Rattle.wtf_model.specs.declared.answer.Word.{Word}
use Rattle.wtf_values.specs.declared.key.Key.{Key}
use Rattle.wtf_values.specs.declared.value.Delta.{Delta}
use Rattle.wtf_meta.specs.declared.session.Handle.{Handle}
use Rattle.wtf_meta.specs.Maps.{Map, Edits}
use Rattle.wtf_meta.specs.FileEdits.{FileEdit, file_of, edits_of}
use Rattle.wtf_region.specs.declared.added.Added.{Added}
use Rattle.wtf_region.specs.declared.added.Added.TheVariants as added
use Rattle.wtf_region.specs.Laid.{IsLaid, IsAppend}
use Rattle.wtf_region.specs.Edited.{Edited, LaysPieces, IsAdded}
use Rattle.wtf_region.proofs.LaidLaws.{laid_none}
use Rattle.wtf_steps.specs.Steps.{IsRefusal, answer_of}
use Rattle.wtf_steps.specs.Made.{Makes, OfFile, LaysAt, AddsAt}

-- nothing was changed, where F allows that
pub makes_nothing : (a : Answer) (F : Edits → Type 0) (old new : Attempted Key Delta) → F [] → new.changes ≡ old.changes → Makes a F old new
makes_nothing a F old new none same = record {
  edits = [];
  changes = same ∙ sym (append-nil old.changes);
  refused = λ h. refl;
  made = λ h. none;
}

-- nor where the call was refused
pub makes_refused : (a : Answer) (word : Word) (F : Edits → Type 0) (old new : Attempted Key Delta) → a ≡ answer.Refused word → new.changes ≡ old.changes
    → Makes a F old new
makes_refused a word F old new is same = record {
  edits = [];
  changes = same ∙ sym (append-nil old.changes);
  refused = λ h. refl;
  made = λ h. absurd (h (subst (λ (r : Answer). IsRefusal r) (sym is) tt));
}

-- these changes were made
pub makes_these : (F : Edits → Type 0) (cs : Edits) (old new : Attempted Key Delta) → new.changes ≡ old.changes ++ cs → F cs → Makes answer.Okay F old new
makes_these F cs old new changes has = record {
  edits = cs;
  changes = changes;
  refused = λ h. absurd h;
  made = λ h. has;
}

-- keys alone leave the changes
pub keeps_changes : (old new : Attempted Key Delta) (ks : List Key) → GrowsBy old new ks [] → new.changes ≡ old.changes
keeps_changes old new ks went = went.changes ∙ append-nil old.changes

-- the same answer and changes by other names
pub makes_as : (a r : Answer) (F G : Edits → Type 0) (old new : Attempted Key Delta) → a ≡ r → ((cs : Edits) → F cs → G cs) → Makes r F old new
    → Makes a G old new
makes_as a r F G old new is weaker is_made = subst (λ (q : Answer). Makes q G old new) (sym is) (record {
  edits = is_made.edits;
  changes = is_made.changes;
  refused = is_made.refused;
  made = λ h. weaker is_made.edits (is_made.made h);
})

-- no piece is no change
pub lays_none : (b : ℕ) (o : Option Handle) → LaysAt b o [] []
lays_none b None = refl
lays_none b (Some h) = ([], refl, laid_none b h.off)

pub adds_none : (b : ℕ) (w : Map) (o : Option Handle) → AddsAt b w o [] []
adds_none b w None = refl
adds_none b w (Some h) =
    ([], refl, record { none = λ e. refl; fits = λ more room. absurd (omega (arith, more)); laid = λ more full. absurd (omega (arith, more)) })

-- changes of the file of a handle
pub of_file : (F : Handle → List FileEdit → Type 0) (o : Option Handle) (h : Handle) (i : InodeId) (ds : List FileEdit) → o ≡ Some h → i ≡ h.inode → F h ds
    → OfFile o F (edits_of i ds)
of_file F o h i ds here inode has =
    subst (λ (r : Option Handle). OfFile r F (edits_of i ds)) (sym here) (ds, ap (λ (j : InodeId). edits_of j ds) inode, has)

-- pieces that were laid at a handle's offset
pub makes_laid : (b : ℕ) (o : Option Handle) (h : Handle) (i : InodeId) (off : ℕ) (ps : List Piece) (old new : Attempted Key Delta) → o ≡ Some h → i ≡ h.inode
    → off ≡ h.off
    → Edited i [] (LaysPieces b off i ps) old new → Makes answer.Okay (LaysAt b o ps) old new
makes_laid b o h i off ps old new here inode at edited =
    makes_these (LaysAt b o ps) (edits_of i edited.edits) old new edited.grows.changes
    (of_file (λ g ds. IsLaid b g.off ps ds) o h i edited.edits here inode
    (subst (λ (k : ℕ). IsLaid b k ps edited.edits) at edited.does.exact))

-- whatever came of pieces that were added at its file's end
pub makes_added : (b : ℕ) (w : Map) (o : Option Handle) (h : Handle) (i : InodeId) (ps : List Piece) (old new : Attempted Key Delta) (r : Added) → o ≡ Some h
    → i ≡ h.inode
    → IsAdded b i (file_of i w) ps old new r → Makes (answer_of r) (AddsAt b w o ps) old new
makes_added b w o h i ps old new added.Done here inode is =
    makes_these (AddsAt b w o ps) (edits_of i is.edits) old new is.grows.changes
    (of_file (λ g ds. IsAppend b (file_of g.inode w) ps ds) o h i is.edits here inode
    (subst (λ (j : InodeId). IsAppend b (file_of j w) ps is.edits) inode is.does.exact))
makes_added b w o h i ps old new added.TooBig here inode is = record {
  edits = [];
  changes = is.recorded.changes;
  refused = λ is_refusal. refl;
  made = λ going. absurd (going tt);
}
