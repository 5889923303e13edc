-- Changes of a file fit on a map just where they fit the file that it shows.
use Rattle.std.proofs.Common.{◌≡◌, ℕ, Bool, true, false, cond, List, [], ◌∷◌, None, Some, refl, ap, sym, ◌∙◌, inl, inr}
use Rattle.std.specs.Prelude.{⊤}
use Rattle.std.proofs.lemmas.Bool.{cases_Bool, cond-true, cond-false, and_from}
use Rattle.wtf_base.specs.declared.ids.InodeId.{InodeId}
use Rattle.wtf_kv.specs.declared.changes.Change.{Change}
use Rattle.wtf_kv.specs.declared.changes.Change.TheVariants as change
use Rattle.wtf_kv.specs.Edits.{fits, first_unfit}
use Rattle.wtf_overlay.specs.declared.part.Piece.{Piece}
use Rattle.wtf_values.specs.declared.key.Key.{Key}
use Rattle.wtf_values.specs.declared.key.Key.TheVariants.{Inode, Region}
use Rattle.wtf_values.specs.declared.value.Delta.{Delta}
use Rattle.wtf_values.specs.declared.value.Delta.TheVariants as delta
use Rattle.wtf_values.specs.Regions.{fits_at_end}
use Rattle.wtf_values.specs.Keys.{key_cmp}
use Rattle.wtf_values.specs.Outcomes.{outcome_of}
use Rattle.wtf_values.proofs.OutcomeLaws.{is_relative, always_fits, fits-missing, fits-region}
use Rattle.wtf_meta.specs.Maps.{Map, Edits, AllFit}
use Rattle.wtf_meta.specs.FileEdits.{region_of, file_of, HasFile, FileEdit, Push, PushRel, Clip, ZeroWithin, CutAbove, RaiseLast, SetLast, Put, edit_of}
use Rattle.wtf_meta.specs.FileEdits.{edits_of, fits_edit, after_edit, all_fit}
use Rattle.wtf_meta.proofs.Steps.{step, by_region, by_last}
use Rattle.wtf_meta.proofs.Edits.{file_one, has_one}

-- one change of a map fits
abbrev pub fits_here : Change Key Delta → Map → Bool
fits_here (change.Delta key d) w = fits (outcome_of (w key) d)
fits_here (change.Cut from to) w = true

-- no change is relative, so each fits whatever it meets
abbrev pub AllPlain : Edits → Type 0
AllPlain [] = ⊤
AllPlain (change.Delta k d ∷ cs) = (is_relative d ≡ false) × AllPlain cs
AllPlain (change.Cut from to ∷ cs) = AllPlain cs

pub plain_fit : (cs : Edits) (w : Map) → AllPlain cs → AllFit cs w
plain_fit [] w h = refl
plain_fit (change.Delta k d ∷ cs) w h =
    let next : Map = step (change.Delta k d) w in
    ap (λ c. cond c (first_unfit key_cmp outcome_of cs next) (Some k)) (always_fits (w k) d h.0) ∙ plain_fit cs next h.1
plain_fit (change.Cut from to ∷ cs) w h = plain_fit cs (step (change.Cut from to) w) h

-- where changes fit, the first one does, and the others after it
pub AllFit-parts : (c : Change Key Delta) (cs : Edits) (w : Map) → AllFit (c ∷ cs) w → (fits_here c w ≡ true) × AllFit cs (step c w)
AllFit-parts (change.Cut from to) cs w h = (refl, h)
AllFit-parts (change.Delta key d) cs w h = elim (cases_Bool (fits (outcome_of (w key) d))) [
  | inl t ↦ (t, sym (cond-true (fits (outcome_of (w key) d)) _ _ t) ∙ h)
  | inr f ↦ let bad : Some key ≡ None = sym (cond-false (fits (outcome_of (w key) d)) _ _ f) ∙ h in absurd (cc)
]

-- and where these do, all do
pub AllFit-more : (c : Change Key Delta) (cs : Edits) (w : Map) → fits_here c w ≡ true → AllFit cs (step c w) → AllFit (c ∷ cs) w
AllFit-more (change.Cut from to) cs w here rest = rest
AllFit-more (change.Delta key d) cs w here rest = cond-true (fits (outcome_of (w key) d)) _ _ here ∙ rest

fits_rel : (ps : List Piece) (b : ℕ) (i : InodeId) (r : ℕ) (w : Map) → HasFile i w
    → fits (outcome_of (w (Region i r)) (delta.PushRel ps b)) ≡ fits_at_end (region_of (w (Region i r))) ps b
fits_rel ps b i r w has =
    by_region (λ now. fits (outcome_of now (delta.PushRel ps b)) ≡ fits_at_end (region_of now) ps b)
    (fits-missing ps b) (λ v. fits-region v ps b)
    (w (Region i r)) (has.regions r)

-- a change of a file fits where it fits the file
pub fits_same : (i : InodeId) (d : FileEdit) (w : Map) → HasFile i w → fits_here (edit_of i d) w ≡ fits_edit d (file_of i w)
fits_same i (Push r e) w has = by_region (λ now. fits (outcome_of now (delta.Push e)) ≡ true) refl (λ v. refl) (w (Region i r)) (has.regions r)
fits_same i (PushRel r ps b) w has = fits_rel ps b i r w has
fits_same i (Clip r end) w has = by_region (λ now. fits (outcome_of now (delta.Clip end)) ≡ true) refl (λ v. refl) (w (Region i r)) (has.regions r)
fits_same i (ZeroWithin r from upto) w has = by_region (λ now. fits (outcome_of now (delta.ZeroWithin from upto)) ≡ true) refl (λ v. refl) (w (Region i r))
    (has.regions r)
fits_same i (CutAbove r) w has = refl
fits_same i (RaiseLast r) w has = by_last (λ now. fits (outcome_of now (delta.RaiseLast r)) ≡ true) (λ n. refl) (w (Inode i)) has.inode
fits_same i (Put r x) w has = refl
fits_same i (SetLast r) w has = by_last (λ now. fits (outcome_of now (delta.SetLast r)) ≡ true) (λ n. refl) (w (Inode i)) has.inode

-- changes that fit on a map fit the file that it shows
pub all_fit_from : (i : InodeId) (ds : List FileEdit) (w : Map) → HasFile i w → AllFit (edits_of i ds) w → all_fit ds (file_of i w) ≡ true
all_fit_from i [] w has h = refl
all_fit_from i (d ∷ ds) w has h =
    let both = AllFit-parts (edit_of i d) (edits_of i ds) w h in
    and_from (fits_edit d (file_of i w)) (all_fit ds (after_edit d (file_of i w))) (sym (fits_same i d w has) ∙ both.0)
    (ap (all_fit ds) (sym (file_one i d w has)) ∙ all_fit_from i ds (step (edit_of i d) w) (has_one i d w has) both.1)
