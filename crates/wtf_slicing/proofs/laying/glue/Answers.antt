use Rattle.std.proofs.Common.{◌≡◌, ℕ, ◌++◌, List, [], Option, Some, refl, sym, ap, ◌∙◌, subst}
use Rattle.std.specs.Option.{option_copied}
use Rattle.wtf_base.specs.declared.ids.InodeId.{InodeId}
use Rattle.wtf_occ.proofs.AttemptLaws.{GrowsBy-nothing, Grows-by}
use Rattle.wtf_overlay.specs.Origin.{pieces_len}
use Rattle.wtf_overlay.specs.declared.part.Piece.{Piece}
use Rattle.wtf_model.specs.declared.answer.Answer.{Answer}
use Rattle.wtf_model.specs.declared.answer.Answer.TheVariants as answer
use Rattle.wtf_model.specs.declared.answer.Word.TheVariants.{NoHandle, NoSlice}
use Rattle.wtf_model.specs.declared.op.Op.TheVariants as op
use Rattle.wtf_meta.specs.Maps.{seen}
use Rattle.wtf_meta.specs.FileEdits.{file_of}
use Rattle.wtf_meta.specs.Sessions.{handle_in, slice_in}
use Rattle.wtf_meta.specs.Calls.{cap_for}
use Rattle.wtf_region.specs.Edited.{IsAdded}
use Rattle.wtf_steps.specs.Steps.{in_hand, IsStepWith, NeedsNoBytes}
use Rattle.wtf_steps.proofs.AppendWays.{added_keys, keys_due}
use Rattle.wtf_steps.proofs.Ways.{no_handle, step_of, spot_open, spot_closed}
use Rattle.wtf_slicing.specs.Recorded.{glue_keys}
use Rattle.wtf_model.proofs.SliceLaws.{glue-none}
use Rattle.wtf_slicing.proofs.LayWays.{lays_short, glues_unset, step_glued}
use Rattle.wtf_steps.specs.Steps.{answer_of}
use Rattle.wtf_steps.specs.Made.{Makes, AddsAt}
use Rattle.wtf_steps.proofs.Making.{makes_refused, makes_added}
use Rattle.wtf_slicing.specs.Changed.{kept_pieces}
use Rattle.wtf_slicing.proofs.MadeWays.{kept_is}
use Rattle.wtf_slicing.proofs.laying.glue.Goals as goal

pub returns-in_default-clause-step : goal.returns-in_default-clause-step
returns-in_default-clause-step c x size =
    let s = c.args.s.now in
    let f = c.args.f in
    let b = seen c.args.kv.now c.args.at.now in
    let o = op.Glue f c.args.label in
    let at = in_hand c.args.at.now s in
    step_of x b at at [] o (answer.Refused NoHandle) (GrowsBy-nothing c.args.at.now)
    (no_handle x b s f o (spot_closed c.handle_of.result (handle_in s f) c.handle_of.ensures c.in_default.is)
    (λ S none. glue-none (cap_for x) S f c.args.label none))

pub returns-in_default-slice-clause-step : goal.returns-in_default-slice-clause-step
returns-in_default-slice-clause-step c x size =
    let s = c.args.s.now in
    let f = c.args.f in
    let b = seen c.args.kv.now c.args.at.now in
    let at = in_hand c.args.at.now s in
    let open_at = spot_open c.handle_of.result (handle_in s f) c.in-Some.spot c.handle_of.ensures c.in-Some.is in
    step_of x b at at [] (op.Glue f c.args.label) (answer.Refused NoSlice) (GrowsBy-nothing c.args.at.now)
    (glues_unset x b s f c.args.label open_at.handle open_at.is (sym c.slice.ensures ∙ ap option_copied c.in_default-slice.is))

pub returns-clause-keys : goal.returns-clause-keys
returns-clause-keys c =
    let s = c.args.s.now in
    let f = c.args.f in
    let b = seen c.args.kv.now c.args.at.now in
    let i = c.in-Some.spot.inode in
    let z = c.args.settings.region in
    let ps = c.in-Some-slice.pieces.now in
    let there : slice_in s c.args.label ≡ Some ps = sym c.slice.ensures ∙ ap option_copied c.in-Some-slice.is in
    let open_at = spot_open c.handle_of.result (handle_in s f) c.in-Some.spot c.handle_of.ensures c.in-Some.is in
    subst (λ (o : Option (List Piece)). c.add_pieces.new.at.reads ≡ c.args.at.now.reads ++ glue_keys z b (handle_in s f) o) (sym there)
    (keys_due z b (handle_in s f) open_at.handle i (pieces_len ps) (pieces_len ps) c.add_pieces.new.at.reads c.args.at.now.reads open_at.is open_at.inode refl
    (added_keys z i (file_of i b) ps c.args.at.now c.add_pieces.new.at c.in_ok-added.added c.in_ok-added.ensures.added))

pub returns-clause-step : goal.returns-clause-step
returns-clause-step c x size =
    let s = c.args.s.now in
    let f = c.args.f in
    let b = seen c.args.kv.now c.args.at.now in
    let old = c.args.at.now in
    let new = c.add_pieces.new.at in
    let r = c.in_ok-added.added in
    let ps = c.in-Some-slice.pieces.now in
    let spot = c.in-Some.spot in
    let there : slice_in s c.args.label ≡ Some ps = sym c.slice.ensures ∙ ap option_copied c.in-Some-slice.is in
    let open_at = spot_open c.handle_of.result (handle_in s f) spot c.handle_of.ensures c.in-Some.is in
    let h = open_at.handle in
    let is : IsAdded x.size h.inode (file_of h.inode b) ps old new r =
    subst (λ (i : InodeId). IsAdded x.size i (file_of i b) ps old new r) open_at.inode
    (subst (λ (z : ℕ). IsAdded z spot.inode (file_of spot.inode b) ps old new r) (sym size) c.in_ok-added.ensures.added) in
    subst (λ (a : Answer). IsStepWith NeedsNoBytes x b (in_hand old s) (in_hand new s) (op.Glue f c.args.label) a) (sym c.answer_to.ensures.value)
    (step_glued x b s f c.args.label h open_at.is ps there old new r is)

pub returns-in_default-clause-made : goal.returns-in_default-clause-made
returns-in_default-clause-made c =
    let s = c.args.s.now in
    let b = seen c.args.kv.now c.args.at.now in
    makes_refused (answer.Refused NoHandle) NoHandle (AddsAt c.args.settings.region b (handle_in s c.args.f) (kept_pieces s c.args.label)) c.args.at.now
    c.args.at.now refl refl

pub returns-in_default-slice-clause-made : goal.returns-in_default-slice-clause-made
returns-in_default-slice-clause-made c =
    let s = c.args.s.now in
    let b = seen c.args.kv.now c.args.at.now in
    makes_refused (answer.Refused NoSlice) NoSlice (AddsAt c.args.settings.region b (handle_in s c.args.f) (kept_pieces s c.args.label)) c.args.at.now
    c.args.at.now refl refl

pub returns-clause-made : goal.returns-clause-made
returns-clause-made c =
    let s = c.args.s.now in
    let b = seen c.args.kv.now c.args.at.now in
    let z = c.args.settings.region in
    let o = handle_in s c.args.f in
    let old = c.args.at.now in
    let new = c.add_pieces.new.at in
    let r = c.in_ok-added.added in
    let spot = c.in-Some.spot in
    let ps = c.in-Some-slice.pieces.now in
    let there : slice_in s c.args.label ≡ Some ps = sym c.slice.ensures ∙ ap option_copied c.in-Some-slice.is in
    let open_at = spot_open c.handle_of.result o spot c.handle_of.ensures c.in-Some.is in
    subst (λ (a : Answer). Makes a (AddsAt z b o (kept_pieces s c.args.label)) old new) (sym c.answer_to.ensures.value)
    (subst (λ (qs : List Piece). Makes (answer_of r) (AddsAt z b o qs) old new) (sym (kept_is s c.args.label ps there))
    (makes_added z b o open_at.handle spot.inode ps old new r open_at.is open_at.inode c.in_ok-added.ensures.added))

pub returns-in_default-clause-lays : goal.returns-in_default-clause-lays
returns-in_default-clause-lays c =
    let at = c.args.at.now in
    record { logged = tt; refused = λ h. refl; err = tt; grows = Grows-by at at [] [] (GrowsBy-nothing at) }

pub returns-in_default-slice-clause-lays : goal.returns-in_default-slice-clause-lays
returns-in_default-slice-clause-lays c =
    let at = c.args.at.now in
    record { logged = tt; refused = λ h. refl; err = tt; grows = Grows-by at at [] [] (GrowsBy-nothing at) }

pub returns-in_err-added-clause-lays : goal.returns-in_err-added-clause-lays
returns-in_err-added-clause-lays c =
    let s = c.args.s.now in
    lays_short (in_hand c.args.at.now s) (in_hand c.add_pieces.new.at s) c.from_residual.result c.from_residual.ensures.0 refl c.in_err-added.ensures.grows
