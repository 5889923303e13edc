use Rattle.std.proofs.Common.{◌≡◌, ℕ, ◌+◌, [], ◌∷◌, length, Option, None, Some, refl, sym, ap, ◌∙◌, subst, arith}
use Rattle.std.specs.Option.{option_map}
use Rattle.wtf_base.specs.declared.ids.InodeId.{InodeId}
use Rattle.wtf_base.specs.declared.slice.Slice.{Slice}
use Rattle.wtf_base.specs.Slices.{HasLength, len_of}
use Rattle.wtf_occ.proofs.AttemptLaws.{GrowsBy-nothing}
use Rattle.wtf_model.specs.declared.answer.Answer.TheVariants as answer
use Rattle.wtf_model.specs.declared.answer.Word.TheVariants.{NoHandle, TooBig}
use Rattle.wtf_model.specs.declared.op.Op.TheVariants as op
use Rattle.wtf_meta.specs.declared.session.Handle.{Handle}
use Rattle.wtf_meta.specs.Sessions.{SessionView, handle_in, SetsHandle, moved_to}
use Rattle.wtf_meta.specs.Calls.{cap_for}
use Rattle.wtf_region.specs.Edited.{Edited, LaysPieces}
use Rattle.wtf_steps.specs.Steps.{in_hand}
use Rattle.wtf_model.proofs.ByteLaws.{write-none}
use Rattle.wtf_steps.proofs.Ways.{no_handle, spot_open, spot_closed}
use Rattle.wtf_steps.proofs.FileWays.{brings, writes}
use Rattle.wtf_rw.proofs.FileWays.{writes_nothing, writes_too_far, answers_closed, answers_nothing, answers_too_far, answers_written}
use Rattle.wtf_rw.proofs.StoredBytes.{brought, step_stored}
use Rattle.wtf_steps.specs.Made.{LaysAt}
use Rattle.wtf_steps.specs.Holding.{LeavesHand, MovesOn}
use Rattle.wtf_steps.proofs.Handing.{hand_refused, hand_stays, hand_goes, moves_on, moves_nowhere}
use Rattle.wtf_rw.specs.Held.{held_len}
use Rattle.wtf_steps.proofs.Making.{makes_refused, lays_none, makes_laid}
use Rattle.wtf_rw.specs.Changed.{OfSlice}
use Rattle.wtf_rw.proofs.MadeWays.{no_slice_kept, brings_no_slice, brings_slice, some_none, alters_nothing}
use Rattle.wtf_meta.specs.Maps.{Edits}
use Rattle.wtf_rw.proofs.writes.write_stored.Goals as goal

pub returns-in_default-clause-step : goal.returns-in_default-clause-step
returns-in_default-clause-step c b x bytes size len has =
    let s = c.args.s.now in
    let f = c.args.f in
    let at = in_hand c.args.at.now s in
    step_stored c.args.kept.slice bytes x b at at [] (op.Write f bytes) (answer.Refused NoHandle) (GrowsBy-nothing c.args.at.now)
    (no_handle x b s f (op.Write f bytes) (spot_closed c.handle_of.result (handle_in s f) c.handle_of.ensures c.in_default.is)
    (λ S none. write-none (cap_for x) S f bytes none))

pub returns-in_default-clause-answers : goal.returns-in_default-clause-answers
returns-in_default-clause-answers c b x bytes size len bare =
    answers_closed x b c.args.s.now c.args.f bytes (spot_closed c.handle_of.result (handle_in c.args.s.now c.args.f) c.handle_of.ensures c.in_default.is)

pub returns-then-kept-eq0-clause-step : goal.returns-then-kept-eq0-clause-step
returns-then-kept-eq0-clause-step c b x bytes size len has =
    let s = c.args.s.now in
    let f = c.args.f in
    let at = in_hand c.args.at.now s in
    let open_at = spot_open c.handle_of.result (handle_in s f) c.in-Some.spot c.handle_of.ensures c.in-Some.is in
    step_stored c.args.kept.slice bytes x b at at [] (op.Write f bytes) answer.Okay (GrowsBy-nothing c.args.at.now)
    (writes_nothing x b s f open_at.handle open_at.is bytes (len ∙ c.if-kept-eq0.true))

pub returns-then-kept-eq0-clause-answers : goal.returns-then-kept-eq0-clause-answers
returns-then-kept-eq0-clause-answers c b x bytes size len bare =
    let open_at = spot_open c.handle_of.result (handle_in c.args.s.now c.args.f) c.in-Some.spot c.handle_of.ensures c.in-Some.is in
    answers_nothing x b c.args.s.now c.args.f open_at.handle open_at.is bytes (len ∙ c.if-kept-eq0.true)

pub returns-then-not-ends_within-clause-step : goal.returns-then-not-ends_within-clause-step
returns-then-not-ends_within-clause-step c b x bytes size len has =
    let s = c.args.s.now in
    let f = c.args.f in
    let at = in_hand c.args.at.now s in
    let open_at = spot_open c.handle_of.result (handle_in s f) c.in-Some.spot c.handle_of.ensures c.in-Some.is in
    let past = c.ends_within.ensures.past c.if-not-ends_within.true in
    step_stored c.args.kept.slice bytes x b at at [] (op.Write f bytes) (answer.Refused TooBig) (GrowsBy-nothing c.args.at.now)
    (writes_too_far x b s f open_at.handle open_at.is bytes (omega (arith, len, c.if-kept-eq0.false))
    (omega (arith, past, len, c.cap.ensures, size, open_at.off)))

pub returns-then-not-ends_within-clause-answers : goal.returns-then-not-ends_within-clause-answers
returns-then-not-ends_within-clause-answers c b x bytes size len bare =
    let open_at = spot_open c.handle_of.result (handle_in c.args.s.now c.args.f) c.in-Some.spot c.handle_of.ensures c.in-Some.is in
    let past = c.ends_within.ensures.past c.if-not-ends_within.true in
    answers_too_far x b c.args.s.now c.args.f open_at.handle open_at.is bytes (omega (arith, len, c.if-kept-eq0.false))
    (omega (arith, past, len, c.cap.ensures, size, open_at.off))

pub returns-in_default-slice-clause-answers : goal.returns-in_default-slice-clause-answers
returns-in_default-slice-clause-answers c b x bytes size len bare =
    let open_at = spot_open c.handle_of.result (handle_in c.args.s.now c.args.f) c.in-Some.spot c.handle_of.ensures c.in-Some.is in
    let fit = c.ends_within.ensures.within c.if-not-ends_within.false in
    answers_written x b c.args.s.now c.args.f open_at.handle open_at.is bytes (omega (arith, len, c.if-kept-eq0.false))
    (omega (arith, fit, len, c.cap.ensures, size, open_at.off))

pub returns-clause-answers : goal.returns-clause-answers
returns-clause-answers c b x bytes size len bare =
    let open_at = spot_open c.handle_of.result (handle_in c.args.s.now c.args.f) c.in-Some.spot c.handle_of.ensures c.in-Some.is in
    let fit = c.ends_within.ensures.within c.if-not-ends_within.false in
    answers_written x b c.args.s.now c.args.f open_at.handle open_at.is bytes (omega (arith, len, c.if-kept-eq0.false))
    (omega (arith, fit, len, c.cap.ensures, size, open_at.off))

pub returns-clause-step : goal.returns-clause-step
returns-clause-step c b x bytes size same has =
    let s = c.args.s.now in
    let t = c.lay.new.s in
    let f = c.args.f in
    let open_at = spot_open c.handle_of.result (handle_in s f) c.in-Some.spot c.handle_of.ensures c.in-Some.is in
    let h = open_at.handle in
    let p = c.piece_of.result in
    let slice = c.in-Some-slice.slice in
    let kept : len_of slice ≡ c.args.kept.len = subst (HasLength c.args.kept.len) c.in-Some-slice.is c.args.kept.held in
    let len : p.len ≡ length bytes = c.piece_of.ensures.len ∙ kept ∙ sym same in
    let fit = c.ends_within.ensures.within c.if-not-ends_within.false in
    let edited : Edited h.inode [] (LaysPieces x.size h.off h.inode (p ∷ [])) c.args.at.now c.lay.new.at =
    subst (λ (i : InodeId). Edited i [] (LaysPieces x.size h.off i (p ∷ [])) c.args.at.now c.lay.new.at) open_at.inode
    (subst (λ (k : ℕ). Edited c.in-Some.spot.inode [] (LaysPieces x.size k c.in-Some.spot.inode (p ∷ [])) c.args.at.now c.lay.new.at) open_at.off
    (subst (λ (z : ℕ). Edited c.in-Some.spot.inode [] (LaysPieces z c.in-Some.spot.off c.in-Some.spot.inode (p ∷ [])) c.args.at.now c.lay.new.at) (sym size)
    c.in_ok-lay.ensures.laid)) in
    let to : c.in-Some.spot.off + p.len ≡ h.off + length bytes = omega (arith, open_at.off, len) in
    let set : SetsHandle f (Some (moved_to (h.off + length bytes) h)) s t =
    subst (λ (k : ℕ). SetsHandle f (Some (moved_to k h)) s t) to
    (subst (λ (o : Option Handle). SetsHandle f (option_map (moved_to (c.in-Some.spot.off + p.len)) o) s t) open_at.is c.in_ok-lay.ensures.moved) in
    record {
      did = brings h.inode [] edited.edits (p ∷ []) bytes;
      grows = edited.grows;
      is_call = writes x b s f h open_at.is t edited.edits (p ∷ []) bytes (omega (arith, same, c.if-kept-eq0.false))
          (omega (arith, fit, same, c.cap.ensures, size, open_at.off))
          (omega (arith, len)) edited.does set;
      more = brought h.inode [] edited.edits c.args.kept.slice slice p bytes c.in-Some-slice.is c.piece_of.ensures.len c.piece_of.ensures.part;
    }

pub returns-in_default-clause-made : goal.returns-in_default-clause-made
returns-in_default-clause-made c =
    let at = c.args.at.now in
    let F : Edits → Type 0 = OfSlice c.args.kept.slice (LaysAt c.args.settings.region (handle_in c.args.s.now c.args.f)) in
    makes_refused (answer.Refused NoHandle) NoHandle F at at refl refl

pub returns-then-kept-eq0-clause-made : goal.returns-then-kept-eq0-clause-made
returns-then-kept-eq0-clause-made c =
    let at = c.args.at.now in
    let z = c.args.settings.region in
    let o = handle_in c.args.s.now c.args.f in
    brings_no_slice answer.Okay c.args.kept.slice (LaysAt z o) at at (no_slice_kept c.args.kept.slice c.args.kept.len c.args.kept.held c.if-kept-eq0.true)
    (lays_none z o) refl

pub returns-then-not-ends_within-clause-made : goal.returns-then-not-ends_within-clause-made
returns-then-not-ends_within-clause-made c =
    let at = c.args.at.now in
    let F : Edits → Type 0 = OfSlice c.args.kept.slice (LaysAt c.args.settings.region (handle_in c.args.s.now c.args.f)) in
    makes_refused (answer.Refused TooBig) TooBig F at at refl refl

pub returns-in_default-slice-clause-made : goal.returns-in_default-slice-clause-made
returns-in_default-slice-clause-made c =
    let at = c.args.at.now in
    let z = c.args.settings.region in
    let o = handle_in c.args.s.now c.args.f in
    brings_no_slice answer.Okay c.args.kept.slice (LaysAt z o) at at c.in_default-slice.is (lays_none z o) refl

pub returns-clause-made : goal.returns-clause-made
returns-clause-made c =
    let s = c.args.s.now in
    let f = c.args.f in
    let z = c.args.settings.region in
    let o = handle_in s f in
    let p = c.piece_of.result in
    let open_at = spot_open c.handle_of.result o c.in-Some.spot c.handle_of.ensures c.in-Some.is in
    brings_slice answer.Okay answer.Okay c.args.kept.slice c.in-Some-slice.slice p (LaysAt z o) c.args.at.now c.lay.new.at refl c.in-Some-slice.is
    c.piece_of.ensures.len c.piece_of.ensures.part
    (makes_laid z o open_at.handle c.in-Some.spot.inode c.in-Some.spot.off (p ∷ []) c.args.at.now c.lay.new.at open_at.is open_at.inode open_at.off
    c.in_ok-lay.ensures.laid)

pub returns-in_default-clause-holds : goal.returns-in_default-clause-holds
returns-in_default-clause-holds c = hand_refused (answer.Refused NoHandle) NoHandle (MovesOn c.args.f (λ h. held_len c.args.kept.slice)) c.args.s.now refl

pub returns-then-not-ends_within-clause-holds : goal.returns-then-not-ends_within-clause-holds
returns-then-not-ends_within-clause-holds c = hand_refused (answer.Refused TooBig) TooBig (MovesOn c.args.f (λ h. held_len c.args.kept.slice)) c.args.s.now refl

-- no byte was written
nowhere : (f : ℕ) (slice : Option Slice) (s : SessionView) (h : Handle) → handle_in s f ≡ Some h → slice ≡ None
    → LeavesHand answer.Okay (MovesOn f (λ g. held_len slice)) s s
nowhere f slice s h here none = hand_stays answer.Okay (MovesOn f (λ g. held_len slice)) s (moves_nowhere f (λ g. held_len slice) s h here (ap held_len none))

pub returns-then-kept-eq0-clause-holds : goal.returns-then-kept-eq0-clause-holds
returns-then-kept-eq0-clause-holds c =
    let open_at = spot_open c.handle_of.result (handle_in c.args.s.now c.args.f) c.in-Some.spot c.handle_of.ensures c.in-Some.is in
    nowhere c.args.f c.args.kept.slice c.args.s.now open_at.handle open_at.is
    (no_slice_kept c.args.kept.slice c.args.kept.len c.args.kept.held c.if-kept-eq0.true)

pub returns-in_default-slice-clause-holds : goal.returns-in_default-slice-clause-holds
returns-in_default-slice-clause-holds c =
    let open_at = spot_open c.handle_of.result (handle_in c.args.s.now c.args.f) c.in-Some.spot c.handle_of.ensures c.in-Some.is in
    nowhere c.args.f c.args.kept.slice c.args.s.now open_at.handle open_at.is c.in_default-slice.is

pub returns-clause-holds : goal.returns-clause-holds
returns-clause-holds c =
    let s = c.args.s.now in
    let t = c.lay.new.s in
    let f = c.args.f in
    let p = c.piece_of.result in
    let n : Handle → ℕ = λ h. held_len c.args.kept.slice in
    let open_at = spot_open c.handle_of.result (handle_in s f) c.in-Some.spot c.handle_of.ensures c.in-Some.is in
    let len : p.len ≡ held_len c.args.kept.slice = c.piece_of.ensures.len ∙ sym (ap held_len c.in-Some-slice.is) in
    hand_goes answer.Okay (MovesOn f n) s t (λ h. h)
    (moves_on f (c.in-Some.spot.off + p.len) n s t open_at.handle open_at.is (omega (arith, open_at.off, len)) c.in_ok-lay.ensures.moved)

pub returns-in_default-clause-alters : goal.returns-in_default-clause-alters
returns-in_default-clause-alters c = alters_nothing (in_hand c.args.at.now c.args.s.now) (answer.Refused NoHandle) tt

pub returns-then-kept-eq0-clause-alters : goal.returns-then-kept-eq0-clause-alters
returns-then-kept-eq0-clause-alters c = alters_nothing (in_hand c.args.at.now c.args.s.now) answer.Okay tt

pub returns-then-not-ends_within-clause-alters : goal.returns-then-not-ends_within-clause-alters
returns-then-not-ends_within-clause-alters c = alters_nothing (in_hand c.args.at.now c.args.s.now) (answer.Refused TooBig) tt

pub returns-in_default-slice-clause-alters : goal.returns-in_default-slice-clause-alters
returns-in_default-slice-clause-alters c = alters_nothing (in_hand c.args.at.now c.args.s.now) answer.Okay tt

pub returns-clause-alters : goal.returns-clause-alters
returns-clause-alters c = record { logged = tt; refused = λ h. absurd h; err = tt; grows = c.in_ok-lay.ensures.grows }

pub returns-clause-bare : goal.returns-clause-bare
returns-clause-bare c none = absurd (some_none c.in-Some-slice.slice (sym c.in-Some-slice.is ∙ none))
