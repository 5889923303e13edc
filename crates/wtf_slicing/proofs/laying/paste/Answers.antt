use Rattle.std.proofs.Common.{◌≡◌, ℕ, ◌+◌, ◌-◌, ◌*◌, ◌^◌, ◌<◌, ◌≤◌, min, List, [], Option, Some, refl, sym, ap, ◌∙◌, subst, arith}
use Rattle.std.specs.Option.{option_copied, option_map}
use Rattle.wtf_base.specs.declared.ids.InodeId.{InodeId}
use Rattle.wtf_occ.proofs.AttemptLaws.{GrowsBy-nothing, Grows-by}
use Rattle.wtf_overlay.specs.Origin.{pieces_len}
use Rattle.wtf_model.specs.declared.answer.Answer.TheVariants as answer
use Rattle.wtf_model.specs.declared.answer.Word.TheVariants.{NoHandle, NoSlice, TooBig}
use Rattle.wtf_model.specs.declared.limits.TheConstants.{MAX_REGIONS}
use Rattle.wtf_model.specs.declared.op.Op.TheVariants as op
use Rattle.wtf_meta.specs.declared.session.Handle.{Handle}
use Rattle.wtf_meta.specs.Sessions.{handle_in, slice_in, SetsHandle, moved_to}
use Rattle.wtf_meta.specs.Calls.{cap_for}
use Rattle.wtf_region.specs.Edited.{Edited, LaysPieces}
use Rattle.wtf_steps.specs.Steps.{in_hand}
use Rattle.wtf_steps.proofs.Ways.{no_handle, step_of, spot_open, spot_closed}
use Rattle.wtf_model.proofs.SliceLaws.{paste-none}
use Rattle.wtf_slicing.proofs.LayWays.{lays, lays_short, pastes_unset, pastes_nothing, pastes_too_far, pastes}
use Rattle.wtf_overlay.specs.declared.part.Piece.{Piece}
use Rattle.wtf_steps.specs.Made.{Makes, LaysAt}
use Rattle.wtf_steps.proofs.Making.{makes_refused, makes_nothing, makes_laid}
use Rattle.wtf_steps.proofs.Handing.{hand_refused, hand_goes, moves_on, moves_nowhere}
use Rattle.wtf_slicing.specs.Changed.{kept_pieces}
use Rattle.wtf_slicing.specs.Held.{Pastes}
use Rattle.wtf_slicing.proofs.MadeWays.{kept_is, lays_no_byte}
use Rattle.wtf_slicing.proofs.laying.paste.Goals as goal

pub returns-in_default-clause-step : goal.returns-in_default-clause-step
returns-in_default-clause-step c x b size =
    let s = c.args.s.now in
    let f = c.args.f in
    let o = op.Paste f c.args.label in
    let at = in_hand c.args.at.now s in
    step_of x b at at [] o (answer.Refused NoHandle) (GrowsBy-nothing c.args.at.now)
    (no_handle x b s f o (spot_closed c.handle_of.result (handle_in s f) c.handle_of.ensures c.in_default.is)
    (λ S none. paste-none (cap_for x) S f c.args.label none))

pub returns-in_default-slice-clause-step : goal.returns-in_default-slice-clause-step
returns-in_default-slice-clause-step c x b size =
    let s = c.args.s.now in
    let f = c.args.f in
    let at = in_hand c.args.at.now s in
    let open_at = spot_open c.handle_of.result (handle_in s f) c.in-Some.spot c.handle_of.ensures c.in-Some.is in
    step_of x b at at [] (op.Paste f c.args.label) (answer.Refused NoSlice) (GrowsBy-nothing c.args.at.now)
    (pastes_unset x b s f c.args.label open_at.handle open_at.is (sym c.slice.ensures ∙ ap option_copied c.in_default-slice.is))

pub returns-then-len-eq0-clause-step : goal.returns-then-len-eq0-clause-step
returns-then-len-eq0-clause-step c x b size =
    let s = c.args.s.now in
    let f = c.args.f in
    let at = in_hand c.args.at.now s in
    let ps = c.in-Some-slice.pieces.now in
    let there : slice_in s c.args.label ≡ Some ps = sym c.slice.ensures ∙ ap option_copied c.in-Some-slice.is in
    let open_at = spot_open c.handle_of.result (handle_in s f) c.in-Some.spot c.handle_of.ensures c.in-Some.is in
    step_of x b at at [] (op.Paste f c.args.label) answer.Okay (GrowsBy-nothing c.args.at.now)
    (pastes_nothing x b s f c.args.label open_at.handle open_at.is ps there (omega (arith, c.bytes_of-len.ensures, c.if-len-eq0.true)))

pub returns-then-not-ends_within-clause-step : goal.returns-then-not-ends_within-clause-step
returns-then-not-ends_within-clause-step c x b size =
    let s = c.args.s.now in
    let f = c.args.f in
    let at = in_hand c.args.at.now s in
    let ps = c.in-Some-slice.pieces.now in
    let there : slice_in s c.args.label ≡ Some ps = sym c.slice.ensures ∙ ap option_copied c.in-Some-slice.is in
    let open_at = spot_open c.handle_of.result (handle_in s f) c.in-Some.spot c.handle_of.ensures c.in-Some.is in
    let past = c.ends_within.ensures.past c.if-not-ends_within.true in
    step_of x b at at [] (op.Paste f c.args.label) (answer.Refused TooBig) (GrowsBy-nothing c.args.at.now)
    (pastes_too_far x b s f c.args.label open_at.handle open_at.is ps there (omega (arith, c.bytes_of-len.ensures, c.if-len-eq0.false))
    (omega (arith, past, c.bytes_of-len.ensures, c.cap.ensures, size, open_at.off)))

whole : (n len off cap region : ℕ) → n ≡ min len (2 ^ 64 - 1) → off + n ≤ cap → cap ≡ MAX_REGIONS * region → region < 2 ^ 32 → n ≡ len
whole n len off cap region is fit e small = omega (arith, is, fit, e, small)

pub returns-clause-step : goal.returns-clause-step
returns-clause-step c x b size =
    let s = c.args.s.now in
    let t = c.move_handle.new.self in
    let f = c.args.f in
    let old = c.args.at.now in
    let new = c.put_pieces.new.at in
    let ps = c.in-Some-slice.pieces.now in
    let spot = c.in-Some.spot in
    let there : slice_in s c.args.label ≡ Some ps = sym c.slice.ensures ∙ ap option_copied c.in-Some-slice.is in
    let open_at = spot_open c.handle_of.result (handle_in s f) spot c.handle_of.ensures c.in-Some.is in
    let h = open_at.handle in
    let fit = c.ends_within.ensures.within c.if-not-ends_within.false in
    let len : c.bytes_of-len.result ≡ pieces_len ps = whole c.bytes_of-len.result
    (pieces_len ps) spot.off c.cap.result c.args.settings.region c.bytes_of-len.ensures fit c.cap.ensures (omega (arith, c.args.settings.limits)) in
    let edited : Edited h.inode [] (LaysPieces x.size h.off h.inode ps) old new =
    subst (λ (i : InodeId). Edited i [] (LaysPieces x.size h.off i ps) old new) open_at.inode
    (subst (λ (k : ℕ). Edited spot.inode [] (LaysPieces x.size k spot.inode ps) old new) open_at.off
    (subst (λ (z : ℕ). Edited spot.inode [] (LaysPieces z spot.off spot.inode ps) old new) (sym size) c.in_ok-put_pieces.ensures.ok)) in
    let to : spot.off + c.bytes_of-len.result ≡ h.off + pieces_len ps = omega (arith, open_at.off, len) in
    let set : SetsHandle f (Some (moved_to (h.off + pieces_len ps) h)) s t =
    subst (λ (k : ℕ). SetsHandle f (Some (moved_to k h)) s t) to
    (subst (λ (o : Option Handle). SetsHandle f (option_map (moved_to (spot.off + c.bytes_of-len.result)) o) s t) open_at.is c.move_handle.ensures) in
    record {
      did = lays [] h.inode edited.edits;
      grows = edited.grows;
      is_call = pastes x b s f c.args.label h open_at.is ps there t edited.edits (omega (arith, len, c.if-len-eq0.false))
          (omega (arith, fit, len, c.cap.ensures, size, open_at.off)) edited.does set;
      more = record { facts = refl; stored = refl; lists = refl };
    }

pub returns-in_default-clause-made : goal.returns-in_default-clause-made
returns-in_default-clause-made c =
    let s = c.args.s.now in
    makes_refused (answer.Refused NoHandle) NoHandle (LaysAt c.args.settings.region (handle_in s c.args.f) (kept_pieces s c.args.label)) c.args.at.now
    c.args.at.now refl refl

pub returns-in_default-slice-clause-made : goal.returns-in_default-slice-clause-made
returns-in_default-slice-clause-made c =
    let s = c.args.s.now in
    makes_refused (answer.Refused NoSlice) NoSlice (LaysAt c.args.settings.region (handle_in s c.args.f) (kept_pieces s c.args.label)) c.args.at.now
    c.args.at.now refl refl

pub returns-then-len-eq0-clause-made : goal.returns-then-len-eq0-clause-made
returns-then-len-eq0-clause-made c =
    let s = c.args.s.now in
    let z = c.args.settings.region in
    let o = handle_in s c.args.f in
    let ps = c.in-Some-slice.pieces.now in
    let there : slice_in s c.args.label ≡ Some ps = sym c.slice.ensures ∙ ap option_copied c.in-Some-slice.is in
    makes_nothing answer.Okay (LaysAt z o (kept_pieces s c.args.label)) c.args.at.now c.args.at.now
    (lays_no_byte z o s c.args.label ps there (omega (arith, c.bytes_of-len.ensures, c.if-len-eq0.true))) refl

pub returns-then-not-ends_within-clause-made : goal.returns-then-not-ends_within-clause-made
returns-then-not-ends_within-clause-made c =
    let s = c.args.s.now in
    makes_refused (answer.Refused TooBig) TooBig (LaysAt c.args.settings.region (handle_in s c.args.f) (kept_pieces s c.args.label)) c.args.at.now c.args.at.now
    refl refl

pub returns-clause-made : goal.returns-clause-made
returns-clause-made c =
    let s = c.args.s.now in
    let z = c.args.settings.region in
    let o = handle_in s c.args.f in
    let old = c.args.at.now in
    let new = c.put_pieces.new.at in
    let spot = c.in-Some.spot in
    let ps = c.in-Some-slice.pieces.now in
    let there : slice_in s c.args.label ≡ Some ps = sym c.slice.ensures ∙ ap option_copied c.in-Some-slice.is in
    let open_at = spot_open c.handle_of.result o spot c.handle_of.ensures c.in-Some.is in
    subst (λ (qs : List Piece). Makes answer.Okay (LaysAt z o qs) old new) (sym (kept_is s c.args.label ps there))
    (makes_laid z o open_at.handle spot.inode spot.off ps old new open_at.is open_at.inode open_at.off c.in_ok-put_pieces.ensures.ok)

pub returns-in_default-clause-holds : goal.returns-in_default-clause-holds
returns-in_default-clause-holds c = hand_refused (answer.Refused NoHandle) NoHandle (Pastes c.args.f c.args.label) c.args.s.now refl

pub returns-in_default-slice-clause-holds : goal.returns-in_default-slice-clause-holds
returns-in_default-slice-clause-holds c = hand_refused (answer.Refused NoSlice) NoSlice (Pastes c.args.f c.args.label) c.args.s.now refl

pub returns-then-not-ends_within-clause-holds : goal.returns-then-not-ends_within-clause-holds
returns-then-not-ends_within-clause-holds c = hand_refused (answer.Refused TooBig) TooBig (Pastes c.args.f c.args.label) c.args.s.now refl

pub returns-then-len-eq0-clause-holds : goal.returns-then-len-eq0-clause-holds
returns-then-len-eq0-clause-holds c =
    let s = c.args.s.now in
    let f = c.args.f in
    let label = c.args.label in
    let ps = c.in-Some-slice.pieces.now in
    let there : slice_in s label ≡ Some ps = sym c.slice.ensures ∙ ap option_copied c.in-Some-slice.is in
    let open_at = spot_open c.handle_of.result (handle_in s f) c.in-Some.spot c.handle_of.ensures c.in-Some.is in
    hand_goes answer.Okay (Pastes f label) s s (λ h. h)
    (moves_nowhere f (λ h. pieces_len (kept_pieces s label)) s open_at.handle open_at.is (ap pieces_len (kept_is s label ps there) ∙ omega
    (arith, c.bytes_of-len.ensures, c.if-len-eq0.true)))

pub returns-clause-holds : goal.returns-clause-holds
returns-clause-holds c =
    let s = c.args.s.now in
    let f = c.args.f in
    let label = c.args.label in
    let ps = c.in-Some-slice.pieces.now in
    let spot = c.in-Some.spot in
    let there : slice_in s label ≡ Some ps = sym c.slice.ensures ∙ ap option_copied c.in-Some-slice.is in
    let open_at = spot_open c.handle_of.result (handle_in s f) spot c.handle_of.ensures c.in-Some.is in
    let fit = c.ends_within.ensures.within c.if-not-ends_within.false in
    let len : c.bytes_of-len.result ≡ pieces_len ps = whole c.bytes_of-len.result
    (pieces_len ps) spot.off c.cap.result c.args.settings.region c.bytes_of-len.ensures fit c.cap.ensures (omega (arith, c.args.settings.limits)) in
    let all : pieces_len (kept_pieces s label) ≡ pieces_len ps = ap pieces_len (kept_is s label ps there) in
    hand_goes answer.Okay (Pastes f label) s c.move_handle.new.self (λ h. h)
    (moves_on f (spot.off + c.bytes_of-len.result) (λ h. pieces_len (kept_pieces s label)) s c.move_handle.new.self open_at.handle open_at.is
    (omega (arith, open_at.off, len, all)) c.move_handle.ensures)

pub returns-in_default-clause-lays : goal.returns-in_default-clause-lays
returns-in_default-clause-lays c =
    let at = c.args.at.now in
    record { logged = tt; refused = λ h. refl; err = tt; grows = Grows-by at at [] [] (GrowsBy-nothing at) }

pub returns-in_default-slice-clause-lays : goal.returns-in_default-slice-clause-lays
returns-in_default-slice-clause-lays c =
    let at = c.args.at.now in
    record { logged = tt; refused = λ h. refl; err = tt; grows = Grows-by at at [] [] (GrowsBy-nothing at) }

pub returns-then-len-eq0-clause-lays : goal.returns-then-len-eq0-clause-lays
returns-then-len-eq0-clause-lays c =
    let at = c.args.at.now in
    record { logged = tt; refused = λ h. absurd h; err = tt; grows = Grows-by at at [] [] (GrowsBy-nothing at) }

pub returns-then-not-ends_within-clause-lays : goal.returns-then-not-ends_within-clause-lays
returns-then-not-ends_within-clause-lays c =
    let at = c.args.at.now in
    record { logged = tt; refused = λ h. refl; err = tt; grows = Grows-by at at [] [] (GrowsBy-nothing at) }

pub returns-in_err-put_pieces-clause-lays : goal.returns-in_err-put_pieces-clause-lays
returns-in_err-put_pieces-clause-lays c =
    let s = c.args.s.now in
    lays_short (in_hand c.args.at.now s) (in_hand c.put_pieces.new.at s) c.from_residual.result c.from_residual.ensures.0 refl
    c.in_err-put_pieces.ensures.grows

pub returns-clause-lays : goal.returns-clause-lays
returns-clause-lays c = record { logged = tt; refused = λ h. absurd h; err = tt; grows = c.in_ok-put_pieces.ensures.grows }
