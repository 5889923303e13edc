use Rattle.std.proofs.Common.{[], None, refl, sym, subst}
use Rattle.wtf_occ.proofs.AttemptLaws.{GrowsBy-nothing}
use Rattle.wtf_model.specs.declared.answer.Answer.TheVariants as answer
use Rattle.wtf_model.specs.declared.answer.Word.TheVariants.{NoHandle}
use Rattle.wtf_model.specs.declared.op.Op.TheVariants as op
use Rattle.wtf_meta.specs.Sessions.{SessionView, SetsHandle, handle_in}
use Rattle.wtf_meta.specs.Calls.{cap_for, IsCall}
use Rattle.wtf_steps.specs.Steps.{in_hand}
use Rattle.wtf_model.proofs.ByteLaws.{close-none}
use Rattle.wtf_steps.proofs.Handing.{hand_refused, hand_goes}
use Rattle.wtf_steps.proofs.Ways.{only_keys, no_handle, step_of, spot_open, spot_closed}
use Rattle.wtf_rw.proofs.Ways.{closes}
use Rattle.wtf_rw.proofs.handles.close.Goals as goal

pub returns-in_default-clause-step : goal.returns-in_default-clause-step
returns-in_default-clause-step c x b now e =
    let s = c.args.s.now in
    let f = c.args.f in
    step_of x b now (in_hand now.at s) [] (op.Close f) (answer.Refused NoHandle) (GrowsBy-nothing now.at)
    (subst (λ (v : SessionView). IsCall x b v s (only_keys []) (op.Close f) (answer.Refused NoHandle)) (sym e)
    (no_handle x b s f (op.Close f) (spot_closed c.handle_of.result (handle_in s f) c.handle_of.ensures c.in_default.is)
    (λ S none. close-none (cap_for x) S f none)))

pub returns-clause-step : goal.returns-clause-step
returns-clause-step c x b now e =
    let s = c.args.s.now in
    let t = c.end_handle.new.self in
    let f = c.args.f in
    let open_at = spot_open c.handle_of.result (handle_in s f) c.in-Some.field-0 c.handle_of.ensures c.in-Some.is in
    step_of x b now (in_hand now.at t) [] (op.Close f) answer.Okay (GrowsBy-nothing now.at)
    (subst (λ (v : SessionView). IsCall x b v t (only_keys []) (op.Close f) answer.Okay) (sym e)
    (closes x b s t f open_at.handle open_at.is c.end_handle.ensures))

pub returns-in_default-clause-holds : goal.returns-in_default-clause-holds
returns-in_default-clause-holds c = hand_refused (answer.Refused NoHandle) NoHandle (SetsHandle c.args.f None) c.args.s.now refl

pub returns-clause-holds : goal.returns-clause-holds
returns-clause-holds c = hand_goes answer.Okay (SetsHandle c.args.f None) c.args.s.now c.end_handle.new.self (λ h. h) c.end_handle.ensures
