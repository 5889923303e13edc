use Rattle.std.proofs.Common.{ℕ, [], sym, subst}
use Rattle.wtf_occ.proofs.AttemptLaws.{GrowsBy-nothing}
use Rattle.wtf_model.specs.declared.answer.Answer.TheVariants as answer
use Rattle.wtf_model.specs.declared.answer.Word.TheVariants.{NoHandle}
use Rattle.wtf_model.specs.declared.op.Op.TheVariants as op
use Rattle.wtf_meta.specs.Sessions.{SessionView, handle_in}
use Rattle.wtf_meta.specs.Calls.{cap_for, IsCall}
use Rattle.wtf_model.proofs.ByteLaws.{tell-none}
use Rattle.wtf_steps.proofs.Ways.{only_keys, no_handle, step_of, spot_open, spot_closed}
use Rattle.wtf_rw.proofs.Ways.{tells}
use Rattle.wtf_rw.proofs.handles.tell.Goals as goal

pub returns-in_default-clause-step : goal.returns-in_default-clause-step
returns-in_default-clause-step c x b now e =
    let s = c.args.s.now in
    let f = c.args.f in
    step_of x b now now [] (op.Tell f) (answer.Refused NoHandle) (GrowsBy-nothing now.at)
    (subst (λ (v : SessionView). IsCall x b v v (only_keys []) (op.Tell f) (answer.Refused NoHandle)) (sym e)
    (no_handle x b s f (op.Tell f) (spot_closed c.handle_of.result (handle_in s f) c.handle_of.ensures c.in_default.is)
    (λ S none. tell-none (cap_for x) S f none)))

pub returns-clause-step : goal.returns-clause-step
returns-clause-step c x b now e =
    let s = c.args.s.now in
    let f = c.args.f in
    let open_at = spot_open c.handle_of.result (handle_in s f) c.in-Some.spot c.handle_of.ensures c.in-Some.is in
    step_of x b now now [] (op.Tell f) (answer.At c.in-Some.spot.off) (GrowsBy-nothing now.at)
    (subst (λ (v : SessionView). IsCall x b v v (only_keys []) (op.Tell f) (answer.At c.in-Some.spot.off)) (sym e)
    (subst (λ (n : ℕ). IsCall x b s s (only_keys []) (op.Tell f) (answer.At n)) (sym open_at.off) (tells x b s f open_at.handle open_at.is)))
