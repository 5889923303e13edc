use Rattle.std.proofs.Common.{ℕ, [], refl, sym, subst}
use Rattle.wtf_base.specs.declared.ids.InodeId.{InodeId}
use Rattle.wtf_occ.proofs.AttemptLaws.{GrowsBy-nothing}
use Rattle.wtf_model.specs.declared.answer.Answer.TheVariants as answer
use Rattle.wtf_model.specs.declared.answer.Word.TheVariants.{NoHandle}
use Rattle.wtf_model.specs.declared.op.Op.TheVariants as op
use Rattle.wtf_meta.specs.Sessions.{handle_in}
use Rattle.wtf_meta.specs.Calls.{cap_for}
use Rattle.wtf_region.specs.Edited.{Edited}
use Rattle.wtf_steps.specs.Steps.{in_hand}
use Rattle.wtf_rw.specs.Sizes.{Zeroes}
use Rattle.wtf_model.proofs.ByteLaws.{punch-none}
use Rattle.wtf_steps.proofs.Ways.{no_handle, step_of, spot_open, spot_closed}
use Rattle.wtf_rw.proofs.FileWays.{changes, punches}
use Rattle.wtf_steps.proofs.Making.{makes_refused, makes_these, of_file}
use Rattle.wtf_meta.specs.FileEdits.{edits_of}
use Rattle.wtf_rw.specs.Changed.{PunchesAt}
use Rattle.wtf_rw.specs.Sizes.{IsPunched}
use Rattle.wtf_rw.proofs.MadeWays.{alters_nothing}
use Rattle.wtf_rw.proofs.sizes.punch.Goals as goal

pub returns-in_default-clause-step : goal.returns-in_default-clause-step
returns-in_default-clause-step c b x bytes size writes whole =
    let s = c.args.s.now in
    let f = c.args.f in
    let at = in_hand c.args.at.now s in
    step_of x b at at [] (op.Punch f c.args.n) (answer.Refused NoHandle) (GrowsBy-nothing c.args.at.now)
    (no_handle x b s f (op.Punch f c.args.n) (spot_closed c.handle_of.result (handle_in s f) c.handle_of.ensures c.in_default.is)
    (λ S none. punch-none (cap_for x) S f c.args.n none))

pub returns-clause-step : goal.returns-clause-step
returns-clause-step c b x bytes size writes whole =
    let s = c.args.s.now in
    let f = c.args.f in
    let n = c.args.n in
    let open_at = spot_open c.handle_of.result (handle_in s f) c.in-Some.spot c.handle_of.ensures c.in-Some.is in
    let h = open_at.handle in
    let edited : Edited h.inode [] (Zeroes x.size h.inode h.off n) c.args.at.now c.zero.new.at =
    subst (λ (i : InodeId). Edited i [] (Zeroes x.size i h.off n) c.args.at.now c.zero.new.at) open_at.inode
    (subst (λ (o : ℕ). Edited c.in-Some.spot.inode [] (Zeroes x.size c.in-Some.spot.inode o n) c.args.at.now c.zero.new.at) open_at.off
    (subst (λ (z : ℕ). Edited c.in-Some.spot.inode [] (Zeroes z c.in-Some.spot.inode c.in-Some.spot.off n) c.args.at.now c.zero.new.at) (sym size)
    c.in_ok-zero.ensures.ok)) in
    record {
      did = changes h.inode edited.edits;
      grows = edited.grows;
      is_call = punches x b s f h open_at.is n edited.edits edited.does;
      more = record { facts = refl; stored = refl; lists = refl };
    }

pub returns-in_default-clause-made : goal.returns-in_default-clause-made
returns-in_default-clause-made c =
    makes_refused (answer.Refused NoHandle) NoHandle (PunchesAt c.args.settings.region (handle_in c.args.s.now c.args.f) c.args.n) c.args.at.now c.args.at.now
    refl refl

pub returns-clause-made : goal.returns-clause-made
returns-clause-made c =
    let s = c.args.s.now in
    let f = c.args.f in
    let n = c.args.n in
    let z = c.args.settings.region in
    let i = c.in-Some.spot.inode in
    let open_at = spot_open c.handle_of.result (handle_in s f) c.in-Some.spot c.handle_of.ensures c.in-Some.is in
    let edited = c.in_ok-zero.ensures.ok in
    makes_these (PunchesAt z (handle_in s f) n) (edits_of i edited.edits) c.args.at.now c.zero.new.at edited.grows.changes
    (of_file (λ g ds. IsPunched z g.off n ds) (handle_in s f) open_at.handle i edited.edits open_at.is open_at.inode
    (subst (λ (k : ℕ). IsPunched z k n edited.edits) open_at.off edited.does.exact))

pub returns-in_default-clause-alters : goal.returns-in_default-clause-alters
returns-in_default-clause-alters c = alters_nothing (in_hand c.args.at.now c.args.s.now) (answer.Refused NoHandle) tt

pub returns-clause-alters : goal.returns-clause-alters
returns-clause-alters c = record { logged = tt; refused = λ h. absurd h; err = tt; grows = c.in_ok-zero.ensures.grows }
