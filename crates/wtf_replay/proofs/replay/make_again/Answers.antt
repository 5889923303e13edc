use Rattle.std.proofs.Common.{◌≡◌, ◌+◌, ◌-◌, Option, Some, slice_get, sym, ap, ◌∙◌, subst, arith}
use Rattle.std.specs.Prelude.{IfSome}
use Rattle.wtf_base.specs.declared.kept.Kept.{Kept}
use Rattle.wtf_model.specs.declared.op.Op.{Op}
use Rattle.wtf_model.specs.Form.{IsFormOp, IsKeptData}
use Rattle.wtf_model.specs.Steps.{IsLogged}
use Rattle.wtf_replay.specs.Causes.{IsStillOp}
use Rattle.wtf_replay.proofs.Keeping.{at_all}
use Rattle.wtf_replay.proofs.replay.make_again.Goals as goal

pub make_stored-requires-clause-form : goal.make_stored-requires-clause-form
make_stored-requires-clause-form g c =
    at_all (IsFormOp IsKeptData) c.args.log.now.ops (c.args.k + 1 - 1) c.op-op.result.now c.op-op.ensures c.requires.log.form

pub is_same_answer-same-requires : goal.is_same_answer-same-requires
is_same_answer-same-requires g c =
    at_all IsLogged c.args.log.now.shown (c.args.k + 1 - 1) c.shown.result.now c.shown.ensures c.requires.log.shown

pub returns : goal.returns
returns g c =
    let log = c.args.log.now in
    let k = c.args.k in
    let down : k + 1 - 1 ≡ k = omega arith in
    let made = c.in-Ok.ensures.made in
    let here : slice_get log.ops k ≡ Some c.op-op.result.now = ap (slice_get log.ops) (sym down) ∙ c.op-op.ensures in
    let shown : slice_get log.shown k ≡ Some c.shown.result.now = ap (slice_get log.shown) (sym down) ∙ c.shown.ensures in
    record {
      made = record {
        next = record { op = c.op-op.result.now; at_op = here; again = made.again };
        same = (
          λ hit. shown ∙ ap Some (c.is_same_answer-same.ensures.0 hit),
          λ is. c.is_same_answer-same.ensures.1 (let there : Some c.shown.result.now ≡ Some c.in-Ok.answer = sym shown ∙ is in cc),
        );
        err = tt;
        fault = tt;
        grows = made.grows;
        still = subst (λ (q : Option (Op Kept)). IfSome q (λ o. IsStillOp o → c.make_stored.new.dev ≡ c.args.dev.now)) (sym here) made.still;
        reads = made.reads;
        dev = made.dev;
      };
    }

pub returns-in-Err : goal.returns-in-Err
returns-in-Err g c =
    let log = c.args.log.now in
    let k = c.args.k in
    let down : k + 1 - 1 ≡ k = omega arith in
    let here : slice_get log.ops k ≡ Some c.op-op.result.now = ap (slice_get log.ops) (sym down) ∙ c.op-op.ensures in
    let made = c.in-Err.ensures.made in
    record {
      made = record {
        next = tt;
        same = tt;
        err = made.err;
        fault = record { op = c.op-op.result.now; at_op = here; cause = made.fault; due = made.may };
        grows = made.grows;
        still = subst (λ (q : Option (Op Kept)). IfSome q (λ o. IsStillOp o → c.make_stored.new.dev ≡ c.args.dev.now)) (sym here) made.still;
        reads = made.reads;
        dev = made.dev;
      };
    }
