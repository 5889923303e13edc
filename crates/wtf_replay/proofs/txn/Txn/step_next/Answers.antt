use Rattle.std.proofs.Common.{◌≡◌, ◌≢◌, ◌<◌, ◌+◌, [], length, true, false, None, Some, slice_get, refl, sym, ◌∙◌, subst, inr, arith}
use Rattle.std.specs.Prelude.{IsTrue, Result, Ok, Err}
use Rattle.std.specs.Box.{with_value}
use Rattle.wtf_base.specs.declared.fault.Fault.{Fault}
use Rattle.wtf_replica.specs.Bytes.{byte_at}
use Rattle.wtf_kv.specs.Stores.{is_pinned}
use Rattle.wtf_meta.specs.Contents.{Told}
use Rattle.wtf_model.specs.declared.answer.Answer.{Answer}
use Rattle.wtf_model.specs.declared.answer.Answer.TheVariants as answer
use Rattle.wtf_region.specs.Devs.{stores}
use Rattle.wtf_replay.specs.Views.{TxnView, hand_of}
use Rattle.wtf_replay.specs.Refusals.{step_refusal}
use Rattle.wtf_replay.specs.Fits.{IsFit, IsLog}
use Rattle.wtf_replay.specs.Insides.{IsInsideTxn, NamesTxn}
use Rattle.wtf_replay.specs.Verbs.{turn, StepOf}
use Rattle.wtf_replay.specs.Works.{work}
use Rattle.wtf_replay.proofs.Faulting.{step_fault}
use Rattle.wtf_replay.proofs.Again.{again_same, again_other}
use Rattle.wtf_replay.proofs.Insiding.{log_later, inside_later}
use Rattle.wtf_replay.proofs.Naming.{named_by}
use Rattle.wtf_replay.specs.Effects.{scope}
use Rattle.wtf_replay.proofs.EffectLaws.{stops_at}
use Rattle.wtf_replay.proofs.Stepping.{next_named, next_fit, next_told, next_due, next_makes, next_redoes, again_inside}
use Rattle.wtf_replay.proofs.Turning.{if_none, step_none, put_back}
use Rattle.wtf_replay.proofs.txn.Txn.step_next.Goals as goal

pub make_again-requires-clause-log : goal.make_again-requires-clause-log
make_again-requires-clause-log g c = subst (λ (y : TxnView). IsLog y.log) (sym c.self.view_is) c.requires.fit.log

pub returns-then-same : goal.returns-then-same
unfolding next_redoes next_makes
returns-then-same g c =
    let kind = g.S.SliceStore.kind in
    let laws = g.met.S.SliceStore.laws in
    let kv = c.args.kv.now in
    let dev = c.args.dev.now in
    let into = c.make_again.new.dev in
    let size = dev.settings.region in
    let before : Told = byte_at kind (stores dev) in
    let made = c.in-Ok-make_again.ensures.made in
    let i = c.self.inside in
    let x : TxnView = record { tx = i.tx.0; at = i.at; session = i.session; log = i.log; replayed = i.replayed; ended = i.ended } in
    let new : TxnView = record x { at = c.make_again.new.at; session = c.make_again.new.session; replayed = c.self.inside.replayed + 1 } in
    let fit : IsFit kv x = subst (λ y. IsFit kv y) (sym c.self.view_is) c.requires.fit in
    let left : x.replayed < length x.log.ops = subst (λ (y : TxnView). y.replayed < length y.log.ops) (sym c.self.view_is) c.requires.left in
    let was : IsInsideTxn kind (stores dev) dev.settings kv x =
    subst (λ y. IsInsideTxn kind (stores dev) dev.settings kv y) (sym c.self.view_is) c.requires.inside in
    let w = work kind dev into kv (hand_of x) (hand_of new) in
    let a = c.in-Ok-make_again.both.0 in
    let again = next_named w x.tx x.log x.replayed a made.next in
    let names : NamesTxn kind dev into kv x new None =
    named_by again (λ P Q were. (were.hand, were.log)) (λ P Q hole were are none. record { hand = are; log = were.log }) in
    record {
      step =
          subst (λ (y : TxnView). StepOf (turn kind dev into kv kv y new) (Ok (answer.Replayed (c.self.inside.replayed + 1)))) c.self.view_is (record {
            refused = if_none (step_refusal x) _ (step_none x left);
            stepped = λ going. record { index = refl; base = made.grows.base; is = refl };
            acts = λ going. record {
              redoes = next_redoes w x.tx x.log x.replayed a made.next (made.same.0 c.if-same.true) x refl refl;
              recalls = made.next.again.acted.recalls;
            };
            meaning = λ going ops start.
                again_same laws made.dev start.0 kv x ops start.3 start.1 start.2 left new a
                (λ k o at. next_told w x.tx x.log x.replayed a made.next laws made.dev fit.log (made.same.0 c.if-same.true) start.0 k o at)
                (made.same.0 c.if-same.true) refl refl refl;
            named = names;
            fit = record {
              pinned = subst (λ b. IsTrue (is_pinned kv b)) (sym made.grows.base) fit.pinned;
              fits = next_fit w x.tx x.log x.replayed a made.next fit.fits;
              log = fit.log;
              most = omega (arith, left);
            };
            inside = record {
              hand = again_inside laws made.dev c.requires.sound.shelf kv (hand_of x) (hand_of new) x.log again was.hand was.log;
              log = log_later laws made.dev.each dev.settings c.requires.sound.shelf x.log was.log;
            };
            err = tt;
            fault = tt;
            due = tt;
            still = made.still;
            reads = made.reads;
            dev = made.dev;
          });
    }

pub returns : goal.returns
unfolding next_makes
returns g c =
    let kind = g.S.SliceStore.kind in
    let laws = g.met.S.SliceStore.laws in
    let kv = c.args.kv.now in
    let dev = c.args.dev.now in
    let into = c.make_again.new.dev in
    let size = dev.settings.region in
    let before : Told = byte_at kind (stores dev) in
    let made = c.in-Ok-make_again.ensures.made in
    let i = c.self.inside in
    let x : TxnView = record { tx = i.tx.0; at = i.at; session = i.session; log = i.log; replayed = i.replayed; ended = i.ended } in
    let new : TxnView = record x { at = c.make_again.new.at; session = c.make_again.new.session; ended = true } in
    let fit : IsFit kv x = subst (λ y. IsFit kv y) (sym c.self.view_is) c.requires.fit in
    let left : x.replayed < length x.log.ops = subst (λ (y : TxnView). y.replayed < length y.log.ops) (sym c.self.view_is) c.requires.left in
    let was : IsInsideTxn kind (stores dev) dev.settings kv x =
    subst (λ y. IsInsideTxn kind (stores dev) dev.settings kv y) (sym c.self.view_is) c.requires.inside in
    let a = c.in-Ok-make_again.both.0 in
    let differs : slice_get x.log.shown x.replayed ≢ Some a = λ e. let hit : c.in-Ok-make_again.both.1 ≡ true = made.same.1 e in let bad : true ≡ false =
    sym hit ∙ c.if-same.false in cc in
    let r : Result Answer Fault = Ok (answer.Aborted (c.self.inside.replayed + 1) (with_value c.in-Ok.held a)) in
    let w = work kind dev into kv (hand_of x) (hand_of new) in
    let again = next_named w x.tx x.log x.replayed a made.next in
    let names : NamesTxn kind dev into kv x new None =
    named_by again (λ P Q were. (were.hand, were.log)) (λ P Q hole were are none. record { hand = are; log = were.log }) in
    record {
      step =
          subst (λ (y : TxnView). StepOf (turn kind dev into kv kv y new) r) c.self.view_is (record {
            refused = if_none (step_refusal x) _ (step_none x left);
            stepped = λ going. record { index = refl; over = record { tx = refl; base = made.grows.base; log = refl; ended = refl } };
            acts = λ going. stops_at (scope kind dev into) kv x 0 x.replayed [] (hand_of x) (hand_of new) a (omega arith) (refl, refl)
                (next_makes w x.tx x.log x.replayed a made.next x refl refl) differs made.next.again.acted.recalls;
            meaning = λ going ops start. again_other laws made.dev start.0 kv x ops start.3 start.1 start.2 left a
                (λ k o at. next_due w x.tx x.log x.replayed a made.next start.0 k o at) differs;
            named = names;
            fit = record {
              pinned = subst (λ b. IsTrue (is_pinned kv b)) (sym made.grows.base) fit.pinned;
              fits = next_fit w x.tx x.log x.replayed a made.next fit.fits;
              log = fit.log;
              most = fit.most;
            };
            inside = record {
              hand = again_inside laws made.dev c.requires.sound.shelf kv (hand_of x) (hand_of new) x.log again was.hand was.log;
              log = log_later laws made.dev.each dev.settings c.requires.sound.shelf x.log was.log;
            };
            err = tt;
            fault = tt;
            due = tt;
            still = made.still;
            reads = made.reads;
            dev = made.dev;
          });
    }

-- the call gave a fault: the attempt and the session are what they were
pub returns-in-Err-make_again : goal.returns-in-Err-make_again
returns-in-Err-make_again g c =
    let kind = g.S.SliceStore.kind in
    let laws = g.met.S.SliceStore.laws in
    let kv = c.args.kv.now in
    let dev = c.args.dev.now in
    let into = c.make_again.new.dev in
    let size = dev.settings.region in
    let before : Told = byte_at kind (stores dev) in
    let made = c.in-Err-make_again.ensures.made in
    let i = c.self.inside in
    let x : TxnView = record { tx = i.tx.0; at = i.at; session = i.session; log = i.log; replayed = i.replayed; ended = i.ended } in
    let why = c.in-Err-make_again.why in
    let fit : IsFit kv x = subst (λ y. IsFit kv y) (sym c.self.view_is) c.requires.fit in
    let left : x.replayed < length x.log.ops = subst (λ (y : TxnView). y.replayed < length y.log.ops) (sym c.self.view_is) c.requires.left in
    let was : IsInsideTxn kind (stores dev) dev.settings kv x =
    subst (λ y. IsInsideTxn kind (stores dev) dev.settings kv y) (sym c.self.view_is) c.requires.inside in
    let same : record x { at = c.make_again.new.at; session = c.make_again.new.session } ≡ x =
    put_back x c.make_again.new.at c.make_again.new.session made.err.0 made.err.1 in
    let there : StepOf (turn kind dev into kv kv x x) (Err why) = record {
      refused = if_none (step_refusal x) _ (step_none x left);
      stepped = λ going. tt;
      acts = λ going. tt;
      meaning = λ going. tt;
      named = tt;
      fit = fit;
      inside = inside_later laws made.dev.each dev.settings c.requires.sound.shelf kv x was;
      err = refl;
      fault = inr made.fault;
      due = λ ops sound. step_fault kind dev into kv before x ops why sound made.fault;
      still = made.still;
      reads = made.reads;
      dev = made.dev;
    } in
    record {
      step =
          subst (λ (y : TxnView). StepOf (turn kind dev into kv kv y (record x { at = c.make_again.new.at; session = c.make_again.new.session }))
          (Err why)) c.self.view_is
          (subst (λ (y : TxnView). StepOf (turn kind dev into kv kv x y) (Err why)) (sym same) there);
    }
