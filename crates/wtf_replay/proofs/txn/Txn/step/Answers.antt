use Rattle.std.proofs.Common.{◌≡◌, Bool, Option, None, Some, Ok, refl, sym, ap, ◌∙◌, subst}
use Rattle.std.specs.Prelude.{IfSome, Result, if◌then◌else◌, slice_get}
use Rattle.wtf_base.specs.declared.fault.Fault.{Fault}
use Rattle.wtf_model.specs.declared.answer.Answer.{Answer}
use Rattle.wtf_model.specs.declared.answer.Answer.TheVariants as answer
use Rattle.wtf_model.specs.declared.answer.Word.{Word}
use Rattle.wtf_model.specs.declared.answer.Word.TheVariants.{Live}
use Rattle.wtf_region.specs.Devs.{stores, is_down_in}
use Rattle.wtf_region.proofs.ShowLaws.{reads_nothing}
use Rattle.wtf_region.proofs.Spans.{goes_nowhere}
use Rattle.wtf_replay.specs.Causes.{IsStillOp}
use Rattle.wtf_replay.specs.Refusals.{step_refusal}
use Rattle.wtf_replay.proofs.Naming.{named_none}
use Rattle.wtf_replay.proofs.Turning.{if_each}
use Rattle.wtf_replay.proofs.txn.Txn.step.Goals as goal

-- no replay runs
pub returns-then-is_live : goal.returns-then-is_live
returns-then-is_live g c =
    let kind = g.S.SliceStore.kind in
    let kv = c.args.kv.now in
    let dev = c.args.dev.now in
    let x = c.args.self.now in
    let live : step_refusal x ≡ Some Live = ap (λ (b : Bool). if b then Some Live else None) (sym c.is_live.ensures ∙ c.if-is_live.true) in
    let r : Result Answer Fault = Ok (answer.Refused Live) in
    record {
      step = record {
        refused = subst (λ (o : Option Word). IfSome o (λ w. (r ≡ Ok (answer.Refused w)) × (x ≡ x) × (dev ≡ dev))) (sym live) (refl, refl, refl);
        stepped = λ going. let bad : Some Live ≡ None = sym live ∙ going in absurd (cc);
        acts = λ going. let bad : Some Live ≡ None = sym live ∙ going in absurd (cc);
        meaning = λ going ops start. tt;
        named = named_none (λ P Q hole were given. were);
        fit = c.requires.fit;
        inside = c.requires.inside;
        err = tt;
        fault = tt;
        due = tt;
        still = if_each (slice_get x.log.ops x.replayed) (λ o. IsStillOp o → dev ≡ dev) (λ o quiet. refl);
        reads = reads_nothing kind (is_down_in dev) (stores dev);
        dev = goes_nowhere g.met.S.SliceStore.laws dev c.requires.sound;
      };
    }
