use Rattle.std.proofs.Common.{◌≡◌, [], List, ℕ, Ok, Err, sym, ◌∙◌, subst}
use Rattle.wtf_model.specs.declared.answer.Answer.TheVariants as answer
use Rattle.wtf_model.specs.declared.op.Op.TheVariants as op
use Rattle.wtf_meta.specs.Maps.{seen}
use Rattle.wtf_index.specs.Checks.{directory_of}
use Rattle.wtf_index.specs.Recorded.{directory_keys}
use Rattle.wtf_index.proofs.Ways.{IsWay, list-refused, list-shown}
use Rattle.wtf_index.proofs.folders.list.Goals as goal

pub returns-in-Err-clause-step : goal.returns-in-Err-clause-step
returns-in-Err-clause-step c =
    let b = seen c.args.kv.now c.args.at.now in
    let e : directory_of b c.args.p.now ≡ Err c.in-Err.word = sym c.in_ok-names.ensures.value ∙ c.in-Err.is in
    λ x. record {
      keys = directory_keys b c.args.p.now;
      edits = [];
      grows = c.in_ok-names.ensures.went;
      is_call = list-refused x b c.args.p.now c.in-Err.word e;
    }

pub returns-clause-step : goal.returns-clause-step
returns-clause-step c =
    let b = seen c.args.kv.now c.args.at.now in
    let p : List ℕ = c.args.p.now in
    let e : directory_of b p ≡ Ok c.in-Ok.names = sym c.in_ok-names.ensures.value ∙ c.in-Ok.is in
    λ x. record {
      keys = directory_keys b p;
      edits = [];
      grows = c.in_ok-names.ensures.went;
      is_call = subst (λ (ns : List (List ℕ)). IsWay x b (directory_keys b p) [] (op.List p) (answer.Names ns)) (sym c.in_ok-shown.ensures) (list-shown x b p c.in-Ok.names e);
    }
