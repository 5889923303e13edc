use Rattle.std.proofs.Common.{◌≡◌, [], Ok, Err, refl, sym, ◌∙◌}
use Rattle.wtf_meta.specs.Maps.{seen}
use Rattle.wtf_meta.specs.NameEdits.{create_edits}
use Rattle.wtf_index.specs.Checks.{target_of}
use Rattle.wtf_index.specs.Recorded.{target_keys}
use Rattle.wtf_index.proofs.Going.{keys_then}
use Rattle.wtf_index.proofs.Ways.{create-refused, create-made}
use Rattle.wtf_index.proofs.Changing.{went_as, create_none, create_some}
use Rattle.wtf_index.proofs.files.create.Goals as goal

pub returns-in-Err-clause-step : goal.returns-in-Err-clause-step
returns-in-Err-clause-step c =
    let b = seen c.args.kv.now c.args.at.now in
    let e : target_of b c.args.p.now ≡ Err c.in-Err.word = sym c.in_ok-dir.ensures.value ∙ c.in-Err.is in
    λ x mine next. record {
      keys = target_keys b c.args.p.now;
      edits = [];
      grows = c.in_ok-dir.ensures.went;
      is_call = create-refused x b c.args.p.now c.in-Err.word e;
    }

pub returns-clause-step : goal.returns-clause-step
returns-clause-step c =
    let b = seen c.args.kv.now c.args.at.now in
    let e : target_of b c.args.p.now ≡ Ok c.in-Ok.dir = sym c.in_ok-dir.ensures.value ∙ c.in-Ok.is in
    λ x mine next. record {
      keys = target_keys b c.args.p.now;
      edits = create_edits c.in-Ok.dir c.args.p.now c.args.new;
      grows = keys_then _ _ _ _ _ c.in_ok-dir.ensures.went c.in_ok-make_file.ensures.went;
      is_call = create-made x b c.args.p.now c.in-Ok.dir c.args.new mine next c.in_ok-dir.ensures.path e;
    }

pub returns-in-Err-clause-went : goal.returns-in-Err-clause-went
returns-in-Err-clause-went c =
    let b = seen c.args.kv.now c.args.at.now in
    let e : target_of b c.args.p.now ≡ Err c.in-Err.word = sym c.in_ok-dir.ensures.value ∙ c.in-Err.is in
    went_as _ _ _ _ _ _ refl (create_none b c.args.p.now c.args.new c.in-Err.word e) c.in_ok-dir.ensures.went

pub returns-clause-went : goal.returns-clause-went
returns-clause-went c =
    let b = seen c.args.kv.now c.args.at.now in
    let e : target_of b c.args.p.now ≡ Ok c.in-Ok.dir = sym c.in_ok-dir.ensures.value ∙ c.in-Ok.is in
    went_as _ _ _ _ _ _ refl (create_some b c.args.p.now c.args.new c.in-Ok.dir e) (keys_then _ _ _ _ _ c.in_ok-dir.ensures.went c.in_ok-make_file.ensures.went)
