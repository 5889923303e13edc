use Rattle.std.proofs.Common.{◌≡◌, [], length, Some, None, Ok, Err, sym, ◌∙◌, arith}
use Rattle.wtf_path.specs.Parts.{parent_of}
use Rattle.wtf_occ.proofs.AttemptLaws.{GrowsBy-nothing}
use Rattle.wtf_values.specs.Names.{names_in}
use Rattle.wtf_meta.specs.Maps.{seen}
use Rattle.wtf_meta.specs.NameEdits.{rmdir_edits}
use Rattle.wtf_index.specs.Checks.{directory_of}
use Rattle.wtf_index.specs.Recorded.{directory_keys}
use Rattle.wtf_index.proofs.Going.{keys_then}
use Rattle.wtf_index.proofs.Checked.{rmdir_keys-inner, rmdir_keys-root}
use Rattle.wtf_index.proofs.Changing.{went_as, rmdir_of_root, rmdir_none, rmdir_full, rmdir_some}
use Rattle.wtf_index.proofs.Ways.{rmdir-root, rmdir-refused, rmdir-full, rmdir-taken}
use Rattle.wtf_index.proofs.folders.rmdir.Goals as goal

pub returns-in_default-clause-step : goal.returns-in_default-clause-step
returns-in_default-clause-step c =
    let none : parent_of c.args.p.now ≡ None = sym c.in_ok-dir.ensures.value ∙ c.in_default.is in
    λ x. record {
      keys = [];
      edits = [];
      grows = GrowsBy-nothing c.args.at.now;
      is_call = rmdir-root x (seen c.args.kv.now c.args.at.now) c.args.p.now c.in_ok-dir.ensures.path none;
    }

pub returns-in-Err-clause-step : goal.returns-in-Err-clause-step
returns-in-Err-clause-step c =
    let b = seen c.args.kv.now c.args.at.now in
    let up : parent_of c.args.p.now ≡ Some c.in-Some.dir = sym c.in_ok-dir.ensures.value ∙ c.in-Some.is in
    let e : directory_of b c.args.p.now ≡ Err c.in-Err.word = sym c.in_ok-names.ensures.value ∙ c.in-Err.is in
    λ x. record {
      keys = directory_keys b c.args.p.now;
      edits = [];
      grows = c.in_ok-names.ensures.went;
      is_call = rmdir-refused x b c.args.p.now c.in-Some.dir c.in-Err.word up e;
    }

pub returns-then-count-gt0-clause-step : goal.returns-then-count-gt0-clause-step
returns-then-count-gt0-clause-step c =
    let b = seen c.args.kv.now c.args.at.now in
    let up : parent_of c.args.p.now ≡ Some c.in-Some.dir = sym c.in_ok-dir.ensures.value ∙ c.in-Some.is in
    let e : directory_of b c.args.p.now ≡ Ok c.in-Ok.names = sym c.in_ok-names.ensures.value ∙ c.in-Ok.is in
    let some : length (names_in c.in-Ok.names) ≡ 0 → ⊥ = λ none. omega arith in
    λ x. record {
      keys = directory_keys b c.args.p.now;
      edits = [];
      grows = c.in_ok-names.ensures.went;
      is_call = rmdir-full x b c.args.p.now c.in-Some.dir c.in-Ok.names up e some;
    }

pub returns-clause-step : goal.returns-clause-step
returns-clause-step c =
    let b = seen c.args.kv.now c.args.at.now in
    let up : parent_of c.args.p.now ≡ Some c.in-Some.dir = sym c.in_ok-dir.ensures.value ∙ c.in-Some.is in
    let e : directory_of b c.args.p.now ≡ Ok c.in-Ok.names = sym c.in_ok-names.ensures.value ∙ c.in-Ok.is in
    let none : length (names_in c.in-Ok.names) ≡ 0 = omega arith in
    λ x. record {
      keys = directory_keys b c.args.p.now;
      edits = rmdir_edits c.in-Some.dir c.args.p.now;
      grows = keys_then _ _ _ _ _ c.in_ok-names.ensures.went c.in_ok-take_folder.ensures.went;
      is_call = rmdir-taken x b c.args.p.now c.in-Some.dir c.in-Ok.names up e none;
    }

pub returns-in_default-clause-went : goal.returns-in_default-clause-went
returns-in_default-clause-went c =
    let b = seen c.args.kv.now c.args.at.now in
    let none : parent_of c.args.p.now ≡ None = sym c.in_ok-dir.ensures.value ∙ c.in_default.is in
    went_as _ _ _ _ _ _ (rmdir_keys-root b c.args.p.now c.in_ok-dir.ensures.path none) (rmdir_of_root b c.args.p.now none) (GrowsBy-nothing c.args.at.now)

pub returns-in-Err-clause-went : goal.returns-in-Err-clause-went
returns-in-Err-clause-went c =
    let b = seen c.args.kv.now c.args.at.now in
    let up : parent_of c.args.p.now ≡ Some c.in-Some.dir = sym c.in_ok-dir.ensures.value ∙ c.in-Some.is in
    let e : directory_of b c.args.p.now ≡ Err c.in-Err.word = sym c.in_ok-names.ensures.value ∙ c.in-Err.is in
    went_as _ _ _ _ _ _ (rmdir_keys-inner b c.args.p.now c.in-Some.dir up) (rmdir_none b c.args.p.now c.in-Some.dir c.in-Err.word up e) c.in_ok-names.ensures.went

pub returns-then-count-gt0-clause-went : goal.returns-then-count-gt0-clause-went
returns-then-count-gt0-clause-went c =
    let b = seen c.args.kv.now c.args.at.now in
    let up : parent_of c.args.p.now ≡ Some c.in-Some.dir = sym c.in_ok-dir.ensures.value ∙ c.in-Some.is in
    let e : directory_of b c.args.p.now ≡ Ok c.in-Ok.names = sym c.in_ok-names.ensures.value ∙ c.in-Ok.is in
    let some : length (names_in c.in-Ok.names) ≡ 0 → ⊥ = λ none. omega arith in
    went_as _ _ _ _ _ _ (rmdir_keys-inner b c.args.p.now c.in-Some.dir up) (rmdir_full b c.args.p.now c.in-Some.dir c.in-Ok.names up e some) c.in_ok-names.ensures.went

pub returns-clause-went : goal.returns-clause-went
returns-clause-went c =
    let b = seen c.args.kv.now c.args.at.now in
    let up : parent_of c.args.p.now ≡ Some c.in-Some.dir = sym c.in_ok-dir.ensures.value ∙ c.in-Some.is in
    let e : directory_of b c.args.p.now ≡ Ok c.in-Ok.names = sym c.in_ok-names.ensures.value ∙ c.in-Ok.is in
    let none : length (names_in c.in-Ok.names) ≡ 0 = omega arith in
    went_as _ _ _ _ _ _ (rmdir_keys-inner b c.args.p.now c.in-Some.dir up) (rmdir_some b c.args.p.now c.in-Some.dir c.in-Ok.names up e none)
    (keys_then _ _ _ _ _ c.in_ok-names.ensures.went c.in_ok-take_folder.ensures.went)
