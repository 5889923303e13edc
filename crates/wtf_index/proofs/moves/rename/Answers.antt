use Rattle.std.proofs.Common.{◌≡◌, [], ℕ, List, ◌++◌, Some, None, Ok, Err, sym, ap, ◌∙◌, subst}
use Rattle.wtf_path.specs.Parts.{parent_of}
use Rattle.wtf_occ.specs.Attempts.{GrowsBy}
use Rattle.wtf_meta.specs.Maps.{Map, seen}
use Rattle.wtf_meta.specs.NameEdits.{rename_edits}
use Rattle.wtf_index.specs.Checks.{source_of, target_of}
use Rattle.wtf_index.specs.Recorded.{source_keys, target_keys}
use Rattle.wtf_index.proofs.Going.{keys_then, keys_more, seen-same}
use Rattle.wtf_index.proofs.Changing.{went_as, rename_stops, rename_goes_on, rename_none, rename_nowhere, rename_of_root, rename_some}
use Rattle.wtf_index.proofs.Ways.{rename-refused, rename-target, rename-root, rename-moved}
use Rattle.wtf_index.proofs.moves.rename.Goals as goal

pub returns-in-Err-clause-step : goal.returns-in-Err-clause-step
returns-in-Err-clause-step c =
    let b = seen c.args.kv.now c.args.at.now in
    let e : source_of b c.args.p.now ≡ Err c.in-Err.word = sym c.in_ok-inode.ensures.value ∙ c.in-Err.is in
    λ x. record {
      keys = source_keys c.args.p.now;
      edits = [];
      grows = c.in_ok-inode.ensures.went;
      is_call = rename-refused x b c.args.p.now c.args.q.now c.in-Err.word e;
    }

pub returns-in-Err-2-clause-step : goal.returns-in-Err-2-clause-step
returns-in-Err-2-clause-step c =
    let p : List ℕ = c.args.p.now in
    let q : List ℕ = c.args.q.now in
    let b : Map = seen c.args.kv.now c.args.at.now in
    let same : seen c.args.kv.now c.source.new.at ≡ b = seen-same c.args.kv.now c.args.at.now c.source.new.at (source_keys p) c.in_ok-inode.ensures.went in
    let e : source_of b p ≡ Ok c.in-Ok.inode = sym c.in_ok-inode.ensures.value ∙ c.in-Ok.is in
    let f : target_of b q ≡ Err c.in-Err-2.word = ap (λ m. target_of m q) (sym same) ∙ (sym c.in_ok-dir.ensures.value ∙ c.in-Err-2.is) in
    λ x. record {
      keys = source_keys p ++ target_keys b q;
      edits = [];
      grows = keys_more _ _ _ (source_keys p) (target_keys b q) c.in_ok-inode.ensures.went (subst (λ m. GrowsBy c.source.new.at c.target.new.at (target_keys m q) []) same c.in_ok-dir.ensures.went);
      is_call = rename-target x b p q c.in-Ok.inode c.in-Err-2.word e f;
    }

pub returns-in_default-clause-step : goal.returns-in_default-clause-step
returns-in_default-clause-step c =
    let p : List ℕ = c.args.p.now in
    let q : List ℕ = c.args.q.now in
    let b : Map = seen c.args.kv.now c.args.at.now in
    let same : seen c.args.kv.now c.source.new.at ≡ b = seen-same c.args.kv.now c.args.at.now c.source.new.at (source_keys p) c.in_ok-inode.ensures.went in
    let e : source_of b p ≡ Ok c.in-Ok.inode = sym c.in_ok-inode.ensures.value ∙ c.in-Ok.is in
    let none : parent_of p ≡ None = sym c.in_ok-up.ensures.value ∙ c.in_default.is in
    λ x. record {
      keys = source_keys p ++ target_keys b q;
      edits = [];
      grows = keys_more _ _ _ (source_keys p) (target_keys b q) c.in_ok-inode.ensures.went (subst (λ m. GrowsBy c.source.new.at c.target.new.at (target_keys m q) []) same c.in_ok-dir.ensures.went);
      is_call = rename-root x b p q c.in-Ok.inode _ c.in_ok-up.ensures.path none e;
    }

pub returns-in-Err-clause-went : goal.returns-in-Err-clause-went
returns-in-Err-clause-went c =
    let p : List ℕ = c.args.p.now in
    let q : List ℕ = c.args.q.now in
    let b : Map = seen c.args.kv.now c.args.at.now in
    let e : source_of b p ≡ Err c.in-Err.word = sym c.in_ok-inode.ensures.value ∙ c.in-Err.is in
    went_as _ _ _ _ _ _ (rename_stops b p q c.in-Err.word e) (rename_none b p q c.in-Err.word e) c.in_ok-inode.ensures.went

pub returns-in-Err-2-clause-went : goal.returns-in-Err-2-clause-went
returns-in-Err-2-clause-went c =
    let p : List ℕ = c.args.p.now in
    let q : List ℕ = c.args.q.now in
    let b : Map = seen c.args.kv.now c.args.at.now in
    let same : seen c.args.kv.now c.source.new.at ≡ b = seen-same c.args.kv.now c.args.at.now c.source.new.at (source_keys p) c.in_ok-inode.ensures.went in
    let e : source_of b p ≡ Ok c.in-Ok.inode = sym c.in_ok-inode.ensures.value ∙ c.in-Ok.is in
    let f : target_of b q ≡ Err c.in-Err-2.word = ap (λ m. target_of m q) (sym same) ∙ (sym c.in_ok-dir.ensures.value ∙ c.in-Err-2.is) in
    let looked = keys_more _ _ _ (source_keys p) (target_keys b q) c.in_ok-inode.ensures.went (subst (λ m. GrowsBy c.source.new.at c.target.new.at (target_keys m q) []) same c.in_ok-dir.ensures.went) in
    went_as _ _ _ _ _ _ (rename_goes_on b p q c.in-Ok.inode e) (rename_nowhere b p q c.in-Ok.inode c.in-Err-2.word e f) looked

pub returns-in_default-clause-went : goal.returns-in_default-clause-went
returns-in_default-clause-went c =
    let p : List ℕ = c.args.p.now in
    let q : List ℕ = c.args.q.now in
    let b : Map = seen c.args.kv.now c.args.at.now in
    let same : seen c.args.kv.now c.source.new.at ≡ b = seen-same c.args.kv.now c.args.at.now c.source.new.at (source_keys p) c.in_ok-inode.ensures.went in
    let e : source_of b p ≡ Ok c.in-Ok.inode = sym c.in_ok-inode.ensures.value ∙ c.in-Ok.is in
    let none : parent_of p ≡ None = sym c.in_ok-up.ensures.value ∙ c.in_default.is in
    let looked = keys_more _ _ _ (source_keys p) (target_keys b q) c.in_ok-inode.ensures.went (subst (λ m. GrowsBy c.source.new.at c.target.new.at (target_keys m q) []) same c.in_ok-dir.ensures.went) in
    went_as _ _ _ _ _ _ (rename_goes_on b p q c.in-Ok.inode e) (rename_of_root b p q c.in-Ok.inode e none) looked

pub returns-clause-went : goal.returns-clause-went
returns-clause-went c =
    let p : List ℕ = c.args.p.now in
    let q : List ℕ = c.args.q.now in
    let b : Map = seen c.args.kv.now c.args.at.now in
    let same : seen c.args.kv.now c.source.new.at ≡ b = seen-same c.args.kv.now c.args.at.now c.source.new.at (source_keys p) c.in_ok-inode.ensures.went in
    let e : source_of b p ≡ Ok c.in-Ok.inode = sym c.in_ok-inode.ensures.value ∙ c.in-Ok.is in
    let f : target_of b q ≡ Ok c.in-Ok-2.dir = ap (λ m. target_of m q) (sym same) ∙ (sym c.in_ok-dir.ensures.value ∙ c.in-Ok-2.is) in
    let up : parent_of p ≡ Some c.in-Some.up = sym c.in_ok-up.ensures.value ∙ c.in-Some.is in
    let looked = keys_more _ _ _ (source_keys p) (target_keys b q) c.in_ok-inode.ensures.went (subst (λ m. GrowsBy c.source.new.at c.target.new.at (target_keys m q) []) same c.in_ok-dir.ensures.went) in
    went_as _ _ _ _ _ _ (rename_goes_on b p q c.in-Ok.inode e) (rename_some b p q c.in-Some.up c.in-Ok-2.dir c.in-Ok.inode up e f) (keys_then _ _ _ _ _ looked c.in_ok-move_file.ensures.went)

pub returns-clause-step : goal.returns-clause-step
returns-clause-step c =
    let p : List ℕ = c.args.p.now in
    let q : List ℕ = c.args.q.now in
    let b : Map = seen c.args.kv.now c.args.at.now in
    let same : seen c.args.kv.now c.source.new.at ≡ b = seen-same c.args.kv.now c.args.at.now c.source.new.at (source_keys p) c.in_ok-inode.ensures.went in
    let e : source_of b p ≡ Ok c.in-Ok.inode = sym c.in_ok-inode.ensures.value ∙ c.in-Ok.is in
    let f : target_of b q ≡ Ok c.in-Ok-2.dir = ap (λ m. target_of m q) (sym same) ∙ (sym c.in_ok-dir.ensures.value ∙ c.in-Ok-2.is) in
    let up : parent_of p ≡ Some c.in-Some.up = sym c.in_ok-up.ensures.value ∙ c.in-Some.is in
    let looked = keys_more _ _ _ (source_keys p) (target_keys b q) c.in_ok-inode.ensures.went (subst (λ m. GrowsBy c.source.new.at c.target.new.at (target_keys m q) []) same c.in_ok-dir.ensures.went) in
    λ x. record {
      keys = source_keys p ++ target_keys b q;
      edits = rename_edits c.in-Some.up p c.in-Ok-2.dir q c.in-Ok.inode;
      grows = keys_then _ _ _ _ _ looked c.in_ok-move_file.ensures.went;
      is_call = rename-moved x b p c.in-Some.up q c.in-Ok-2.dir c.in-Ok.inode c.in_ok-dir.ensures.path up e f;
    }
