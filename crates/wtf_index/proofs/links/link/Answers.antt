use Rattle.std.proofs.Common.{◌≡◌, [], ℕ, List, ◌++◌, Ok, Err, sym, ap, ◌∙◌, subst}
use Rattle.wtf_occ.specs.Attempts.{GrowsBy}
use Rattle.wtf_meta.specs.Maps.{Map, seen}
use Rattle.wtf_meta.specs.NameEdits.{link_edits}
use Rattle.wtf_index.specs.Checks.{source_of, target_of}
use Rattle.wtf_index.specs.Recorded.{source_keys, target_keys}
use Rattle.wtf_index.proofs.Going.{keys_then, keys_more, seen-same}
use Rattle.wtf_index.proofs.Changing.{went_as, rename_stops, rename_goes_on, link_none, link_nowhere, link_some}
use Rattle.wtf_index.proofs.Ways.{link-refused, link-target, link-added}
use Rattle.wtf_index.proofs.links.link.Goals as goal

pub returns-in-Err-clause-step : goal.returns-in-Err-clause-step
returns-in-Err-clause-step c =
    let b = seen c.args.kv.now c.args.at.now in
    let e : source_of b c.args.p.now ≡ Err c.in-Err.refusal = sym c.in_ok-inode.ensures.value ∙ c.in-Err.is in
    λ x calls. record {
      keys = source_keys c.args.p.now;
      edits = [];
      grows = c.in_ok-inode.ensures.went;
      is_call = link-refused x b c.args.p.now c.args.q.now c.in-Err.refusal e;
    }

pub returns-in-Err-2-clause-step : goal.returns-in-Err-2-clause-step
returns-in-Err-2-clause-step c =
    let p : List ℕ = c.args.p.now in
    let q : List ℕ = c.args.q.now in
    let b : Map = seen c.args.kv.now c.args.at.now in
    let same : seen c.args.kv.now c.source.new.at ≡ b = seen-same c.args.kv.now c.args.at.now c.source.new.at (source_keys p) c.in_ok-inode.ensures.went in
    let e : source_of b p ≡ Ok c.in-Ok.inode = sym c.in_ok-inode.ensures.value ∙ c.in-Ok.is in
    let f : target_of b q ≡ Err c.in-Err-2.word = ap (λ m. target_of m q) (sym same) ∙ (sym c.in_ok-dir.ensures.value ∙ c.in-Err-2.is) in
    λ x calls. record {
      keys = source_keys p ++ target_keys b q;
      edits = [];
      grows = keys_more _ _ _ (source_keys p) (target_keys b q) c.in_ok-inode.ensures.went
          (subst (λ m. GrowsBy c.source.new.at c.target.new.at (target_keys m q) []) same c.in_ok-dir.ensures.went);
      is_call = link-target x b p q c.in-Ok.inode c.in-Err-2.word e f;
    }

pub returns-clause-step : goal.returns-clause-step
returns-clause-step c =
    let p : List ℕ = c.args.p.now in
    let q : List ℕ = c.args.q.now in
    let b : Map = seen c.args.kv.now c.args.at.now in
    let same : seen c.args.kv.now c.source.new.at ≡ b = seen-same c.args.kv.now c.args.at.now c.source.new.at (source_keys p) c.in_ok-inode.ensures.went in
    let e : source_of b p ≡ Ok c.in-Ok.inode = sym c.in_ok-inode.ensures.value ∙ c.in-Ok.is in
    let f : target_of b q ≡ Ok c.in-Ok-2.dir = ap (λ m. target_of m q) (sym same) ∙ (sym c.in_ok-dir.ensures.value ∙ c.in-Ok-2.is) in
    let looked = keys_more _ _ _ (source_keys p) (target_keys b q) c.in_ok-inode.ensures.went
    (subst (λ m. GrowsBy c.source.new.at c.target.new.at (target_keys m q) []) same c.in_ok-dir.ensures.went) in
    λ x calls. record {
      keys = source_keys p ++ target_keys b q;
      edits = link_edits c.in-Ok-2.dir q c.in-Ok.inode;
      grows = keys_then _ _ _ _ _ looked c.in_ok-link_file.ensures.went;
      is_call = link-added x b p q c.in-Ok-2.dir c.in-Ok.inode c.in_ok-dir.ensures.path calls e f;
    }

pub returns-in-Err-clause-went : goal.returns-in-Err-clause-went
returns-in-Err-clause-went c =
    let p : List ℕ = c.args.p.now in
    let q : List ℕ = c.args.q.now in
    let b : Map = seen c.args.kv.now c.args.at.now in
    let e : source_of b p ≡ Err c.in-Err.refusal = sym c.in_ok-inode.ensures.value ∙ c.in-Err.is in
    went_as _ _ _ _ _ _ (rename_stops b p q c.in-Err.refusal e) (link_none b p q c.in-Err.refusal e) c.in_ok-inode.ensures.went

pub returns-in-Err-2-clause-went : goal.returns-in-Err-2-clause-went
returns-in-Err-2-clause-went c =
    let p : List ℕ = c.args.p.now in
    let q : List ℕ = c.args.q.now in
    let b : Map = seen c.args.kv.now c.args.at.now in
    let same : seen c.args.kv.now c.source.new.at ≡ b = seen-same c.args.kv.now c.args.at.now c.source.new.at (source_keys p) c.in_ok-inode.ensures.went in
    let e : source_of b p ≡ Ok c.in-Ok.inode = sym c.in_ok-inode.ensures.value ∙ c.in-Ok.is in
    let f : target_of b q ≡ Err c.in-Err-2.word = ap (λ m. target_of m q) (sym same) ∙ (sym c.in_ok-dir.ensures.value ∙ c.in-Err-2.is) in
    let looked = keys_more _ _ _ (source_keys p) (target_keys b q) c.in_ok-inode.ensures.went
    (subst (λ m. GrowsBy c.source.new.at c.target.new.at (target_keys m q) []) same c.in_ok-dir.ensures.went) in
    went_as _ _ _ _ _ _ (rename_goes_on b p q c.in-Ok.inode e) (link_nowhere b p q c.in-Ok.inode c.in-Err-2.word e f) looked

pub returns-clause-went : goal.returns-clause-went
returns-clause-went c =
    let p : List ℕ = c.args.p.now in
    let q : List ℕ = c.args.q.now in
    let b : Map = seen c.args.kv.now c.args.at.now in
    let same : seen c.args.kv.now c.source.new.at ≡ b = seen-same c.args.kv.now c.args.at.now c.source.new.at (source_keys p) c.in_ok-inode.ensures.went in
    let e : source_of b p ≡ Ok c.in-Ok.inode = sym c.in_ok-inode.ensures.value ∙ c.in-Ok.is in
    let f : target_of b q ≡ Ok c.in-Ok-2.dir = ap (λ m. target_of m q) (sym same) ∙ (sym c.in_ok-dir.ensures.value ∙ c.in-Ok-2.is) in
    let looked = keys_more _ _ _ (source_keys p) (target_keys b q) c.in_ok-inode.ensures.went
    (subst (λ m. GrowsBy c.source.new.at c.target.new.at (target_keys m q) []) same c.in_ok-dir.ensures.went) in
    went_as _ _ _ _ _ _ (rename_goes_on b p q c.in-Ok.inode e) (link_some b p q c.in-Ok-2.dir c.in-Ok.inode e f)
    (keys_then _ _ _ _ _ looked c.in_ok-link_file.ensures.went)
