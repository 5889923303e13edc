use Rattle.std.proofs.Common.{◌≡◌, ℕ, List, [], ◌∷◌, Some, None, Ok, Err, sym, ap, ◌∙◌}
use Rattle.wtf_path.specs.Parts.{parent_of}
use Rattle.wtf_values.specs.declared.key.Key.TheVariants.{Links}
use Rattle.wtf_meta.specs.Maps.{Map, seen}
use Rattle.wtf_meta.specs.NameEdits.{link_count}
use Rattle.wtf_index.specs.Checks.{source_of}
use Rattle.wtf_index.specs.Recorded.{source_keys}
use Rattle.wtf_index.specs.Changed.{unlink_by}
use Rattle.wtf_index.proofs.Going.{keys_then, keys_more, seen-same}
use Rattle.wtf_index.proofs.Ways.{counted_keys, unlink-refused, unlink-root, unlink-taken}
use Rattle.wtf_index.proofs.Changing.{went_as, unlink_none, unlink_of_root, unlink_some, unlink_stops, unlink_goes_on}
use Rattle.wtf_index.proofs.files.unlink.Goals as goal

pub returns-in-Err-clause-step : goal.returns-in-Err-clause-step
returns-in-Err-clause-step c =
    let b = seen c.args.kv.now c.args.at.now in
    let e : source_of b c.args.p.now ≡ Err c.in-Err.word = sym c.in_ok-inode.ensures.value ∙ c.in-Err.is in
    λ x. record {
      keys = source_keys c.args.p.now;
      edits = [];
      grows = c.in_ok-inode.ensures.went;
      is_call = unlink-refused x b c.args.p.now c.in-Err.word e;
    }

pub returns-in_default-clause-step : goal.returns-in_default-clause-step
returns-in_default-clause-step c =
    let p : List ℕ = c.args.p.now in
    let b = seen c.args.kv.now c.args.at.now in
    let e : source_of b p ≡ Ok c.in-Ok.inode = sym c.in_ok-inode.ensures.value ∙ c.in-Ok.is in
    let none : parent_of p ≡ None = sym c.in_ok-dir.ensures.value ∙ c.in_default.is in
    λ x. record {
      keys = counted_keys p c.in-Ok.inode;
      edits = [];
      grows = keys_more _ _ _ (source_keys p) (Links c.in-Ok.inode ∷ []) c.in_ok-inode.ensures.went c.in_ok-links.ensures.went;
      is_call = unlink-root x b p c.in-Ok.inode _ c.in_ok-dir.ensures.path none e;
    }

pub returns-clause-step : goal.returns-clause-step
returns-clause-step c =
    let p : List ℕ = c.args.p.now in
    let i = c.in-Ok.inode in
    let b : Map = seen c.args.kv.now c.args.at.now in
    let same : seen c.args.kv.now c.source.new.at ≡ b = seen-same c.args.kv.now c.args.at.now c.source.new.at (source_keys p) c.in_ok-inode.ensures.went in
    let e : source_of b p ≡ Ok i = sym c.in_ok-inode.ensures.value ∙ c.in-Ok.is in
    let up : parent_of p ≡ Some c.in-Some.dir = sym c.in_ok-dir.ensures.value ∙ c.in-Some.is in
    let count : link_count (b (Links i)) ≡ c.in_ok-links.links = sym (c.in_ok-links.ensures.value ∙ ap (λ (m : Map). link_count (m (Links i))) same) in
    let looked = keys_more _ _ _ (source_keys p) (Links i ∷ []) c.in_ok-inode.ensures.went c.in_ok-links.ensures.went in
    λ x. record {
      keys = counted_keys p i;
      edits = unlink_by c.in_ok-links.links c.in-Some.dir p i;
      grows = keys_then _ _ _ _ _ looked c.in_ok-take_path.ensures.went;
      is_call = unlink-taken x b p c.in-Some.dir i c.in_ok-links.links up e count;
    }

pub returns-in-Err-clause-went : goal.returns-in-Err-clause-went
returns-in-Err-clause-went c =
    let b = seen c.args.kv.now c.args.at.now in
    let e : source_of b c.args.p.now ≡ Err c.in-Err.word = sym c.in_ok-inode.ensures.value ∙ c.in-Err.is in
    went_as _ _ _ _ _ _ (unlink_stops b c.args.p.now c.in-Err.word e) (unlink_none b c.args.p.now c.in-Err.word e) c.in_ok-inode.ensures.went

pub returns-in_default-clause-went : goal.returns-in_default-clause-went
returns-in_default-clause-went c =
    let p : List ℕ = c.args.p.now in
    let b = seen c.args.kv.now c.args.at.now in
    let e : source_of b p ≡ Ok c.in-Ok.inode = sym c.in_ok-inode.ensures.value ∙ c.in-Ok.is in
    let none : parent_of p ≡ None = sym c.in_ok-dir.ensures.value ∙ c.in_default.is in
    let looked = keys_more _ _ _ (source_keys p) (Links c.in-Ok.inode ∷ []) c.in_ok-inode.ensures.went c.in_ok-links.ensures.went in
    went_as _ _ _ _ _ _ (unlink_goes_on b p c.in-Ok.inode e) (unlink_of_root b p none) looked

pub returns-clause-went : goal.returns-clause-went
returns-clause-went c =
    let p : List ℕ = c.args.p.now in
    let i = c.in-Ok.inode in
    let b : Map = seen c.args.kv.now c.args.at.now in
    let same : seen c.args.kv.now c.source.new.at ≡ b = seen-same c.args.kv.now c.args.at.now c.source.new.at (source_keys p) c.in_ok-inode.ensures.went in
    let e : source_of b p ≡ Ok i = sym c.in_ok-inode.ensures.value ∙ c.in-Ok.is in
    let up : parent_of p ≡ Some c.in-Some.dir = sym c.in_ok-dir.ensures.value ∙ c.in-Some.is in
    let count : link_count (b (Links i)) ≡ c.in_ok-links.links = sym (c.in_ok-links.ensures.value ∙ ap (λ (m : Map). link_count (m (Links i))) same) in
    let looked = keys_more _ _ _ (source_keys p) (Links i ∷ []) c.in_ok-inode.ensures.went c.in_ok-links.ensures.went in
    went_as _ _ _ _ _ _ (unlink_goes_on b p i e) (unlink_some b p c.in-Some.dir i c.in_ok-links.links up e count)
    (keys_then _ _ _ _ _ looked c.in_ok-take_path.ensures.went)
