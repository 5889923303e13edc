use Rattle.std.proofs.Common.{◌≡◌, ◌+◌, ℕ, List, [], ◌∷◌, ◌++◌, Ok, Err, take, drop, sym, ap, ◌∙◌, subst}
use Rattle.std.proofs.lemmas.List.{take_more, take_all}
use Rattle.wtf_base.specs.declared.ids.InodeId.{InodeId}
use Rattle.wtf_occ.specs.Attempts.{GrowsBy}
use Rattle.wtf_occ.proofs.AttemptLaws.{Grows-by, Grows-on}
use Rattle.wtf_values.specs.declared.key.Key.{Key}
use Rattle.wtf_meta.specs.Maps.{Map, seen}
use Rattle.wtf_index.specs.Checks.{source_of}
use Rattle.wtf_index.specs.Recorded.{source_keys}
use Rattle.wtf_index.proofs.Going.{keys_more, seen-same}
use Rattle.wtf_slicing.specs.Recorded.{sources_keys}
use Rattle.wtf_slicing.specs.Sources.{sources_of}
use Rattle.wtf_slicing.proofs.Loops.{split_at, sources_more, sources_stop, sources_keys-append, keys_one, keys_stop}
use Rattle.wtf_slicing.proofs.sources.sources.Goals as goal

pub returns-in_err-inode-clause-grows : goal.returns-in_err-inode-clause-grows
returns-in_err-inode-clause-grows c =
    let at = c.args.at.now in
    let mid = c.loop-path.at in
    let keys = sources_keys (seen c.args.kv.now at) (take c.loop-path.path-index c.args.paths.now) in
    Grows-on at mid c.source.new.at (Grows-by at mid keys [] c.loop-path.invariant.went) c.in_err-inode.ensures.grows

pub returns-in_err-push-in-Ok-clause-grows : goal.returns-in_err-push-in-Ok-clause-grows
returns-in_err-push-in-Ok-clause-grows c =
    let at = c.args.at.now in
    let mid = c.loop-path.at in
    let keys = sources_keys (seen c.args.kv.now at) (take c.loop-path.path-index c.args.paths.now) in
    Grows-on at mid c.source.new.at (Grows-by at mid keys [] c.loop-path.invariant.went) c.in_ok-inode.ensures.grows

pub returns-in-Err-clause-grows : goal.returns-in-Err-clause-grows
returns-in-Err-clause-grows c =
    let at = c.args.at.now in
    let mid = c.loop-path.at in
    let keys = sources_keys (seen c.args.kv.now at) (take c.loop-path.path-index c.args.paths.now) in
    Grows-on at mid c.source.new.at (Grows-by at mid keys [] c.loop-path.invariant.went) c.in_ok-inode.ensures.grows

pub returns-in-Err-clause-refused : goal.returns-in-Err-clause-refused
returns-in-Err-clause-refused c =
    let kv = c.args.kv.now in
    let b : Map = seen kv c.args.at.now in
    let ps : List (List ℕ) = c.args.paths.now in
    let n = c.loop-path.path-index in
    let p : List ℕ = c.path-item.result in
    let inv = c.loop-path.invariant in
    let same : seen kv c.loop-path.at ≡ b = seen-same kv c.args.at.now c.loop-path.at (sources_keys b (take n ps)) inv.went in
    let e : source_of b p ≡ Err c.in-Err.word = ap (λ (m : Map). source_of m p) (sym same) ∙ (sym c.in_ok-inode.ensures.value ∙ c.in-Err.is) in
    let split = split_at ps n p c.loop-path-test.true c.path-item.is in
    subst (λ (l : List (List ℕ)). sources_of b l ≡ Err c.in-Err.word) (sym split) (sources_stop b (take n ps) (drop (n + 1) ps) p c.loop-path.inodes.items
    c.in-Err.word inv.found e)

pub returns-in-Err-clause-went : goal.returns-in-Err-clause-went
returns-in-Err-clause-went c =
    let kv = c.args.kv.now in
    let b : Map = seen kv c.args.at.now in
    let ps : List (List ℕ) = c.args.paths.now in
    let n = c.loop-path.path-index in
    let p : List ℕ = c.path-item.result in
    let inv = c.loop-path.invariant in
    let same : seen kv c.loop-path.at ≡ b = seen-same kv c.args.at.now c.loop-path.at (sources_keys b (take n ps)) inv.went in
    let e : source_of b p ≡ Err c.in-Err.word = ap (λ (m : Map). source_of m p) (sym same) ∙ (sym c.in_ok-inode.ensures.value ∙ c.in-Err.is) in
    let split = split_at ps n p c.loop-path-test.true c.path-item.is in
    let keys : sources_keys b ps ≡ sources_keys b (take n ps) ++ source_keys p =
    ap (sources_keys b) split ∙ sources_keys-append b (take n ps) (p ∷ drop (n + 1) ps) c.loop-path.inodes.items inv.found
    ∙ ap (λ (l : List Key). sources_keys b (take n ps) ++ l) (keys_stop b p (drop (n + 1) ps) c.in-Err.word e) in
    subst (λ (qs : List Key). GrowsBy c.args.at.now c.source.new.at qs []) (sym keys)
    (keys_more c.args.at.now c.loop-path.at c.source.new.at (sources_keys b (take n ps)) (source_keys p) inv.went c.in_ok-inode.ensures.went)

pub loop-path-preserved : goal.loop-path-preserved
loop-path-preserved c =
    let kv = c.args.kv.now in
    let b : Map = seen kv c.args.at.now in
    let ps : List (List ℕ) = c.args.paths.now in
    let n = c.loop-path.path-index in
    let p : List ℕ = c.path-item.result in
    let i = c.in-Ok.inode in
    let inv = c.loop-path.invariant in
    let same : seen kv c.loop-path.at ≡ b = seen-same kv c.args.at.now c.loop-path.at (sources_keys b (take n ps)) inv.went in
    let e : source_of b p ≡ Ok i = ap (λ (m : Map). source_of m p) (sym same) ∙ (sym c.in_ok-inode.ensures.value ∙ c.in-Ok.is) in
    let next : take (n + 1) ps ≡ take n ps ++ p ∷ [] = take_more ps n p c.loop-path-test.true ∙ ap (λ (q : List ℕ). take n ps ++ q ∷ []) (sym c.path-item.is) in
    let keys : sources_keys b (take (n + 1) ps) ≡ sources_keys b (take n ps) ++ source_keys p =
    ap (sources_keys b) next ∙ sources_keys-append b (take n ps) (p ∷ []) c.loop-path.inodes.items inv.found
    ∙ ap (λ (l : List Key). sources_keys b (take n ps) ++ l) (keys_one b p i e) in
    record {
      found = ap (sources_of b) next ∙ sources_more b (take n ps) p c.loop-path.inodes.items i inv.found e
          ∙ ap (λ (l : List InodeId). Ok l) (sym c.in_ok-push-in-Ok.ensures.items);
      went = subst (λ (qs : List Key). GrowsBy c.args.at.now c.source.new.at qs []) (sym keys)
          (keys_more c.args.at.now c.loop-path.at c.source.new.at (sources_keys b (take n ps)) (source_keys p) inv.went c.in_ok-inode.ensures.went);
    }

pub returns-clause-found : goal.returns-clause-found
returns-clause-found c =
    let b : Map = seen c.args.kv.now c.args.at.now in
    let ps : List (List ℕ) = c.args.paths.now in
    subst (λ (l : List (List ℕ)). sources_of b l ≡ Ok c.loop-path.inodes.items) (take_all c.loop-path.path-index ps c.loop-path-test.false)
    c.loop-path.invariant.found

pub returns-clause-went : goal.returns-clause-went
returns-clause-went c =
    let at = c.args.at.now in
    let b : Map = seen c.args.kv.now at in
    let ps : List (List ℕ) = c.args.paths.now in
    subst (λ (l : List (List ℕ)). GrowsBy at c.loop-path.at (sources_keys b l) []) (take_all c.loop-path.path-index ps c.loop-path-test.false)
    c.loop-path.invariant.went
