use Rattle.std.proofs.Common.{rules, sym, ap, subst, ◌∙◌, ◌≡◌, ◌+◌, ◌∷◌, ◌++◌, [], take, true, arith}
use Rattle.std.specs.Cmp.{Equal-is}
use Rattle.std.proofs.lemmas.List.{take_more}
use Rattle.wtf_kv.specs.Staging.{AreDeltasOf}
use Rattle.wtf_kv.proofs.Runs.{deltas_more}
use Rattle.wtf_kv.proofs.history.run_len.Goals as goal

pub loop-change-preserved : goal.loop-change-preserved
loop-change-preserved g c =
    let i = c.loop-change.change-index in
    let all = c.args.changes.now in
    let key = c.args.key.now in
    let same : g.K.PartialEq.eq c.in-Delta.next key ≡ true = search rules in
    let is : c.in-Delta.next ≡ key = g.met.K.StoreKey.exact c.in-Delta.next key ((Equal-is (g.K.Ord.cmp c.in-Delta.next key)).0 (sym (g.met.K.Ord.matches_eq c.in-Delta.next key) ∙ same)) in
    let front : take (i + 1) all ≡ take i all ++ c.change-item.result ∷ [] = take_more all i c.change-item.result (omega arith) ∙ ap (λ x. take i all ++ x ∷ []) (sym c.change-item.is) in
    record {
      all = ap (λ n. n + 1) c.loop-change.invariant.all;
      run = subst (AreDeltasOf key) (sym (front ∙ ap (λ x. take i all ++ x ∷ []) c.in-Delta.is)) (deltas_more key c.in-Delta.next c.in-Delta.field-1 (take i all) c.loop-change.invariant.run is);
    }
