use Rattle.std.proofs.Common.{rules, subst, sym}
use Rattle.std.proofs.lemmas.Result.{IfOk-weaker}
use Rattle.std.proofs.lemmas.List.Sorted.{IsNonDecreasingBy-from_sort_by_key}
use Rattle.wtf_gc.specs.Spans.{Apart, Ascends}
use Rattle.wtf_gc.proofs.Between.{sorted_spans, gaps_apart, gaps_seen}
use Rattle.wtf_gc.proofs.spans.gaps.Goals as goal

-- src/spans.rt:24:19
pub sweep-requires : goal.sweep-requires
sweep-requires c =
    let up = IsNonDecreasingBy-from_sort_by_key (λ s. s.from) c.sort_by_key.new.self.items c.in-Ok.ensures.sorted (λ a r q k. search rules) in
    sorted_spans c.args.spans.items c.sort_by_key.new.self.items c.as_slice.result.now c.requires c.in-Ok.ensures.permutation up c.as_slice.ensures.value

-- src/spans.rt:22:1
pub returns-in-Ok-clause-apart : goal.returns-in-Ok-clause-apart
returns-in-Ok-clause-apart c =
    let up = IsNonDecreasingBy-from_sort_by_key (λ s. s.from) c.sort_by_key.new.self.items c.in-Ok.ensures.sorted (λ a r q k. search rules) in
    let sorted : Ascends 0 c.as_slice.result.now =
    sorted_spans c.args.spans.items c.sort_by_key.new.self.items c.as_slice.result.now c.requires c.in-Ok.ensures.permutation up c.as_slice.ensures.value in
    IfOk-weaker c.sweep.result _ _ (λ gs is. subst (Apart 0 c.args.mark) (sym is) (gaps_apart 0 c.args.mark 0 c.as_slice.result.now sorted)) c.sweep.ensures

-- src/spans.rt:22:1
pub returns-in-Ok-clause-exact : goal.returns-in-Ok-clause-exact
returns-in-Ok-clause-exact c =
    let up = IsNonDecreasingBy-from_sort_by_key (λ s. s.from) c.sort_by_key.new.self.items c.in-Ok.ensures.sorted (λ a r q k. search rules) in
    let sorted : Ascends 0 c.as_slice.result.now =
    sorted_spans c.args.spans.items c.sort_by_key.new.self.items c.as_slice.result.now c.requires c.in-Ok.ensures.permutation up c.as_slice.ensures.value in
    IfOk-weaker c.sweep.result _ _ (λ gs is x. gaps_seen c.args.mark c.args.spans.items c.sort_by_key.new.self.items c.as_slice.result.now gs.items
    c.in-Ok.ensures.permutation c.as_slice.ensures.value sorted is x) c.sweep.ensures
