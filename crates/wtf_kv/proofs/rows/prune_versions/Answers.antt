use Rattle.std.proofs.Common.{◌∙◌, ◌≡◌, ◌<◌, ◌+◌, ◌++◌, arith, sym, ap, length, take, drop, true, false}
use Rattle.std.specs.List.{swap}
use Rattle.wtf_kv.specs.Seen.{kept_head, kept_versions}
use Rattle.wtf_kv.proofs.Prune.{keep_step, drop_step}
use Rattle.wtf_kv.proofs.rows.prune_versions.Goals as goal

pub loop-i-preserved-then-not-keeps : goal.loop-i-preserved-then-not-keeps
loop-i-preserved-then-not-keeps g c =
    let vs = c.loop-i.versions.items in
    let lt : c.loop-i.i < length vs = (let ok = c.args.versions.now.ok.0 in let all = c.len-i-end.ensures in let long = c.loop-i.invariant.long in omega arith) in
    let gone : kept_head c.args.pins.now (drop c.loop-i.i vs) ≡ false = ap (λ l. kept_head c.args.pins.now (drop c.loop-i.i l)) (sym c.as_slice.ensures.value) ∙ sym c.if-not-keeps.ensures in
    record {
      behind = (let le = c.loop-i.invariant.behind in omega arith);
      long = c.loop-i.invariant.long;
      rest = ap (λ l. take c.loop-i.kept vs ++ l) (drop_step c.args.pins.now vs c.loop-i.i lt gone) ∙ c.loop-i.invariant.rest;
    }

pub loop-i-preserved : goal.loop-i-preserved
loop-i-preserved g c =
    let vs = c.loop-i.versions.items in
    let lt : c.loop-i.i < length vs = (let ok = c.args.versions.now.ok.0 in let all = c.len-i-end.ensures in let long = c.loop-i.invariant.long in omega arith) in
    let kept : kept_head c.args.pins.now (drop c.loop-i.i vs) ≡ true = ap (λ l. kept_head c.args.pins.now (drop c.loop-i.i l)) (sym c.as_slice.ensures.value) ∙ sym c.if-not-keeps.ensures in
    let swapped : c.swap.new.self.items ≡ swap vs c.loop-i.kept c.loop-i.i = c.swap.ensures.items in
    record {
      behind = (let le = c.loop-i.invariant.behind in omega arith);
      long = (let ok = c.swap.new.self.ok.0 in let ok2 = c.loop-i.versions.ok.0 in let same = c.swap.ensures.len in let long = c.loop-i.invariant.long in omega arith);
      rest = ap (λ l. take (c.loop-i.kept + 1) l ++ kept_versions c.args.pins.now (drop (c.loop-i.i + 1) l)) swapped ∙ keep_step c.args.pins.now vs c.loop-i.kept c.loop-i.i c.loop-i.invariant.behind lt kept ∙ c.loop-i.invariant.rest;
    }
