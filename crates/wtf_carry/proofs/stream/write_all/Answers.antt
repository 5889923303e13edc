use Rattle.std.proofs.Common.{ℕ, List, ◌++◌, Some, arith, sym, ap, ◌∙◌, take, drop, append_assoc}
use Rattle.std.proofs.Math.Seq.{take-add}
use Rattle.wtf_carry.proofs.stream.write_all.Goals as goal

pub loop-at-preserved : goal.loop-at-preserved
loop-at-preserved g c =
    let at = c.loop-at.at in
    let text = c.args.text.now in
    record {
      within = omega (arith, c.in-Ok.ensures.count, c.split_at.ensures.back_len);
      counted = omega (arith, c.loop-at.invariant.counted, c.in-Ok.ensures.faults);
      told = λ old h.
          let w = c.in-Ok.ensures.told (old ++ take at text) (c.loop-at.invariant.told old h) in
          w ∙ ap Some (ap (λ (p : List ℕ). (old ++ take at text) ++ take c.in-Ok.n p) c.split_at.ensures.back
          ∙ append_assoc old (take at text) (take c.in-Ok.n (drop at text)) ∙ ap (λ (l : List ℕ). old ++ l) (sym (take-add at c.in-Ok.n text)));
    }
