use Rattle.std.proofs.Common.{◌≡◌, ◌-◌, ◌++◌, ◌∷◌, [], ap, sym, ◌∙◌, arith}
use Rattle.wtf_occ.specs.Positions.{upto}
use Rattle.wtf_occ.proofs.Several.{upto_more}
use Rattle.wtf_occ.proofs.runs.run_of.Goals as goal

pub loop-i-init : goal.loop-i-init
loop-i-init c = let e : c.args.from - c.args.from ≡ 0 = omega arith in c.in_ok-run.ensures.items ∙ sym (ap (upto c.args.from) e)

pub loop-i-preserved : goal.loop-i-preserved
loop-i-preserved c =
    c.in_ok-push.ensures.items
    ∙ ap (λ l. l ++ c.loop-i.i ∷ []) c.loop-i.invariant
    ∙ sym (upto_more c.args.from c.loop-i.i (omega (arith, c.loop-i.auto.i)))
