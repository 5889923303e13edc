use Rattle.wtf_script.proofs.PlainLaws.{both, plain_run}
use Rattle.wtf_script.proofs.plain.is_plain_run.Goals as goal

pub returns : goal.returns
returns c = λ all.
    let parts = both _ _ all in
    let two = both _ _ parts.0 in
    plain_run c.args.line.now c.args.at c.requires (c.none_below.ensures two.0) (c.none_above.ensures two.1) (c.none_below-2.ensures parts.1)
