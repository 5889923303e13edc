use Rattle.std.proofs.Common.{ℕ, sym, subst}
use Rattle.wtf_checker.specs.Checked.{IsChecked, streams}
use Rattle.wtf_checker.proofs.Ending.{checked_told, checked_stopped}
use Rattle.wtf_checker.proofs.OneVerdict.{one_verdict}
use Rattle.wtf_checker.proofs.check.wtf_check.Goals as goal

pub returns-in-Ok-clause-checked : goal.returns-in-Ok-clause-checked
returns-in-Ok-clause-checked g c =
    checked_told (g.I.Source.view c.args.script.now) (g.I.Source.view c.verdict_on.new.script) (g.T.Source.view c.args.output.now)
    (g.T.Source.view c.verdict_on.new.output)
    (g.O.Sink.view c.args.out.now) (g.O.Sink.view c.tell.new.out) c.in-Ok.verdict c.tell.result c.in-Ok.ensures c.tell.ensures

pub returns-in-Ok-clause-one : goal.returns-in-Ok-clause-one
returns-in-Ok-clause-one g c = one_verdict

pub returns-in-Err-clause-checked : goal.returns-in-Err-clause-checked
returns-in-Err-clause-checked g c =
    let s = g.I.Source.view c.args.script.now in
    let s' = g.I.Source.view c.verdict_on.new.script in
    let o = g.T.Source.view c.args.output.now in
    let o' = g.T.Source.view c.verdict_on.new.output in
    let k = g.O.Sink.view c.args.out.now in
    subst (λ (n : ℕ). IsChecked n (streams s o k) (streams s' o' k)) (sym c.status.ensures) (checked_stopped s s' o o' k c.in-Err.stop c.in-Err.ensures)

pub returns-in-Err-clause-one : goal.returns-in-Err-clause-one
returns-in-Err-clause-one g c = one_verdict
