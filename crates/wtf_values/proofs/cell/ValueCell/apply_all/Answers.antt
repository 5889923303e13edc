use Rattle.std.proofs.Common.{◌≡◌, ◌<◌, ◌∙◌, true, length, IfSome, sym, ap, subst, arith}
use Rattle.wtf_values.specs.Pushes.{are_pushes, entries_of, laid_all}
use Rattle.wtf_values.proofs.PushLaws.{pushes_fit, pushes_made}
use Rattle.wtf_values.proofs.cell.ValueCell.apply_all.Goals as goal

pub returns-clause-fit : goal.returns-clause-fit
returns-clause-fit g c =
    let run = c.args.run.now in
    let all : are_pushes run ≡ true = subst (λ found. IfSome found (λ v. are_pushes run ≡ true)) c.in-Some.is c.in_ok-entries.ensures.pushes in
    sym (pushes_fit run all c.args.now.now)

pub returns-clause-value : goal.returns-clause-value
returns-clause-value g c =
    let run = c.args.run.now in
    let now = c.args.now.now in
    let all : are_pushes run ≡ true = subst (λ found. IfSome found (λ v. are_pushes run ≡ true)) c.in-Some.is c.in_ok-entries.ensures.pushes in
    let some : 0 < length run = omega (arith, c.if-run-lt-MANY.false) in
    let entries : c.in-Some.entries.items ≡ entries_of run = subst (λ found. IfSome found (λ v. v.items ≡ entries_of run)) c.in-Some.is c.in_ok-entries.ensures.entries in
    c.in_ok-lay_all.ensures ∙ ap (laid_all now) (c.as_slice.ensures.value ∙ entries) ∙ sym (pushes_made run all some now)
