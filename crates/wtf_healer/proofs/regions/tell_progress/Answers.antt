use Rattle.std.proofs.Common.{◌≡◌, ◌%◌, ◌++◌, List, ℕ, Some, length, ap, ◌∙◌, subst}
use Rattle.wtf_healer.specs.Lines.{done_lines, ReportFront}
use Rattle.wtf_healer.proofs.Progressing.{report_cut, report_whole}
use Rattle.wtf_healer.proofs.regions.tell_progress.Goals as goal

pub returns-in_default-write_all : goal.returns-in_default-write_all
returns-in_default-write_all g c n below =
    let healed = c.args.healed.now in
    let m = length healed.changes in
    let text = c.as_slice.ensures.value ∙ c.in-Ok.ensures ∙ ap (λ (k : ℕ). done_lines k healed.bytes) c.len-2.ensures in
    let old = g.P.Sink.view c.args.progress.now in
    let new = g.P.Sink.view c.write_all.new.out in
    report_cut n m healed.bytes below (subst (λ (k : ℕ). k % 256 ≡ 0) c.len.ensures c.if-len-ne0.false) old new c.write_all.ensures.faults
    c.in_default-write_all.ensures.cause
    (λ taken is. subst (λ (l : List ℕ). ReportFront taken l new.taken) text (c.in_default-write_all.ensures.told taken is))

pub returns : goal.returns
returns g c n below =
    let healed = c.args.healed.now in
    let m = length healed.changes in
    let text = c.as_slice.ensures.value ∙ c.in-Ok.ensures ∙ ap (λ (k : ℕ). done_lines k healed.bytes) c.len-2.ensures in
    let old = g.P.Sink.view c.args.progress.now in
    let mid = g.P.Sink.view c.write_all.new.out in
    let new = g.P.Sink.view c.write-shown.new.self in
    report_whole n m healed.bytes below (subst (λ (k : ℕ). k % 256 ≡ 0) c.len.ensures c.if-len-ne0.false) old mid new c.in-Ok-write_all.ensures.steady
    c.write-shown.ensures.faults (λ taken is. c.in-Ok-write_all.ensures.told taken is ∙ ap (λ (l : List ℕ). Some (taken ++ l)) text) c.write-shown.result
    c.write-shown.ensures.count c.write-shown.ensures.told
