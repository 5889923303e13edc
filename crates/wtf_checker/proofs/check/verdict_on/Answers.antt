use Rattle.std.proofs.Common.{ℕ, List, Ok, subst}
use Rattle.wtf_checker.specs.Judging.{Judges}
use Rattle.wtf_checker.proofs.Scripted.{reading_at, work_first}
use Rattle.wtf_checker.proofs.Ending.{have_no_output, have_no_memory, have_no_script, have_both}
use Rattle.wtf_checker.proofs.check.verdict_on.Goals as goal

pub returns-in-Err : goal.returns-in-Err
returns-in-Err g c = have_no_output (g.I.Source.view c.args.script.now) (g.T.Source.view c.args.output.now) (g.T.Source.view c.read_all.new.source)
    c.in-Err.stop c.in-Err.ensures.taken

pub returns-in_default : goal.returns-in_default
returns-in_default g c = have_no_memory (g.I.Source.view c.args.script.now) (g.T.Source.view c.args.output.now) (g.T.Source.view c.read_all.new.source)
    c.in-Ok.bytes c.in-Ok.ensures.taken

pub judge-requires : goal.judge-requires
judge-requires g c = record { room = work_first c.in-Ok-new.lines c.in-Ok-new.ensures }

pub returns-in-Err-judge : goal.returns-in-Err-judge
returns-in-Err-judge g c =
    let s = g.I.Source.view c.args.script.now in
    have_no_script s (g.I.Source.view c.judge.new.script) (g.T.Source.view c.args.output.now) (g.T.Source.view c.read_all.new.source) c.judge.new.reader.lines
    c.in-Err-judge.stop c.in-Ok.bytes c.in-Ok.ensures.taken
    (c.in-Err-judge.ensures.read s (reading_at s c.in-Ok-new.lines c.in-Ok-new.ensures))

pub returns-in-Ok-skip : goal.returns-in-Ok-skip
returns-in-Ok-skip g c =
    let s = g.I.Source.view c.args.script.now in
    let first = reading_at s c.in-Ok-new.lines c.in-Ok-new.ensures in
    let v = c.in-Ok-judge.verdict in
    let on = c.in-Ok-judge.ensures.read s first in
    let all = c.in-Ok-skip.ensures s on.0 on.1 in
    have_both s (g.I.Source.view c.skip.new.script) (g.T.Source.view c.args.output.now) (g.T.Source.view c.read_all.new.source) c.in-Ok.bytes
    c.skip.new.reader.lines all.0 c.in-Ok.bytes.items v
    c.in-Ok.ensures.taken all.1 (subst (λ (b : List ℕ). Judges s b (Ok v)) c.as_slice.ensures.value (c.in-Ok-judge.ensures.judged s first)) c.in-Ok.ensures.told

pub returns : goal.returns
returns g c =
    let s = g.I.Source.view c.args.script.now in
    let on = c.in-Ok-judge.ensures.read s (reading_at s c.in-Ok-new.lines c.in-Ok-new.ensures) in
    have_no_script s (g.I.Source.view c.skip.new.script) (g.T.Source.view c.args.output.now) (g.T.Source.view c.read_all.new.source) c.skip.new.reader.lines
    c.in-Err-skip.stop c.in-Ok.bytes c.in-Ok.ensures.taken
    (c.in-Err-skip.ensures s on.0 on.1)
