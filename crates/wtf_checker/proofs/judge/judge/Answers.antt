use Rattle.std.proofs.Common.{◌≡◌, ℕ, List, [], Some, None, Option, sym, subst}
use Rattle.std.specs.Prelude.{MatchOption}
use Rattle.wtf_base.specs.declared.settings.Settings.{Settings}
use Rattle.wtf_machine.specs.Machines.{machine_in}
use Rattle.wtf_checker.specs.Lawful.{BeginsWith, first_text}
use Rattle.wtf_checker.proofs.Scripted.{reading_stopped}
use Rattle.wtf_checker.proofs.Judged.{judged_none, no_settings, no_settings_line, within_none}
use Rattle.wtf_checker.proofs.judge.judge.Goals as goal

pub returns-in_default-clause-read : goal.returns-in_default-clause-read
returns-in_default-clause-read g c = λ start was. ([], was)

pub returns-in_default-clause-judged : goal.returns-in_default-clause-judged
returns-in_default-clause-judged g c = λ start was. judged_none start c.args.output.now (no_settings c.args.output.now c.in_default.ensures)

pub returns-in-Ok-None-clause-read : goal.returns-in-Ok-None-clause-read
returns-in-Ok-None-clause-read g c = λ start was. ([], was)

pub returns-in-Ok-None-clause-judged : goal.returns-in-Ok-None-clause-judged
returns-in-Ok-None-clause-judged g c = λ start was.
    let text = c.in-Some.text.now in
    let none : c.in-Ok-None.field-0 ≡ None = cc in
    judged_none start c.args.output.now (no_settings_line text c.in-Some.answers.now c.args.output.now c.in-Some.ensures
    (subst (λ (o : Option Settings). MatchOption o ((s : Settings) → first_text s ≡ text → ⊥) (λ s. first_text s ≡ text)) none c.in-Ok-None.ensures))

pub returns-in-Err-clause-read : goal.returns-in-Err-clause-read
returns-in-Err-clause-read g c = λ start was. reading_stopped start (g.I.Source.view c.args.script.now) c.args.reader.now.lines [] was

pub returns-in_default-new-clause-read : goal.returns-in_default-new-clause-read
returns-in_default-new-clause-read g c = λ start was. reading_stopped start (g.I.Source.view c.args.script.now) c.args.reader.now.lines [] was

pub judge_lines-verdict-requires-clause-room : goal.judge_lines-verdict-requires-clause-room
judge_lines-verdict-requires-clause-room g c = c.requires.room

pub judge_lines-verdict-requires-clause-within : goal.judge_lines-verdict-requires-clause-within
judge_lines-verdict-requires-clause-within g c = within_none c.in-Ok-Some.settings (machine_in c.in-Ok.machine) c.in-Ok.ensures

pub returns-clause-read : goal.returns-clause-read
returns-clause-read g c = c.judge_lines-verdict.ensures.read

pub returns-clause-judged : goal.returns-clause-judged
returns-clause-judged g c = λ start was.
    let text = c.in-Some.text.now in
    let s = c.in-Ok-Some.settings in
    let some : c.in-Ok-Some.field-0 ≡ Some s = cc in
    let is : first_text s ≡ text =
    subst (λ (o : Option Settings). MatchOption o ((s : Settings) → first_text s ≡ text → ⊥) (λ s. first_text s ≡ text)) some c.in-Ok-Some.ensures in
    c.judge_lines-verdict.ensures.judged start s c.args.output.now was c.in-Ok.ensures
    (subst (λ (t : List ℕ). BeginsWith t c.in-Some.answers.now c.args.output.now) (sym is) c.in-Some.ensures)
