use Rattle.std.proofs.Common.{◌≡◌, Option, Some, Ok, ap, ◌∙◌}
use Rattle.wtf_script.specs.declared.lines.Line.{Line}
use Rattle.wtf_script.specs.declared.lines.Line.TheVariants as line
use Rattle.wtf_serve.specs.Passes.{input}
use Rattle.wtf_serve.proofs.Passing.{line_long, short_line}
use Rattle.wtf_serve.proofs.service.read_line.Goals as goal

pub returns-in-Ok-Some-Long-clause-came : goal.returns-in-Ok-Some-Long-clause-came
returns-in-Ok-Some-Long-clause-came g c =
    let is : c.next.result ≡ Ok (Some line.Long) = cc in
    line_long (input (g.I.Source.view c.args.script.now) c.args.reader.now.lines) (input (g.I.Source.view c.next.new.source) c.next.new.self)
    c.next.result is c.next.ensures.told c.next.ensures.progress

-- no memory was found for what the line asks
pub returns-in-Ok-Some-Whole-clause-came : goal.returns-in-Ok-Some-Whole-clause-came
returns-in-Ok-Some-Whole-clause-came g c =
    let is : c.next.result ≡ Ok (Some (line.Whole c.in-Ok-Some-Whole.line))
    = c.in-Ok-Some-Whole.is ∙ ap (λ (o : Option Line). Ok o) (c.in-Ok-Some-Whole.field-0-is ∙ ap (λ (l : Line). Some l) c.in-Ok-Some-Whole.field-0-0-is) in
    short_line (input (g.I.Source.view c.args.script.now) c.args.reader.now.lines) (input (g.I.Source.view c.next.new.source) c.next.new.self)
    c.in-Ok-Some-Whole.line c.next.result is c.next.ensures.told
