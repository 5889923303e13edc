use Rattle.std.proofs.Common.{◌≡◌, Some, Ok}
use Rattle.wtf_script.specs.declared.lines.Line.TheVariants as line
use Rattle.wtf_carry.proofs.GetLaws.{came-whole, came-long}
use Rattle.wtf_carry.proofs.getting.next_line.Goals as goal

pub returns-in-Ok-Some-Whole-clause-came : goal.returns-in-Ok-Some-Whole-clause-came
returns-in-Ok-Some-Whole-clause-came g c = λ rest from over.
    let is : c.next.result ≡ Ok (Some (line.Whole c.in-Ok-Some-Whole.bytes)) = cc in
    came-whole c.in-Ok-Some-Whole.bytes c.args.lines.now c.next.new.self rest (g.I.Source.view c.next.new.source).rest c.next.result is
    (c.next.ensures.told rest from)
    (λ then left. c.next.ensures.counted rest then from left)

pub returns-in-Ok-Some-Long-clause-came : goal.returns-in-Ok-Some-Long-clause-came
returns-in-Ok-Some-Long-clause-came g c = λ rest from over.
    let is : c.next.result ≡ Ok (Some line.Long) = cc in
    came-long c.args.lines.now c.next.new.self rest (g.I.Source.view c.next.new.source).rest c.next.result is (c.next.ensures.told rest from)
    (λ then left. c.next.ensures.counted rest then from left)
