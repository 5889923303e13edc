use Rattle.std.proofs.Common.{ap}
use Rattle.wtf_script.specs.Reading.{Held}
use Rattle.wtf_script.proofs.Chunks.{whole_part, front_part}
use Rattle.wtf_script.proofs.lines.Lines.take_part.Goals as goal

pub returns-in_ok-keep-in-Some-clause-parts : goal.returns-in_ok-keep-in-Some-clause-parts
returns-in_ok-keep-in-Some-clause-parts c =
    let feed = c.in-Some.ensures in
    whole_part c.deref.result.now c.self.inside.buffer.items c.args.self.now.bytes c.args.line.now.items c.keep.new.line.items c.self.inside.at c.self.inside.filled c.in-Some.n
    c.deref.ensures.value (ap (λ (h : Held). h.bytes) c.self.view_is) feed.0 feed.1 feed.2 c.in_ok-keep-in-Some.ensures.items

pub returns-in_ok-keep-in-None-clause-parts : goal.returns-in_ok-keep-in-None-clause-parts
returns-in_ok-keep-in-None-clause-parts c =
    front_part c.deref.result.now c.self.inside.buffer.items c.args.self.now.bytes c.args.line.now.items c.keep-in-None.new.line.items c.self.inside.at c.self.inside.filled
    c.deref.ensures.value (ap (λ (h : Held). h.bytes) c.self.view_is) c.in-None.ensures c.in_ok-keep-in-None.ensures.items
