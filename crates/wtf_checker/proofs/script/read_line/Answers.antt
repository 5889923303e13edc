use Rattle.wtf_checker.proofs.Scripted.{next_is, less_is}
use Rattle.wtf_checker.proofs.script.read_line.Goals as goal

pub returns-clause-next : goal.returns-clause-next
returns-clause-next g c = λ start lines was.
    let e = c.next-got.ensures in
    next_is start (g.I.Source.view c.args.script.now) (g.I.Source.view c.next-got.new.source) c.args.reader.now.lines c.next-got.new.self lines was
    c.next-got.result (record {
      told = e.told;
      counts = e.counted;
      draws = e.given;
      grows = e.grows;
      much = e.too_much;
      progress = e.progress;
      faults = e.faults;
      cause = e.cause;
    }) c.asked_by-asked.result c.asked_by-asked.ensures.asks

pub returns-clause-less : goal.returns-clause-less
returns-clause-less g c = less_is c.args.reader.now.lines c.next-got.new.self c.next-got.result c.next-got.ensures.progress c.asked_by-asked.result
    c.asked_by-asked.ensures.asks
