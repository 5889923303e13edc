use Rattle.std.proofs.Common.{subst, sym}
use Rattle.wtf_file.specs.declared.task.Task.{Task}
use Rattle.wtf_file.specs.declared.task.Task.TheVariants as task
use Rattle.wtf_file.specs.Program.{streams, IsOutcome}
use Rattle.wtf_file.proofs.OutcomeLaws.{outcome}
use Rattle.wtf_file.proofs.run.Goals as goal

pub returns-in-Put : goal.returns-in-Put
returns-in-Put g c =
    let old = streams (g.I.Source.view c.args.from.now) (g.O.Sink.view c.args.out.now) in
    let new = streams (g.I.Source.view c.put.new.from) (g.O.Sink.view c.put.new.out) in
    let P : Task → Type 0 = λ t. IsOutcome t c.put.result old new in
    subst P (sym c.in-Put.is) (outcome (task.Put c.in-Put.path) c.put.result old new (record {
      does = c.put.ensures.put;
      unread = c.put.ensures.unread;
      unwritten = c.put.ensures.unwritten;
      wrong = c.put.ensures.no_answer;
      too_long = c.put.ensures.too_long;
    }))

pub returns-in-Get : goal.returns-in-Get
returns-in-Get g c =
    let old = streams (g.I.Source.view c.args.from.now) (g.O.Sink.view c.args.out.now) in
    let new = streams (g.I.Source.view c.get.new.from) (g.O.Sink.view c.get.new.out) in
    let P : Task → Type 0 = λ t. IsOutcome t c.get.result old new in
    subst P (sym c.in-Get.is) (outcome (task.Get c.in-Get.len) c.get.result old new (record {
      does = c.get.ensures.gets;
      unread = c.get.ensures.unread;
      unwritten = c.get.ensures.unwritten;
      wrong = c.get.ensures.wrong;
      too_long = c.get.ensures.too_long;
    }))
