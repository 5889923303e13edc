use Rattle.std.proofs.Common.{◌≡◌, Ok, Err, true, false, Bool, Result, subst}
use Rattle.wtf_checker.specs.declared.stop.Stop.{Stop}
use Rattle.wtf_checker.specs.Reading.{IsMore}
use Rattle.wtf_checker.proofs.Scripted.{went_on, went_out, went_wrong}
use Rattle.wtf_checker.proofs.script.skip.Goals as goal

pub loop-stop-preserved : goal.loop-stop-preserved
loop-stop-preserved g c = record {
  read = λ start lines was.
      let now = c.loop-stop.invariant.read start lines was in
      let asked = c.read_line-asked in
      let is : c.is_more-more.result ≡ Ok true = cc in
      went_on start (g.I.Source.view asked.new.script) asked.new.reader.lines now.0 asked.result (asked.ensures.next start now.0 now.1)
      (subst (λ (r : Result Bool Stop). IsMore asked.result r) is c.is_more-more.ensures);
}

pub returns-in-Ok-false : goal.returns-in-Ok-false
returns-in-Ok-false g c = λ start lines was.
    let now = c.loop-stop.invariant.read start lines was in
    let asked = c.read_line-asked in
    let is : c.is_more-more.result ≡ Ok false = cc in (
      now.0,
      went_out start (g.I.Source.view asked.new.script) asked.new.reader.lines now.0 asked.result (asked.ensures.next start now.0 now.1)
          (subst (λ (r : Result Bool Stop). IsMore asked.result r) is c.is_more-more.ensures),
    )

pub returns-in-Err : goal.returns-in-Err
returns-in-Err g c = λ start lines was.
    let now = c.loop-stop.invariant.read start lines was in
    let asked = c.read_line-asked in
    let is : c.is_more-more.result ≡ Err c.in-Err.stop = cc in
    went_wrong start (g.I.Source.view asked.new.script) asked.new.reader.lines now.0 asked.result c.in-Err.stop (asked.ensures.next start now.0 now.1)
    (subst (λ (r : Result Bool Stop). IsMore asked.result r) is c.is_more-more.ensures)
