use Rattle.std.proofs.Common.{sym, subst}
use Rattle.wtf_model.specs.Lines.{Line}
use Rattle.wtf_core.proofs.Lent.{on_any}
use Rattle.wtf_journal.specs.Follows.{synced_laws}
use Rattle.wtf_serve.specs.Answering.{IsFormLine}
use Rattle.wtf_serve.specs.Engines.{IsAnswer, step}
use Rattle.wtf_serve.specs.Stocks.{stock}
use Rattle.wtf_durable.specs.Views.{blind, durable_scene}
use Rattle.wtf_journaled.specs.Added.{LineAdds}
use Rattle.wtf_journaled.specs.Breaks.{SurvivesLine}
use Rattle.wtf_journaled.specs.Engine.{journaled, journaled_engine}
use Rattle.wtf_journaled.proofs.Adding.{bad_adds, event_adds}
use Rattle.wtf_journaled.proofs.LineLaws.{bad_is, disk_same, event_is, event_survives}
use Rattle.wtf_journaled.proofs.lines.answer.Goals as goal

pub returns-in_ok-answer-in-Ok-clause-is : goal.returns-in_ok-answer-in-Ok-clause-is
returns-in_ok-answer-in-Ok-clause-is g c =
    let stores = g.S.Disk.kind in
    let kind = g.D.Disk.kind in
    let old = durable_scene c.args.shelf.now c.args.disk.now c.args.durable.now in
    let new = durable_scene c.event.new.shelf c.event.new.disk c.event.new.self in
    let t = step (stock c.args.shelf.now (blind (kind.view c.args.disk.now))) (stock c.event.new.shelf (blind (kind.view c.event.new.disk)))
    (journaled c.args.durable.now c.args.disk.now) (journaled c.event.new.self c.event.new.disk) in
    let is = c.in_ok-answer-in-Ok.ensures in
    let a = c.in_ok-answer-in-Ok.answer in
    subst (λ (e : Line). IsAnswer (journaled_engine stores kind) t e a) (sym c.in-Ok.is)
    (event_is stores kind old new c.in-Ok.event a is.does c.event.ensures.goes_on is.lasts)

pub returns-in_err-answer-in-Ok-clause-survives : goal.returns-in_err-answer-in-Ok-clause-survives
returns-in_err-answer-in-Ok-clause-survives g c =
    let stores = g.S.Disk.kind in
    let kind = g.D.Disk.kind in
    let old = durable_scene c.args.shelf.now c.args.disk.now c.args.durable.now in
    let new = durable_scene c.event.new.shelf c.event.new.disk c.event.new.self in
    on_any c.from_residual.result
    (subst (λ (e : Line). SurvivesLine stores kind old new e) (sym c.in-Ok.is)
    (event_survives stores kind old new c.in-Ok.event _ c.in_err-answer-in-Ok.ensures.survives c.in_err-answer-in-Ok.ensures.numbers))

pub returns-in-Err-clause-is : goal.returns-in-Err-clause-is
returns-in-Err-clause-is g c =
    let stores = g.S.Disk.kind in
    let kind = g.D.Disk.kind in
    let here = durable_scene c.args.shelf.now c.args.disk.now c.args.durable.now in
    let t = step (stock here.shelf (blind (kind.view here.disk))) (stock here.shelf (blind (kind.view here.disk)))
    (journaled here.durable here.disk) (journaled here.durable here.disk) in
    subst (λ (e : Line). IsAnswer (journaled_engine stores kind) t e c.in-Err.bad) (sym c.in-Err.is)
    (bad_is stores kind (synced_laws stores g.met.S.Disk.laws) here c.in-Err.bad c.requires.sound (subst IsFormLine c.in-Err.is c.requires.form))

pub returns-in-Err-clause-goes_on : goal.returns-in-Err-clause-goes_on
returns-in-Err-clause-goes_on g c = disk_same g.D.Disk.kind c.args.disk.now

pub returns-in_ok-answer-in-Ok-clause-past : goal.returns-in_ok-answer-in-Ok-clause-past
returns-in_ok-answer-in-Ok-clause-past g c = c.in_ok-answer-in-Ok.ensures.does.leaves.past

pub returns-in_err-answer-in-Ok-clause-past : goal.returns-in_err-answer-in-Ok-clause-past
returns-in_err-answer-in-Ok-clause-past g c = c.in_err-answer-in-Ok.ensures.leaves.past

pub returns-in_ok-answer-in-Ok-clause-added : goal.returns-in_ok-answer-in-Ok-clause-added
returns-in_ok-answer-in-Ok-clause-added g c =
    let stores = g.S.Disk.kind in
    let kind = g.D.Disk.kind in
    let old = durable_scene c.args.shelf.now c.args.disk.now c.args.durable.now in
    let new = durable_scene c.event.new.shelf c.event.new.disk c.event.new.self in
    let a = c.in_ok-answer-in-Ok.answer in
    subst (λ (e : Line). LineAdds kind (journaled old.durable old.disk) (journaled new.durable new.disk) e a) (sym c.in-Ok.is)
    (event_adds stores kind old new c.in-Ok.event a c.requires.sound.durable c.in_ok-answer-in-Ok.ensures.does)

pub returns-in-Err-clause-added : goal.returns-in-Err-clause-added
returns-in-Err-clause-added g c =
    let here = journaled c.args.durable.now c.args.disk.now in
    subst (λ (e : Line). LineAdds g.D.Disk.kind here here e c.in-Err.bad) (sym c.in-Err.is) (bad_adds g.S.Disk.kind g.D.Disk.kind here c.in-Err.bad)
