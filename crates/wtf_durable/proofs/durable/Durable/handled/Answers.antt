use Rattle.std.proofs.Common.{refl, sym, ap, ◌∙◌, subst}
use Rattle.wtf_journal.specs.Follows.{synced_kind}
use Rattle.wtf_core.specs.Named.{IsInside}
use Rattle.wtf_durable.specs.Views.{DurableView}
use Rattle.wtf_durable.proofs.Judging.{cause_result, goes_by, handed_by, handled_result, lost_result}
use Rattle.wtf_durable.proofs.durable.Durable.handled.Goals as goal

pub event-answered-requires-clause-inside : goal.event-answered-requires-clause-inside
event-answered-requires-clause-inside g c =
    subst (λ (d : DurableView). IsInside (synced_kind g.S.Disk.kind) c.args.shelf.now d.core) (sym c.self.view_is) c.requires.sound.inside

pub shape_of-self-inside : goal.shape_of-self-inside
shape_of-self-inside g c =
    sym (handed_by g.S.Disk.kind g.D.Disk.kind _ c.event-answered.new.keeper c.args.shelf.now c.event-answered.new.shelf c.self.inside.core
    c.event-answered.new.self c.args.event.now c.event-answered.result c.event-answered.ensures.does c.event-answered.ensures.fails).follows.journal

pub returns-clause-handled : goal.returns-clause-handled
returns-clause-handled g c =
    let handed = handed_by g.S.Disk.kind g.D.Disk.kind _ c.event-answered.new.keeper c.args.shelf.now c.event-answered.new.shelf c.self.inside.core
    c.event-answered.new.self c.args.event.now c.event-answered.result c.event-answered.ensures.does c.event-answered.ensures.fails in
    handled_result g.S.Disk.kind g.D.Disk.kind _ c.event-answered.new.keeper c.args.shelf.now c.event-answered.new.shelf c.self.inside.core
    c.event-answered.new.self c.args.event.now c.event-answered.result c.event-answered.ensures.does c.event-answered.ensures.fails
    c.event-answered.ensures.stays refl (ap (λ (d : DurableView). d.journal.failed) c.self.view_is ∙ c.requires.sound.whole) c.disk-1.given.0
    (c.disk-1.given.1 (sym handed.follows.disk)) c.args.self.now c.self.view_is c.judged.result c.failed.result c.failed.ensures c.requires.reach
    c.judged.ensures.answered

pub returns-clause-lost : goal.returns-clause-lost
returns-clause-lost g c =
    let handed = handed_by g.S.Disk.kind g.D.Disk.kind _ c.event-answered.new.keeper c.args.shelf.now c.event-answered.new.shelf c.self.inside.core
    c.event-answered.new.self c.args.event.now c.event-answered.result c.event-answered.ensures.does c.event-answered.ensures.fails in
    lost_result g.S.Disk.kind g.D.Disk.kind _ c.event-answered.new.keeper c.args.shelf.now c.event-answered.new.shelf c.self.inside.core
    c.event-answered.new.self c.args.event.now c.event-answered.result c.event-answered.ensures.does c.event-answered.ensures.fails
    c.event-answered.ensures.stays refl (ap (λ (d : DurableView). d.journal.failed) c.self.view_is ∙ c.requires.sound.whole) c.disk-1.given.0
    (c.disk-1.given.1 (sym handed.follows.disk)) c.args.self.now c.self.view_is c.judged.result c.failed.result c.failed.ensures c.judged.ensures.flagged

pub returns-clause-goes_on : goal.returns-clause-goes_on
returns-clause-goes_on g c =
    let handed = handed_by g.S.Disk.kind g.D.Disk.kind _ c.event-answered.new.keeper c.args.shelf.now c.event-answered.new.shelf c.self.inside.core
    c.event-answered.new.self c.args.event.now c.event-answered.result c.event-answered.ensures.does c.event-answered.ensures.fails in
    goes_by g.S.Disk.kind g.D.Disk.kind _ c.event-answered.new.keeper c.args.shelf.now c.event-answered.new.shelf c.self.inside.core
    c.event-answered.new.self c.args.event.now c.event-answered.result c.event-answered.ensures.does c.event-answered.ensures.fails
    c.event-answered.ensures.stays refl (ap (λ (d : DurableView). d.journal.failed) c.self.view_is ∙ c.requires.sound.whole) c.disk-1.given.0
    (c.disk-1.given.1 (sym handed.follows.disk)) c.args.self.now c.self.view_is

pub returns-clause-cause : goal.returns-clause-cause
returns-clause-cause g c =
    λ failed.
    let handed = handed_by g.S.Disk.kind g.D.Disk.kind _ c.event-answered.new.keeper c.args.shelf.now c.event-answered.new.shelf c.self.inside.core
    c.event-answered.new.self c.args.event.now c.event-answered.result c.event-answered.ensures.does c.event-answered.ensures.fails in
    cause_result g.S.Disk.kind g.D.Disk.kind _ c.event-answered.new.keeper c.args.shelf.now c.event-answered.new.shelf c.self.inside.core
    c.event-answered.new.self c.args.event.now c.event-answered.result c.event-answered.ensures.does c.event-answered.ensures.fails
    c.event-answered.ensures.stays refl (ap (λ (d : DurableView). d.journal.failed) c.self.view_is ∙ c.requires.sound.whole) c.disk-1.given.0
    (c.disk-1.given.1 (sym handed.follows.disk)) c.args.self.now c.self.view_is c.judged.result c.failed.result c.failed.ensures
    (c.judged.ensures.journal failed)
