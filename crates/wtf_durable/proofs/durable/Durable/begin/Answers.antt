use Rattle.std.proofs.Common.{rules, ◌≡◌, true, OnOk, refl, sym, ap, ◌∙◌, subst, true≢false}
use Rattle.wtf_replica.specs.Outs.{SameFrom}
use Rattle.wtf_durable.specs.Found.{IsBegun}
use Rattle.wtf_durable.specs.Views.{DurableView, durable_scene}
use Rattle.wtf_durable.proofs.Beginning.{begin_cause, begin_hands, begun_by, save_lengths}
use Rattle.wtf_durable.proofs.Judging.{handed_by}
use Rattle.wtf_durable.proofs.durable.Durable.begin.Goals as goal

pub returns-clause-begun : goal.returns-clause-begun
returns-clause-begun g c =
    let handed = handed_by g.S.Disk.kind g.D.Disk.kind _ c.save-saved.new.keeper c.args.shelf.now c.save-saved.new.shelf c.self.inside.core
    c.save-saved.new.self _ c.save-saved.result c.save-saved.ensures.does c.save-saved.ensures.fails in
    let is : true ≡ c.args.fresh = search rules in
    subst (λ b. OnOk c.first_saved.result (IsBegun g.S.Disk.kind g.D.Disk.kind b (durable_scene c.args.shelf.now c.args.disk.now c.args.self.now)
    (durable_scene c.save-saved.new.shelf c.disk-1.given.0 (record { core = c.save-saved.new.self; journal = c.save-saved.new.keeper.journal.now })))) is
    (begun_by g.S.Disk.kind g.D.Disk.kind _ c.save-saved.new.keeper c.args.shelf.now c.save-saved.new.shelf c.self.inside.core
    c.save-saved.new.self c.save-saved.result c.save-saved.ensures.does c.save-saved.ensures.fails
    c.save-saved.ensures.stays refl (ap (λ (d : DurableView). d.journal.failed) c.self.view_is ∙ c.requires.whole) c.disk-1.given.0
    (c.disk-1.given.1 (sym handed.follows.disk)) c.args.self.now c.self.view_is c.judged.result c.failed.result c.failed.ensures
    c.judged.ensures.answered c.first_saved.result c.requires.reach c.first_saved.ensures.saved)

pub returns-clause-hands : goal.returns-clause-hands
returns-clause-hands g c =
    let handed = handed_by g.S.Disk.kind g.D.Disk.kind _ c.save-saved.new.keeper c.args.shelf.now c.save-saved.new.shelf c.self.inside.core
    c.save-saved.new.self _ c.save-saved.result c.save-saved.ensures.does c.save-saved.ensures.fails in
    begin_hands g.S.Disk.kind g.D.Disk.kind _ c.save-saved.new.keeper c.args.shelf.now c.save-saved.new.shelf c.self.inside.core
    c.save-saved.new.self c.save-saved.result c.save-saved.ensures.does c.save-saved.ensures.fails
    c.save-saved.ensures.stays refl (ap (λ (d : DurableView). d.journal.failed) c.self.view_is ∙ c.requires.whole) c.disk-1.given.0
    (c.disk-1.given.1 (sym handed.follows.disk)) c.args.self.now c.self.view_is

pub returns-clause-cause : goal.returns-clause-cause
returns-clause-cause g c =
    λ failed.
    let handed = handed_by g.S.Disk.kind g.D.Disk.kind _ c.save-saved.new.keeper c.args.shelf.now c.save-saved.new.shelf c.self.inside.core
    c.save-saved.new.self _ c.save-saved.result c.save-saved.ensures.does c.save-saved.ensures.fails in
    begin_cause g.S.Disk.kind g.D.Disk.kind _ c.save-saved.new.keeper c.args.shelf.now c.save-saved.new.shelf c.self.inside.core
    c.save-saved.new.self c.save-saved.result c.save-saved.ensures.does c.save-saved.ensures.fails
    c.save-saved.ensures.stays refl (ap (λ (d : DurableView). d.journal.failed) c.self.view_is ∙ c.requires.whole) c.disk-1.given.0
    (c.disk-1.given.1 (sym handed.follows.disk)) c.args.self.now c.self.view_is c.judged.result c.failed.result c.failed.ensures
    c.judged.ensures.answered c.requires.up c.judged.ensures.journal (c.first_saved.ensures.other failed)

pub returns-clause-lengths : goal.returns-clause-lengths
returns-clause-lengths g c = save_lengths _ _ _ _ c.save-saved.ensures.stays.leaves

pub returns-clause-past : goal.returns-clause-past
returns-clause-past g c =
    subst (λ (d : DurableView). SameFrom d.core.settings.servers c.args.shelf.now c.save-saved.new.shelf) c.self.view_is
    c.save-saved.ensures.stays.leaves.past

pub returns-clause-untouched : goal.returns-clause-untouched
returns-clause-untouched g c =
    λ old.
    let is : true ≡ c.args.fresh = search rules in absurd (true≢false (is ∙ old))

pub returns-clause-saving : goal.returns-clause-saving
returns-clause-saving g c =
    λ err.
    let is : true ≡ c.args.fresh = search rules in sym is
