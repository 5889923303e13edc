use Rattle.std.proofs.Common.{sym, ap, ◌∙◌, subst, ℕ, List}
use Rattle.std.specs.Prelude.{IfSome}
use Rattle.wtf_journal.specs.Views.{JournalView}
use Rattle.wtf_core.specs.Promises.{IsRecordOf}
use Rattle.wtf_core.specs.Views.{CoreView}
use Rattle.wtf_durable.specs.Handled.{Noted, Notes}
use Rattle.wtf_durable.specs.Views.{DurableView, ReachesGate}
use Rattle.wtf_durable.proofs.Noting.{cut_same, noted_added, noted_same, notes_added}
use Rattle.wtf_durable.proofs.durable.Durable.noted.Goals as goal

pub returns-in-Err-clause-cut : goal.returns-in-Err-clause-cut
returns-in-Err-clause-cut g c =
    subst (λ (v : DurableView). Notes g.D.Disk.kind c.args.disk.now c.args.disk.now v.journal.end v.core c.record.new.self) c.self.view_is
    (cut_same g.D.Disk.kind c.args.disk.now c.self.inside.journal.end c.self.inside.core c.record.new.self c.in-Err.ensures.closed)

pub returns-in_default-clause-noted : goal.returns-in_default-clause-noted
returns-in_default-clause-noted g c =
    subst (λ (v : DurableView). Noted g.D.Disk.kind c.args.disk.now c.args.disk.now v (record { core = c.record.new.self; journal = c.self.inside.journal }))
    c.self.view_is
    (subst (λ (x : CoreView). Noted g.D.Disk.kind c.args.disk.now c.args.disk.now (record { core = c.self.inside.core; journal = c.self.inside.journal })
    (record { core = x; journal = c.self.inside.journal })) (sym (c.in-Ok.ensures.same c.in_default.is))
    (noted_same g.D.Disk.kind c.args.disk.now (record { core = c.self.inside.core; journal = c.self.inside.journal }) (c.in-Ok.ensures.none.0 c.in_default.is)
    (ap (λ (d : DurableView). d.journal.failed) c.self.view_is ∙ c.requires.whole)
    (subst (ReachesGate g.D.Disk.kind c.args.disk.now) (sym c.self.view_is) c.requires.reach)))

pub returns-in-Ok-append-clause-noted : goal.returns-in-Ok-append-clause-noted
returns-in-Ok-append-clause-noted g c =
    let old : DurableView = record { core = c.self.inside.core; journal = c.self.inside.journal } in
    let some = subst (λ o. IfSome o (λ v. IsRecordOf c.self.inside.core c.record.new.self v.items)) c.in-Some.is c.in-Ok.ensures.changes in
    let is = subst (λ (l : List ℕ). IsRecordOf c.self.inside.core c.record.new.self l) (sym c.deref.ensures.value) some in
    subst (λ (v : DurableView). Noted g.D.Disk.kind c.args.disk.now c.append.new.disk v (record { core = c.record.new.self; journal = c.append.new.self }))
    c.self.view_is
    (noted_added g.D.Disk.kind c.args.disk.now c.append.new.disk old c.record.new.self c.deref.result.now is c.append.ensures.goes_on
    c.append.ensures.elsewhere c.append.ensures.any_moment c.append.new.self c.in-Ok-append.ensures.acknowledged
    (ap (λ (j : JournalView). j.failed) c.in-Ok-append.ensures.added) c.in-Ok-append.ensures.reach)

pub returns-in-Err-Failed-clause-cut : goal.returns-in-Err-Failed-clause-cut
returns-in-Err-Failed-clause-cut g c =
    let old : DurableView = record { core = c.self.inside.core; journal = c.self.inside.journal } in
    let some = subst (λ o. IfSome o (λ v. IsRecordOf c.self.inside.core c.record.new.self v.items)) c.in-Some.is c.in-Ok.ensures.changes in
    let is = subst (λ (l : List ℕ). IsRecordOf c.self.inside.core c.record.new.self l) (sym c.deref.ensures.value) some in
    subst (λ (v : DurableView). Notes g.D.Disk.kind c.args.disk.now c.append.new.disk v.journal.end v.core c.record.new.self) c.self.view_is
    (notes_added g.D.Disk.kind c.args.disk.now c.append.new.disk old c.record.new.self c.deref.result.now is c.append.ensures.goes_on
    c.append.ensures.elsewhere c.append.ensures.any_moment)

pub returns-in-Err-append-clause-cut : goal.returns-in-Err-append-clause-cut
returns-in-Err-append-clause-cut g c =
    let old : DurableView = record { core = c.self.inside.core; journal = c.self.inside.journal } in
    let some = subst (λ o. IfSome o (λ v. IsRecordOf c.self.inside.core c.record.new.self v.items)) c.in-Some.is c.in-Ok.ensures.changes in
    let is = subst (λ (l : List ℕ). IsRecordOf c.self.inside.core c.record.new.self l) (sym c.deref.ensures.value) some in
    subst (λ (v : DurableView). Notes g.D.Disk.kind c.args.disk.now c.append.new.disk v.journal.end v.core c.record.new.self) c.self.view_is
    (notes_added g.D.Disk.kind c.args.disk.now c.append.new.disk old c.record.new.self c.deref.result.now is c.append.ensures.goes_on
    c.append.ensures.elsewhere c.append.ensures.any_moment)
