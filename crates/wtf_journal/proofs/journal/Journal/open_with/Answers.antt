use Rattle.std.proofs.Common.{◌≡◌, ◌∙◌, ◌≤◌, ℕ, List, true, length, ap, sym, subst, arith}
use Rattle.wtf_dev.specs.Disk.{DiskFileView, IsSettled}
use Rattle.wtf_journal.specs.Views.{JournalView}
use Rattle.wtf_journal.specs.Moments.{weaker}
use Rattle.wtf_journal.specs.Scan.{KeepsJournal, KeepsMeaning, OpensTo, ReadsTo}
use Rattle.wtf_journal.proofs.Scans.{keeps_meaning, read_exact}
use Rattle.wtf_journal.proofs.Opens.{opens_short, opens_long, read_keeps}
use Rattle.wtf_journal.proofs.journal.Journal.open_with.Goals as goal

pub returns-in-Err-clause-any_moment : goal.returns-in-Err-clause-any_moment
returns-in-Err-clause-any_moment g c = λ tells.
    let old = g.D.Disk.kind.view c.args.disk.now in
    weaker g.D.Disk.kind c.args.disk.now c.settle.new.disk (KeepsJournal old) (KeepsMeaning g.M.Meaning.makes c.args.meaning.now old)
    (c.settle.ensures.any_moment tells)
    (λ x keeps. keeps_meaning g.M.Meaning.makes c.args.meaning.now old x keeps)

pub returns-then-size-le1-clause-any_moment : goal.returns-then-size-le1-clause-any_moment
returns-then-size-le1-clause-any_moment g c = λ tells.
    let old = g.D.Disk.kind.view c.args.disk.now in
    weaker g.D.Disk.kind c.args.disk.now c.settle.new.disk (KeepsJournal old) (KeepsMeaning g.M.Meaning.makes c.args.meaning.now old)
    (c.settle.ensures.any_moment tells)
    (λ x keeps. keeps_meaning g.M.Meaning.makes c.args.meaning.now old x keeps)

pub returns-then-size-le1-clause-opened : goal.returns-then-size-le1-clause-opened
returns-then-size-le1-clause-opened g c = λ tells.
    let kind = g.D.Disk.kind in
    let old = c.args.disk.now in
    let short : length ((kind.view old).file 0).seen ≤ 1 = omega (arith, g.met.D.Disk.laws.lengths old 0 tells, c.in-Ok.ensures.size, c.if-size-le1.true) in
    subst (λ (end : ℕ). OpensTo g.M.Meaning.makes kind old c.settle.new.disk end c.args.meaning.now c.args.meaning.now)
    (sym (ap (λ (v : JournalView). v.end) c.at.ensures))
    (opens_short g.M.Meaning.makes kind old c.settle.new.disk c.args.meaning.now short (c.in-Ok.ensures.closed tells c.if-size-le1.true))

pub returns-in-Err-read-clause-any_moment : goal.returns-in-Err-read-clause-any_moment
returns-in-Err-read-clause-any_moment g c = λ tells.
    read_keeps g.D.Disk.kind g.met.D.Disk.laws c.args.disk.now c.settle.new.disk tells g.M.Meaning.makes c.args.meaning.now c.read.new.disk
    (c.settle.ensures.any_moment tells)
    (c.settle.ensures.goes_on.tells ∙ tells) (c.in-Ok.ensures.settled tells (omega (arith, c.if-size-le1.false))) c.read.ensures.kept

pub returns-in-Err-read-clause-untouched : goal.returns-in-Err-read-clause-untouched
returns-in-Err-read-clause-untouched g c = λ n is tells.
    subst (λ (v : DiskFileView). IsSettled ((g.D.Disk.kind.view c.args.disk.now).file 0).seen v)
    (sym (c.read.ensures.kept.files (c.settle.ensures.goes_on.tells ∙ tells) 0))
    (c.in-Ok.ensures.settled tells (omega (arith, c.if-size-le1.false)))

pub returns-clause-any_moment : goal.returns-clause-any_moment
returns-clause-any_moment g c = λ tells.
    read_keeps g.D.Disk.kind g.met.D.Disk.laws c.args.disk.now c.settle.new.disk tells g.M.Meaning.makes c.args.meaning.now c.read.new.disk
    (c.settle.ensures.any_moment tells)
    (c.settle.ensures.goes_on.tells ∙ tells) (c.in-Ok.ensures.settled tells (omega (arith, c.if-size-le1.false))) c.read.ensures.kept

pub returns-clause-exact : goal.returns-clause-exact
returns-clause-exact g c = λ tells n bad.
    let settled = c.in-Ok.ensures.settled tells (omega (arith, c.if-size-le1.false)) in
    read_exact g.M.Meaning.makes c.args.meaning.now ((g.D.Disk.kind.view c.args.disk.now).file 0).seen c.in-Ok-read.end n c.read.new.meaning
    (subst (λ (l : List ℕ). ReadsTo g.M.Meaning.makes c.args.meaning.now l c.in-Ok-read.end c.read.new.meaning) settled.seen
    (c.in-Ok-read.ensures.read (c.settle.ensures.goes_on.tells ∙ tells)))
    bad

pub returns-clause-opened : goal.returns-clause-opened
returns-clause-opened g c = λ tells.
    let kind = g.D.Disk.kind in
    let old = c.args.disk.now in
    let seen = ((kind.view old).file 0).seen in
    let still : (kind.view c.settle.new.disk).tells ≡ true = c.settle.ensures.goes_on.tells ∙ tells in
    let settled = c.in-Ok.ensures.settled tells (omega (arith, c.if-size-le1.false)) in
    subst (λ (end : ℕ). OpensTo g.M.Meaning.makes kind old c.read.new.disk end c.args.meaning.now c.read.new.meaning)
    (sym (ap (λ (v : JournalView). v.end) c.at-2.ensures))
    (opens_long g.M.Meaning.makes kind old c.read.new.disk c.args.meaning.now c.in-Ok-read.end c.read.new.meaning
    (subst (λ (v : DiskFileView). IsSettled seen v) (sym (c.read.ensures.kept.files still 0)) settled)
    (subst (λ (l : List ℕ). ReadsTo g.M.Meaning.makes c.args.meaning.now l c.in-Ok-read.end c.read.new.meaning) settled.seen
    (c.in-Ok-read.ensures.read still)))
