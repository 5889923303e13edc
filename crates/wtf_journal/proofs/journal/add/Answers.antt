use Rattle.std.proofs.Common.{◌≡◌, ◌∙◌, ◌+◌, ◌<◌, ◌⊎◌, [], ◌∷◌, ℕ, List, true, length, inl, inr, arith, ap, subst}
use Rattle.wtf_dev.specs.Disk.{IsSettled, overwritten}
use Rattle.wtf_journal.specs.Moments.{joins, weaker, goes_on_on}
use Rattle.wtf_journal.specs.Records.{IsShut, IsGated}
use Rattle.wtf_journal.proofs.Front.{front_stays}
use Rattle.wtf_journal.proofs.Torn.{torn_from}
use Rattle.wtf_journal.proofs.Bytes.{shut, set, done, behind_longer, on_ok}
use Rattle.wtf_journal.proofs.journal.add.Goals as goal

pub returns-clause-done : goal.returns-clause-done
returns-clause-done g c =
    on_ok c.write_through-2.result _ _ (λ lasts tells.
    let kind = g.D.Disk.kind in
    let old = c.args.disk.now in
    let mid = c.write_through.new.disk in
    let seen = ((kind.view old).file 0).seen in
    let inside : c.args.at < length seen = omega (arith, c.requires.reach, g.met.D.Disk.laws.lengths old 0 tells) in
    let still : (kind.view mid).tells ≡ true = c.write_through.ensures.kept.goes_on.tells ∙ tells in
    subst (λ (l : List ℕ). IsSettled l ((kind.view c.write_through-2.new.disk).file 0))
    (ap (λ (l : List ℕ). overwritten l c.args.at (1 ∷ [])) (c.in_ok-write_through.ensures.lasts tells).seen ∙ done seen c.args.bytes.now c.args.at inside)
    (lasts still))
    c.write_through-2.ensures.lasts

pub returns-clause-any_moment : goal.returns-clause-any_moment
returns-clause-any_moment g c = λ s tells settled.
    let kind = g.D.Disk.kind in
    let old = c.args.disk.now in
    let mid = c.write_through.new.disk in
    let inside : c.args.at < length s = omega (arith, c.requires.reach, g.met.D.Disk.laws.lengths old 0 tells, ap length settled.seen) in
    let still : (kind.view mid).tells ≡ true = c.write_through.ensures.kept.goes_on.tells ∙ tells in
    let behind = subst (λ (l : List ℕ). IsSettled (overwritten l (c.args.at + 1) c.args.bytes.now) ((kind.view mid).file 0)) settled.seen
    (c.in_ok-write_through.ensures.lasts tells) in
    joins kind old mid c.write_through-2.new.disk _ _ (λ x. IsShut s c.args.at (x 0) ⊎ IsGated s c.args.at c.args.bytes.now (x 0))
    (c.write_through.ensures.kept.moments tells)
    (c.write_through-2.ensures.kept.moments still)
    (λ x torn. inl (shut s c.args.bytes.now c.args.at inside (x 0)
    (torn_from s x (kind.view old) 0 (c.args.at + 1) (length c.args.bytes.now) settled (omega (arith, inside)) torn)))
    (λ x torn. inr (set s c.args.bytes.now c.args.at inside (x 0)
    (torn_from (overwritten s (c.args.at + 1) c.args.bytes.now) x (kind.view mid) 0 c.args.at 1 behind
    (omega (arith, behind_longer s c.args.bytes.now c.args.at inside)) torn)))

pub returns-in_err-write_through-clause-any_moment : goal.returns-in_err-write_through-clause-any_moment
returns-in_err-write_through-clause-any_moment g c = λ s tells settled.
    let kind = g.D.Disk.kind in
    let old = c.args.disk.now in
    let inside : c.args.at < length s = omega (arith, c.requires.reach, g.met.D.Disk.laws.lengths old 0 tells, ap length settled.seen) in
    weaker kind old c.write_through.new.disk _ (λ x. IsShut s c.args.at (x 0) ⊎ IsGated s c.args.at c.args.bytes.now (x 0))
    (c.write_through.ensures.kept.moments tells)
    (λ x torn. inl (shut s c.args.bytes.now c.args.at inside (x 0)
    (torn_from s x (kind.view old) 0 (c.args.at + 1) (length c.args.bytes.now) settled (omega (arith, inside)) torn)))

pub returns-clause-goes_on : goal.returns-clause-goes_on
returns-clause-goes_on g c = goes_on_on g.D.Disk.kind c.args.disk.now c.write_through.new.disk c.write_through-2.new.disk c.write_through.ensures.kept.goes_on
    c.write_through-2.ensures.kept.goes_on

pub returns-clause-elsewhere : goal.returns-clause-elsewhere
returns-clause-elsewhere g c = λ tells f ne.
    c.write_through-2.ensures.kept.elsewhere (c.write_through.ensures.kept.goes_on.tells ∙ tells) f ne ∙ c.write_through.ensures.kept.elsewhere tells f ne

pub returns-clause-front : goal.returns-clause-front
returns-clause-front g c = λ tells.
    let kind = g.D.Disk.kind in
    let laws = g.met.D.Disk.laws in
    let old = c.args.disk.now in
    let mid = c.write_through.new.disk in
    let first = c.write_through.ensures.kept in
    front_stays kind laws c.args.at c.args.at 1 mid c.write_through-2.new.disk (omega arith) (omega (arith, c.requires.reach, first.goes_on.size 0))
    c.write_through-2.ensures.kept (first.goes_on.tells ∙ tells)
    ∙ front_stays kind laws c.args.at (c.args.at + 1) (length c.args.bytes.now) old mid (omega arith) (omega (arith, c.requires.reach)) first tells

pub returns-in_err-write_through-clause-front : goal.returns-in_err-write_through-clause-front
returns-in_err-write_through-clause-front g c = λ tells.
    front_stays g.D.Disk.kind g.met.D.Disk.laws c.args.at (c.args.at + 1) (length c.args.bytes.now) c.args.disk.now c.write_through.new.disk (omega arith)
    (omega (arith, c.requires.reach)) c.write_through.ensures.kept tells
