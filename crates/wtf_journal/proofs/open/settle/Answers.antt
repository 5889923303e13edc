use Rattle.std.proofs.Common.{◌≡◌, ◌≤◌, ◌∙◌, true, length, arith}
use Rattle.wtf_journal.proofs.Within.{sync_ends}
use Rattle.wtf_journal.proofs.Opens.{sync_keeps, gate_keeps}
use Rattle.wtf_journal.proofs.open.settle.Goals as goal

pub returns-clause-any_moment : goal.returns-clause-any_moment
returns-clause-any_moment g c = λ tells.
    let kind = g.D.Disk.kind in
    let laws = g.met.D.Disk.laws in
    let old = c.args.disk.now in
    let mid = c.sync.new.self in
    let still : (kind.view mid).tells ≡ true = c.sync.ensures.kept.goes_on.tells ∙ tells in
    let sizes = c.sync.ensures.kept.sizes 0 in
    let short : length ((kind.view old).file 0).seen ≤ 1 = omega (arith, laws.lengths old 0 tells, c.if-size-gt1.false, c.length-size.ensures.value, sizes) in
    gate_keeps kind laws old mid tells c.write_through.new.disk
    (sync_keeps kind laws old mid tells c.sync.result c.sync.ensures.kept
    (sync_ends kind 0 c.sync.result old mid laws tells c.sync.ensures.settled c.sync.ensures.remains))
    still (c.in_ok-sync.ensures.settled tells) short c.write_through.ensures.kept
