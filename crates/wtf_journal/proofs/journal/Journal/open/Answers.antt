use Rattle.std.proofs.Common.{◌≡◌, ◌∙◌, ℕ, ap, length, rules, subst, sym}
use Rattle.wtf_journal.specs.Held.{IsJournalOpened}
use Rattle.wtf_journal.specs.Views.{JournalView, noted}
use Rattle.wtf_journal.specs.Moments.{goes_on_on}
use Rattle.wtf_journal.proofs.Follow.{rose_later}
use Rattle.wtf_journal.proofs.Renewed.{all_moments, is_opened, read_moments, refused_back, refused_seen}
use Rattle.wtf_journal.proofs.Scans.{err_of}
use Rattle.wtf_journal.proofs.journal.Journal.open.Goals as goal

pub returns-in-Err-clause-any_moment : goal.returns-in-Err-clause-any_moment
returns-in-Err-clause-any_moment g c = λ tells.
    read_moments c.none-held.result c.none-held.ensures g.D.Disk.kind c.args.disk.now c.open_with.new.disk (c.open_with.ensures.any_moment tells)

pub returns-in-Err-clause-refused : goal.returns-in-Err-clause-refused
returns-in-Err-clause-refused g c = λ n is tells.
    refused_seen c.none-held.result c.none-held.ensures ((g.D.Disk.kind.view c.args.disk.now).file 0).seen n (c.in-Err.ensures.refused n (err_of _ _ is) tells)

pub returns-in-Err-clause-untouched : goal.returns-in-Err-clause-untouched
returns-in-Err-clause-untouched g c = λ n is tells. c.in-Err.ensures.untouched n (err_of _ _ is) tells

pub returns-in-Err-renew-clause-any_moment : goal.returns-in-Err-renew-clause-any_moment
returns-in-Err-renew-clause-any_moment g c = λ tells.
    all_moments c.none-held.result c.none-held.ensures g.D.Disk.kind c.args.disk.now c.open_with.new.disk c.in-Ok.journal.end c.open_with.new.meaning
    (c.in-Ok.ensures.opened tells) c.in_ok-image.image.items c.in_ok-image.ensures c.is_behind-behind.result c.is_behind-behind.ensures
    c.deref.result.now c.deref.ensures.value (c.open_with.ensures.goes_on.tells ∙ tells) c.renew.new.disk g.met.D.Disk.laws tells
    (c.open_with.ensures.any_moment tells) c.renew.ensures.any_moment

pub returns-clause-any_moment : goal.returns-clause-any_moment
returns-clause-any_moment g c = λ tells.
    all_moments c.none-held.result c.none-held.ensures g.D.Disk.kind c.args.disk.now c.open_with.new.disk c.in-Ok.journal.end c.open_with.new.meaning
    (c.in-Ok.ensures.opened tells) c.in_ok-image.image.items c.in_ok-image.ensures c.is_behind-behind.result c.is_behind-behind.ensures
    c.deref.result.now c.deref.ensures.value (c.open_with.ensures.goes_on.tells ∙ tells) c.renew.new.disk g.met.D.Disk.laws tells
    (c.open_with.ensures.any_moment tells) c.renew.ensures.any_moment

pub returns-clause-exact : goal.returns-clause-exact
returns-clause-exact g c = λ tells n bad.
    c.in-Ok.ensures.exact tells n (refused_back c.none-held.result c.none-held.ensures ((g.D.Disk.kind.view c.args.disk.now).file 0).seen n bad)

pub returns-clause-image : goal.returns-clause-image
returns-clause-image g c =
    let len : c.len.result ≡ length c.in_ok-image.image.items = search rules in
    c.note_image.ensures ∙ ap (λ (n : ℕ). noted c.renew.new.journal n) len
    ∙ sym (ap (λ (j : JournalView). noted j (length c.in_ok-image.image.items)) c.note_image.ensures)

pub returns-clause-opened : goal.returns-clause-opened
returns-clause-opened g c = λ tells.
    subst (λ (j : JournalView). IsJournalOpened g.D.Disk.kind c.args.disk.now c.renew.new.disk j.end c.in_ok-image.image.items) (sym c.note_image.ensures)
    (is_opened c.none-held.result c.none-held.ensures g.D.Disk.kind c.args.disk.now c.open_with.new.disk c.in-Ok.journal.end c.open_with.new.meaning
    (c.in-Ok.ensures.opened tells) c.in_ok-image.image.items c.in_ok-image.ensures c.is_behind-behind.result c.is_behind-behind.ensures
    c.deref.result.now c.deref.ensures.value (c.open_with.ensures.goes_on.tells ∙ tells) c.renew.new.disk c.renew.new.journal.end c.in-Ok-renew.ensures.rests)

pub returns-in-Err-renew-clause-refused : goal.returns-in-Err-renew-clause-refused
returns-in-Err-renew-clause-refused g c = λ n is tells. absurd (c.in-Err-renew.ensures.not_refused n (err_of _ _ is))

pub returns-in-Err-renew-clause-untouched : goal.returns-in-Err-renew-clause-untouched
returns-in-Err-renew-clause-untouched g c = λ n is tells. absurd (c.in-Err-renew.ensures.not_refused n (err_of _ _ is))

pub returns-clause-elsewhere : goal.returns-clause-elsewhere
returns-clause-elsewhere g c = λ tells f ne.
    c.renew.ensures.elsewhere (c.open_with.ensures.goes_on.tells ∙ tells) f ne ∙ c.open_with.ensures.elsewhere tells f ne

pub returns-in-Err-renew-clause-elsewhere : goal.returns-in-Err-renew-clause-elsewhere
returns-in-Err-renew-clause-elsewhere g c = λ tells f ne.
    c.renew.ensures.elsewhere (c.open_with.ensures.goes_on.tells ∙ tells) f ne ∙ c.open_with.ensures.elsewhere tells f ne

pub returns-clause-goes_on : goal.returns-clause-goes_on
returns-clause-goes_on g c = goes_on_on g.D.Disk.kind c.args.disk.now c.open_with.new.disk c.renew.new.disk c.open_with.ensures.goes_on c.renew.ensures.goes_on

pub returns-in-Err-renew-clause-goes_on : goal.returns-in-Err-renew-clause-goes_on
returns-in-Err-renew-clause-goes_on g c =
    goes_on_on g.D.Disk.kind c.args.disk.now c.open_with.new.disk c.renew.new.disk c.open_with.ensures.goes_on c.renew.ensures.goes_on

pub returns-in-Err-renew-clause-cause : goal.returns-in-Err-renew-clause-cause
returns-in-Err-renew-clause-cause g c = λ is. rose_later _ _ _ c.open_with.ensures.goes_on.faults (c.in-Err-renew.ensures.cause (err_of _ _ is))

pub returns-in_err-image-clause-any_moment : goal.returns-in_err-image-clause-any_moment
returns-in_err-image-clause-any_moment g c = λ tells.
    read_moments c.none-held.result c.none-held.ensures g.D.Disk.kind c.args.disk.now c.open_with.new.disk (c.open_with.ensures.any_moment tells)
