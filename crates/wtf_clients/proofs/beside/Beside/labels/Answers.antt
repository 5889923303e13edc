use Rattle.wtf_clients.proofs.Common.{cases_Bool, ltb-true, ltb-false, get_or_past, BesideView, of_label, ◌≡◌, ◌≤◌, ◌<◌, nat_lt, None, false, is_some, length}
use Rattle.wtf_clients.proofs.Common.{sym, ap, ◌∙◌, subst, ⊎_elim, arith}
use Rattle.wtf_clients.proofs.JobPins.{label_past}
use Rattle.wtf_clients.proofs.beside.Beside.labels.Goals as goal

pub returns-clause-are : goal.returns-clause-are
returns-clause-are c j = ⊎_elim
    (λ here.
    let below : j < 8 = ltb-true j 8 here in
    let over = c.loop-j-test.false in
    c.loop-j.invariant.1 j (omega (arith, below, over)))
    (λ past.
    let most : 8 ≤ j = ltb-false j 8 past in
    let jobs : length c.self.inside.jobs ≡ 8 = c.self.invariant.0 in
    let flags : length c.loop-j.labels ≡ 8 = c.loop-j.invariant.0 in
    get_or_past c.loop-j.labels j false (omega (arith, most, flags))
    ∙ sym (ap is_some (subst (λ (b : BesideView). of_label b.jobs j ≡ None) c.self.view_is (label_past c.self.inside.jobs j (omega (arith, most, jobs))))))
    (cases_Bool (nat_lt j 8))
