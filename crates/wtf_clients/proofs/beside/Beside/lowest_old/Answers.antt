use Rattle.wtf_clients.proofs.Common.{cases_Bool, and_from, ltb-true, ltb-false, BesideView, of_label, was_job, is_old_job, ◌≡◌, ◌≤◌, ◌<◌, ◌&&◌, nat_lt, true}
use Rattle.wtf_clients.proofs.Common.{false, is_some, length, sym, ap, ◌∙◌, subst, ⊎_elim, arith}
use Rattle.wtf_clients.proofs.JobPins.{label_past}
use Rattle.wtf_clients.proofs.beside.Beside.lowest_old.Goals as goal

pub returns-then-self-j : goal.returns-then-self-j
returns-then-self-j c =
    let b : BesideView = c.args.self.now in
    let j = c.loop-j.j in
    let marked : was_job b j ≡ true = subst (λ (e : BesideView). was_job e j ≡ true) c.self.view_is c.if-self-j.true in
    record { old = and_from (is_some (of_label b.jobs j)) (was_job b j) (sym c.has_job.ensures ∙ c.if-has_job.true) marked; lowest = c.loop-j.invariant }

pub returns : goal.returns
returns c j = ⊎_elim
    (λ here.
    let below : j < 8 = ltb-true j 8 here in
    let over = c.loop-j-test.false in
    c.loop-j.invariant j (omega (arith, below, over)))
    (λ past.
    let most : 8 ≤ j = ltb-false j 8 past in
    let jobs : length c.self.inside.jobs ≡ 8 = c.self.invariant.0 in
    subst (λ (b : BesideView). is_old_job b j ≡ false) c.self.view_is
    (ap (λ o. is_some o && was_job (record {
      images = c.self.inside.images.items;
      none = c.self.inside.none;
      watched = c.self.inside.watched;
      jobs = c.self.inside.jobs;
      gc = c.self.inside.gc;
      scan_tx = c.self.inside.scan_tx;
      scan_jobs = c.self.inside.scan_jobs;
    }) j)
    (label_past c.self.inside.jobs j (omega (arith, most, jobs))))) (cases_Bool (nat_lt j 8))
