use Rattle.std.proofs.Common.{rules, ◌≡◌, true, false, sym, ap, subst, ◌∙◌}
use Rattle.std.specs.Ordering.{nat_cmp}
use Rattle.std.specs.FinMap.{FinMap, remove}
use Rattle.wtf_model.specs.Lawful.{MayStep}
use Rattle.wtf_model.specs.Transaction.{Transaction}
use Rattle.wtf_machine.specs.declared.begun.Verdict.TheVariants as verdict
use Rattle.wtf_machine.specs.Maps.{map_of}
use Rattle.wtf_machine.specs.Verdicts.{transaction_in, open_in, RunsWith, IsVerdict}
use Rattle.wtf_machine.specs.Kept.{clients_in, Decides, stepped_in}
use Rattle.wtf_machine.proofs.ClientLaws.{found_is, got, found_at, none_found, becomes, stays, behind, decided_goes, decided_ends, decided_unlawful, gone_after}
use Rattle.wtf_machine.proofs.SeenLaws.{verdict_seen}
use Rattle.wtf_machine.proofs.clients.Clients.step.Goals as goal

pub returns-in_default-clause-decides : goal.returns-in_default-clause-decides
returns-in_default-clause-decides c =
    λ t there. absurd (none_found c.args.self.now.changed.items c.args.self.now.items.entries c.args.c t c.in_default.ensures.value there)

pub step-requires : goal.step-requires
step-requires c =
    let b = c.in-Some.t.now in
    record {
      behind = behind b (c.requires (open_in c.args.self.now.changed.items b)
          (found_at c.args.self.now.changed.items c.args.self.now.items.entries c.args.c b c.in-Some.ensures.value));
    }

pub returns-in_err-verdict-clause-err : goal.returns-in_err-verdict-clause-err
returns-in_err-verdict-clause-err c =
    let w = c.step.new.self in
    let held = c.get_mut.follows.holds w in
    let same = stays c.args.self.now.changed.items c.args.self.now.items.entries c.args.c _ c.in-Some.t.now w c.in-Some.ensures.value
    (held.3 (got _ _ c.in-Some.ensures.value)).0 c.in_err-verdict.ensures.err c.step.ensures.since in
    search (rules, same)

pub returns-in-Unlawful-clause-decides : goal.returns-in-Unlawful-clause-decides
returns-in-Unlawful-clause-decides c = λ t there m runs.
    let b = c.in-Some.t.now in
    let w = c.step.new.self in
    let k = c.args.self.now in
    let changed = k.changed.items in
    let since = c.step.ensures.since in
    let held = c.get_mut.follows.holds w in
    let new = map_of nat_cmp (open_in changed) (c.get_mut.follows.lender w).entries in
    let is = becomes changed k.items.entries c.args.c _ w (held.3 (got _ _ c.in-Some.ensures.value)).0 in
    let found = found_at changed k.items.entries c.args.c b c.in-Some.ensures.value in
    let fit : RunsWith b.cap c.args.servers m = (runs.0 ∙ sym (k.caps c.args.c b (sym c.in-Some.ensures.value)), runs.1) in
    subst (λ (x : Transaction). Decides (MayStep m x c.args.answer.now) (clients_in k) (stepped_in (clients_in k) c.args.c x c.args.answer.now) new false)
    (found_is changed k.items.entries c.args.c b t c.in-Some.ensures.value there)
    (decided_unlawful (MayStep m (open_in changed b) c.args.answer.now) (clients_in k)
    (stepped_in (clients_in k) c.args.c (open_in changed b) c.args.answer.now) new c.args.c (open_in changed b) (open_in changed w) c.args.answer.now found is
    (verdict_seen changed w b m c.args.answer.now verdict.Unlawful since
    (subst (λ v. IsVerdict (MayStep m (transaction_in b) c.args.answer.now) (transaction_in b) (transaction_in w) c.args.answer.now v) c.in-Unlawful.is
    (c.in_ok-verdict.ensures.verdict m fit))))

pub returns-in-Goes-clause-decides : goal.returns-in-Goes-clause-decides
returns-in-Goes-clause-decides c = λ t there m runs.
    let b = c.in-Some.t.now in
    let w = c.step.new.self in
    let k = c.args.self.now in
    let changed = k.changed.items in
    let since = c.step.ensures.since in
    let held = c.get_mut.follows.holds w in
    let new = map_of nat_cmp (open_in changed) (c.get_mut.follows.lender w).entries in
    let is = becomes changed k.items.entries c.args.c _ w (held.3 (got _ _ c.in-Some.ensures.value)).0 in
    let found = found_at changed k.items.entries c.args.c b c.in-Some.ensures.value in
    let fit : RunsWith b.cap c.args.servers m = (runs.0 ∙ sym (k.caps c.args.c b (sym c.in-Some.ensures.value)), runs.1) in
    subst (λ (x : Transaction). Decides (MayStep m x c.args.answer.now) (clients_in k) (stepped_in (clients_in k) c.args.c x c.args.answer.now) new true)
    (found_is changed k.items.entries c.args.c b t c.in-Some.ensures.value there)
    (decided_goes (MayStep m (open_in changed b) c.args.answer.now) (clients_in k) new c.args.c (open_in changed b)
    (open_in changed w) c.args.answer.now found is
    (verdict_seen changed w b m c.args.answer.now verdict.Goes since
    (subst (λ v. IsVerdict (MayStep m (transaction_in b) c.args.answer.now) (transaction_in b) (transaction_in w) c.args.answer.now v) c.in-Goes.is
    (c.in_ok-verdict.ensures.verdict m fit))))

pub returns-clause-decides : goal.returns-clause-decides
returns-clause-decides c = λ t there m runs.
    let b = c.in-Some.t.now in
    let w = c.step.new.self in
    let k = c.args.self.now in
    let changed = k.changed.items in
    let since = c.step.ensures.since in
    let held = c.get_mut.follows.holds w in
    let new = clients_in c.end.new.self in
    let is = becomes changed k.items.entries c.args.c _ w (held.3 (got _ _ c.in-Some.ensures.value)).0 in
    let gone : new ≡ remove (clients_in k) c.args.c =
    c.end.ensures.gone ∙ ap (λ (ts : FinMap nat_cmp Transaction). remove ts c.args.c) is ∙ gone_after (clients_in k) c.args.c (open_in changed w) in
    let fit : RunsWith b.cap c.args.servers m = (runs.0 ∙ sym (k.caps c.args.c b (sym c.in-Some.ensures.value)), runs.1) in
    subst (λ (x : Transaction). Decides (MayStep m x c.args.answer.now) (clients_in k) (stepped_in (clients_in k) c.args.c x c.args.answer.now) new true)
    (found_is changed k.items.entries c.args.c b t c.in-Some.ensures.value there)
    (decided_ends (MayStep m (open_in changed b) c.args.answer.now) (clients_in k) new c.args.c (open_in changed b) (open_in changed w) c.args.answer.now gone
    (verdict_seen changed w b m c.args.answer.now verdict.Ends since
    (subst (λ v. IsVerdict (MayStep m (transaction_in b) c.args.answer.now) (transaction_in b) (transaction_in w) c.args.answer.now v) c.in-Ends.is
    (c.in_ok-verdict.ensures.verdict m fit))))
