use Rattle.std.proofs.Common.{ap, ◌∙◌, []}
use Rattle.std.specs.FinMap.{insert}
use Rattle.wtf_model.specs.Transaction.{Transaction}
use Rattle.wtf_machine.specs.Kept.{clients_in}
use Rattle.wtf_machine.specs.Verdicts.{transaction_in}
use Rattle.wtf_machine.proofs.ClientLaws.{found_is, got, none_found, becomes}
use Rattle.wtf_machine.proofs.SeenLaws.{open_rebased}
use Rattle.wtf_machine.proofs.clients.Clients.rebase.Goals as goal

pub returns-in_default-clause-is : goal.returns-in_default-clause-is
returns-in_default-clause-is c =
    λ t there. absurd (none_found c.args.self.now.changed.items c.args.self.now.items.entries c.args.c t c.in_default.ensures.value there)

pub returns-clause-is : goal.returns-clause-is
returns-clause-is c = λ t there.
    let k = c.args.self.now in
    let changed = k.changed.items in
    let b = c.in-Some.t.now in
    let w = c.rebase.new.self in
    let held = c.get_mut.follows.holds w in
    let again : Transaction = record (transaction_in b) { base = c.args.number; tree = c.args.now; replayed = 0; touched = [] } in
    becomes changed k.items.entries c.args.c _ w (held.3 (got _ _ c.in-Some.ensures.value)).0
    ∙ ap (insert (clients_in k) c.args.c)
    (open_rebased changed w b again c.rebase.ensures.is (c.rebase.ensures.since ∙ c.count-since.ensures)
    ∙ ap (λ (x : Transaction). record x { base = c.args.number; tree = c.args.now; replayed = 0; touched = [] })
    (found_is changed k.items.entries c.args.c b t c.in-Some.ensures.value there))
