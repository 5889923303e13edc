use Rattle.std.proofs.Common.{◌≡◌, ℕ, Option, ◌∙◌, ◌++◌, true, inr, sym, ap}
use Rattle.std.specs.Option.{option_to_list}
use Rattle.wtf_kv.specs.Staging.{ends_above}
use Rattle.wtf_kv.proofs.Taken.{taken_cut, taken_value}
use Rattle.wtf_kv.proofs.rows.take_next.Goals as goal

pub returns-in-Some-clause-value : goal.returns-in-Some-clause-value
returns-in-Some-clause-value g c =
    let front = c.pop.new.self.items in
    let last : ℕ × Option g.row.C.Denot = (c.in-Some.field-0-0, c.in-Some.value) in
    let is = c.pop.ensures.items ∙ ap (λ o. front ++ option_to_list o) c.in-Some.is in
    taken_value c.args.number c.args.versions.now.items front last is c.requires.next

pub returns-in-Some-clause-kept : goal.returns-in-Some-clause-kept
returns-in-Some-clause-kept g c =
    let n = c.args.number in
    let vs = c.args.versions.now.items in
    let front = c.pop.new.self.items in
    let last : ℕ × Option g.row.C.Denot = (c.in-Some.field-0-0, c.in-Some.value) in
    let is = c.pop.ensures.items ∙ ap (λ o. front ++ option_to_list o) c.in-Some.is in
    let ends : ends_above n vs ≡ true = ap (ends_above n) (sym c.as_slice.ensures.value) ∙ sym c.if-not-ends_above.ensures in
    inr (taken_cut n vs front last is c.requires.order c.requires.next ends)
