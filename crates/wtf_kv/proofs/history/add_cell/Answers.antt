use Rattle.std.proofs.Common.{sym, ap, ◌∙◌, ◌≡◌}
use Rattle.std.specs.BTreeMap.{is_at}
use Rattle.wtf_kv.specs.Staging.{staged}
use Rattle.wtf_kv.specs.Stores.{versions_in, listed}
use Rattle.wtf_kv.proofs.Updated.{chosen, versions_alike, versions_updated}
use Rattle.wtf_kv.proofs.history.add_cell.Goals as goal

pub returns-in-Ok-clause-others : goal.returns-in-Ok-clause-others
returns-in-Ok-clause-others g c = λ q apart.
    let own : c.in_ok-own.own ≡ c.args.key.now = c.in_ok-own.ensures in
    versions_alike g.K.Ord.cmp c.args.cells.now.entries _ q (c.in-Ok.ensures.updates.2 q (ap (λ k. is_at (g.K.Ord.cmp k) q) own ∙ apart))

pub returns-in-Ok-clause-ok : goal.returns-in-Ok-clause-ok
returns-in-Ok-clause-ok g c = λ q at.
    let order = g.K.Ord.cmp in
    let old = c.args.cells.now.entries in
    let make = staged c.args.number c.args.value in
    let own : c.in_ok-own.own ≡ c.args.key.now = c.in_ok-own.ensures in
    chosen (is_at (order c.in_ok-own.own) q) _ (make (versions_in order (listed old) q)) (versions_in order (listed old) q) (ap (λ k. is_at (order k) q) own ∙ at)
    (versions_updated order g.met.K.StoreKey.exact old _ c.in_ok-own.own c.stage_in.new.versions make c.in-Ok.ensures.updates.0
    (c.in_ok-stage_in.ensures.ok ∙ ap make (c.in_ok-versions.ensures.items ∙ sym (ap (versions_in order (listed old)) own ∙ c.requires.none))) q)
