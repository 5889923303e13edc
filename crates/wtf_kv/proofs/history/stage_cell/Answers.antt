use Rattle.std.proofs.Common.{rules, sym, ap, subst, ◌∙◌, ◌≡◌, None, inr}
use Rattle.std.specs.Map.{lookup}
use Rattle.std.specs.BTreeMap.{is_at}
use Rattle.std.proofs.lemmas.Result.{on_ok_weaker, on_err_weaker}
use Rattle.wtf_kv.specs.Seen.{upto, ascends}
use Rattle.wtf_kv.specs.Staging.{staged}
use Rattle.wtf_kv.specs.Stores.{versions_in, listed}
use Rattle.wtf_kv.proofs.Updated.{chosen, versions_some, versions_none, versions_alike, versions_updated}
use Rattle.wtf_kv.proofs.history.stage_cell.Goals as goal

pub stage_in-requires-clause-order : goal.stage_in-requires-clause-order
stage_in-requires-clause-order g c = subst ascends (versions_some g.K.Ord.cmp c.args.cells.now.entries c.args.key.now c.in-Some.versions.now (sym c.in-Some.ensures.value)) (c.requires.good c.args.key.now).0

pub returns-in-Some-clause-others : goal.returns-in-Some-clause-others
returns-in-Some-clause-others g c = λ q apart.
    let held = c.get_mut.follows.holds c.stage_in.new.versions in
    versions_alike g.K.Ord.cmp c.args.cells.now.entries _ q ((held.3 (search rules)).2 q apart)

pub returns-in-Some-clause-ok : goal.returns-in-Some-clause-ok
returns-in-Some-clause-ok g c = on_ok_weaker c.stage_in.result (λ made q at.
    let held = c.get_mut.follows.holds c.stage_in.new.versions in
    let some = versions_some g.K.Ord.cmp c.args.cells.now.entries c.args.key.now c.in-Some.versions.now (sym c.in-Some.ensures.value) in
    chosen (is_at (g.K.Ord.cmp c.args.key.now) q) _ (staged c.args.number c.args.value (versions_in g.K.Ord.cmp (listed c.args.cells.now.entries) q)) (versions_in g.K.Ord.cmp (listed c.args.cells.now.entries) q) at
    (versions_updated g.K.Ord.cmp g.met.K.StoreKey.exact c.args.cells.now.entries _ c.args.key.now c.stage_in.new.versions (staged c.args.number c.args.value) (held.3 (search rules)).0 (made ∙ ap (staged c.args.number c.args.value) (sym some)) q)) c.stage_in.ensures.ok

pub returns-in-Some-clause-err : goal.returns-in-Some-clause-err
returns-in-Some-clause-err g c = on_err_weaker c.stage_in.result (λ made q at.
    let held = c.get_mut.follows.holds c.stage_in.new.versions in
    let some = versions_some g.K.Ord.cmp c.args.cells.now.entries c.args.key.now c.in-Some.versions.now (sym c.in-Some.ensures.value) in
    inr (chosen (is_at (g.K.Ord.cmp c.args.key.now) q) _ (upto c.args.number (versions_in g.K.Ord.cmp (listed c.args.cells.now.entries) q)) (versions_in g.K.Ord.cmp (listed c.args.cells.now.entries) q) at
    (versions_updated g.K.Ord.cmp g.met.K.StoreKey.exact c.args.cells.now.entries _ c.args.key.now c.stage_in.new.versions (upto c.args.number) (held.3 (search rules)).0 (made ∙ ap (upto c.args.number) (sym some)) q))) c.stage_in.ensures.err

pub add_cell-requires-clause-none : goal.add_cell-requires-clause-none
add_cell-requires-clause-none g c =
    let none : lookup (is_at (g.K.Ord.cmp c.args.key.now)) c.get_mut.follows.lender-at-none.entries ≡ None = search rules in
    versions_none g.K.Ord.cmp c.get_mut.follows.lender-at-none.entries c.args.key.now none
