use Rattle.std.proofs.Common.{rules, sym, ap, subst, ◌∙◌, ◌≡◌, ◌+◌, ℕ, List, Option, None, IfOk, inl, ⊎_elim}
use Rattle.std.specs.Map.{lookup}
use Rattle.std.specs.BTreeMap.{is_at}
use Rattle.std.proofs.lemmas.Result.{on_ok_weaker, on_err_weaker}
use Rattle.wtf_kv.specs.Seen.{upto, ascends, within}
use Rattle.wtf_kv.specs.Staging.{staged, value_next, run_made, run_fits}
use Rattle.wtf_kv.specs.Stores.{versions_in, listed}
use Rattle.wtf_kv.proofs.Taken.{cut_at, same_at}
use Rattle.wtf_kv.proofs.Updated.{chosen, versions_some, versions_none, versions_alike, versions_updated}
use Rattle.wtf_kv.proofs.history.stage_run_cell.Goals as goal

pub stage_run_in-requires-clause-order : goal.stage_run_in-requires-clause-order
stage_run_in-requires-clause-order g c = subst ascends (versions_some g.K.Ord.cmp c.args.cells.now.entries c.args.key.now c.in-Some.versions.now (sym c.in-Some.ensures.value)) (c.requires.good c.args.key.now).0

pub stage_run_in-requires-clause-next : goal.stage_run_in-requires-clause-next
stage_run_in-requires-clause-next g c = subst (within (c.args.number + 1)) (versions_some g.K.Ord.cmp c.args.cells.now.entries c.args.key.now c.in-Some.versions.now (sym c.in-Some.ensures.value)) (c.requires.good c.args.key.now).1

pub returns-in-Some-clause-others : goal.returns-in-Some-clause-others
returns-in-Some-clause-others g c = λ q apart.
    let held = c.get_mut.follows.holds c.stage_run_in.new.versions in
    versions_alike g.K.Ord.cmp c.args.cells.now.entries _ q ((held.3 (search rules)).2 q apart)

pub returns-in-Some-clause-fit : goal.returns-in-Some-clause-fit
returns-in-Some-clause-fit g c =
    let some = versions_some g.K.Ord.cmp c.args.cells.now.entries c.args.key.now c.in-Some.versions.now (sym c.in-Some.ensures.value) in
    subst (λ vs. IfOk c.stage_run_in.result (λ fit. fit ≡ run_fits g.C.Cell.outcome c.args.run.now (value_next c.args.number vs))) (sym some) c.stage_run_in.ensures.fit

pub returns-in-Some-clause-ok : goal.returns-in-Some-clause-ok
returns-in-Some-clause-ok g c = on_ok_weaker c.stage_run_in.result (λ made q at.
    let order = g.K.Ord.cmp in
    let n = c.args.number in
    let old = c.args.cells.now.entries in
    let key = c.args.key.now in
    let after : List (ℕ × Option g.row.C.Denot) → Option g.row.C.Denot = λ vs. run_made g.C.Cell.outcome c.args.run.now (value_next n vs) in
    let x = after (versions_in order (listed old) key) in
    let held = c.get_mut.follows.holds c.stage_run_in.new.versions in
    let some = versions_some order old key c.in-Some.versions.now (sym c.in-Some.ensures.value) in
    chosen (is_at (order key) q) _ (staged n x (versions_in order (listed old) q)) (versions_in order (listed old) q) at
    (versions_updated order g.met.K.StoreKey.exact old _ key c.stage_run_in.new.versions (staged n x) (held.3 (search rules)).0
    (made ∙ ap (λ vs. staged n (after vs) vs) (sym some)) q)) c.stage_run_in.ensures.ok

pub returns-in-Some-clause-err : goal.returns-in-Some-clause-err
returns-in-Some-clause-err g c = on_err_weaker c.stage_run_in.result (λ kept q at.
    let order = g.K.Ord.cmp in
    let n = c.args.number in
    let old = c.args.cells.now.entries in
    let key = c.args.key.now in
    let w = c.stage_run_in.new.versions in
    let held = c.get_mut.follows.holds w in
    let some = versions_some order old key c.in-Some.versions.now (sym c.in-Some.ensures.value) in
    ⊎_elim
    (λ same. inl (same_at (is_at (order key) q) _ (versions_in order (listed old) q)
    (versions_updated order g.met.K.StoreKey.exact old _ key w (λ vs. vs) (held.3 (search rules)).0 (same ∙ sym some) q)))
    (λ cut. cut_at n (is_at (order key) q) _ (versions_in order (listed old) q)
    (versions_updated order g.met.K.StoreKey.exact old _ key w (upto n) (held.3 (search rules)).0 (cut ∙ ap (upto n) (sym some)) q))
    kept) c.stage_run_in.ensures.err

pub add_cell-requires-clause-none : goal.add_cell-requires-clause-none
add_cell-requires-clause-none g c =
    let none : lookup (is_at (g.K.Ord.cmp c.args.key.now)) c.get_mut.follows.lender-at-none.entries ≡ None = search rules in
    versions_none g.K.Ord.cmp c.get_mut.follows.lender-at-none.entries c.args.key.now none

pub returns-clause-fit : goal.returns-clause-fit
returns-clause-fit g c =
    let none : lookup (is_at (g.K.Ord.cmp c.args.key.now)) c.args.cells.now.entries ≡ None = search rules in
    c.in_ok-fit.ensures.fit
    ∙ ap (λ vs. run_fits g.C.Cell.outcome c.args.run.now (value_next c.args.number vs)) (sym (versions_none g.K.Ord.cmp c.args.cells.now.entries c.args.key.now none))

pub returns-clause-ok : goal.returns-clause-ok
returns-clause-ok g c = λ q at.
    let order = g.K.Ord.cmp in
    let n = c.args.number in
    let old = c.args.cells.now.entries in
    let key = c.args.key.now in
    let after : List (ℕ × Option g.row.C.Denot) → Option g.row.C.Denot = λ vs. run_made g.C.Cell.outcome c.args.run.now (value_next n vs) in
    let same : c.get_mut.follows.lender-at-none.entries ≡ old = search rules in
    let none : lookup (is_at (order key)) old ≡ None = search rules in
    c.in_ok-add_cell.ensures.ok q at
    ∙ ap (λ v. staged n v (versions_in order (listed c.get_mut.follows.lender-at-none.entries) q)) (c.in_ok-fit.ensures.value ∙ ap after (sym (versions_none order old key none)))
    ∙ ap (λ es. staged n (after (versions_in order (listed old) key)) (versions_in order (listed es) q)) same
