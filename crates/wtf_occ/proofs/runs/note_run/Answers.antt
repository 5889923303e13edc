use Rattle.std.proofs.Common.{rules, Result, Ok, Err, OnOk, OnErr, sym, ap, ◌∙◌, ◌≡◌, ◌++◌, None, List, ℕ, cond}
use Rattle.std.specs.Map.{lookup}
use Rattle.std.specs.BTreeMap.{is_at}
use Rattle.wtf_occ.specs.Positions.{positions_of, listed_positions}
use Rattle.wtf_occ.proofs.Noted.{positions_some, positions_none, positions_updated, either}
use Rattle.wtf_occ.proofs.runs.note_run.Goals as goal

on_ok : {A E : Type 0} {X Y : Type 0} (r : Result A E) → OnOk r X → (X → Y) → OnOk r Y
on_ok (Ok x) h f = f h
on_ok (Err e) h f = tt

on_err : {A E : Type 0} {X Y : Type 0} (r : Result A E) → OnErr r X → (X → Y) → OnErr r Y
on_err (Ok x) h f = tt
on_err (Err e) h f = f h

pub returns-in-Some-clause-ok : goal.returns-in-Some-clause-ok
returns-in-Some-clause-ok g c = on_ok c.append_run.result c.append_run.ensures.ok (λ made q.
    let held = c.get_mut.follows.holds c.append_run.new.list in
    let some = positions_some g.K.Ord.cmp c.args.positions.now.entries c.args.key.now c.in-Some.known.now (sym c.in-Some.ensures.value) in
    let more = λ (l : List ℕ). l ++ c.args.run.items in
    positions_updated g.K.Ord.cmp g.met.K.StoreKey.exact c.args.positions.now.entries _ c.args.key.now c.append_run.new.list more (held.3 (search rules)).0 (made ∙ ap more (sym some)) q)

pub returns-in-Some-clause-err : goal.returns-in-Some-clause-err
returns-in-Some-clause-err g c = on_err c.append_run.result c.append_run.ensures.err (λ made q.
    let held = c.get_mut.follows.holds c.append_run.new.list in
    let some = positions_some g.K.Ord.cmp c.args.positions.now.entries c.args.key.now c.in-Some.known.now (sym c.in-Some.ensures.value) in
    let same = λ (l : List ℕ). l in
    positions_updated g.K.Ord.cmp g.met.K.StoreKey.exact c.args.positions.now.entries _ c.args.key.now c.append_run.new.list same (held.3 (search rules)).0 (made ∙ sym some) q
    ∙ either (is_at (g.K.Ord.cmp c.args.key.now) q) (positions_of g.K.Ord.cmp (listed_positions c.args.positions.now.entries) q))

pub returns-in-Ok-clause-ok : goal.returns-in-Ok-clause-ok
returns-in-Ok-clause-ok g c = λ q.
    let order = g.K.Ord.cmp in
    let own = c.in_ok-own.own in
    let copied : own ≡ c.args.key.now = c.in_ok-own.ensures in
    let same : c.get_mut.follows.lender-at-none.entries ≡ c.args.positions.now.entries = search rules in
    let old = c.get_mut.follows.lender-at-none.entries in
    let none : lookup (is_at (order c.args.key.now)) old ≡ None = search rules in
    let none_own : lookup (is_at (order own)) old ≡ None = ap (λ k. lookup (is_at (order k)) old) copied ∙ none in
    let more = λ (l : List ℕ). l ++ c.args.run.items in
    positions_updated order g.met.K.StoreKey.exact old _ own c.args.run more c.in-Ok.ensures.updates.0 (ap more (sym (positions_none order old own none_own))) q
    ∙ ap (λ k. cond (is_at (order k) q) (positions_of order (listed_positions old) q ++ c.args.run.items) (positions_of order (listed_positions old) q)) copied
    ∙ ap (λ es. cond (is_at (order c.args.key.now) q) (positions_of order (listed_positions es) q ++ c.args.run.items) (positions_of order (listed_positions es) q)) same
