use Rattle.std.proofs.Common.{◌∷◌, sym, ap, subst, ◌∙◌}
use Rattle.std.specs.Map.Iter.{deref_pair}
use Rattle.std.specs.declared.ops.Bound.TheVariants.{Unbounded}
use Rattle.std.proofs.lemmas.Map.Iter.{rest_more, rest_all}
use Rattle.wtf_kv.specs.Stores.{map_at}
use Rattle.wtf_kv.specs.Walks.{AreRowsFrom}
use Rattle.wtf_values.specs.Keys.{key_cmp}
use Rattle.wtf_imagefmt.proofs.Gathered.{PathsWalked, paths_begin, paths_go_on, paths_stop, all_paths, not_path}
use Rattle.wtf_imagefmt.proofs.gather.paths_now.Goals as goal

pub loop-key-init : goal.loop-key-init
loop-key-init c =
    let kv = c.args.kv.now in
    let are = subst (λ n. AreRowsFrom key_cmp Unbounded (map_at key_cmp kv n) c.rows-key-items.result) c.number.ensures.number c.rows-key-items.ensures in
    let left = c.into_iter-key-iterator.result in
    subst (λ rs. PathsWalked kv rs left) (sym c.new-paths.ensures.items)
    (paths_begin kv left (subst (AreRowsFrom key_cmp Unbounded (map_at key_cmp kv kv.number)) (sym c.into_iter-key-iterator.ensures.into_iter_gives) are))

pub loop-key-preserved : goal.loop-key-preserved
loop-key-preserved c =
    let kv = c.args.kv.now in
    let v = c.in-Some.value.now in
    let rest = c.next.new.self in
    let more = rest_more deref_pair c.loop-key.key-iterator rest c.next.result (c.in-Some.key, c.in-Some.value) c.in-Some.is c.next.ensures.steps in
    subst (λ rs. PathsWalked kv rs rest) (sym c.in_ok-add_path.ensures)
    (paths_go_on kv c.loop-key.paths.items c.in-Path.path v c.loop-key.key-iterator rest (more ∙ ap (λ k. (k, v) ∷ rest) c.in-Path.is) c.loop-key.invariant)

pub returns-in_default : goal.returns-in_default
returns-in_default c =
    let rest = c.next.new.self in
    let more = rest_more deref_pair c.loop-key.key-iterator rest c.next.result (c.in-Some.key, c.in-Some.value) c.in-Some.is c.next.ensures.steps in
    paths_stop c.args.kv.now c.loop-key.paths.items (c.in-Some.key.now, c.in-Some.value.now) c.loop-key.key-iterator rest more
    (not_path c.in-Some.key.now c.in_default.not-Path) c.loop-key.invariant

pub returns : goal.returns
returns c =
    let end = rest_all deref_pair c.loop-key.key-iterator c.next.new.self c.next.result c.in-None.is c.next.ensures.steps in
    all_paths c.args.kv.now c.loop-key.paths.items c.loop-key.key-iterator end c.loop-key.invariant
