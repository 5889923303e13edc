use Rattle.std.proofs.Common.{sym, ap, subst, ◌∙◌, ◌≡◌, ◌∷◌, [], ◌++◌, append-nil, is_some, true, false}
use Rattle.std.specs.List.{AllByRecursion, filter}
use Rattle.std.specs.Map.{keys_of}
use Rattle.std.specs.Map.Iter.{deref_pair}
use Rattle.std.specs.BTreeMap.Range.{range_contains}
use Rattle.std.specs.declared.ops.Bound.TheVariants.{Included}
use Rattle.std.proofs.lemmas.Map.Iter.{rest_more, rest_all}
use Rattle.std.proofs.lemmas.Map.Keys.{IsDistinct-from_sorted}
use Rattle.wtf_kv.specs.Seen.{ascends}
use Rattle.wtf_kv.specs.Staging.{value_next}
use Rattle.wtf_kv.specs.Stores.{names}
use Rattle.wtf_kv.proofs.Ranges.{valued, each_ascends, each-filter, keys_more}
use Rattle.wtf_kv.proofs.cells.valued_keys.Goals as goal

pub loop-key-init : goal.loop-key-init
loop-key-init g c =
    let whole = c.into_iter-key-iterator.ensures.into_iter_gives ∙ c.range-key-items.ensures.between tt in
    record {
      sorted = subst (AllByRecursion (λ e. ascends e.1.items)) (sym whole) (each-filter (λ e. ascends e.1.items) (λ e. range_contains g.K.Ord.cmp (Included c.args.from.now) (Included c.args.to.now) e.0) c.args.cells.now.entries (each_ascends g.met.K.Ord.total c.args.cells.now c.range-key-items.ensures.ordered (λ q. (c.requires.good q).0)));
      done = ap (λ l. l ++ keys_of (filter (λ e. is_some (value_next c.args.number e.1.items)) c.into_iter-key-iterator.result)) c.new-keys.ensures.items ∙ ap (λ l. keys_of (filter (λ e. is_some (value_next c.args.number e.1.items)) l)) whole;
    }

pub has_value-requires : goal.has_value-requires
has_value-requires g c =
    let more = rest_more deref_pair c.loop-key.key-iterator c.next.new.self c.next.result (c.in-Some.key, c.in-Some.versions) c.in-Some.is c.next.ensures.steps in
    subst ascends (sym c.as_slice.ensures.value) (subst (AllByRecursion (λ e. ascends e.1.items)) more c.loop-key.invariant.sorted).0

pub loop-key-preserved-in_ok-push : goal.loop-key-preserved-in_ok-push
loop-key-preserved-in_ok-push g c =
    let more = rest_more deref_pair c.loop-key.key-iterator c.next.new.self c.next.result (c.in-Some.key, c.in-Some.versions) c.in-Some.is c.next.ensures.steps in
    let has : is_some (value_next c.args.number c.in-Some.versions.now.items) ≡ true = ap (λ vs. is_some (value_next c.args.number vs)) (sym c.as_slice.ensures.value) ∙ sym c.has_value.ensures ∙ c.if-has_value.true in
    record {
      sorted = (subst (AllByRecursion (λ e. ascends e.1.items)) more c.loop-key.invariant.sorted).1;
      done = ap (λ l. l ++ keys_of (filter (λ e. is_some (value_next c.args.number e.1.items)) c.next.new.self)) (c.in_ok-push.ensures.items ∙ ap (λ k. c.loop-key.keys.items ++ k ∷ []) c.in_ok-copy.ensures)
          ∙ (keys_more (λ v. is_some (value_next c.args.number v.items)) c.loop-key.keys.items (c.in-Some.key.now, c.in-Some.versions.now) c.loop-key.key-iterator c.next.new.self _ more c.loop-key.invariant.done).0 has;
    }

pub loop-key-preserved : goal.loop-key-preserved
loop-key-preserved g c =
    let more = rest_more deref_pair c.loop-key.key-iterator c.next.new.self c.next.result (c.in-Some.key, c.in-Some.versions) c.in-Some.is c.next.ensures.steps in
    let lacks : is_some (value_next c.args.number c.in-Some.versions.now.items) ≡ false = ap (λ vs. is_some (value_next c.args.number vs)) (sym c.as_slice.ensures.value) ∙ sym c.has_value.ensures ∙ c.if-has_value.false in
    record {
      sorted = (subst (AllByRecursion (λ e. ascends e.1.items)) more c.loop-key.invariant.sorted).1;
      done = (keys_more (λ v. is_some (value_next c.args.number v.items)) c.loop-key.keys.items (c.in-Some.key.now, c.in-Some.versions.now) c.loop-key.key-iterator c.next.new.self _ more c.loop-key.invariant.done).1 lacks;
    }

pub returns : goal.returns
returns g c = λ q.
    let end = rest_all deref_pair c.loop-key.key-iterator c.next.new.self c.next.result c.in-None.is c.next.ensures.steps in
    let whole = sym (append-nil c.loop-key.keys.items) ∙ sym (ap (λ l. c.loop-key.keys.items ++ keys_of (filter (λ e. is_some (value_next c.args.number e.1.items)) l)) end) ∙ c.loop-key.invariant.done in
    ap (λ ks. names g.K.Ord.cmp ks q) whole ∙ valued g.met.K.Ord.total g.met.K.StoreKey.exact c.args.number c.args.from.now c.args.to.now c.args.cells.now.entries q (IsDistinct-from_sorted g.K.Ord.cmp _ c.range-key-items.ensures.ordered)
