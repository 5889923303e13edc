use Rattle.std.proofs.Common.{sym, ap, subst, ◌∙◌, ◌≡◌, true, false}
use Rattle.std.specs.List.{AllByRecursion}
use Rattle.std.specs.List.Sorted.{IsStrictlySortedBy}
use Rattle.std.specs.Map.{keys_of}
use Rattle.std.specs.Map.Iter.{deref_pair}
use Rattle.std.specs.Range.Bound.{bound_map}
use Rattle.std.specs.BTreeMap.Range.{is_from_start}
use Rattle.std.proofs.lemmas.Map.Iter.{rest_more, rest_all}
use Rattle.std.proofs.lemmas.Map.Keys.{sorted_tail}
use Rattle.wtf_kv.specs.Seen.{has_upto}
use Rattle.wtf_kv.specs.Stores.{listed, versions_in}
use Rattle.wtf_kv.proofs.Ranges.{part_versions, part_inside, part_sorted, head_versions, past_head, least_head}
use Rattle.wtf_kv.proofs.cells.first_key.Goals as goal

pub loop-key-init : goal.loop-key-init
loop-key-init g c =
    let R = g.K.Ord.cmp in
    let start = bound_map (λ k. k.now) c.args.start in
    let whole = c.into_iter-key-iterator.ensures.into_iter_gives ∙ c.range-key-items.ensures.between tt in
    record {
      sorted = subst (λ l. IsStrictlySortedBy R (keys_of l)) (sym whole) (part_sorted R start c.args.cells.now.entries c.range-key-items.ensures.ordered);
      inside = subst (AllByRecursion (λ e. is_from_start R start e.0 ≡ true)) (sym whole) (part_inside g.met.K.Ord.total g.met.K.StoreKey.exact start c.args.cells.now.entries);
      left = λ q from. ap (has_upto c.args.number) (sym (part_versions g.met.K.Ord.total g.met.K.StoreKey.exact start c.args.cells.now.entries q from)) ∙ ap (λ l. has_upto c.args.number (versions_in R (listed l) q)) (sym whole);
    }

pub loop-key-preserved : goal.loop-key-preserved
loop-key-preserved g c =
    let R = g.K.Ord.cmp in
    let more = rest_more deref_pair c.loop-key.key-iterator c.next.new.self c.next.result (c.in-Some.key, c.in-Some.versions) c.in-Some.is c.next.ensures.steps in
    let none : has_upto c.args.number c.in-Some.versions.now.items ≡ false = ap (has_upto c.args.number) (sym c.as_slice.ensures.value) ∙ sym c.begins_by.ensures ∙ c.if-begins_by.false in
    let sorted = subst (λ l. IsStrictlySortedBy R (keys_of l)) more c.loop-key.invariant.sorted in
    record {
      sorted = sorted_tail R _ _ sorted;
      inside = (subst (AllByRecursion (λ e. is_from_start R (bound_map (λ k. k.now) c.args.start) e.0 ≡ true)) more c.loop-key.invariant.inside).1;
      left = λ q from. c.loop-key.invariant.left q from ∙ ap (λ l. has_upto c.args.number (versions_in R (listed l) q)) more ∙ past_head g.met.K.Ord.total g.met.K.StoreKey.exact c.args.number (c.in-Some.key.now, c.in-Some.versions.now) c.next.new.self q sorted none;
    }

pub returns-then-begins_by : goal.returns-then-begins_by
returns-then-begins_by g c =
    let R = g.K.Ord.cmp in
    let more = rest_more deref_pair c.loop-key.key-iterator c.next.new.self c.next.result (c.in-Some.key, c.in-Some.versions) c.in-Some.is c.next.ensures.steps in
    let has : has_upto c.args.number c.in-Some.versions.now.items ≡ true = ap (has_upto c.args.number) (sym c.as_slice.ensures.value) ∙ sym c.begins_by.ensures ∙ c.if-begins_by.true in
    let sorted = subst (λ l. IsStrictlySortedBy R (keys_of l)) more c.loop-key.invariant.sorted in
    let from = (subst (AllByRecursion (λ e. is_from_start R (bound_map (λ k. k.now) c.args.start) e.0 ≡ true)) more c.loop-key.invariant.inside).0 in (
      from,
      c.loop-key.invariant.left c.in-Some.key.now from ∙ ap (λ l. has_upto c.args.number (versions_in R (listed l) c.in-Some.key.now)) more ∙ ap (has_upto c.args.number) (head_versions g.met.K.Ord.total g.met.K.StoreKey.exact (c.in-Some.key.now, c.in-Some.versions.now) c.next.new.self) ∙ has,
      λ q after some. least_head g.met.K.Ord.total g.met.K.StoreKey.exact c.args.number (c.in-Some.key.now, c.in-Some.versions.now) c.next.new.self q sorted (sym (ap (λ l. has_upto c.args.number (versions_in R (listed l) q)) more) ∙ sym (c.loop-key.invariant.left q after) ∙ some),
    )

pub returns : goal.returns
returns g c = λ q after.
    let end = rest_all deref_pair c.loop-key.key-iterator c.next.new.self c.next.result c.in-None.is c.next.ensures.steps in
    c.loop-key.invariant.left q after ∙ ap (λ l. has_upto c.args.number (versions_in g.K.Ord.cmp (listed l) q)) end
