use Rattle.std.proofs.Common.{sym, ap, subst, ◌∙◌, ◌≡◌, true, false, Bool, ◌&&◌}
use Rattle.std.specs.List.{AllByRecursion}
use Rattle.std.specs.List.Sorted.{IsStrictlySortedBy}
use Rattle.std.specs.Map.{keys_of}
use Rattle.std.specs.Map.Iter.{deref_pair}
use Rattle.std.specs.Range.Bound.{bound_map}
use Rattle.std.specs.BTreeMap.Range.{is_from_start}
use Rattle.std.proofs.lemmas.Bool.{and_from, and_parts}
use Rattle.std.proofs.lemmas.Map.Iter.{rest_more, rest_all}
use Rattle.std.proofs.lemmas.Map.Keys.{sorted_tail}
use Rattle.wtf_kv.specs.Recents.{is_among, is_due}
use Rattle.wtf_kv.specs.Stores.{listed, versions_in}
use Rattle.wtf_kv.proofs.Ranges.{part_inside, part_sorted}
use Rattle.wtf_kv.proofs.Changed.{among_part, among_head, past_among, least_among}
use Rattle.wtf_kv.proofs.cells.first_due.Goals as goal

pub loop-key-init : goal.loop-key-init
loop-key-init g c =
    let R = g.K.Ord.cmp in
    let start = bound_map (λ k. k.now) c.args.start in
    let whole = c.into_iter-key-iterator.ensures.into_iter_gives ∙ c.range-key-items.ensures.between tt in
    let due : g.row.K.Denot → Bool = λ q. is_due c.args.pins.now c.args.number c.args.since (versions_in R (listed c.args.cells.now.entries) q) in
    record {
      sorted = subst (λ l. IsStrictlySortedBy R (keys_of l)) (sym whole) (part_sorted R start c.args.keys.now.entries c.range-key-items.ensures.ordered);
      inside = subst (AllByRecursion (λ e. is_from_start R start e.0 ≡ true)) (sym whole) (part_inside g.met.K.Ord.total g.met.K.StoreKey.exact start c.args.keys.now.entries);
      left = λ q from. ap (λ b. b && due q) (sym (among_part g.met.K.Ord.total g.met.K.StoreKey.exact start c.args.keys.now.entries q from)) ∙ ap (λ l. is_among R l q && due q) (sym whole);
    }

pub loop-key-preserved : goal.loop-key-preserved
loop-key-preserved g c =
    let R = g.K.Ord.cmp in
    let due : g.row.K.Denot → Bool = λ q. is_due c.args.pins.now c.args.number c.args.since (versions_in R (listed c.args.cells.now.entries) q) in
    let more = rest_more deref_pair c.loop-key.key-iterator c.next.new.self c.next.result (c.in-Some.key, c.in-Some.field-0-1) c.in-Some.is c.next.ensures.steps in
    let none : due c.in-Some.key.now ≡ false = sym c.is_due.ensures ∙ c.if-is_due.false in
    record {
      sorted = sorted_tail R _ _ (subst (λ l. IsStrictlySortedBy R (keys_of l)) more c.loop-key.invariant.sorted);
      inside = (subst (AllByRecursion (λ e. is_from_start R (bound_map (λ k. k.now) c.args.start) e.0 ≡ true)) more c.loop-key.invariant.inside).1;
      left = λ q from. c.loop-key.invariant.left q from ∙ ap (λ l. is_among R l q && due q) more ∙ past_among g.met.K.Ord.total g.met.K.StoreKey.exact due (c.in-Some.key.now, c.in-Some.field-0-1.now) c.next.new.self q none;
    }

pub returns-then-is_due : goal.returns-then-is_due
returns-then-is_due g c =
    let R = g.K.Ord.cmp in
    let due : g.row.K.Denot → Bool = λ q. is_due c.args.pins.now c.args.number c.args.since (versions_in R (listed c.args.cells.now.entries) q) in
    let more = rest_more deref_pair c.loop-key.key-iterator c.next.new.self c.next.result (c.in-Some.key, c.in-Some.field-0-1) c.in-Some.is c.next.ensures.steps in
    let yes : due c.in-Some.key.now ≡ true = sym c.is_due.ensures ∙ c.if-is_due.true in
    let sorted = subst (λ l. IsStrictlySortedBy R (keys_of l)) more c.loop-key.invariant.sorted in
    let from = (subst (AllByRecursion (λ e. is_from_start R (bound_map (λ k. k.now) c.args.start) e.0 ≡ true)) more c.loop-key.invariant.inside).0 in (
      from,
      c.loop-key.invariant.left c.in-Some.key.now from ∙ ap (λ l. is_among R l c.in-Some.key.now && due c.in-Some.key.now) more ∙ and_from _ _ (among_head g.met.K.Ord.total g.met.K.StoreKey.exact (c.in-Some.key.now, c.in-Some.field-0-1.now) c.next.new.self) yes,
      λ q after some. least_among g.met.K.Ord.total g.met.K.StoreKey.exact (c.in-Some.key.now, c.in-Some.field-0-1.now) c.next.new.self q sorted (sym (ap (λ l. is_among R l q) more) ∙ (and_parts _ _ (sym (c.loop-key.invariant.left q after) ∙ some)).0),
    )

pub returns : goal.returns
returns g c = λ q after.
    let R = g.K.Ord.cmp in
    let end = rest_all deref_pair c.loop-key.key-iterator c.next.new.self c.next.result c.in-None.is c.next.ensures.steps in
    c.loop-key.invariant.left q after ∙ ap (λ l. is_among R l q && is_due c.args.pins.now c.args.number c.args.since (versions_in R (listed c.args.cells.now.entries) q)) end
