use Rattle.std.proofs.Common.{arith, ◌<◌, ◌≡◌, ◌∙◌, length, get_or, sym, ap, cond, drop, take, nat_le, Option, Some}
use Rattle.std.proofs.lemmas.Bool.{le-leb}
use Rattle.wtf_kv.specs.Edits.{after_changes}
use Rattle.wtf_occ.proofs.Indexed.{below-at, change-here, after_positions-step}
use Rattle.wtf_values.specs.declared.region.RegionValue.{RegionValue}
use Rattle.wtf_values.specs.declared.value.Value.{Value}
use Rattle.wtf_values.specs.declared.value.Value.TheVariants.{Region}
use Rattle.wtf_values.specs.Keys.{key_cmp}
use Rattle.wtf_values.specs.Outcomes.{outcome_of}
use Rattle.wtf_values.specs.Regions.{pushed_all}
use Rattle.wtf_region.proofs.OwnLaws.{pushed_all-more}
use Rattle.wtf_region.proofs.own.entries_at.Goals as goal

pub offset_bounds-changes-position : goal.offset_bounds-changes-position
offset_bounds-changes-position c = omega (arith, below-at _ c.args.positions.now c.loop-position.position-index 0 c.requires c.loop-position-test.true)

pub bounds-changes-position : goal.bounds-changes-position
bounds-changes-position c = below-at _ c.args.positions.now c.loop-position.position-index 0 c.requires c.loop-position-test.true

pub loop-position-preserved : goal.loop-position-preserved
loop-position-preserved c = λ v.
    let cs = c.args.changes.now in
    let key = c.args.key.now in
    let is = c.args.positions.now in
    let k = c.loop-position.position-index in
    let i = get_or is k 0 in
    let es = c.loop-position.entries.items in
    let now : Option Value = Some (Region (pushed_all v es)) in
    let later : Option Value = Some (Region (pushed_all v c.push.new.self.items)) in
    let made = after_changes key_cmp outcome_of (take 1 (drop i cs)) key now in
    let lt : i < length cs = below-at _ is k 0 c.requires c.loop-position-test.true in
    let next : later ≡ cond (nat_le 0 i) made now =
    ap (λ l. Some (Region (pushed_all v l))) c.in_ok-push.ensures.items
    ∙ ap (λ (r : RegionValue). Some (Region r)) (pushed_all-more v es c.in-Some.e.now)
    ∙ sym (c.in-Some.ensures (pushed_all v es))
    ∙ sym (change-here key_cmp cs key is k c.loop-position-test.true outcome_of i c.index-changes-position.result now lt c.index-changes-position.is)
    ∙ sym (ap (λ b. cond b made now) (le-leb 0 i (omega arith))) in
    after_positions-step key_cmp cs key is k c.loop-position-test.true outcome_of 0 now later next ∙ c.loop-position.invariant v
