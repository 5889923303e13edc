use Rattle.std.proofs.Common.{rules, ◌≡◌, ◌∙◌, ◌+◌, ◌++◌, ℕ, List, None, Some, ap, subst}
use Rattle.wtf_kv.specs.Edits.{after_changes}
use Rattle.wtf_overlay.specs.Origin.{Plans, origin}
use Rattle.wtf_overlay.specs.declared.part.Entry.{Entry}
use Rattle.wtf_values.specs.declared.value.Value.TheVariants.{Region}
use Rattle.wtf_values.specs.Keys.{key_cmp}
use Rattle.wtf_values.specs.Outcomes.{outcome_of}
use Rattle.wtf_values.specs.Regions.{pushed_all}
use Rattle.wtf_meta.specs.FileEdits.{region_of}
use Rattle.wtf_meta.specs.Maps.{metadata_at}
use Rattle.wtf_region.specs.Own.{LayAll}
use Rattle.wtf_region.proofs.OwnLaws.{laid_base, laid_list}
use Rattle.wtf_region.proofs.own.own_pieces.Goals as goal

pub returns : goal.returns
returns c =
    let at = c.args.at.now in
    let key = c.args.key.now in
    let r = c.in-Some-Region.region in
    let es = c.in-Some.entries.items in
    let lay : LayAll at.changes key es = rw c.in-Some.is at c.in_ok-entries.ensures in
    let below : metadata_at c.args.kv.now at.base key ≡ Some (Region r) = search rules in
    let none : r.base ≡ None = search rules in
    record {
      region = pushed_all r es;
      is = ap region_of (ap (after_changes key_cmp outcome_of at.changes key) below ∙ lay r);
      none = laid_base r es ∙ none;
      plans = subst (λ (l : List Entry). Plans c.in_ok-pieces.pieces.items c.args.part.len (λ (i : ℕ). origin l (c.args.part.off + i)))
          (ap (λ (l : List Entry). r.list ++ l) c.as_slice.ensures.value ∙ laid_list r es) c.in_ok-pieces.ensures.origins;
    }
