use Rattle.std.proofs.Common.{◌≡◌, ◌∙◌, sym, subst}
use Rattle.wtf_overlay.specs.Clips.{Within}
use Rattle.wtf_values.specs.Bases.{IsBelow}
use Rattle.wtf_values.specs.Regions.{pushed_all}
use Rattle.wtf_values.proofs.PushLaws.{pushed_all-end, pushed_all-base, pushed_all-list}
use Rattle.wtf_values.proofs.RegionLaws.{region_eq}
use Rattle.wtf_values.proofs.region.RegionValue.lay_all.Goals as goal

pub invariant_of-self : goal.invariant_of-self
invariant_of-self c =
    let v = c.args.self.now in
    record {
      within = subst (Within v.end) (sym c.in_err-push_many.ensures.err) v.within;
      below = v.below;
    }

pub invariant_of-self-2 : goal.invariant_of-self-2
invariant_of-self-2 c =
    let v = c.args.self.now in
    let es = c.args.entries.now in
    let w = pushed_all v es in
    let end : c.last_end-end.result ≡ w.end = c.last_end-end.ensures ∙ sym (pushed_all-end v es) in
    let list : c.push_many.new.self ≡ w.list = c.in_ok-push_many.ensures.ok ∙ sym (pushed_all-list v es) in
    record {
      within = subst (λ n. Within n c.push_many.new.self) (sym end) (subst (Within w.end) (sym list) w.within);
      below = subst (λ n. IsBelow n v.base) (sym end) (subst (IsBelow w.end) (pushed_all-base v es) w.below);
    }

pub returns : goal.returns
returns c =
    let v = c.args.self.now in
    let es = c.args.entries.now in
    region_eq _ (pushed_all v es) (c.last_end-end.ensures ∙ sym (pushed_all-end v es)) (sym (pushed_all-base v es)) (c.in_ok-push_many.ensures.ok ∙ sym (pushed_all-list v es))
