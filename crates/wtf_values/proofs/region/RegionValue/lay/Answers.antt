use Rattle.std.proofs.Common.{◌≡◌, ◌+◌, max, ◌∙◌, ap, sym, subst}
use Rattle.wtf_overlay.specs.Clips.{Within}
use Rattle.wtf_overlay.proofs.Clipping.{Within-push}
use Rattle.wtf_values.specs.Bases.{IsBelow, IsBelow-more}
use Rattle.wtf_values.specs.Regions.{greater_left}
use Rattle.wtf_values.proofs.region.RegionValue.lay.Goals as goal

pub invariant_of-self : goal.invariant_of-self
invariant_of-self c =
    let v = c.args.self.now in
    record {
      within = subst (Within v.end) (sym c.in_err-push.ensures.err) v.within;
      below = v.below;
    }

pub invariant_of-self-2 : goal.invariant_of-self-2
invariant_of-self-2 c =
    let v = c.args.self.now in
    let end : c.max-self.result ≡ max v.end (c.args.e.off + c.args.e.len) = c.max-self.ensures ∙ ap (max v.end) c.end.ensures in
    record {
      within = subst (λ n. Within n c.push.new.self) (sym end) (subst (Within (max v.end (c.args.e.off + c.args.e.len))) (sym c.in_ok-push.ensures.ok) (Within-push v.end v.list c.args.e v.within));
      below = subst (λ n. IsBelow n v.base) (sym end) (IsBelow-more v.end (max v.end (c.args.e.off + c.args.e.len)) v.base (greater_left v.end (c.args.e.off + c.args.e.len)) v.below);
    }
