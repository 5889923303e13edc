use Rattle.std.proofs.Common.{◌≡◌, ◌≤◌, Some, length, ap, ◌∙◌, sym, subst}
use Rattle.wtf_region.specs.Cached.{CacheView, Remembered, cached, list_fact, recalled_one}
use Rattle.wtf_region.proofs.Recalling.{promoted_recalls, recalled_few}
use Rattle.wtf_region.proofs.cache.RegionCache.look_up.Goals as goal

pub returns-clause-ok : goal.returns-clause-ok
returns-clause-ok c =
    let s = c.args.slice.now in
    let list = c.in_ok-own.own in
    let es = c.self.inside.lists.entries in
    let is : cached es s ≡ Some list = sym c.in-Some.ensures ∙ ap Some (sym c.in_ok-own.ensures) in
    rw c.promote.ensures.entries
    (promoted_recalls s list es c.self.invariant.1 is ∙ ap (λ (v : CacheView). recalled_one (list_fact s list) v.lists) c.self.view_is)

pub invariant_of-self : goal.invariant_of-self
invariant_of-self c =
    let s = c.args.slice.now in
    let list = c.in_ok-own.own in
    let es = c.self.inside.lists.entries in
    let is : cached es s ≡ Some list = sym c.in-Some.ensures ∙ ap Some (sym c.in_ok-own.ensures) in
    rw c.promote.ensures.entries (
      c.self.invariant.0,
      subst (λ (l : Remembered). length l ≤ 64) (sym (promoted_recalls s list es c.self.invariant.1 is)) (recalled_few (list_fact s list) es),
    )
