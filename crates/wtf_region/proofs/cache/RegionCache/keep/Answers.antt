use Rattle.std.proofs.Common.{List, ap, ◌∙◌}
use Rattle.wtf_overlay.specs.declared.part.Entry.{Entry}
use Rattle.wtf_region.specs.Cached.{CacheView, list_fact, recalled_one}
use Rattle.wtf_region.proofs.Recalling.{put_recalls, kept_few}
use Rattle.wtf_region.proofs.cache.RegionCache.keep.Goals as goal

pub returns-in-Ok-clause-ok : goal.returns-in-Ok-clause-ok
returns-in-Ok-clause-ok c =
    let s = c.args.slice in
    rw c.in-Ok.ensures.entries
    (put_recalls c.self.inside.lists s c.in_ok-own.own c.self.invariant.0 c.self.invariant.1
    ∙ ap (λ (l : List Entry). recalled_one (list_fact s l) c.self.inside.lists.entries) c.in_ok-own.ensures
    ∙ ap (λ (v : CacheView). recalled_one (list_fact s c.args.list.now) v.lists) c.self.view_is)

pub invariant_of-self : goal.invariant_of-self
invariant_of-self c =
    kept_few c.put.result c.self.inside.lists c.put.new.self c.args.slice c.in_ok-own.own c.put.ensures.entries c.put.ensures.err c.self.invariant
