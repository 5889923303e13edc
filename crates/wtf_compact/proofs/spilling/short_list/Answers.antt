use Rattle.std.proofs.Common.{inr}
use Rattle.wtf_meta.specs.Lists.{base_facts}
use Rattle.wtf_region.proofs.BaseLaws.{base_wants}
use Rattle.wtf_compact.proofs.Shortening.{short_of}
use Rattle.wtf_compact.proofs.spilling.short_list.Goals as goal

pub returns-in-Ok-compact-clause-list : goal.returns-in-Ok-compact-clause-list
returns-in-Ok-compact-clause-list g c =
    short_of g.S.SliceStore.kind c.args.dev.now c.region_list.new.dev c.args.value.now c.in-Ok.whole c.in-Ok-compact.list c.in-Ok.ensures.read
    c.in-Ok-compact.ensures.compact c.in-Ok-compact.ensures.origins c.in-Ok-compact.ensures.within c.in-Ok-compact.ensures.places

pub returns-clause-left : goal.returns-clause-left
returns-clause-left g c =
    let base = c.args.value.now.base in
    let read = c.in-Ok.ensures.read in
    inr (base_facts base read.under, base_wants base read.under, read.recalls)
