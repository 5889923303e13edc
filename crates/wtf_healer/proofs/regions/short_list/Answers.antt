use Rattle.wtf_healer.proofs.Shortening.{short_of}
use Rattle.wtf_healer.proofs.regions.short_list.Goals as goal

pub returns-in-Ok-compact-clause-short : goal.returns-in-Ok-compact-clause-short
returns-in-Ok-compact-clause-short c =
    short_of c.args.value.now c.args.under.now c.in-Ok.whole c.in-Ok-compact.list c.in-Ok.ensures.list
    c.in-Ok-compact.ensures.compact c.in-Ok-compact.ensures.origins c.in-Ok-compact.ensures.within c.in-Ok-compact.ensures.places
