use Rattle.std.proofs.Common.{◌≡◌, sym, ap, ◌∙◌}
use Rattle.wtf_region.specs.Cached.{list_fact, recalled_one}
use Rattle.wtf_region.specs.Devs.{remembered}
use Rattle.wtf_region.proofs.Spans.{goes_on}
use Rattle.wtf_region.proofs.Recalling.{looked_up_some, looked_up_none, remembers_recalled}
use Rattle.wtf_region.proofs.Recalls.{list_within}
use Rattle.wtf_region.proofs.ListReads.{read_cached, read_anew}
use Rattle.wtf_region.proofs.list.base_list.Goals as goal

pub returns-in-Some-clause-read : goal.returns-in-Some-clause-read
returns-in-Some-clause-read g c =
    read_cached g.met.S.SliceStore.laws c.requires.sound c.recall.ensures.dev c.args.slice.now c.in-Some.list (sym c.in-Ok.ensures.value ∙ c.in-Some.is)
    (looked_up_some c.args.slice.now c.in-Some.list c.in-Ok.known (remembered c.args.dev.now) (remembered c.recall.new.dev) c.in-Some.is c.in-Ok.ensures.ok)

pub returns-in-Some-clause-only : goal.returns-in-Some-clause-only
returns-in-Some-clause-only g c = remembers_recalled c.args.slice.now c.in-Some.list (remembered c.args.dev.now) (remembered c.recall.new.dev)
    (looked_up_some c.args.slice.now c.in-Some.list c.in-Ok.known (remembered c.args.dev.now) (remembered c.recall.new.dev) c.in-Some.is c.in-Ok.ensures.ok)

pub returns-in-Err-read_list-clause-dev : goal.returns-in-Err-read_list-clause-dev
returns-in-Err-read_list-clause-dev g c = goes_on g.met.S.SliceStore.laws c.recall.ensures.dev c.read_list.ensures.dev

pub returns-in-Ok-remember-clause-read : goal.returns-in-Ok-remember-clause-read
returns-in-Ok-remember-clause-read g c =
    let s = c.args.slice.now in
    let list = c.in-Ok-read_list.list in
    let same : remembered c.recall.new.dev ≡ remembered c.args.dev.now =
    looked_up_none s c.in-Ok.known (remembered c.args.dev.now) (remembered c.recall.new.dev) c.in_default.is c.in-Ok.ensures.ok in
    read_anew g.met.S.SliceStore.laws (goes_on g.met.S.SliceStore.laws c.recall.ensures.dev c.read_list.ensures.dev) c.remember.ensures.dev s list
    c.in-Ok-read_list.ensures.read
    (list_within g.met.S.SliceStore.laws c.recall.ensures.dev c.read_list.ensures.dev c.remember.ensures.dev s list same c.in-Ok-read_list.ensures.fetched)
    (c.in-Ok-remember.ensures.ok ∙ ap (recalled_one (list_fact s list)) (ap (λ cache. cache.now.lists) c.read_list.ensures.cache ∙ same))

pub returns-in-Ok-remember-clause-only : goal.returns-in-Ok-remember-clause-only
returns-in-Ok-remember-clause-only g c =
    let s = c.args.slice.now in
    let list = c.in-Ok-read_list.list in
    let same : remembered c.recall.new.dev ≡ remembered c.args.dev.now =
    looked_up_none s c.in-Ok.known (remembered c.args.dev.now) (remembered c.recall.new.dev) c.in_default.is c.in-Ok.ensures.ok in
    remembers_recalled s list (remembered c.args.dev.now) (remembered c.remember.new.dev)
    (c.in-Ok-remember.ensures.ok ∙ ap (recalled_one (list_fact s list)) (ap (λ cache. cache.now.lists) c.read_list.ensures.cache ∙ same))

pub returns-in-Ok-remember-clause-dev : goal.returns-in-Ok-remember-clause-dev
returns-in-Ok-remember-clause-dev g c = goes_on g.met.S.SliceStore.laws (goes_on g.met.S.SliceStore.laws c.recall.ensures.dev c.read_list.ensures.dev)
    c.remember.ensures.dev

pub returns-in-Err-remember-clause-dev : goal.returns-in-Err-remember-clause-dev
returns-in-Err-remember-clause-dev g c = goes_on g.met.S.SliceStore.laws (goes_on g.met.S.SliceStore.laws c.recall.ensures.dev c.read_list.ensures.dev)
    c.remember.ensures.dev
