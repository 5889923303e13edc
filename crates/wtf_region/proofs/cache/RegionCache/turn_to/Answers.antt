use Rattle.std.proofs.Common.{sym, ap, ◌∙◌, subst}
use Rattle.lru.specs.LruCache.{LruCache}
use Rattle.wtf_ring.specs.Points.{PlaceView}
use Rattle.wtf_region.specs.declared.cache.RegionKey.{RegionKey}
use Rattle.wtf_region.specs.Cached.{CacheView, AreFrom, BeginsAt}
use Rattle.wtf_region.proofs.Places.{AreFrom-places, AreFrom-promoted, BeginsAt-promoted}
use Rattle.wtf_region.proofs.cache.RegionCache.turn_to.Goals as goal

pub learn-requires : goal.learn-requires
learn-requires c =
    let ring = c.args.ring.now in
    let places = c.self.inside.places in
    subst (λ (x : LruCache RegionKey PlaceView). AreFrom ring x.entries) (sym c.promote.ensures.entries)
    (AreFrom-promoted c.args.key ring places.entries
    (AreFrom-places ring c.self.inside.spare places.entries c.args.self.now.places (ap (λ (v : CacheView). v.places) c.self.view_is) c.requires))

pub returns-else-not-promote-clause-from : goal.returns-else-not-promote-clause-from
returns-else-not-promote-clause-from c =
    let ring = c.args.ring.now in
    let places = c.self.inside.places in
    subst (λ (x : LruCache RegionKey PlaceView). AreFrom ring x.entries) (sym c.promote.ensures.entries)
    (AreFrom-promoted c.args.key ring places.entries
    (AreFrom-places ring c.self.inside.spare places.entries c.args.self.now.places (ap (λ (v : CacheView). v.places) c.self.view_is) c.requires))

pub returns-else-not-promote-clause-first : goal.returns-else-not-promote-clause-first
returns-else-not-promote-clause-first c =
    subst (λ (x : LruCache RegionKey PlaceView). BeginsAt c.args.key x.entries) (sym c.promote.ensures.entries)
    (BeginsAt-promoted c.args.key c.self.inside.places.entries (sym c.if-not-promote.ensures.value))

pub returns-then-not-promote-clause-lists : goal.returns-then-not-promote-clause-lists
returns-then-not-promote-clause-lists c = c.learn.ensures.lists ∙ ap (λ (v : CacheView). v.lists) c.self.view_is

pub returns-else-not-promote-clause-lists : goal.returns-else-not-promote-clause-lists
returns-else-not-promote-clause-lists c = ap (λ (v : CacheView). v.lists) c.self.view_is
