use Rattle.std.proofs.Common.{◌≡◌, List, ◌++◌, Option, Some, refl, sym, ap, ◌∙◌, subst, option_to_list}
use Rattle.lru.specs.LruCache.{LruCache}
use Rattle.wtf_ring.specs.Points.{PlaceView}
use Rattle.wtf_region.specs.declared.cache.RegionKey.{RegionKey}
use Rattle.wtf_region.specs.Cached.{CacheView, IsPlaceOf, AreFrom, BeginsAt}
use Rattle.wtf_region.proofs.Places.{AreFrom-places, AreFrom-put_entries, AreFrom-cons, BeginsAt-put_entries}
use Rattle.wtf_region.proofs.cache.RegionCache.learn.Goals as goal
use Rattle.wtf_region.proofs.cache.RegionCache.learn.Goals.{in-Ok, in-Err}

-- what holds of a spare place and the others
abbrev Both : (List (RegionKey × PlaceView) → Type 0) → Option (RegionKey × PlaceView) → LruCache RegionKey PlaceView → Type 0
Both P spare places = P (option_to_list spare ++ places.entries)

moved : (P : List (RegionKey × PlaceView) → Type 0) (s t : Option (RegionKey × PlaceView)) (c d : LruCache RegionKey PlaceView) → s ≡ t → c ≡ d → Both P t d
    → Both P s c
moved P s t c d spare places h =
    subst (λ (x : Option (RegionKey × PlaceView)). Both P x c) (sym spare)
    (subst (λ (x : LruCache RegionKey PlaceView). Both P t x) (sym places) h)

pub returns-clause-from : goal.returns-clause-from
returns-clause-from c =
    let ring = c.args.ring.now in
    let place = c.order-place.result in
    let is : IsPlaceOf ring c.args.key place = record { value = c.order-place.ensures.value; order = c.order-place.ensures.order } in
    let before : AreFrom ring c.self.inside.places.entries =
    AreFrom-places ring c.self.inside.spare c.self.inside.places.entries c.args.self.now.places (ap (λ (v : CacheView). v.places) c.self.view_is) c.requires in
    elim c.match-put.branch [
      | in-Ok w ↦ moved (AreFrom ring) _ _ _ _ w.self-is w.in-Ok.ensures.entries (AreFrom-put_entries c.args.key c.self.inside.places place ring before is)
      | in-Err w ↦ moved (AreFrom ring) _ _ _ _ (w.self-is ∙ ap Some w.in-Err.ensures.value_returned) w.in-Err.ensures.err
          (AreFrom-cons ring c.args.key place c.self.inside.places.entries is before)
    ]

pub returns-clause-first : goal.returns-clause-first
returns-clause-first c = elim c.match-put.branch [
  | in-Ok w ↦ moved (BeginsAt c.args.key) _ _ _ _ w.self-is w.in-Ok.ensures.entries (BeginsAt-put_entries c.args.key c.self.inside.places c.order-place.result)
  | in-Err w ↦ moved (BeginsAt c.args.key) _ _ _ _ (w.self-is ∙ ap Some w.in-Err.ensures.value_returned) w.in-Err.ensures.err refl
]

pub returns-clause-lists : goal.returns-clause-lists
returns-clause-lists c = ap (λ (v : CacheView). v.lists) c.self.view_is
