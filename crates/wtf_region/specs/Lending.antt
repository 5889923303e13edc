-- A cache that lends a place.
use Rattle.std.specs.Prelude.{◌≡◌, ⊤}
use Rattle.std.specs.Borrow.{Fml, MutBor, follows_so}
use mathlib.Core.Option.{none}
use Rattle.wtf_ring.specs.Points.{RingView}
use Rattle.wtf_region.specs.contracts.cache.RegionCache.{the_row}
use Rattle.wtf_region.specs.Cached.{CacheView, AreFrom}

-- the cache ends with places of the ring, and with the lists that it had
abbrev pub LendsPlace : RingView → MutBor CacheView → Fml
LendsPlace ring cache = follows_so the_row the_row cache.ghost_name none (λ _ _. ⊤) (λ n. AreFrom ring n.places × (n.lists ≡ cache.now.lists))
