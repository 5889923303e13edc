-- What a call is lent, and what it leaves of it.
use Rattle.std.specs.Prelude.{◌≡◌, ℕ, ◌≤◌, ◌/◌, Bool, List, length}
use Rattle.wtf_base.specs.declared.ids.InodeId.{InodeId}
use Rattle.wtf_ring.specs.Points.{PlaceView, place_of}
use Rattle.wtf_replica.specs.Bytes.{byte_at, shown_byte}
use Rattle.wtf_replica.specs.Downs.{settings_of, is_down, during}
use Rattle.wtf_replica.specs.Outs.{SameFrom}
use Rattle.wtf_replica.specs.Spans.{Span}
use Rattle.wtf_dev.specs.Store.{Range, StoreKind}
use Rattle.wtf_dev.specs.Each.{EachFollows}
use Rattle.wtf_overlay.specs.Origin.{Place}
use Rattle.wtf_meta.specs.Contents.{Told}
use Rattle.wtf_region.specs.Apart.{with_ranges}
use Rattle.wtf_region.specs.Cached.{Remembered, TrueBut, AreFrom, CacheInside, CacheTrue}
use Rattle.wtf_region.specs.Inside.{is_inside}
use Rattle.wtf_region.specs.declared.dev.Dev.{Dev}

-- the stores that are lent
abbrev pub stores : {S : Type 0} → Dev S → List S
stores dev = dev.shelf.now

-- which servers are down
abbrev pub is_down_in : {S : Type 0} → Dev S → ℕ → Bool
is_down_in dev = is_down dev.replicas.now

-- the lists that are remembered
abbrev pub remembered : {S : Type 0} → Dev S → Remembered
remembered dev = dev.cache.now.lists

-- what the stores tell
abbrev pub told_in : {S : Type 0} → StoreKind S → Dev S → Told
told_in kind dev = byte_at kind (stores dev)

-- what a read of the stores gives
abbrev pub shown_in : {S : Type 0} → StoreKind S → Dev S → Told
shown_in kind dev = shown_byte kind (stores dev)

-- each list that is remembered is true, but those of slices of which a byte lies in these ranges
abbrev pub RemembersTrue : {S : Type 0} → StoreKind S → Dev S → TrueBut
RemembersTrue kind dev ranges = CacheTrue (shown_in kind dev) dev.settings.region ranges (remembered dev)

-- the places of a byte all lie inside the stores, on servers of the settings
abbrev pub inside_of : {S : Type 0} → StoreKind S → Dev S → List Place → Bool
inside_of kind dev = is_inside kind (stores dev) dev.settings

-- the span of a call that was lent `old` and left `new`
abbrev pub between : {S : Type 0} → Dev S → Dev S → Span S
between old new = during old.replicas.now old.shelf.now new.shelf.now

-- where the bytes at an offset of a file go: the place of its region
abbrev pub place_in : {S : Type 0} → Dev S → InodeId → ℕ → PlaceView
place_in dev inode off = place_of dev.ring.now.points inode (off / dev.settings.region)

-- the replicas and the ring were made for the settings, the servers are there, the places in the cache are the ring's, and
-- the slices in it and what their lists name lie inside the stores
pub record IsSoundDev {S : Type 0} (kind : StoreKind S) (dev : Dev S) : Type 0 where
  pub replicas : settings_of dev.replicas.now ≡ dev.settings
  pub ring : dev.ring.now.servers ≡ dev.settings.servers
  pub shelf : dev.settings.servers ≤ length dev.shelf.now
  pub cache : AreFrom dev.ring.now dev.cache.now.places
  pub lists : CacheInside (inside_of kind dev) (remembered dev)

-- the same is lent, each store follows what it was, with these ranges punched, and lists that were those of their slices are so
-- still, but where a range has a byte of the slice; stores of no server of the settings are as they were
pub record GoesOn {S : Type 0} (kind : StoreKind S) (old new : Dev S) (punched : List (ℕ × Range)) : Type 0 where
  pub shelf : new.shelf.ghost_name ≡ old.shelf.ghost_name
  pub cache : new.cache.ghost_name ≡ old.cache.ghost_name
  pub replicas : new.replicas ≡ old.replicas
  pub ring : new.ring ≡ old.ring
  pub settings : new.settings ≡ old.settings
  pub each : EachFollows kind old.shelf.now new.shelf.now punched
  pub past : SameFrom old.settings.servers old.shelf.now new.shelf.now
  pub sound : IsSoundDev kind new
  pub lists : (ranges : List (ℕ × Range)) → RemembersTrue kind old ranges → RemembersTrue kind new (with_ranges ranges punched)
