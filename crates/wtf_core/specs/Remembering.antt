-- What a line makes of the lists that a core remembers.
use Rattle.std.specs.Prelude.{ℕ, List}
use Rattle.wtf_dev.specs.Store.{Range, StoreKind}
use Rattle.wtf_replica.specs.Bytes.{shown_byte}
use Rattle.wtf_replica.specs.Downs.{is_down}
use Rattle.wtf_region.specs.Apart.{with_ranges}
use Rattle.wtf_region.specs.Cached.{CacheInside, CacheTrue}
use Rattle.wtf_region.specs.Inside.{is_inside}
use Rattle.wtf_model.specs.declared.answer.Answer.{Answer}
use Rattle.wtf_model.specs.declared.event.Event.{Event}
use Rattle.wtf_core.specs.Punched.{AreFreed, CorePunches}
use Rattle.wtf_core.specs.Views.{CoreView, KnowsLists}

-- The slices and what their lists name lie inside the stores as they are left, of which these ranges were punched; and where each list was
-- what the bytes of its slice decode to, but for slices that have a byte in one of the ranges then, each is so still, but for those that have
-- one in one of these.
pub record KeepsLists {S : Type 0} (kind : StoreKind S) (before after : List S) (punched : List (ℕ × Range)) (old new : CoreView) : Type 0 where
  pub inside : CacheInside (is_inside kind after old.settings) new.lists
  pub true_still : (ranges : List (ℕ × Range)) → KnowsLists kind before old ranges
      → CacheTrue (shown_byte kind after) old.settings.region (with_ranges ranges punched) new.lists

-- what a line punched and freed, and what it made of the lists that are remembered
pub record KeepsPunched {S : Type 0} (kind : StoreKind S) (before after : List S) (old new : CoreView) (e : Event) (a : Answer) : Type 0 where
  pub punches : CorePunches kind before after old.tables.beside.gc new.tables.beside.gc e a
  pub freed : AreFreed kind (is_down old.replicas) before after old.tables.beside.gc new.tables.beside.gc
  pub lists : KeepsLists kind before after punches.ranges old new
