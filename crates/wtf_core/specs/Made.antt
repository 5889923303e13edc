-- What holds of the parts of a core.
use Rattle.std.specs.Prelude.{◌≡◌}
use Rattle.wtf_base.specs.declared.settings.Settings.{Settings}
use Rattle.wtf_base.specs.Limits.{AreSettings}
use Rattle.wtf_replica.specs.declared.replicas.Replicas.{Replicas}
use Rattle.wtf_replica.specs.Downs.{settings_of}
use Rattle.wtf_ring.specs.Points.{RingView, IsRing}
use Rattle.wtf_region.specs.Cached.{CacheView, AreFrom}
use Rattle.wtf_clients.specs.Views.{TablesView}
use Rattle.wtf_clients.specs.Sounds.{AreSound}

-- the servers, the ring and the places that are remembered are those of the settings, and the tables are sound
pub record IsCoreMade (settings : Settings) (tables : TablesView) (replicas : Replicas) (ring : RingView) (cache : CacheView) : Type 0 where
  pub settings_are : AreSettings settings.servers settings.replicas settings.region
  pub replicas_are : settings_of replicas ≡ settings
  pub ring_is : ring.servers ≡ settings.servers
  pub points_are : IsRing settings.servers ring.points
  pub cache_is : AreFrom ring cache.places
  pub tables_are : AreSound tables
