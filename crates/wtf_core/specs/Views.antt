-- What contracts see of a core.
use Rattle.std.specs.Prelude.{Bool, List}
use Rattle.wtf_base.specs.declared.settings.Settings.{Settings}
use Rattle.wtf_dev.specs.Store.{StoreKind}
use Rattle.wtf_replica.specs.declared.replicas.Replicas.{Replicas}
use Rattle.wtf_replica.specs.Bytes.{shown_byte}
use Rattle.wtf_region.specs.Cached.{Remembered, TrueBut, CacheTrue}
use Rattle.wtf_clients.specs.Asked.{Lending, lending}
pub use Rattle.wtf_clients.specs.Views.{Clients, of_client, BesideView, unsaved, TablesView, metadata_now}

-- the settings; the tables; the servers, up or down; whether it is closed, for want of memory; and the lists that it remembers of
-- slices in which bases of regions lie
pub record CoreView : Type 0 where
  pub settings : Settings
  pub tables : TablesView
  pub replicas : Replicas
  pub closed : Bool
  pub lists : Remembered

-- what a line of it is lent, and the lists that it leaves
abbrev pub lent_of : (old new : CoreView) → Lending
lent_of old new = lending old.settings old.lists new.lists

-- what is known over these stores of the lists that the core remembers: each is true, but those of slices of which a byte lies in these ranges
abbrev pub KnowsLists : {S : Type 0} → StoreKind S → List S → CoreView → TrueBut
KnowsLists kind shelf core ranges = CacheTrue (shown_byte kind shelf) core.settings.region ranges core.lists
