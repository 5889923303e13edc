-- What a call meets: what it is lent, the map, and that all bytes lie inside the stores.
use Rattle.std.specs.Prelude.{List}
use Rattle.wtf_base.specs.declared.settings.Settings.{Settings}
use Rattle.wtf_dev.specs.Store.{StoreKind}
use Rattle.wtf_meta.specs.Maps.{Map}
use Rattle.wtf_meta.specs.Sessions.{SessionView, SessionBytes}
use Rattle.wtf_region.specs.declared.dev.Dev.{Dev}
use Rattle.wtf_region.specs.Inside.{is_inside, IsStoredInside}

-- all bytes of a map and of the slices in hand lie inside the stores
abbrev pub AreInside : {S : Type 0} → StoreKind S → List S → Settings → Map → SessionView → Type 0
AreInside kind shelf settings w s = IsStoredInside kind shelf settings w × SessionBytes (is_inside kind shelf settings) s

-- what a call was lent, what it left of it, and the map that it saw
pub record Scene (S : Type 0) : Type 1 where
  pub kind : StoreKind S
  pub before : Dev S
  pub after : Dev S
  pub map : Map
