-- Bytes that lie inside the stores go on to.
use Rattle.std.proofs.Common.{◌≡◌, ◌≤◌, Bool, true, List, [], length, sym, subst}
use Rattle.wtf_dev.specs.Store.{StoreKind, KindLaws}
use Rattle.wtf_dev.specs.Each.{EachFollows}
use Rattle.wtf_overlay.specs.Origin.{Place}
use Rattle.wtf_meta.specs.Bytes.{MapBytes, any_slice}
use Rattle.wtf_meta.specs.Maps.{Map}
use Rattle.wtf_meta.specs.Sessions.{SessionView, SessionBytes}
use Rattle.wtf_meta.proofs.Weaker.{map_stays, session_stays}
use Rattle.wtf_region.specs.declared.dev.Dev.{Dev}
use Rattle.wtf_region.specs.Devs.{stores}
use Rattle.wtf_region.specs.Inside.{is_inside}
use Rattle.wtf_region.proofs.InsideLaws.{inside_stays}
use Rattle.wtf_steps.specs.Scenes.{AreInside}

-- also where nothing but the stores goes on
pub stays_inside : {S : Type 0} {kind : StoreKind S} → KindLaws kind → (old new : Dev S) (w u : Map) (s t : SessionView)
    → old.settings.servers ≤ length (stores old)
    → EachFollows kind (stores old) (stores new) [] → u ≡ w → t ≡ s → AreInside kind (stores old) old.settings w s
    → AreInside kind (stores new) old.settings u t
stays_inside {kind = kind} laws old new w u s t enough each map hand were =
    let P : List Place → Bool = is_inside kind (stores old) old.settings in
    let R : List Place → Bool = is_inside kind (stores new) old.settings in
    let stays : (places : List Place) → P places ≡ true → R places ≡ true = inside_stays laws each old.settings enough in (
      subst (λ (m : Map). MapBytes R any_slice m) (sym map) (map_stays P R stays any_slice any_slice (λ x is. is) w were.0),
      subst (λ (v : SessionView). SessionBytes R v) (sym hand) (session_stays P R stays s were.1),
    )
