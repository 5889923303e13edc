-- What a line punches holds no byte that the map names as it was.
use Rattle.std.proofs.Common.{◌≡◌, ℕ, ◌&&◌, true, false, List, [], nat_eq, ap, sym, ◌∙◌}
use Rattle.std.proofs.lemmas.Bool.{and_parts}
use Rattle.wtf_dev.specs.Store.{Range, StoreKind}
use Rattle.wtf_overlay.specs.Origin.{Place}
use Rattle.wtf_replica.specs.Bytes.{byte_at}
use Rattle.wtf_region.specs.Apart.{are_apart}
use Rattle.wtf_meta.specs.Bytes.{MapBytes}
use Rattle.wtf_replay.specs.Insides.{lists_have}
use Rattle.wtf_model.specs.declared.answer.Answer.{Answer}
use Rattle.wtf_model.specs.declared.answer.Answer.TheVariants as answer
use Rattle.wtf_model.specs.declared.event.Event.{Event}
use Rattle.wtf_model.specs.declared.event.Event.TheVariants as event
use Rattle.wtf_gc.specs.Frees.{lie_in}
use Rattle.wtf_gc.specs.Views.{GcView, is_garbage}
use Rattle.wtf_clients.specs.Views.{metadata_now}
use Rattle.wtf_clients.proofs.Collected.{garbage_apart}
use Rattle.wtf_clients.proofs.Lives.{now_bytes}
use Rattle.wtf_core.specs.Punched.{ArePunchedBy}
use Rattle.wtf_core.specs.Telling.{TellsCore}
use Rattle.wtf_core.specs.Views.{CoreView}

-- only garbage lies in the ranges
abbrev OnlyGarbage : GcView → List (ℕ × Range) → Type 0
OnlyGarbage gc ranges = (p : Place) → lie_in ranges p ≡ true → is_garbage gc p ≡ true

nothing : (gc : GcView) (ranges : List (ℕ × Range)) → ranges ≡ [] → OnlyGarbage gc ranges
nothing gc ranges none p here = let never : false ≡ true = ap (λ (rs : List (ℕ × Range)). lie_in rs p) (sym none) ∙ here in absurd (cc)

of_server : (gc : GcView) (k : ℕ) (ranges : List (ℕ × Range))
    → ((p : Place) → lie_in ranges p ≡ true → (nat_eq p.server k && is_garbage gc p) ≡ true) → OnlyGarbage gc ranges
of_server gc k ranges among p here = (and_parts (nat_eq p.server k) (is_garbage gc p) (among p here)).1

punched_garbage : (gc : GcView) (e : Event) (a : Answer) (ranges : List (ℕ × Range)) → ArePunchedBy gc e a ranges → OnlyGarbage gc ranges
punched_garbage gc (event.Collect k) (answer.Collected n) ranges are = of_server gc k ranges (λ p here. sym (are.0.exact p) ∙ here)
punched_garbage gc (event.Collect k) (answer.FaultPunch j) ranges are = of_server gc k ranges are.among
punched_garbage gc e a ranges are = nothing gc ranges are.0

pub now_apart : {S : Type 0} (kind : StoreKind S) (shelf : List S) (core : CoreView) (e : Event) (a : Answer) (ranges : List (ℕ × Range))
    → TellsCore kind shelf core → ArePunchedBy core.tables.beside.gc e a ranges
    → MapBytes (are_apart ranges) (lists_have core.settings.region (byte_at kind shelf) (are_apart ranges)) (metadata_now core.tables.kv)
now_apart kind shelf core e a ranges tells are =
    now_bytes (are_apart ranges) (lists_have core.settings.region (byte_at kind shelf) (are_apart ranges)) core.tables
    (garbage_apart core.settings.region (byte_at kind shelf) core.tables ranges tells.safe (punched_garbage core.tables.beside.gc e a ranges are))
