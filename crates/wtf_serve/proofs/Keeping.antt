-- What a line makes of the keeper, by what the core promises.
use Rattle.std.proofs.Common.{◌≡◌, ℕ, List, [], Ok, refl, sym, ap, subst, inl, inr, arith}
use Rattle.wtf_base.specs.declared.settings.Settings.{Settings}
use Rattle.wtf_dev.specs.Keep.{KeeperView, KeeperKept}
use Rattle.wtf_dev.specs.Store.{StoreKind}
use Rattle.wtf_replica.specs.Downs.{is_down}
use Rattle.wtf_replica.specs.Spans.{Span, span}
use Rattle.wtf_model.specs.declared.answer.Answer.{Answer}
use Rattle.wtf_model.specs.declared.answer.Answer.TheVariants as answer
use Rattle.wtf_model.specs.declared.event.Event.{Event}
use Rattle.wtf_model.specs.declared.event.Event.TheVariants as event
use Rattle.wtf_image.specs.Images.{HasText}
use Rattle.wtf_image.specs.Rows.{ImageRows}
use Rattle.wtf_image.proofs.Forms.{text_some as image_some}
use Rattle.wtf_core.specs.Views.{TablesView, CoreView}
use Rattle.wtf_core.specs.Keeping.{KeeperSpan, keeper_span, KeeperTurn, HasSaved}
use Rattle.wtf_core.specs.Saves.{SaveTurn, AreUp}
use Rattle.wtf_core.specs.Turns.{IsLine}
use Rattle.wtf_serve.specs.Cores.{engine}
use Rattle.wtf_serve.specs.Engines.{Step, step, Saves, HandsOnlySaves}
use Rattle.wtf_serve.specs.Stocks.{stock, KeeperGoesOn, KeeperStays, HandsOver, HoldsSome}

-- an image has bytes
pub text_some : (rows : ImageRows) (bytes : List ℕ) → HasText rows bytes → bytes ≡ [] → ⊥
text_some rows bytes has none = image_some rows bytes has.text none

saved_some : {S : Type 0} (kind : StoreKind S) (t : Span S) (k : KeeperSpan) (settings : Settings) (tables : TablesView)
    → HasSaved kind t k settings tables → HoldsSome k.before k.after
saved_some kind t k settings tables saved tells =
    (saved.hands.bytes, saved.held tells, text_some saved.hands.image.rows saved.hands.bytes saved.hands.image.text)

-- a keeper that is as it was was handed nothing
pub keeper_same : (old new : KeeperView) → new ≡ old → KeeperStays old new
keeper_same old new same = subst (KeeperStays old) (sym same) (record {
  goes_on = record { faults = omega arith; tells = refl };
  held = λ bytes is. is;
})

pub keeper_steady : (k : KeeperView) → KeeperGoesOn k k
keeper_steady k = record { faults = omega arith; tells = refl }

-- one that was handed images goes on
pub handed_on : {K : Type 0} (view : K → KeeperView) (follows : K → K → List (List ℕ) → Type 0)
    (keeps : (a b : K) (xs : List (List ℕ)) → follows a b xs → KeeperKept (view a) (view b) xs) (old new : K)
    → HandsOver (follows old new) → KeeperGoesOn (view old) (view new)
handed_on view follows keeps old new (images, f) = let kept = keeps old new images f in record { faults = kept.faults; tells = kept.tells }

-- what the core promises of a line is what a run is given of it
module _ {K S : Type 0} (view : K → KeeperView) (follows : K → K → List (List ℕ) → Type 0) (refused : K → K → Type 0) (old new : K) (kind : StoreKind S)
    (before after : List S) (core core' : CoreView) where
  abbrev t : Step S CoreView
  t = step (stock before (view old)) (stock after (view new)) core core'

  abbrev Turns : Event → Answer → Type 0
  Turns e a = KeeperTurn kind (span (is_down core.replicas) before after) (keeper_span view follows refused old new) core.settings core.tables core'.tables e a

  save_kept : (Up : Type 0) (tables : TablesView) (a : Answer) → Turns event.Save a → SaveTurn Up core.tables tables a → Saves (engine kind) t a
  save_kept Up tables (answer.Saved n) turn is = saved_some kind (span (is_down core.replicas) before after) (keeper_span view follows refused old new)
      core.settings core.tables turn
  save_kept Up tables answer.FaultSave (inl failed) is = inl failed.out
  save_kept Up tables answer.FaultSave (inr failed) is = inr failed.rose
  save_kept Up tables a turn is = absurd is

  pub event_kept : (e : Event) (a : Answer) → Turns e a → IsLine kind (span (is_down core.replicas) before after) core core' e a
      → HandsOnlySaves (engine kind) t (Ok e) a
  event_kept event.Save a turn line = save_kept (AreUp core.replicas core.settings.servers) line.answered.tables a turn line.turn.0
  event_kept e a turn line = keeper_same (view old) (view new) (ap view turn)
