-- What a core promises of a line over one keeper is promised over another that does not tell what it holds.
use Rattle.std.proofs.Common.{◌≡◌, Bool, true, List, refl, inl, inr, ⊎_elim}
use Rattle.wtf_base.specs.declared.settings.Settings.{Settings}
use Rattle.wtf_base.specs.declared.slice.Slice.{Slice}
use Rattle.wtf_dev.specs.Counts.{Rose}
use Rattle.wtf_dev.specs.Keep.{KeeperView}
use Rattle.wtf_dev.specs.Store.{StoreKind}
use Rattle.wtf_replica.specs.Spans.{Span}
use Rattle.wtf_model.specs.declared.answer.Answer.{Answer}
use Rattle.wtf_model.specs.declared.answer.Answer.TheVariants as answer
use Rattle.wtf_model.specs.declared.event.Event.{Event}
use Rattle.wtf_model.specs.declared.event.Event.TheVariants as event
use Rattle.wtf_clients.specs.Outcomes.{HasCause, Load, SaveFault, load_of}
use Rattle.wtf_core.specs.Promises.{CoreGoesOn, IsCaused, Obeys, Scene, Stores, scene, span_of}
use Rattle.wtf_core.specs.Views.{CoreView}

-- a fault's cause, where only that of a save is another
cause_by : {S : Type 0} (kind : StoreKind S) (t : Span S) (settings : Settings) (saving saving' : Type 0) (based : (Slice → Bool) → Type 0) (full : Type 0)
    (load : Load) (a : Answer) → (a ≡ answer.FaultSave → saving → saving') → HasCause kind t settings saving based full load a
    → HasCause kind t settings saving' based full load a
cause_by kind t settings saving saving' based full load answer.FaultSave save h = save refl h
cause_by kind t settings saving saving' based full load (answer.FaultRead j) save h = h
cause_by kind t settings saving saving' based full load answer.FaultWrite save h = h
cause_by kind t settings saving saving' based full load (answer.FaultPunch j) save h = h
cause_by kind t settings saving saving' based full load (answer.Damaged j) save h = h
cause_by kind t settings saving saving' based full load a save h = tt

-- a save failed, where its keeper did
pub save_fault : {S : Type 0} (kind : StoreKind S) (t : Span S) (settings : Settings) (rose rose' : Type 0) (e : Event) → (rose → rose')
    → SaveFault kind t settings rose e → SaveFault kind t settings rose' e
save_fault kind t settings rose rose' event.Save more h = ⊎_elim (λ out. inl out) (λ is. inr (more is)) h
save_fault kind t settings rose rose' e more h = h

module _ {S : Type 0} (kind : StoreKind S) (shelf shelf' : List S) (core core' : CoreView) (v v' w w' : KeeperView) (e : Event) (a : Answer) where
  abbrev was : Scene S
  was = scene shelf v core

  abbrev is : Scene S
  is = scene shelf' v' core'

  abbrev was_blind : Scene S
  was_blind = scene shelf w core

  abbrev is_blind : Scene S
  is_blind = scene shelf' w' core'

  pub goes_blind : CoreGoesOn kind was is e a → CoreGoesOn kind was_blind is_blind e a
  goes_blind on = record {
    not_closed = on.not_closed;
    inside = on.inside;
    bare = on.bare;
    full = on.full;
    down = on.down;
    number = on.number;
    next_tx = on.next_tx;
    same_number = on.same_number;
    same_next_tx = on.same_next_tx;
  }

  pub obeys_blind : (w.tells ≡ true → ⊥) → Obeys kind was is e a → Obeys kind was_blind is_blind e a
  obeys_blind blind obeys tells m small stands =
      let law = obeys tells m small stands in
      record {
        rests = law.rests;
        left = λ j n had saves said tell. absurd (blind tell);
        event = law.event;
        trees = λ tell room kept holds. absurd (blind tell);
        taken = λ tell room holds. absurd (blind tell);
        saved = λ tell room. absurd (blind tell);
      }

  pub stores_blind : Stores kind was is e a → Stores kind was_blind is_blind e a
  stores_blind h = record { adds = h.adds; placed = h.placed }

  pub caused_blind : (a ≡ answer.FaultSave → SaveFault kind (span_of was is) core.settings (Rose v.faults v'.faults) e
      → SaveFault kind (span_of was is) core.settings (Rose w.faults w'.faults) e)
      → IsCaused kind was is e a → IsCaused kind was_blind is_blind e a
  caused_blind save h = record { cause = cause_by kind (span_of was is) core.settings _ _ _ _ (load_of e) a save h.cause; failed = h.failed }
