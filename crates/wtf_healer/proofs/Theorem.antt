-- What a run does for the tree that was left of its image: it is healed, and where nothing failed nothing but want of memory stops it.
use Rattle.std.proofs.Common.{◌≡◌, ◌≢◌, ◌⊎◌, ℕ, ◌<◌, List, [], Option, Some, Result, Ok, Err, refl, sym, ◌∙◌, subst, arith, inl, inr}
use Rattle.wtf_base.specs.declared.fault.Fault.{Fault}
use Rattle.wtf_dev.specs.Store.{StoreKind, KindLaws}
use Rattle.wtf_model.specs.Tree.{Tree}
use Rattle.wtf_replica.specs.Bytes.{byte_at}
use Rattle.wtf_healer.specs.Ends.{RunSpan, SinkSpan, WasHealed, WasStopped, IsGiven, HasHealed, IsEnd, IsUndone, IsToldStop, IsEndTold, IsHealOver}
use Rattle.wtf_healer.specs.Heals.{Heals}
use Rattle.wtf_healer.specs.Live.{IsLiveTree}
use Rattle.wtf_healer.specs.Runs.{SaysText, HasNextNumber, AreTelling, NoFaultRose, IsLiveTreeIn}
use Rattle.wtf_healer.specs.Words.{is_server_in}
use Rattle.wtf_healer.specs.declared.ends.Stop.{Stop}
use Rattle.wtf_healer.specs.declared.ends.Stop.TheVariants as stop
use Rattle.wtf_healer.proofs.Faultless.{no_fault}
use Rattle.wtf_healer.proofs.Heals.{heals}
use Rattle.wtf_healer.proofs.Passes.{rose_behind}

-- the same words name the same servers
one_naming : (names : Option (List ℕ)) (ks js : List ℕ) → names ≡ Some ks → names ≡ Some js → js ≡ ks
one_naming names ks js one two = let both : Some js ≡ Some ks = sym two ∙ one in cc

module _ {S O : Type 0} {kind : StoreKind S} (laws : KindLaws kind) (names : Option (List ℕ)) (t : RunSpan S) (s : SinkSpan O) where
  abbrev Wrote : List ℕ → ℕ → ℕ → Type 0
  Wrote text wanted status = SaysText text wanted status (s.view s.old) (s.view s.new)

  -- a line that was said with another status
  not_zero : (text : List ℕ) (wanted status : ℕ) → 0 < wanted → Wrote text wanted status → status ≡ 0 → ⊥
  not_zero text wanted status more says zero = elim says.status_is [
    | inl same ↦ absurd (omega (arith, same, zero, more))
    | inr four ↦ absurd (omega (arith, four, zero))
  ]

  -- with status 0 all was done
  done_stop : (status : ℕ) (why : Stop) → IsToldStop s status why → status ≡ 0 → ⊥
  done_stop status stop.Words told zero = absurd (omega (arith, told.0, zero))
  done_stop status stop.Load told zero = absurd (omega (arith, told.0, zero))
  done_stop status (stop.Refused why) told zero = not_zero _ 6 status (omega arith) told zero
  done_stop status (stop.Unhealed why) (inl none) zero = absurd (omega (arith, none.0, zero))
  done_stop status (stop.Unhealed why) (inr told) zero = not_zero _ 11 status (omega arith) told zero
  done_stop status stop.Save told zero = absurd (omega (arith, told.0, zero))
  done_stop status stop.Memory told zero = absurd (omega (arith, told.0, zero))

  done_end : (status : ℕ) (r : Result (List ℕ) Stop) → IsEndTold kind names t s status r → status ≡ 0
      → (lines : List ℕ) × HasHealed kind names t lines × Wrote lines 0 0
  done_end status (Ok lines) h zero = (lines, h.0, subst (Wrote lines 0) zero h.1)
  done_end status (Err why) h zero = absurd (done_stop status why h.1 zero)

  module _ (held ks : List ℕ) (tree : Tree) (named : names ≡ Some ks) (some : held ≢ []) (telling : AreTelling kind ks t.old t.keeper held) where
    -- what the keeper gave is what it held, and the servers are those of the words
    given : (P : List ℕ → List ℕ → Type 0) (js image : List ℕ) → IsGiven names js t.keeper image → P js image → P ks held
    given P js image g h = subst (P ks) (g.held held telling.held) (subst (λ l. P l image) (one_naming names ks js named g.named) h)

    was_healed : (lines : List ℕ) → HasHealed kind names t lines → WasHealed kind ks held t lines
    was_healed lines (js, image, g, inl none) = absurd (some (sym (g.held held telling.held) ∙ none.0))
    was_healed lines (js, image, g, inr done) = given (λ l bytes. WasHealed kind l bytes t lines) js image g done.1

    -- a run with status 0 healed the image
    pub healed : HasNextNumber held → IsLiveTree (byte_at kind t.old) (is_server_in ks) held tree → (status : ℕ) → IsHealOver kind names t s status
        → status ≡ 0 → Heals kind ks t s tree held
    healed room live status over zero =
        let done = done_end status over.ended over.told zero in
        heals laws ks held t s done.0 (was_healed done.0 done.1) telling room tree live (λ text taken. done.2.whole refl text taken)

    -- ---- where nothing failed

    module _ (live : IsLiveTreeIn kind t.old (is_server_in ks) held tree)
        (still : NoFaultRose kind (s.view s.old, t.old, t.keeper) (s.view s.new, t.new, t.keeper_now)) where
      abbrev IsFine : ℕ → Type 0
      IsFine status = (status ≡ 0) ⊎ (status ≡ 2) ⊎ (status ≡ 6) ⊎ (status ≡ 7)

      wrote_whole : (text : List ℕ) (wanted status : ℕ) → Wrote text wanted status → IsFine wanted → IsFine status
      wrote_whole text wanted status says fine = elim says.status_is [
        | inl same ↦ subst IsFine (sym same) fine
        | inr four ↦ absurd (still.0 (says.cause four))
      ]

      no_undone : (why : Fault) → IsUndone kind names t (stop.Unhealed why) → ⊥
      no_undone why h =
          no_fault laws ks held t why (given (λ l bytes. WasStopped kind l bytes t (stop.Unhealed why)) h.ks h.image h.given h.cause) tree live still.1

      no_unsaved : IsUndone kind names t stop.Save → ⊥
      no_unsaved h =
          let b = h.cause.began in
          let w = h.cause.cause.whole in
          elim h.cause.cause.cause [
            | inl store ↦ (let (k, known, up, rise) = store.0 in
                still.1 k (rose_behind laws b.replicas b.loaded.settings t.old w.middle t.new w.made.passed k rise))
            | inr keeper ↦ still.2 keeper.2
          ]

      fine_stop : (status : ℕ) (why : Stop) → IsEnd kind names t why → IsToldStop s status why → IsFine status
      fine_stop status stop.Words end told = inr (inl told.0)
      fine_stop status stop.Load end told = absurd (still.2 end.2)
      fine_stop status (stop.Refused why) end told = wrote_whole _ 6 status told (inr (inr (inl refl)))
      fine_stop status (stop.Unhealed why) end told = absurd (no_undone why end)
      fine_stop status stop.Save end told = absurd (no_unsaved end)
      fine_stop status stop.Memory end told = inr (inr (inr told.0))

      fine_end : (status : ℕ) (r : Result (List ℕ) Stop) → IsEndTold kind names t s status r → IsFine status
      fine_end status (Ok lines) h = wrote_whole lines 0 status h.1 (inl refl)
      fine_end status (Err why) h = fine_stop status why h.0 h.1

      -- only want of memory stops a run
      pub complete : (status : ℕ) → IsHealOver kind names t s status → IsFine status
      complete status over = fine_end status over.ended over.told
