-- What a status tells of a run: what it ended with, and what was said of that.
use Rattle.std.specs.Prelude.{IfOk, IfErr}
use Rattle.std.proofs.Common.{◌≡◌, ◌≢◌, ℕ, zero, suc, List, [], length, Option, Some, Result, Ok, Err, refl, sym, ap, ◌∙◌, subst, arith, inl, inr}
use Rattle.wtf_base.specs.declared.fault.Fault.{Fault}
use Rattle.wtf_dev.specs.Counts.{Rose}
use Rattle.wtf_dev.specs.Store.{StoreKind}
use Rattle.wtf_image.specs.declared.error.LoadError.{LoadError}
use Rattle.wtf_image.specs.declared.error.LoadError.TheVariants as error
use Rattle.wtf_healer.specs.declared.ends.Stop.{Stop}
use Rattle.wtf_healer.specs.declared.ends.Stop.TheVariants as stop
use Rattle.wtf_healer.specs.Ends.{RunSpan, SinkSpan, HasHealed, IsEarly, IsEnd, IsUndone, IsToldStop, IsEndTold, IsHealOver, HandsOne}
use Rattle.wtf_healer.specs.Lines.{done_lines, fault_line, refusal_line}
use Rattle.wtf_healer.specs.Runs.{IsHealStatus, IsQuiet, IsUnkept, IsUntouched, IsDue, WroteReport, SaysText}

module _ {S : Type 0} (kind : StoreKind S) (names : Option (List ℕ)) (t : RunSpan S) where
  -- a refusal is not for want of memory
  known : (why : Stop) → IsEnd kind names t why → why ≢ stop.Refused error.Memory
  known stop.Words end e = absurd (cc)
  known stop.Load end e = absurd (cc)
  known (stop.Refused why) end e = let is : why ≡ error.Memory = cc in end.cause.1.not_memory is
  known (stop.Unhealed why) end e = absurd (cc)
  known stop.Save end e = absurd (cc)
  known stop.Memory end e = absurd (cc)

  pub none_for_memory : {V : Type 0} (r : Result V Stop) → IfErr r (IsEnd kind names t) → IfErr r (λ why. why ≢ stop.Refused error.Memory)
  none_for_memory (Ok v) end = tt
  none_for_memory (Err why) end = known why end

-- ---- how a run ended, and what was said of it
module _ {S O : Type 0} (kind : StoreKind S) (names : Option (List ℕ)) (t : RunSpan S) (s : SinkSpan O) where
  abbrev IsSo : ℕ → Result (List ℕ) Stop → Type 0
  IsSo status r = IsEndTold kind names t s status r

  abbrev Over : ℕ → Type 0
  Over status = IsHealOver kind names t s status

  pub over : {V : Type 0} (items : V → List ℕ) (status : ℕ) (r : Result V Stop) → IfOk r (λ v. HasHealed kind names t (items v)) → IfErr r (IsEnd kind names t)
      → IfOk r (λ v. SaysText (items v) 0 status (s.view s.old) (s.view s.new)) → IfErr r (IsToldStop s status) → Over status
  over items status (Ok v) done none says nothing = record { ended = Ok (items v); told = (done, says) }
  over items status (Err why) none undone nothing says = record { ended = Err why; told = (undone, says) }

  -- ---- what each status tells
  abbrev pub AtZero : Type 0
  AtZero = (lines : List ℕ) × HasHealed kind names t lines × SaysText lines 0 0 (s.view s.old) (s.view s.new)

  abbrev pub AtSix : Type 0
  AtSix = (why : LoadError) × IsUndone kind names t (stop.Refused why) × SaysText (refusal_line why) 6 6 (s.view s.old) (s.view s.new)

  abbrev pub AtEleven : Type 0
  AtEleven = (why : Fault) × IsUndone kind names t (stop.Unhealed why) × SaysText (fault_line why) 11 11 (s.view s.old) (s.view s.new)

  abbrev pub At : ℕ → Type 0
  At zero = AtZero
  At (suc zero) = ⊥
  At (suc (suc zero)) = IsEnd kind names t stop.Words × (s.new ≡ s.old)
  At (suc (suc (suc zero))) = ⊥
  At (suc (suc (suc (suc zero)))) = Rose (s.view s.old).faults (s.view s.new).faults
  At (suc (suc (suc (suc (suc zero))))) = IsUndone kind names t stop.Save × (s.new ≡ s.old)
  At (suc (suc (suc (suc (suc (suc zero)))))) = AtSix
  At (suc (suc (suc (suc (suc (suc (suc zero))))))) = t.handed [] × (s.new ≡ s.old)
  At (suc (suc (suc (suc (suc (suc (suc (suc zero)))))))) = IsEnd kind names t stop.Load × (s.new ≡ s.old)
  At (suc (suc (suc (suc (suc (suc (suc (suc (suc zero))))))))) = ⊥
  At (suc (suc (suc (suc (suc (suc (suc (suc (suc (suc zero)))))))))) = ⊥
  At (suc (suc (suc (suc (suc (suc (suc (suc (suc (suc (suc zero))))))))))) = AtEleven
  At (suc (suc (suc (suc (suc (suc (suc (suc (suc (suc (suc (suc n)))))))))))) = ⊥

  -- a text that was said
  said : (text : List ℕ) (wanted status : ℕ) → SaysText text wanted status (s.view s.old) (s.view s.new)
      → (SaysText text wanted wanted (s.view s.old) (s.view s.new) → At wanted) → At status
  said text wanted status h whole = elim h.status_is [
    | inl same ↦ subst At (sym same) (whole (subst (λ n. SaysText text wanted n (s.view s.old) (s.view s.new)) same h))
    | inr failed ↦ subst At (sym failed) (h.cause failed)
  ]

  memory : IsEnd kind names t stop.Memory → t.handed []
  memory (inl h) = h.0.keeper
  memory (inr h) = h.cause

  at_stop : (status : ℕ) (why : Stop) → IsEnd kind names t why → IsToldStop s status why → At status
  at_stop status stop.Words end told = subst At (sym told.0) (end, told.1)
  at_stop status stop.Load end told = subst At (sym told.0) (end, told.1)
  at_stop status (stop.Refused why) end told = said (refusal_line why) 6 status told (λ says. (why, end, says))
  at_stop status (stop.Unhealed why) end (inl none) = subst At (sym none.0) (end.cause.cause.1, none.1)
  at_stop status (stop.Unhealed why) end (inr told) = said (fault_line why) 11 status told (λ says. (why, end, says))
  at_stop status stop.Save end told = subst At (sym told.0) (end, told.1)
  at_stop status stop.Memory end told = subst At (sym told.0) (memory end, told.1)

  at_end : (status : ℕ) (r : Result (List ℕ) Stop) → IsSo status r → At status
  at_end status (Ok lines) h = said lines 0 status h.1 (λ says. (lines, h.0, says))
  at_end status (Err why) h = at_stop status why h.0 h.1

  pub at : (status : ℕ) → Over status → At status
  at status h = at_end status h.ended h.told

  -- ---- statuses, and what is written
  is_status : (text : List ℕ) (wanted status : ℕ) → IsHealStatus wanted → SaysText text wanted status (s.view s.old) (s.view s.new) → IsHealStatus status
  is_status text wanted status one h = elim h.status_is [ inl same ↦ subst IsHealStatus (sym same) one | inr failed ↦ inr (inr (inl failed)) ]

  stop_status : (status : ℕ) (why : Stop) → IsToldStop s status why → IsHealStatus status
  stop_status status stop.Words told = inr (inl told.0)
  stop_status status stop.Load told = inr (inr (inr (inr (inr (inr (inl told.0))))))
  stop_status status (stop.Refused why) told = is_status (refusal_line why) 6 status (inr (inr (inr (inr (inl refl))))) told
  stop_status status (stop.Unhealed why) (inl none) = inr (inr (inr (inr (inr (inl none.0)))))
  stop_status status (stop.Unhealed why) (inr told) = is_status (fault_line why) 11 status (inr (inr (inr (inr (inr (inr (inr refl))))))) told
  stop_status status stop.Save told = inr (inr (inr (inl told.0)))
  stop_status status stop.Memory told = inr (inr (inr (inr (inr (inl told.0)))))

  status_end : (status : ℕ) (r : Result (List ℕ) Stop) → IsSo status r → IsHealStatus status
  status_end status (Ok lines) h = is_status lines 0 status (inl refl) h.1
  status_end status (Err why) h = stop_status status why h.1

  pub status_of : (status : ℕ) → Over status → IsHealStatus status
  status_of status h = status_end status h.ended h.told

  -- nothing is written with these
  pub quiet : (status : ℕ) → Over status → IsQuiet status → s.new ≡ s.old
  quiet status h (inl two) = let d : At 2 = subst At two (at status h) in d.1
  quiet status h (inr (inl five)) = let d : At 5 = subst At five (at status h) in d.1
  quiet status h (inr (inr (inl seven))) = let d : At 7 = subst At seven (at status h) in d.1
  quiet status h (inr (inr (inr eight))) = let d : At 8 = subst At eight (at status h) in d.1

  same_faults : s.new ≡ s.old → (s.view s.new).faults ≡ (s.view s.old).faults
  same_faults same = ap (λ o. (s.view o).faults) same

  still_stop : (status : ℕ) (why : Stop) → IsToldStop s status why → status ≢ 4 → (s.view s.new).faults ≡ (s.view s.old).faults
  still_stop status stop.Words told ne = same_faults told.1
  still_stop status stop.Load told ne = same_faults told.1
  still_stop status (stop.Refused why) told ne = told.still ne
  still_stop status (stop.Unhealed why) (inl none) ne = same_faults none.1
  still_stop status (stop.Unhealed why) (inr told) ne = told.still ne
  still_stop status stop.Save told ne = same_faults told.1
  still_stop status stop.Memory told ne = same_faults told.1

  still_end : (status : ℕ) (r : Result (List ℕ) Stop) → IsSo status r → status ≢ 4 → (s.view s.new).faults ≡ (s.view s.old).faults
  still_end status (Ok lines) h ne = h.1.still ne
  still_end status (Err why) h ne = still_stop status why h.1 ne

  pub still : (status : ℕ) → Over status → status ≢ 4 → (s.view s.new).faults ≡ (s.view s.old).faults
  still status h = still_end status h.ended h.told

  -- ---- the text
  module _ (text : List ℕ) (taken : (s.view s.old).taken ≡ Some text) where
    unwritten : (status : ℕ) → IsQuiet status → s.new ≡ s.old → WroteReport status text (s.view s.new).taken
    unwritten status one same = inl (one, ap (λ o. (s.view o).taken) same ∙ taken)

    written : (due : List ℕ) (wanted status : ℕ) → IsDue wanted due → SaysText due wanted status (s.view s.old) (s.view s.new)
        → WroteReport status text (s.view s.new).taken
    written due wanted status is h = elim h.status_is [
      | inl same ↦ inr (inl (due, subst (λ n. IsDue n due) (sym same) is, h.whole same text taken))
      | inr failed ↦ inr (inr (failed, wanted, due, is, h.front failed text taken))
    ]

    wrote_stop : (status : ℕ) (why : Stop) → IsEnd kind names t why → IsToldStop s status why → WroteReport status text (s.view s.new).taken
    wrote_stop status stop.Words end told = unwritten status (inl told.0) told.1
    wrote_stop status stop.Load end told = unwritten status (inr (inr (inr told.0))) told.1
    wrote_stop status (stop.Refused why) end told =
        written (refusal_line why) 6 status (inr (inl (refl, why, end.cause.1.not_memory, refl))) told
    wrote_stop status (stop.Unhealed why) end (inl none) = unwritten status (inr (inr (inl none.0))) none.1
    wrote_stop status (stop.Unhealed why) end (inr told) = written (fault_line why) 11 status (inr (inr (refl, why, end.cause.cause.0, refl))) told
    wrote_stop status stop.Save end told = unwritten status (inr (inl told.0)) told.1
    wrote_stop status stop.Memory end told = unwritten status (inr (inr (inl told.0))) told.1

    wrote_end : (status : ℕ) (r : Result (List ℕ) Stop) → IsSo status r → WroteReport status text (s.view s.new).taken
    wrote_end status (Ok lines) h = (let due = due_of h.0 in written lines 0 status (inl (refl, due.0, due.1, due.2)) h.1)
      where
        due_of : HasHealed kind names t lines → (n : ℕ) × (m : ℕ) × (lines ≡ done_lines n m)
        due_of (ks, image, given, inl none) = (0, 0, none.2)
        due_of (ks, image, given, inr some) =
            let made = some.1.kept.whole.made in (length made.healed.changes, made.healed.bytes, made.lines_are)
    wrote_end status (Err why) h = wrote_stop status why h.0 h.1

    pub wrote : (status : ℕ) → Over status → WroteReport status text (s.view s.new).taken
    wrote status h = wrote_end status h.ended h.told

  -- ---- what was not touched
  pub untouched : (status : ℕ) → Over status → IsUntouched status → t.new ≡ t.old
  untouched status h (inl two) = let d : At 2 = subst At two (at status h) in d.0.0.stores
  untouched status h (inr (inl six)) = let d : At 6 = subst At six (at status h) in d.1.cause.0.stores
  untouched status h (inr (inr eight)) = let d : At 8 = subst At eight (at status h) in d.0.0.stores

  pub unkept : (status : ℕ) → Over status → IsUnkept status → t.handed []
  unkept status h (inl two) = let d : At 2 = subst At two (at status h) in d.0.0.keeper
  unkept status h (inr (inl six)) = let d : At 6 = subst At six (at status h) in d.1.cause.0.keeper
  unkept status h (inr (inr (inl seven))) = let d : At 7 = subst At seven (at status h) in d.0
  unkept status h (inr (inr (inr (inl eight)))) = let d : At 8 = subst At eight (at status h) in d.0.0.keeper
  unkept status h (inr (inr (inr (inr eleven)))) = let d : At 11 = subst At eleven (at status h) in d.1.cause.cause.1

  -- ---- what the keeper was handed
  hands_stop : (why : Stop) → IsEnd kind names t why → HandsOne kind names t
  hands_stop stop.Words end = inl end.0.keeper
  hands_stop stop.Load end = inl end.0.keeper
  hands_stop (stop.Refused why) end = inl end.cause.0.keeper
  hands_stop (stop.Unhealed why) end = inl end.cause.cause.1
  hands_stop stop.Save end =
      let stopped = end.cause in
      let unsaved = stopped.cause in
      elim unsaved.cause [
        | inl store ↦ inl store.1
        | inr keeper ↦ inr (record {
          ks = end.ks;
          image = end.image;
          given = end.given;
          began = stopped.began;
          lines = unsaved.lines;
          whole = unsaved.whole;
          synced = keeper.0;
          handed = keeper.1;
        })
      ]
  hands_stop stop.Memory end = inl (memory end)

  hands_end : (status : ℕ) (r : Result (List ℕ) Stop) → IsSo status r → HandsOne kind names t
  hands_end status (Ok lines) ((ks, image, given, inl none), says) = inl none.1.keeper
  hands_end status (Ok lines) ((ks, image, given, inr done), says) = inr (record {
    ks = ks;
    image = image;
    given = given;
    began = done.1.began;
    lines = lines;
    whole = done.1.kept.whole;
    synced = done.1.kept.synced;
    handed = done.1.kept.handed;
  })
  hands_end status (Err why) h = hands_stop why h.0

  pub hands_one : (status : ℕ) → Over status → HandsOne kind names t
  hands_one status h = hands_end status h.ended h.told

-- ---- where nothing was said meanwhile
module _ {O : Type 0} (s : SinkSpan O) where
  touched : (n status : ℕ) → status ≡ n → n ≢ 2 → n ≢ 6 → n ≢ 8 → IsUntouched status → ⊥
  touched n status is two six eight (inl e) = two (sym is ∙ e)
  touched n status is two six eight (inr (inl e)) = six (sym is ∙ e)
  touched n status is two six eight (inr (inr e)) = eight (sym is ∙ e)

  in_time : (text : List ℕ) (wanted status : ℕ) → wanted ≢ 2 → wanted ≢ 6 → wanted ≢ 8 → SaysText text wanted status (s.view s.old) (s.view s.new)
      → IsUntouched status → ⊥
  in_time text wanted status two six eight says same = elim says.status_is [
    | inl is ↦ touched wanted status is two six eight same
    | inr four ↦ touched 4 status four (λ e. omega (arith, e)) (λ e. omega (arith, e)) (λ e. omega (arith, e)) same
  ]

  early_stop : (status : ℕ) (why : Stop) → IsToldStop s status why → IsUntouched status → IsEarly why
  early_stop status stop.Words told same = tt
  early_stop status stop.Load told same = tt
  early_stop status (stop.Refused why) told same = tt
  early_stop status (stop.Unhealed why) (inl none) same =
      touched 7 status none.0 (λ e. omega (arith, e)) (λ e. omega (arith, e)) (λ e. omega (arith, e)) same
  early_stop status (stop.Unhealed why) (inr told) same =
      in_time (fault_line why) 11 status (λ e. omega (arith, e)) (λ e. omega (arith, e)) (λ e. omega (arith, e)) told same
  early_stop status stop.Save told same = touched 5 status told.0 (λ e. omega (arith, e)) (λ e. omega (arith, e)) (λ e. omega (arith, e)) same
  early_stop status stop.Memory told same = touched 7 status told.0 (λ e. omega (arith, e)) (λ e. omega (arith, e)) (λ e. omega (arith, e)) same

  pub silent : {V A : Type 0} (items : V → List ℕ) (status : ℕ) (r : Result V Stop) → IfErr r (λ why. IsEarly why → A)
      → IfOk r (λ v. SaysText (items v) 0 status (s.view s.old) (s.view s.new)) → IfErr r (IsToldStop s status) → IsUntouched status → A
  silent items status (Ok v) none says nothing same =
      absurd (in_time (items v) 0 status (λ e. omega (arith, e)) (λ e. omega (arith, e)) (λ e. omega (arith, e)) says same)
  silent items status (Err why) early nothing told same = early (early_stop status why told same)
