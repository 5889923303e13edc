-- What plans of jobs made of the tables over stores that tell: the list that a spill stored has the bytes that its region had.
use Rattle.wtf_clients.proofs.Common.{All, cases_Bool, All-head, All-tail, Fault, InodeId, Settings, Slice, places_of, StoreKind, KindLaws, Place, Store}
use Rattle.wtf_clients.proofs.Common.{IsRing, Key, RegionValue, Value, Answer, JobKind, EntryBytes, BaseBytes, MaybeBytes, ListSlices, ListsBytes, any_slice}
use Rattle.wtf_clients.proofs.Common.{Told, is_told, is_listed, lists_in, end_of, ListFact, TellLists, region_facts, Map, metadata_at, LeadsTo, list_has-true}
use Rattle.wtf_clients.proofs.Common.{region_slices, TellsOn, told_from, lists_in-from, maybe_stays, Dev, IsSoundDev, GoesOn, stores, remembered, told_in}
use Rattle.wtf_clients.proofs.Common.{inside_of, between, are_apart, is_inside, SliceBytes, fault_answer, lists_have, TxnView, tells_on, JobView, job_target}
use Rattle.wtf_clients.proofs.Common.{region_in_map, target_region, IsUnstoredShort, IsSpilled, IsPlanned, IsPlanFault, spills, BesideView, TablesView}
use Rattle.wtf_clients.proofs.Common.{of_client, of_label, metadata_now, AreSound, TablesBytes, has_copies, load_of_job, AreBased, Plans, OwnBytes, IsOwnJob}
use Rattle.wtf_clients.proofs.Common.{FollowsJob, Went, ListedBytes, TellsTables, AreWide, HoldsOfAdded, ServesTold, ◌≡◌, ◌∙◌, ℕ, Bool, true, List, [], ◌∷◌}
use Rattle.wtf_clients.proofs.Common.{get_or, Option, None, Some, refl, sym, ap, subst, ⊎_elim}
use Rattle.wtf_clients.proofs.{Lives.AreInside, Goings.own_txn_later, Goings.own_job_later, JobTurning.plan_bytes, ToldLaws.tables_later, ToldServing.all_stays}
use Rattle.wtf_clients.proofs.{Added.stored_added, Caused.plain_caused, JobPins.job_pinned, JobServing.plan_by, SafeLaws.map_region, ToldLaws.told_serves}
use Rattle.wtf_clients.proofs.{Added.added_since, Goings.stays_txn, Goings.stays_job, Lives.now_bytes, Lives.pinned_live, Pins.number_cases, ToldLaws.lists_on}
use Rattle.wtf_clients.proofs.{JobServing.region_bytes, JobServing.short_none, ScanLaws.own_txn_along, ScanLaws.own_job_along, ToldServing.stays_told}

-- slices that decode to lists have bytes that are told
tell_slices : (size : ℕ) (told : Told) (fs : List ListFact) → TellLists (lists_in size told) fs → ListSlices (is_told told) any_slice fs
tell_slices size told [] tell = tt
tell_slices size told (f ∷ fs) tell =
    let was = lists_in-from size told f.slice f.list tell.0 in
    (((λ i below. told_from told (places_of f.slice i) (get_or was.0 i 0) (was.1.tells i below)), refl), tell_slices size told fs tell.1)

-- and their lists have bytes of which P holds, where it holds of each entry
have_slices : (size : ℕ) (told : Told) (P : List Place → Bool) (fs : List ListFact) → TellLists (lists_in size told) fs
    → All (λ (f : ListFact). All (EntryBytes P) f.list) fs → ListSlices P any_slice fs → ListSlices P (lists_have size told P) fs
have_slices size told P [] tell all slices = tt
have_slices size told P (f ∷ fs) tell all slices =
    let Whole : ListFact → Type 0 = λ g. All (EntryBytes P) g.list in (
      (slices.0.0, list_has-true P (lists_in size told f.slice) f.list tell.0 (All-head Whole f fs all)),
      have_slices size told P fs tell.1 (All-tail Whole f fs all) slices.1,
    )

-- what a job stored is the slice of its value's base
abbrev IsBaseOf : ListFact → List ListFact → Option RegionValue → RegionValue → Type 0
IsBaseOf own stored value x = (stored ≡ own ∷ []) × (value ≡ Some x) × (x.base ≡ Some (record { slice = own.slice; visible = x.end }))

stored_own : (P : List Place → Bool) (own : ListFact) (stored : List ListFact) (value : Option RegionValue) (x : RegionValue) → IsBaseOf own stored value x
    → ListSlices P any_slice stored → OwnBytes P value
stored_own P own stored value x is h =
    let both : ListSlices P any_slice (own ∷ []) = subst (ListSlices P any_slice) is.0 h in
    subst (OwnBytes P) (sym is.1) (subst (BaseBytes P any_slice) (sym is.2) both.0)

own_stored : (P : List Place → Bool) (own : ListFact) (stored : List ListFact) (value : Option RegionValue) (x : RegionValue) → IsBaseOf own stored value x
    → OwnBytes P value → ListSlices P any_slice stored
own_stored P own stored value x is h =
    let whole : OwnBytes P (Some x) = subst (OwnBytes P) is.1 h in
    let mine : BaseBytes P any_slice (Some (record { slice = own.slice; visible = x.end })) = subst (BaseBytes P any_slice) is.2 whole in
    subst (ListSlices P any_slice) (sym is.0) (mine, tt)

-- one without a base stored nothing
short_own : (P : List Place → Bool) (stored : List ListFact) (value : Option RegionValue) → IsUnstoredShort stored value → OwnBytes P value
short_own P stored None h = tt
short_own P stored (Some x) h = subst (BaseBytes P any_slice) (sym h.1) tt

value_own : (P : List Place → Bool) (value : Option RegionValue) → MaybeBytes P any_slice value → OwnBytes P value
value_own P None h = tt
value_own P (Some x) h = h.base

module _ {S : Type 0} {kind : StoreKind S} (laws : KindLaws kind) (old new : Dev S) (goes : GoesOn kind old new []) (lent : IsSoundDev kind old)
    (before : TablesView) (sound : AreSound before) (inside : AreInside kind old before)
    (tells : TellsTables kind (stores old) old.settings (remembered old) before) (j : ℕ) (jk : JobKind) (p : List ℕ) (r : ℕ) where
  abbrev told : Told
  told = told_in kind old

  abbrev later : Told
  later = told_in kind new

  abbrev size : ℕ
  size = old.settings.region

  abbrev now : Map
  now = metadata_now before.kv

  on : TellsOn told later
  on = tells_on laws goes.each

  -- what a line adds
  abbrev Added : (List Place → Bool) → Type 0
  Added P = HoldsOfAdded kind (between old new) old.settings P

  -- ---- a plan
  module _ (after : TablesView) (x : JobView) (none : of_label before.beside.jobs j ≡ None) (plans : Plans before after j jk p r x)
      (did : IsPlanned kind old new x.target (target_region now x.target) x.value) (own : MaybeBytes (inside_of kind new) any_slice x.value) where
    abbrev region : Option RegionValue
    region = target_region now x.target

    abbrev facts : List ListFact
    facts = region_facts region did.under

    -- what was read of its base, and what was stored
    read_slices : (P : List Place → Bool) → ListedBytes size told P before → ListSlices P any_slice facts
    read_slices P h =
        let Q : Slice → Bool = lists_have size told P in
        region_slices P any_slice region did.under
        (maybe_stays P P (λ qs is. is) Q any_slice (λ s is. refl) region (region_bytes P Q now x.target (now_bytes P Q before h)))

    read_tell : TellLists (lists_in size later) facts
    read_tell = subst (λ (st : Settings). TellLists (lists_in st.region later) facts) goes.settings
        (did.told tells.punched tells.cache (read_slices (is_told told) tells.names) (read_slices (are_apart tells.punched) tells.away))

    own_tell : TellLists (lists_in size later) did.stored
    own_tell = subst (λ (st : Settings). TellLists (lists_in st.region later) did.stored) goes.settings (did.told_own tells.all)

    based : (s : IsSpilled did.stored x.value) → IsBaseOf s.own did.stored x.value s.x
    based s = (s.one, s.is, s.base)

    -- what holds of the bytes that were stored holds of those of the value's base, and the other way
    stored_bytes : (P : List Place → Bool) → ListSlices P any_slice did.stored → OwnBytes P x.value
    stored_bytes P slices = ⊎_elim
        (λ some. let s = did.spilled some in stored_own P s.own did.stored x.value s.x (based s) slices)
        (λ empty. short_own P did.stored x.value (did.short empty))
        (cases_Bool (spills x.target.kind (end_of region)))

    own_slices : (P : List Place → Bool) → OwnBytes P x.value → ListSlices P any_slice did.stored
    own_slices P h = ⊎_elim
        (λ some. let s = did.spilled some in own_stored P s.own did.stored x.value s.x (based s) h)
        (λ empty. subst (ListSlices P any_slice) (sym (short_none did.stored x.value (did.short empty))) tt)
        (cases_Bool (spills x.target.kind (end_of region)))

    -- each of these bytes was added
    mine : (P : List Place → Bool) → Added P → ListSlices P any_slice did.stored
    mine P added = ⊎_elim
        (λ some.
        let w = did.written some in
        let In : Settings → List Place → Bool = is_inside kind (stores new) in
        let told_own : ListSlices (is_told later) any_slice (w.own ∷ []) =
        subst (ListSlices (is_told later) any_slice) w.one (tell_slices size later did.stored own_tell) in
        let same : new.settings ≡ w.mid.settings = goes.settings ∙ sym w.goes.settings in
        let within : ListSlices (In w.mid.settings) any_slice (w.own ∷ []) =
        subst (λ (st : Settings). ListSlices (In st) any_slice (w.own ∷ [])) same
        (subst (ListSlices (In new.settings) any_slice) w.one (own_slices (In new.settings) (value_own (In new.settings) x.value own))) in
        let slice : SliceBytes P (Some w.own.slice) =
        stored_added kind w.mid new _ _ w.own.slice w.slice told_own.0.0 within.0.0 P (added_since laws old w.mid new w.goes P added) in
        subst (ListSlices P any_slice) (sym w.one) ((slice, refl), tt))
        (λ empty. subst (ListSlices P any_slice) (sym (short_none did.stored x.value (did.short empty))) tt)
        (cases_Bool (spills x.target.kind (end_of region)))

    -- what held of the bytes of the region holds of those of the value
    value_told : (P : List Place → Bool) → MaybeBytes P (lists_have size later P) region → ListSlices P any_slice did.stored
        → MaybeBytes P (lists_have size later P) x.value
    value_told P was slices =
        let Q : Slice → Bool = lists_have size later P in
        let read : ListsBytes P Q facts = lists_on size later later P (λ q byte is. is) facts read_tell in
        did.names.is_in P Q was read (have_slices size later P did.stored own_tell (did.names.lists P Q was read) slices)

    carries : (P : List Place → Bool) → P [] ≡ true → Added P → ListedBytes size told P before → ListedBytes size later P after
    carries P hole added h =
        let Q : Slice → Bool = lists_have size later P in
        let was : TablesBytes P Q before = tables_later size told later P on before h in
        plan_bytes P Q before after j sound jk p r x none plans was (value_told P (region_bytes P Q now x.target (now_bytes P Q before was)) (mine P added))

    -- all maps stay
    maps : (n : ℕ) → metadata_at after.kv n ≡ metadata_at before.kv n
    maps n = ap (λ (s : Store Key Value). metadata_at s n) plans.kv

    there : (c : ℕ) (y : TxnView) → of_client after.clients c ≡ Some y → of_client before.clients c ≡ Some y
    there c y is = ap (λ l. of_client l c) (sym plans.keeps.clients) ∙ is

    -- the label's job is the one that was planned
    this : (l : ℕ) (y : JobView) → l ≡ j → of_label after.beside.jobs l ≡ Some y → x ≡ y
    this l y same is =
        let both : Some x ≡ Some y = sym plans.keeps.jobs.is ∙ ap (of_label after.beside.jobs) (sym same) ∙ is in
        cc

    -- it names what its region at the base names, or it stored that itself
    job_own : IsOwnJob size later after.kv x
    job_own P hole base stored =
        let at : metadata_at after.kv x.base ≡ now = maps x.base ∙ ap (metadata_at before.kv) plans.base in
        value_told P (subst (λ (w : Map). MaybeBytes P (lists_have size later P) (target_region w x.target)) at base) (own_slices P stored)

    other_own : (l : ℕ) (y : JobView) → of_label before.beside.jobs l ≡ Some y → IsOwnJob size told before.kv y → IsOwnJob size later after.kv y
    other_own l y was owned =
        let P : List Place → Bool = is_told told in
        let Q : Slice → Bool = is_listed size told in
        own_job_along size later before.kv after.kv y (maps y.base) (own_job_later size told later on before.kv y
        (map_region P Q (metadata_at before.kv y.base) (tells.names.live y.base (pinned_live before.kv y.base (job_pinned before l y sound was)))
        y.target.inode y.target.region) owned)

    went : Went size told later Added before after
    went = record {
      carries = carries;
      maps = λ n pinned. maps n;
      gc = ap (λ (b : BesideView). b.gc) plans.keeps.beside;
      scan_tx = ap (λ (b : BesideView). b.scan_tx) plans.keeps.beside;
      txns = λ c y is. stays_txn Added (of_client before.clients c) y (there c y is);
      jobs = λ l y is. ⊎_elim
          (λ same. subst (λ k. FollowsJob Added (of_label before.beside.jobs k) y) (sym same) (subst (λ o. FollowsJob Added o y) (sym none)
          (λ P added. subst (λ (v : JobView). OwnBytes P v.value) (this l y same is) (stored_bytes P (mine P added)))))
          (λ other. stays_job Added (of_label before.beside.jobs l) y (sym (plans.keeps.jobs.others l other) ∙ is))
          (number_cases l j);
      scan_jobs = λ l y is. ⊎_elim
          (λ same. absurd (let some : None ≡ Some y = sym none ∙ ap (of_label before.beside.jobs) (sym same) ∙ is in cc))
          (λ other. plans.keeps.others l other)
          (number_cases l j);
      own_txns = λ owned c y is.
          let was = there c y is in
          own_txn_along size later before.kv after.kv y (maps y.at.base)
          (own_txn_later size told later on before.kv y (tells.names.each c y was).hand.base (owned c y was));
      own_jobs = λ owned l y is. ⊎_elim
          (λ same. subst (IsOwnJob size later after.kv) (this l y same is) job_own)
          (λ other. let was = sym (plans.keeps.jobs.others l other) ∙ is in other_own l y was (owned l y was))
          (number_cases l j);
    }

    pub plan_told : ServesTold kind (between old new) old.settings (before, after) Answer.Planned
    plan_told =
        told_serves laws old new goes lent before tells after (load_of_job jk) Answer.Planned went
        (plain_caused kind (between old new) old.settings ⊥ (AreBased before) (AreWide old.settings told before) (load_of_job jk) Answer.Planned tt)

  -- ---- one that failed, of the file to which the path leads
  pub plan_failed_told : IsRing old.settings.servers old.ring.now.points → (i : InodeId) → LeadsTo now p i → (why : Fault) (a : Answer)
      → fault_answer why ≡ Some a → IsPlanFault kind old new (job_target i r jk) (region_in_map now i r) why → ServesTold kind (between old new) old.settings
      (before, before) a
  plan_failed_told ring i leads why a is fails =
      stays_told laws old new goes lent before sound inside tells before 0 (load_of_job jk) a (all_stays before 0)
      (plan_by laws old new goes lent before sound inside ring j jk p r i leads why a is fails (AreWide old.settings told before)
      (lists_have size told (has_copies old.settings.replicas)) (λ h. h))
