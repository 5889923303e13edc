-- What a plan made of the bytes that the tables name, and of the stores.
use Rattle.wtf_clients.proofs.Common.{⊤, cases_Bool, ltb-true, ltb-false, true≢false, Fault, InodeId, Settings, Slice, StoreKind, KindLaws, Place, encoded}
use Rattle.wtf_clients.proofs.Common.{PlaceView, IsRing, IsStored, is_down, AreTooFew, IsOut, Span, span, out_since, each_kept, RegionValue, Answer, Event}
use Rattle.wtf_clients.proofs.Common.{JobKind, Compact, MayFailPlan, MaybeBytes, ListSlices, MapBytes, any_slice, end_of, ListFact, region_facts, Map, LeadsTo}
use Rattle.wtf_clients.proofs.Common.{region_of_bytes, one_leads, Path, Region, Dev, IsSoundDev, GoesOn, stores, inside_of, between, is_inside, OnlyRead}
use Rattle.wtf_clients.proofs.Common.{IsOfServers, region_fault_known, fault_answer, Target, JobView, job_target, region_in_map, target_region, IsPlanned}
use Rattle.wtf_clients.proofs.Common.{SameLengths, length, ◌⊎◌, IsUnstoredShort, GrowsByList, SparesStores, StoresList, LacksServers, IsPlanFault, spills}
use Rattle.wtf_clients.proofs.Common.{TablesView, of_label}
use Rattle.wtf_clients.proofs.Common.{metadata_now, AreSound, TablesBytes, any_byte, no_slice, has_copies, Asked, line_asked, lent_by, IsPlaced, Load, no_load}
use Rattle.wtf_clients.proofs.Common.{load_of_job, AddsThisList, AddsBytes, IsUnspilled, HasToStore, HasCause, AreBased, AreFull, ServesLine, GrowsOnly, Plans}
use Rattle.wtf_clients.proofs.Common.{◌≡◌, ℕ, ◌*◌, ◌/◌, Bool, true, false, nat_lt, List, [], Option, None, Some, refl, sym, ap, ◌∙◌, subst, inl, inr, ⊎_elim}
use Rattle.wtf_clients.proofs.Common.{arith}
use Rattle.wtf_model.specs.declared.op.JobKind.TheVariants.{Spill}
use Rattle.wtf_region.specs.Devs.{place_in}
use Rattle.wtf_ring.specs.Points.{place_of}
use Rattle.wtf_clients.proofs.{Lives.AreInside, Caused.plain_caused, Caused.plain_failed, Caused.has_failed, Caused.none_placed, Caused.fault_placed}
use Rattle.wtf_clients.proofs.{Caused.none_added, Caused.adds_once, Caused.write_adds, JobTurning.plan_bytes, Lacking.memory_none, Lacking.no_lists}
use Rattle.wtf_clients.proofs.{Lacking.region_caused, Lives.now_bytes}
use Rattle.wtf_clients.proofs.{Known.lent_to, Serving.later}

-- what a map has of a region
pub region_bytes : (P : List Place → Bool) (Q : Slice → Bool) (w : Map) (t : Target) → MapBytes P Q w → MaybeBytes P Q (target_region w t)
region_bytes P Q w t h = region_of_bytes P Q (w (Region t.inode t.region)) (h (Region t.inode t.region))

-- a compaction stores nothing
pub short_none : (stored : List ListFact) (value : Option RegionValue) → IsUnstoredShort stored value → stored ≡ []
short_none stored None h = h
short_none stored (Some x) h = h.0

-- what is the cause of a fault where nothing is to be stored is one of any line
pub cause_more : {S : Type 0} (kind : StoreKind S) (t : Span S) (settings : Settings) (based : (Slice → Bool) → Type 0) (full : Type 0) (load : Load)
    (a : Answer) → HasCause kind t settings ⊥ based full no_load a → HasCause kind t settings ⊥ based full load a
cause_more kind t settings based full load (Answer.FaultRead k) h = h
cause_more kind t settings based full load Answer.FaultWrite h = absurd (let some = h.0 in omega (arith, some))
cause_more kind t settings based full load (Answer.FaultPunch k) h = absurd h
cause_more kind t settings based full load Answer.FaultSave h = h
cause_more kind t settings based full load (Answer.Damaged k) h = h
cause_more kind t settings based full load a h = tt

module _ {S : Type 0} {kind : StoreKind S} (laws : KindLaws kind) (old mid new : Dev S) (goes : GoesOn kind old mid []) where
  -- servers that are out in a later part of a span are so in it
  few_since : (n replicas : ℕ) → AreTooFew kind (between mid new) n replicas → AreTooFew kind (between old new) n replicas
  few_since n replicas h = record {
    rest = h.rest;
    few = h.few;
    out = λ k lt. ⊎_elim
        (λ left. inl left)
        (λ out. inr (out_since kind (is_down old.replicas.now) (stores old) (stores mid) (stores new) goes.each.same_length (each_kept laws goes.each) k
        (subst (λ r. IsOut kind (span (is_down r.now) (stores mid) (stores new)) k) goes.replicas out))) (h.out k lt);
  }

-- a region's place is the same a while later
place_same : {S : Type 0} {kind : StoreKind S} (old mid : Dev S) → GoesOn kind old mid [] → (t : Target)
    → place_in mid t.inode (t.region * mid.settings.region) ≡ place_in old t.inode (t.region * old.settings.region)
place_same old mid goes t =
    ap (λ (d : Settings). place_of mid.ring.now.points t.inode (t.region * d.region / d.region)) goes.settings
    ∙ ap (λ r. place_of r.now.points t.inode (t.region * old.settings.region / old.settings.region)) goes.ring

-- one list was stored, behind reads
list_added : {S : Type 0} {kind : StoreKind S} (old new : Dev S) (t : Target) (stored : List ListFact) (P : PlaceView → Type 0)
    → P (place_in old t.inode (t.region * old.settings.region)) → (w : StoresList kind old new t stored)
    → AddsThisList kind (between old new) old.settings P w.own
list_added {kind = kind} old new t stored P goes_to w = record {
  mid = stores w.mid;
  same = w.reads.lengths;
  place = place_in w.mid t.inode (t.region * w.mid.settings.region);
  goes_to = subst P (sym (place_same old w.mid w.goes t)) goes_to;
  stored = subst (λ r. IsStored kind (span (is_down r.now) (stores w.mid) (stores new)) old.settings.replicas
      (place_in w.mid t.inode (t.region * w.mid.settings.region)) (encoded w.own.list) w.own.slice) w.goes.replicas
      (subst (λ (st : Settings). IsStored kind (between w.mid new) st.replicas (place_in w.mid t.inode (t.region * w.mid.settings.region))
      (encoded w.own.list) w.own.slice) w.goes.settings w.slice);
}

-- ---- a plan, of the file to which the path leads
module _ {S : Type 0} {kind : StoreKind S} (laws : KindLaws kind) (old new : Dev S) (goes : GoesOn kind old new []) (lent : IsSoundDev kind old)
    (before : TablesView) (sound : AreSound before) (inside : AreInside kind old before)
    (ring : IsRing old.settings.servers old.ring.now.points) (j : ℕ) (jk : JobKind) (p : List ℕ) (r : ℕ) where
  abbrev now : Map
  now = metadata_now before.kv

  abbrev asks : JobKind → Asked
  asks k = line_asked kind (between old new) (lent_by old new) before (Event.Plan j k p r)

  abbrev asked : Asked
  asked = asks jk

  module _ (after : TablesView) (x : JobView) (none : of_label before.beside.jobs j ≡ None) (plans : Plans before after j jk p r x)
      (did : IsPlanned kind old new x.target (target_region now x.target) x.value) (own : MaybeBytes (inside_of kind new) any_slice x.value) where
    -- the value names no base, where the region has none and no list was spilled
    value_free : (k : JobKind) → x.target.kind ≡ k → IsUnspilled (load_of_job k) Answer.Planned → (P : List Place → Bool)
        → MaybeBytes P no_slice (target_region now x.target) → MaybeBytes P no_slice x.value
    value_free Compact is free P h =
        let none_stored : did.stored ≡ [] = short_none did.stored x.value (did.short (ap (λ k. spills k (end_of (target_region now x.target))) is)) in
        did.names.is_in P no_slice h (no_lists P (region_facts (target_region now x.target) did.under)) (subst (ListSlices P no_slice) (sym none_stored) tt)
    value_free Spill is free P h = absurd (true≢false free)

    free_bytes : IsUnspilled (load_of_job jk) Answer.Planned → (P : List Place → Bool) → TablesBytes P no_slice before → TablesBytes P no_slice after
    free_bytes free P h =
        plan_bytes P no_slice before after j sound jk p r x none plans h
        (value_free jk plans.job.kind_is free P (region_bytes P no_slice now x.target (now_bytes P no_slice before h)))

    added : (k : JobKind) → jk ≡ k → AddsBytes kind (between old new) old.settings (load_of_job k) Answer.Planned
    added Compact is = none_added kind (between old new) old.settings Answer.Planned
        (did.unwritten (ap (λ k. spills k (end_of (target_region now x.target))) (plans.job.kind_is ∙ is))).lengths
    added Spill is = ⊎_elim
        (λ some. inr ((did.written some).own, list_added old new x.target did.stored (λ place. ⊤) tt (did.written some)))
        (λ empty. inl (did.unwritten empty).lengths)
        (cases_Bool (spills x.target.kind (end_of (target_region now x.target))))

    -- the list goes where the region's first byte does
    goes_there : jk ≡ Spill → asked.goes_to (place_in old x.target.inode (x.target.region * old.settings.region))
    goes_there is =
        subst (λ (k : JobKind). (asks k).goes_to (place_in old x.target.inode (x.target.region * old.settings.region))) (sym is)
        (old, new, lent_to old new ring, (x.target.inode, plans.job.leads, ap (λ n. place_in old x.target.inode (n * old.settings.region)) plans.job.region))

    placed : (k : JobKind) → jk ≡ k → IsPlaced kind (between old new) old.settings (record asked { given = load_of_job k }) Answer.Planned
    placed Compact is = none_placed kind (between old new) old.settings (record asked { given = no_load }) Answer.Planned refl
    placed Spill is = λ same. ⊎_elim
        (λ some. inr (
          λ empty. none_empty empty.0 empty.1 empty.2 (plans.job.kind_is ∙ is) some,
          ((did.written some).own, list_added old new x.target did.stored asked.goes_to (goes_there is) (did.written some)),
        ))
        (λ empty. inl (
          (x.target.inode, plans.job.leads, ap (λ n. end_of (region_in_map now x.target.inode n)) (sym plans.job.region) ∙ ends (plans.job.kind_is ∙ is) empty),
          (did.unwritten empty).lengths,
        ))
        (cases_Bool (spills x.target.kind (end_of (target_region now x.target))))
      where
        ends : x.target.kind ≡ Spill → spills x.target.kind (end_of (target_region now x.target)) ≡ false → end_of (target_region now x.target) ≡ 0
        ends spill empty =
            let none_there : nat_lt 0 (end_of (target_region now x.target)) ≡ false
            = sym (ap (λ k. spills k (end_of (target_region now x.target))) spill) ∙ empty in
            let le = ltb-false 0 (end_of (target_region now x.target)) none_there in
            omega (arith, le)

        none_empty : (i : InodeId) → LeadsTo now p i → end_of (region_in_map now i r) ≡ 0 → x.target.kind ≡ Spill
            → spills x.target.kind (end_of (target_region now x.target)) ≡ true → ⊥
        none_empty i leads zero spill some =
            let one : i ≡ x.target.inode = one_leads (now (Path p)) i x.target.inode leads plans.job.leads in
            let there : nat_lt 0 (end_of (target_region now x.target)) ≡ true
            = sym (ap (λ k. spills k (end_of (target_region now x.target))) spill) ∙ some in
            let end : end_of (region_in_map now i r) ≡ end_of (target_region now x.target)
            = ap (λ k. end_of (region_in_map now k r)) one ∙ ap (λ n. end_of (region_in_map now x.target.inode n)) (sym plans.job.region) in
            let more = ltb-true 0 (end_of (target_region now x.target)) there in
            omega (arith, more, end, zero)

    pub plan_serves : ServesLine kind (between old new) (lent_by old new) before after (Event.Plan j jk p r) Answer.Planned
    plan_serves = record {
      inside = plan_bytes (is_inside kind (stores new) old.settings) any_slice before after j sound jk p r x none plans
          (later laws old new goes lent before sound inside)
          (subst (λ (st : Settings). MaybeBytes (is_inside kind (stores new) st) any_slice x.value) goes.settings own);
      bare = λ free h. free_bytes free any_byte h;
      full = λ free h. free_bytes free (has_copies old.settings.replicas) h;
      adds = added jk refl;
      caused = plain_caused kind (between old new) old.settings ⊥ (AreBased before) (AreFull old.settings before) (load_of_job jk) Answer.Planned tt;
      placed = placed jk refl;
      failed = plain_failed asked.fails Answer.Planned tt;
    }

  -- ---- whatever comes of it, only the file to which a list is to go grows, by the list, once
  grows_by : (k : JobKind) (i : InodeId) → LeadsTo now p i → SparesStores kind old new (job_target i r k) (region_in_map now i r)
      → GrowsOnly kind (between old new) (asks k)
  grows_by k i leads spares = by k spares.grows
    where
      by : (q : JobKind) → SameLengths kind (stores old) (stores new) ⊎ GrowsByList kind old new (job_target i r q) (region_in_map now i r)
          → GrowsOnly kind (between old new) (asks q)
      by q (inl same) = inl same
      by Compact (inr list) = absurd (true≢false (sym list.spilled))
      by Spill (inr list) = inr (
        place_in old i (r * old.settings.region),
        (old, new, lent_to old new ring, (i, leads, refl)),
        length (encoded list.list),
        (list.list, refl),
        list.grows,
      )

  pub plan_grows : (i : InodeId) → LeadsTo now p i → SparesStores kind old new (job_target i r jk) (region_in_map now i r)
      → GrowsOnly kind (between old new) asked
  plan_grows = grows_by jk

  -- ---- one that failed, of the file to which the path leads
  module _ (i : InodeId) (leads : LeadsTo now p i) (why : Fault) (a : Answer) (is : fault_answer why ≡ Some a)
      (fails : IsPlanFault kind old new (job_target i r jk) (region_in_map now i r) why) where
    region_in : (P : List Place → Bool) (Q : Slice → Bool) → TablesBytes P Q before → MaybeBytes P Q (region_in_map now i r)
    region_in P Q h = region_of_bytes P Q (now (Region i r)) (now_bytes P Q before h (Region i r))

    -- the machine allows it, where a plan is due
    write_may : (w : Fault) → fault_answer w ≡ Some a → LacksServers kind old new (job_target i r jk) (region_in_map now i r) w
        → MayFailPlan old.settings.servers jk Answer.Planned a
    write_may Fault.Write same lacks = by jk lacks.spilled
      where
        by : (k : JobKind) → spills k (end_of (region_in_map now i r)) ≡ true → MayFailPlan old.settings.servers k Answer.Planned a
        by Compact bad = absurd (true≢false (sym bad))
        by Spill good = subst (λ (b : Answer). MayFailPlan old.settings.servers Spill Answer.Planned b) (let e : Answer.FaultWrite ≡ a = cc in e) (inr tt)
    write_may (Fault.Read k) same lacks = absurd lacks.out
    write_may (Fault.Punch k) same lacks = absurd lacks.out
    write_may (Fault.Damaged k) same lacks = absurd lacks.out
    write_may Fault.Memory same lacks = absurd (memory_none Fault.Memory a same refl)

    read_may : (w : Fault) → fault_answer w ≡ Some a → IsOfServers old.settings.servers w → MayFailPlan old.settings.servers jk Answer.Planned a
    read_may (Fault.Read k) same known =
        subst (λ (b : Answer). MayFailPlan old.settings.servers jk Answer.Planned b) (let e : Answer.FaultRead k.0 ≡ a = cc in e) (inl known)
    read_may (Fault.Damaged k) same known =
        subst (λ (b : Answer). MayFailPlan old.settings.servers jk Answer.Planned b) (let e : Answer.Damaged k.0 ≡ a = cc in e) (inl known)
    read_may Fault.Memory same known = absurd (memory_none Fault.Memory a same refl)
    read_may Fault.Write same known = absurd known
    read_may (Fault.Punch k) same known = absurd known

    pub plan_may : MayFailPlan old.settings.servers jk Answer.Planned a
    plan_may = by fails
      where
        by : IsPlanFault kind old new (job_target i r jk) (region_in_map now i r) why → MayFailPlan old.settings.servers jk Answer.Planned a
        by (inl memory) = absurd (memory_none why a is memory)
        by (inr (inl lacks)) = read_may why is
            (region_fault_known kind old new (region_in_map now i r) why lent (region_in (inside_of kind old) any_slice inside) lacks.cause.cause)
        by (inr (inr lacks)) = write_may why is lacks

    -- Why it failed. Each byte has as many copies as there are replicas where `full` holds, and O then holds of each base.
    module _ (full : Type 0) (O : Slice → Bool) (copies : full → TablesBytes (has_copies old.settings.replicas) O before) where
      -- too few servers took the list
      write_caused : (w : Fault) → fault_answer w ≡ Some a → LacksServers kind old new (job_target i r jk) (region_in_map now i r) w
          → HasCause kind (between old new) old.settings ⊥ (AreBased before) full (load_of_job jk) a
      write_caused Fault.Write same lacks =
          let few : AreTooFew kind (between old new) old.settings.servers old.settings.replicas =
          subst (λ (st : Settings). AreTooFew kind (between old new) st.servers st.replicas) lacks.goes.settings
          (few_since laws old lacks.mid new lacks.goes lacks.mid.settings.servers lacks.mid.settings.replicas lacks.out) in
          subst (λ (b : Answer). HasCause kind (between old new) old.settings ⊥ (AreBased before) full (load_of_job jk) b)
          (let e : Answer.FaultWrite ≡ a = cc in e) (by jk lacks.spilled, few)
        where
          by : (k : JobKind) → spills k (end_of (region_in_map now i r)) ≡ true → HasToStore (load_of_job k)
          by Compact bad = absurd (true≢false (sym bad))
          by Spill good = tt
      write_caused (Fault.Read k) same lacks = absurd lacks.out
      write_caused (Fault.Punch k) same lacks = absurd lacks.out
      write_caused (Fault.Damaged k) same lacks = absurd lacks.out
      write_caused Fault.Memory same lacks = absurd (memory_none Fault.Memory a same refl)

      pub plan_by : HasCause kind (between old new) old.settings ⊥ (AreBased before) full (load_of_job jk) a
      plan_by = by fails
        where
          by : IsPlanFault kind old new (job_target i r jk) (region_in_map now i r) why
              → HasCause kind (between old new) old.settings ⊥ (AreBased before) full (load_of_job jk) a
          by (inl memory) = absurd (memory_none why a is memory)
          by (inr (inl lacks)) = cause_more kind (between old new) old.settings (AreBased before) full (load_of_job jk) a
              (region_caused kind old new lent (AreBased before) full O why a is (region_in_map now i r) any_byte
              (region_in (inside_of kind old) any_slice inside) (λ Q h. region_in any_byte Q h)
              (λ h. region_in (has_copies old.settings.replicas) O (copies h)) lacks.cause.cause)
          by (inr (inr lacks)) = write_caused why is lacks

    -- the stores kept their lengths, unless the fault is one of writing
    left : SparesStores kind old new (job_target i r jk) (region_in_map now i r) → (w : Fault) → fault_answer w ≡ Some a
        → IsPlanFault kind old new (job_target i r jk) (region_in_map now i r) w → AddsBytes kind (between old new) old.settings (load_of_job jk) a
    left spares w e (inl memory) = absurd (memory_none w a e memory)
    left spares w e (inr (inl lacks)) = all_added jk a lacks.reads
      where
        all_added : (q : JobKind) (b : Answer) → OnlyRead kind (between old new) → AddsBytes kind (between old new) old.settings (load_of_job q) b
        all_added Compact b reads = none_added kind (between old new) old.settings b reads.lengths
        all_added Spill Answer.FaultWrite reads = inl reads.lengths
        all_added Spill Answer.Planned reads = inl reads.lengths
        all_added Spill b reads = reads.lengths
    left spares Fault.Write e (inr (inr lacks)) =
        subst (λ (b : Answer). AddsBytes kind (between old new) old.settings (load_of_job jk) b) (let f : Answer.FaultWrite ≡ a = cc in f)
        (write_adds kind (between old new) old.settings (load_of_job jk)
        (adds_once kind (between old new) asked.goes_to (load_of_job jk) (plan_grows i leads spares)))
    left spares (Fault.Read s) e (inr (inr lacks)) = absurd lacks.out
    left spares (Fault.Punch s) e (inr (inr lacks)) = absurd lacks.out
    left spares (Fault.Damaged s) e (inr (inr lacks)) = absurd lacks.out
    left spares Fault.Memory e (inr (inr lacks)) = absurd (memory_none Fault.Memory a e refl)

    pub plan_fails : SparesStores kind old new (job_target i r jk) (region_in_map now i r)
        → ServesLine kind (between old new) (lent_by old new) before before (Event.Plan j jk p r) a
    plan_fails spares = record {
      inside = later laws old new goes lent before sound inside;
      bare = λ free h. h;
      full = λ free h. h;
      adds = left spares why is fails;
      caused = plan_by (AreFull old.settings before) no_slice (λ h. h);
      placed = fault_placed kind (between old new) old.settings asked why a is;
      failed = has_failed asked.fails why a is (old, new, lent_to old new ring, record { inode = i; leads = leads; cause = fails });
    }
