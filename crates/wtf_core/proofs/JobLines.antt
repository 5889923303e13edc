-- Each line of a job keeps the tables sound, and is the machine's.
-- NSDI 2016, section 2.8 (lists of regions are compacted, and written into slices of their own, beside the calls of clients).
use Rattle.wtf_core.proofs.Common.{get, remove, option_map, Store, versions_of, Key, Region, Value, key_cmp, Answer, Word, NoJob, JobInUse, Item, BodyOf}
use Rattle.wtf_core.proofs.Common.{JobKind, or_refusal, bodies_at, meets, source_reads, is_idle, has_region, plan_answer, MayFailPlan, MayPut, job_changes}
use Rattle.wtf_core.proofs.Common.{drop_answer, Machine, touch, touch_job, with_job, without_job, put_in_place, dropped, Job, ◌>>=◌, paths_at, source}
use Rattle.wtf_core.proofs.Common.{is_among-bodies, get-each, get-each_none, plan-taken, get-number_same, get-number_other, MaybeBytes, Told, is_told}
use Rattle.wtf_core.proofs.Common.{is_listed, Has, Map, with, metadata_at, LeadsTo, Stands, region_of_bytes, leads-paths, TellsOn, KeepsVersions, AreBefore}
use Rattle.wtf_core.proofs.Common.{JobView, job_edits, target_region, KeepsRegion, IsJobPut, IsInPlace, IsStale, put_stands, TablesView, of_label, metadata_now}
use Rattle.wtf_core.proofs.Common.{Seeing, AreSound, StandsForJob, StandsForLabel, TablesStand, Touched, above, AreTrue, RefusesJob, plan_due, Plans}
use Rattle.wtf_core.proofs.Common.{PlansSoundly, PlanRefused, PlanFails, FreePlan, PlanTurn, Puts, PutTurn, DropsJob, DropTurn, untouched_same, untouched_job}
use Rattle.wtf_core.proofs.Common.{before_more, before_same, before_own, JobTurned, job_stands, known_later, keeps_later, plan_turned, put_turned, drop_turned}
use Rattle.wtf_core.proofs.Common.{Stands-later, put_own, put_map, put_touched, put_since, stale_met, fault_is, touched_base, touched_kept, since_kept, ◌≡◌}
use Rattle.wtf_core.proofs.Common.{◌≢◌, ◌⊎◌, ◌≤◌, ℕ, ◌+◌, true, List, [], Option, None, Some, Ok, MatchOption, refl, sym, ap, ◌∙◌, subst, inl, inr, arith}
use Rattle.wtf_core.proofs.{Machines.gone_here, Machines.gone_there, Plain.tables_later}

-- ---- what a label has in the machine

pub label_none : (size : ℕ) (told : Told) (kv : Store Key Value) (s : Option JobView) (o : Option Job) → StandsForLabel size told kv s o → s ≡ None → o ≡ None
label_none size told kv None None h e = refl
label_none size told kv None (Some t) h e = absurd h
label_none size told kv (Some x) o h e = absurd (cc)

label_some : (size : ℕ) (told : Told) (kv : Store Key Value) (s : Option JobView) (o : Option Job) (x : JobView) → StandsForLabel size told kv s o → s ≡ Some x
    → (t : Job) × (o ≡ Some t) × StandsForJob size told kv x t
label_some size told kv None o x h e = absurd (cc)
label_some size told kv (Some y) None x h e = absurd h
label_some size told kv (Some y) (Some t) x h e = (t, refl, subst (λ (z : JobView). StandsForJob size told kv z t) (let same : y ≡ x = cc in same) h)

-- a plan is due as it is on the tree now, where the label is free
answer_free : (m : Machine) (j : ℕ) (p : List ℕ) (r : ℕ) → get m.jobs j ≡ None → plan_answer m j p r ≡ plan_due m.settings.region m.now p r
answer_free m j p r none = ap (λ o. or_refusal
    (is_idle o >>= (λ _. source m.now p >>= (λ bytes. has_region m.settings.region bytes r >>= (λ _. Ok Answer.Planned))))) none

module _ (old new : TablesView) (j : ℕ) (sound : AreSound old) where
  -- ---- they stand for the machine

  module _ (size : ℕ) (told later : Told) (m : Machine) (st : TablesStand size told old m) (on : TellsOn told later) where
    same_stand : new ≡ old → TablesStand size later new m
    same_stand is = subst (λ t. TablesStand size later t m) (sym is) (tables_later size told later old m sound st on)

    -- where no number was installed
    module _ (now : Option JobView) (turned : JobTurned old new j now) (number : new.kv.number ≡ old.kv.number) (versions : KeepsVersions old.kv new.kv) where
      map_same : metadata_now new.kv ≡ metadata_now old.kv
      map_same = ap (metadata_at new.kv) number ∙ turned.maps old.kv.number (omega arith)

      trees_same : (tx : ℕ) → Stands size told tx 0 (metadata_now old.kv) m.now → Stands size later tx 0 (metadata_now new.kv) m.now
      trees_same tx was = subst (λ w. Stands size later tx 0 w m.now) (sym map_same) (Stands-later told later on size tx 0 (metadata_now old.kv) m.now was)

      kept_stand : (after : Machine) → after.number ≡ m.number → after.now ≡ m.now → after.may_be_saved ≡ m.may_be_saved → after.transactions ≡ m.transactions
          → ((l : ℕ) → l ≢ j → get after.jobs l ≡ get m.jobs l) → StandsForLabel size later new.kv now (get after.jobs j) → TablesStand size later new after
      kept_stand after number2 tree may transactions others own =
          job_stands old new j now sound turned size told later m after [] st on (number2 ∙ st.number ∙ sym number) tree may
          (λ c. untouched_same (get m.transactions c) (get after.transactions c) (ap (λ ts. get ts c) transactions))
          (λ l ne. untouched_job (get m.jobs l) (get after.jobs l) (others l ne))
          trees_same
          (λ tx base items based stands since. since_kept old.kv new.kv tx base items since based turned.maps number versions)
          (λ base items based touched. touched_kept old.kv new.kv base items touched based turned.maps number versions)
          (before_same old.next_tx new.next_tx (metadata_now old.kv) (metadata_now new.kv) map_same
          (let next = turned.keeps.next_tx in omega (arith, next)) st.before) own

    -- ---- a put
    module _ (x : JobView) (there : of_label old.beside.jobs j ≡ Some x) (t : Job) (job : StandsForJob size told old.kv x t)
        (found : get m.jobs j ≡ Some t) where
      -- the items that others see touched
      body_is : job_changes m.now (get m.jobs j) ≡ bodies_at m.now x.path
      body_is = ap (job_changes m.now) found ∙ ap (bodies_at m.now) job.path

      installed_stand : (n : ℕ) → Puts old new j x (Answer.Installed n)
          → MayPut m (Some t) (Answer.Installed n) × TablesStand size later new (put_in_place m j (Answer.Installed n))
      installed_stand n did =
          let put : IsInPlace x old.kv new.kv n = did.put in
          let turned = put_turned old new j sound x there (Answer.Installed n) did in
          let leads_now : LeadsTo (metadata_now old.kv) x.path x.target.inode = put.agree.0 ∙ job.leads in
          let first : Stands size told old.next_tx 0 (metadata_now old.kv) m.now = st.later old.next_tx (omega arith) in
          let items : List Item = job_changes m.now (get m.jobs j) in
          let each : (q : List ℕ) → LeadsTo (metadata_now old.kv) q x.target.inode → Has (BodyOf q) items = λ q to.
          subst (Has (BodyOf q)) (sym body_is) (is_among-bodies (paths_at m.now x.path) q
          (leads-paths size told old.next_tx 0 (metadata_now old.kv) m.now first x.path q x.target.inode leads_now to)) in
          let keeps : KeepsRegion size later (target_region (metadata_at old.kv x.base) x.target) x.value =
          keeps_later told later on size (target_region (metadata_at old.kv x.base) x.target) x.value job.known job.keeps in
          let trees : (tx : ℕ) → Stands size told tx 0 (metadata_now old.kv) m.now → Stands size later tx 0 (metadata_now new.kv) m.now = λ tx was.
          put_stands size later tx 0 m.now (Answer.Installed n) x old.kv new.kv put keeps
          (Stands-later told later on size tx 0 (metadata_now old.kv) m.now was) in
          let next = put.next in
          let after : Map = with (job_edits x) (metadata_now old.kv) in
          let up : ◌≤◌ old.next_tx new.next_tx = let more = did.keeps.next_tx in omega (arith, more) in (
            next ∙ ap (λ k. k + 1) (sym st.number),
            job_stands old new j None sound turned size told later m (put_in_place m j (Answer.Installed n)) items st on
                (sym put.number) refl refl
                (λ c. get-each (touch items) m.transactions c)
                (λ l ne. get-each (touch_job items) (remove m.jobs j) l ∙ ap (option_map (touch_job items)) (gone_there m.jobs j l ne))
                trees
                (λ tx base its based was since. put_since x old.kv new.kv n put items each size told later m.now tx was (trees tx was) base its
                (did.maps base based) since)
                (λ base its based was. put_touched x old.kv new.kv n put items each size told later m.now old.next_tx first (trees old.next_tx first) base its
                (did.maps base based) was) (subst (AreBefore new.next_tx) (sym (put_map x old.kv new.kv n put items each))
                (before_more old.next_tx new.next_tx after up (before_own 0 old.next_tx (metadata_now old.kv) after sound.begun
                (put_own x.target.inode x.target.region 0 x.value (metadata_now old.kv)) st.before))) (subst (λ o. StandsForLabel size later new.kv None o)
                (sym (get-each_none (touch_job items) (remove m.jobs j) j (gone_here m.jobs j))) tt),
          )

      stale_stand : (b n : ℕ) → Puts old new j x (Answer.Stale b n)
          → MayPut m (Some t) (Answer.Stale b n) × TablesStand size later new (put_in_place m j (Answer.Stale b n))
      stale_stand b n did =
          let put : IsStale x old.kv new.kv b n = did.put in (
            (
              (put.base ∙ sym job.base, put.now ∙ sym st.number, put.later),
              subst (λ q. meets t.touched (source_reads q) ≡ true) (sym job.path) (stale_met x old.kv new.kv b n t.touched put job.leads job.touched),
            ),
            kept_stand None (put_turned old new j sound x there (Answer.Stale b n) did) put.number put.versions
                (without_job m j) refl refl refl refl (λ l ne. gone_there m.jobs j l ne)
                (subst (λ o. StandsForLabel size later new.kv None o) (sym (gone_here m.jobs j)) tt),
          )

      puts_stand : (a : Answer) → Puts old new j x a → MayPut m (Some t) a × TablesStand size later new (put_in_place m j a)
      puts_stand a did = by a did did.put
        where
          by : (b : Answer) → Puts old new j x b → IsJobPut x old.kv new.kv b → MayPut m (Some t) b × TablesStand size later new (put_in_place m j b)
          by (Answer.Installed n) d put = installed_stand n d
          by (Answer.Stale c n) d put = stale_stand c n d
          by b d put = absurd put

    pub put_stand : (a : Answer) → PutTurn old new j a → MayPut m (get m.jobs j) a × TablesStand size later new (put_in_place m j a)
    put_stand a turn = by (of_label old.beside.jobs j) refl turn
      where
        by : (o : Option JobView) → of_label old.beside.jobs j ≡ o → MatchOption o (RefusesJob old new NoJob a) (λ x. Puts old new j x a)
            → MayPut m (get m.jobs j) a × TablesStand size later new (put_in_place m j a)
        by None none g =
            let free : get m.jobs j ≡ None = label_none size told old.kv (of_label old.beside.jobs j) (get m.jobs j) (st.jobs j) none in
            (subst (λ o. MayPut m o a) (sym free) g.answer, subst (λ b. TablesStand size later new (put_in_place m j b)) (sym g.answer) (same_stand g.same))
        by (Some x) there g =
            let found = label_some size told old.kv (of_label old.beside.jobs j) (get m.jobs j) x (st.jobs j) there in
            let both = puts_stand x there found.0 found.2 found.1 a g in
            (subst (λ o. MayPut m o a) (sym found.1) both.0, both.1)

    -- ---- a drop
    pub drop_stand : (a : Answer) → DropTurn old new j a → (a ≡ drop_answer (get m.jobs j)) × TablesStand size later new (dropped m j a)
    drop_stand a turn = by (of_label old.beside.jobs j) refl turn
      where
        by : (o : Option JobView) → of_label old.beside.jobs j ≡ o → MatchOption o (RefusesJob old new NoJob a) (λ x. DropsJob old new j x a)
            → (a ≡ drop_answer (get m.jobs j)) × TablesStand size later new (dropped m j a)
        by None none g =
            let free : get m.jobs j ≡ None = label_none size told old.kv (of_label old.beside.jobs j) (get m.jobs j) (st.jobs j) none in
            (g.answer ∙ sym (ap drop_answer free), subst (λ b. TablesStand size later new (dropped m j b)) (sym g.answer) (same_stand g.same))
        by (Some x) there g =
            let found = label_some size told old.kv (of_label old.beside.jobs j) (get m.jobs j) x (st.jobs j) there in (
              g.answer ∙ sym (ap drop_answer found.1),
              subst (λ b. TablesStand size later new (dropped m j b)) (sym g.answer)
                  (kept_stand None (drop_turned old new j sound x there a g) (ap (λ (s : Store Key Value). s.number) g.kv)
                  (λ q. ap (λ (s : Store Key Value). versions_of key_cmp s q) g.kv)
                  (without_job m j) refl refl refl refl (λ l ne. gone_there m.jobs j l ne)
                  (subst (λ o. StandsForLabel size later new.kv None o) (sym (gone_here m.jobs j)) tt)),
            )

  -- ---- and where one is planned
  module _ (z : Seeing) (m : Machine) (st : TablesStand z.size z.told old m) (on : TellsOn z.told z.later) where
    module _ (kind : JobKind) (p : List ℕ) (r : ℕ) (a : Answer)
        (region : m.settings.region ≡ z.size) (count : m.settings.servers ≡ z.servers) (telling : z.telling × AreTrue z.size z.told z.lists old) where
      abbrev May : Answer → Type 0
      May b = (b ≡ plan_answer m j p r) ⊎ MayFailPlan m.settings.servers kind (plan_answer m j p r) b

      -- the tree now
      tree_now : Stands z.size z.told old.next_tx 0 (metadata_now old.kv) m.now
      tree_now = st.later old.next_tx (omega arith)

      due_is : get m.jobs j ≡ None → plan_answer m j p r ≡ plan_due z.size m.now p r
      due_is none = answer_free m j p r none ∙ ap (λ b. plan_due b m.now p r) region

      abbrev planned_job : Job
      planned_job = record { stamp = m.next_stamp; path = p; region = r; kind = kind; base = m.number; touched = [] }

      plan_job : (x : JobView) → Plans old new j kind p r x
          → KeepsRegion z.size z.later (target_region (metadata_now old.kv) x.target) x.value → StandsForJob z.size z.later new.kv x planned_job
      plan_job x plans keeps =
          let at : metadata_at new.kv x.base ≡ metadata_now old.kv =
          ap (metadata_at new.kv) plans.base ∙ ap (λ (s : Store Key Value). metadata_at s old.kv.number) plans.kv in
          let number : new.kv.number ≡ old.kv.number = ap (λ (s : Store Key Value). s.number) plans.kv in
          record {
            path = sym plans.job.path;
            region = sym plans.job.region;
            kind = sym plans.job.kind_is;
            base = st.number ∙ sym plans.base;
            leads = subst (λ (w : Map). LeadsTo w x.path x.target.inode) (sym at)
                (subst (λ q. LeadsTo (metadata_now old.kv) q x.target.inode) (sym plans.job.path) plans.job.leads);
            known = subst (λ (w : Map). MaybeBytes (is_told z.later) (is_listed z.size z.later) (target_region w x.target)) (sym at)
                (known_later z.told z.later on z.size (target_region (metadata_now old.kv) x.target)
                (region_of_bytes (is_told z.told) (is_listed z.size z.told) (metadata_now old.kv (Region x.target.inode x.target.region))
                (tree_now.bytes (Region x.target.inode x.target.region))));
            keeps = subst (λ (w : Map). KeepsRegion z.size z.later (target_region w x.target) x.value) (sym at) keeps;
            touched = subst (λ b. Touched (metadata_at new.kv b) (metadata_now new.kv) (above new.kv b) []) (number ∙ sym plans.base) (touched_base new.kv);
          }

      planned_stand : of_label old.beside.jobs j ≡ None → PlansSoundly z old new j kind p r
          → May Answer.Planned × TablesStand z.size z.later new (with_job m j kind p r Answer.Planned)
      planned_stand none h =
          let free : get m.jobs j ≡ None = label_none z.size z.told old.kv (of_label old.beside.jobs j) (get m.jobs j) (st.jobs j) none in
          let x : JobView = h.job in
          let t : Job = planned_job in
          let number : new.kv.number ≡ old.kv.number = ap (λ (s : Store Key Value). s.number) h.plans.kv in (
            inl (sym (due_is free ∙ h.due old.next_tx 0 m.now tree_now)),
            kept_stand z.size z.told z.later m st on (Some x) (plan_turned old new j sound kind p r x none h.plans) number
                (λ q. ap (λ (s : Store Key Value). versions_of key_cmp s q) h.plans.kv)
                (with_job m j kind p r Answer.Planned) refl refl refl refl
                (λ l ne. get-number_other m.jobs j t l ne)
                (subst (λ o. StandsForLabel z.size z.later new.kv (Some x) o) (sym (get-number_same m.jobs j t))
                (plan_job x h.plans (h.keeps (telling.0, telling.1, tree_now.bytes)))),
          )

      fault_stays : (b : Answer) → PlanFails z old new kind p r b → with_job m j kind p r b ≡ m
      fault_stays (Answer.FaultRead k) h = refl
      fault_stays Answer.FaultWrite h = refl
      fault_stays (Answer.FaultPunch k) h = refl
      fault_stays (Answer.Damaged k) h = refl
      fault_stays Answer.Planned h = absurd (fault_is h.why Answer.Planned h.answer)
      fault_stays b h = refl

      failed_stand : of_label old.beside.jobs j ≡ None → PlanFails z old new kind p r a → May a × TablesStand z.size z.later new (with_job m j kind p r a)
      failed_stand none h =
          let free : get m.jobs j ≡ None = label_none z.size z.told old.kv (of_label old.beside.jobs j) (get m.jobs j) (st.jobs j) none in (
            inr (subst (λ d. MayFailPlan m.settings.servers kind d a) (sym (due_is free))
                (subst (λ n. MayFailPlan n kind (plan_due z.size m.now p r) a) (sym count) (h.may old.next_tx 0 m.now tree_now))),
            subst (λ n. TablesStand z.size z.later new n) (sym (fault_stays a h)) (same_stand z.size z.told z.later m st on h.same),
          )

      refused_stand : (w : Word) → of_label old.beside.jobs j ≡ None → PlanRefused z old new p r w
          → May (Answer.Refused w) × TablesStand z.size z.later new (with_job m j kind p r (Answer.Refused w))
      refused_stand w none h =
          let free : get m.jobs j ≡ None = label_none z.size z.told old.kv (of_label old.beside.jobs j) (get m.jobs j) (st.jobs j) none in
          (inl (sym (due_is free ∙ h.due old.next_tx 0 m.now tree_now)), same_stand z.size z.told z.later m st on h.same)

      used_stand : (x : JobView) → of_label old.beside.jobs j ≡ Some x → RefusesJob old new JobInUse a
          → May a × TablesStand z.size z.later new (with_job m j kind p r a)
      used_stand x there h =
          let found = label_some z.size z.told old.kv (of_label old.beside.jobs j) (get m.jobs j) x (st.jobs j) there in (
            inl (h.answer ∙ sym (plan-taken m j r p found.0 found.1)),
            subst (λ b. TablesStand z.size z.later new (with_job m j kind p r b)) (sym h.answer) (same_stand z.size z.told z.later m st on h.same),
          )

    pub plan_stands : (kind : JobKind) (p : List ℕ) (r : ℕ) (a : Answer)
        → m.settings.region ≡ z.size → m.settings.servers ≡ z.servers → z.telling × AreTrue z.size z.told z.lists old → PlanTurn z old new j kind p r a
        → ((a ≡ plan_answer m j p r) ⊎ MayFailPlan m.settings.servers kind (plan_answer m j p r) a) × TablesStand z.size z.later new (with_job m j kind p r a)
    plan_stands kind p r a region count telling turn = by (of_label old.beside.jobs j) refl turn
      where
        free : (b : Answer) → of_label old.beside.jobs j ≡ None → FreePlan z old new j kind p r b
            → ((b ≡ plan_answer m j p r) ⊎ MayFailPlan m.settings.servers kind (plan_answer m j p r) b)
            × TablesStand z.size z.later new (with_job m j kind p r b)
        free Answer.Planned none g = planned_stand kind p r Answer.Planned region count telling none g
        free (Answer.Refused w) none g = refused_stand kind p r (Answer.Refused w) region count telling w none g
        free b none g = failed_stand kind p r b region count telling none g

        by : (o : Option JobView) → of_label old.beside.jobs j ≡ o → MatchOption o (FreePlan z old new j kind p r a) (λ x. RefusesJob old new JobInUse a)
            → ((a ≡ plan_answer m j p r) ⊎ MayFailPlan m.settings.servers kind (plan_answer m j p r) a)
            × TablesStand z.size z.later new (with_job m j kind p r a)
        by None none g = free a none g
        by (Some x) there g = used_stand kind p r a region count telling x there g
