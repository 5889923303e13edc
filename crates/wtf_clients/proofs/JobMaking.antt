-- What the lines of jobs make of the tables, by what planning, putting and dropping promise.
use Rattle.wtf_clients.proofs.Common.{Fault, Answer, JobKind, is_told, between, told_in, JobView, IsJobOf, was_job, SetsJob, AreTrue, PutTurn, lent_by, is_some}
use Rattle.wtf_clients.proofs.Common.{Settings, StoreKind, any_slice, is_listed, TellLists, are_apart, IsPlanned, TablesView, with_jobs, ReadsLists, refusal_of}
use Rattle.wtf_clients.proofs.Common.{Slice, Range, Place, NoJob, Stands, IsRing, GoesOn, stores, Target, Plans, Seeing, seeing, Option, subst, arith, false}
use Rattle.wtf_clients.proofs.Common.{TellsAll, JobInUse, MapBytes, lists_in, of_label, IsMadeOf, PlanTurn, PlanFails, FreePlan, plan_due, DropsJob, DropTurn}
use Rattle.wtf_clients.proofs.Common.{IsPinnedOnceMore, RegionValue, region_facts, region_of_bytes, RemembersTrue, fault_answer, target_region, metadata_now, ℕ}
use Rattle.wtf_clients.proofs.Common.{Region, MayFailPlan, maybe_stays, lists_have, KeepsRegion, TellsRegion, BesideView, with_labels, plan_answer, KeepsOthers}
use Rattle.wtf_clients.proofs.Common.{Word, Tree, Told, Map, Dev, Jobs, Puts, ◌≡◌, Bool, true, List, [], None, Some, set, refl, sym, ap, ◌∙◌, ◌<◌, ◌∷◌, ◌++◌}
use Rattle.wtf_clients.proofs.{JobPins.set_back, JobPins.set_none, Known.lent_to, Known.knows, Known.recalled_in, Lives.now_bytes, PlanLaws.plan_is_due}
use Rattle.wtf_clients.proofs.{Making.at_none}
use Rattle.wtf_clients.proofs.{Making.at_some, Making.at_there, Staying.IsFault, Staying.fault_is}

-- what stands beside, but for the jobs, is what it was
any_jobs : (old new : BesideView) (jobs : Jobs) → new ≡ with_jobs old jobs → new ≡ with_labels old new.jobs new.scan_jobs
any_jobs old new jobs is = is ∙ ap (λ l. with_labels old l old.scan_jobs) (sym (ap (λ (b : BesideView). b.jobs) is))
    ∙ ap (with_labels old new.jobs) (sym (ap (λ (b : BesideView). b.scan_jobs) is))

-- a job that was taken, and could not be put, is given back
pub given_back : (old mid new : BesideView) (j : ℕ) (x : JobView) → of_label old.jobs j ≡ Some x → mid ≡ with_jobs old (set old.jobs j None)
    → new ≡ with_jobs mid (set mid.jobs j (Some x)) → new ≡ old
given_back old mid new j x there taken put =
    put
    ∙ ap (λ (b : BesideView). with_jobs b (set b.jobs j (Some x))) taken
    ∙ ap (with_jobs old) (set_back old.jobs j x there)

-- taking none changes nothing
pub none_taken : (old mid : BesideView) (j : ℕ) → of_label old.jobs j ≡ None → mid ≡ with_jobs old (set old.jobs j None) → mid ≡ old
none_taken old mid j none taken = taken ∙ ap (with_jobs old) (set_none old.jobs j none)

-- all but the store of the metadata and the job of the label stays
pub keeps_others : (old new : TablesView) (j : ℕ) (now : Option JobView) (jobs : Jobs) → SetsJob j now old.beside.jobs new.beside.jobs
    → new.beside ≡ with_jobs old.beside jobs → new.clients ≡ old.clients → new.next_tx ≡ old.next_tx → KeepsOthers old new j now
keeps_others old new j now jobs sets is clients next = record {
  jobs = sets;
  others = λ l other. ap (λ (b : BesideView). was_job b l) is;
  beside = any_jobs old.beside new.beside jobs is;
  clients = clients;
  next_tx = next;
}

-- ---- a plan

-- what was planned, but for the stores
abbrev pub made_of : {S : Type 0} (kind : StoreKind S) (old new : Dev S) (t : Target) (now value : Option RegionValue) → IsPlanned kind old new t now value
    → IsMadeOf t now value
made_of kind old new t now value h = record { under = h.under; stored = h.stored; same = h.same; there = h.there; short = h.short; spilled = h.spilled }

module _ {S : Type 0} (kind : StoreKind S) (old new : Dev S) (t : Target) (now value : Option RegionValue) (goes : GoesOn kind old new [])
    (h : IsPlanned kind old new t now value) where
  -- what was read is what its slice decodes to
  pub made_known : (ReadsLists (seeing kind (between old new) (lent_by old new))).known (region_facts now h.under)
  made_known = knows kind old new goes (region_facts now h.under) h.told

  -- and over stores that tell, so is what was stored
  pub made_own : TellsAll kind (stores old) → TellLists (lists_in old.settings.region (told_in kind new)) h.stored
  made_own all = subst (λ (st : Settings). TellLists (lists_in st.region (told_in kind new)) h.stored) goes.settings (h.told_own all)

-- where the stores tell the map now, they tell each region of it
tells_region : {S : Type 0} (kind : StoreKind S) (dev : Dev S) (tables : TablesView) (t : Target) → TellsAll kind (stores dev)
    → (kept : AreTrue dev.settings.region (told_in kind dev) (RemembersTrue kind dev) tables) → MapBytes (is_told (told_in kind dev))
    (is_listed dev.settings.region (told_in kind dev)) (metadata_now tables.kv) → TellsRegion kind dev kept.ranges (target_region (metadata_now tables.kv) t)
tells_region kind dev tables t all kept map =
    let told : Told = told_in kind dev in
    let size : ℕ = dev.settings.region in
    let w : Map = metadata_now tables.kv in
    let P : List Place → Bool = are_apart kept.ranges in
    let Q : Slice → Bool = lists_have size told P in
    record {
      all = all;
      region = region_of_bytes (is_told told) (is_listed size told) (w (Region t.inode t.region)) (map (Region t.inode t.region));
      cache = kept.cache;
      away = maybe_stays P P (λ qs is. is) Q any_slice (λ s is. refl) (target_region w t)
          (region_of_bytes P Q (w (Region t.inode t.region)) (now_bytes P Q tables kept.away (Region t.inode t.region)));
    }

module _ {S : Type 0} (kind : StoreKind S) (dev new : Dev S) (ring : IsRing dev.settings.servers dev.ring.now.points) (old after : TablesView) (j : ℕ)
    (jk : JobKind) (p : List ℕ) (r : ℕ) where
  abbrev z : Seeing
  z = seeing kind (between dev new) (lent_by dev new)

  abbrev Turn : Answer → Type 0
  Turn a = PlanTurn z old after j jk p r a

  some_region : 0 < dev.settings.region
  some_region = omega (arith, dev.settings.limits.5)

  -- what is due, by the map
  due : (o : Option Word) → refusal_of z.size (metadata_now old.kv) p r ≡ o → (tx k : ℕ) (t : Tree) → Stands z.size z.told tx k (metadata_now old.kv) t
      → plan_due z.size t p r ≡ plan_answer o
  due o is tx k t st = plan_is_due z.size z.told tx k (metadata_now old.kv) t p r some_region st ∙ ap plan_answer is

  pub plan_used : is_some (of_label old.beside.jobs j) ≡ true → after ≡ old → Turn (Answer.Refused JobInUse)
  plan_used there same = at_there (of_label old.beside.jobs j) _ _ there (λ x. record { answer = refl; same = same })

  pub plan_stopped : (w : Word) → of_label old.beside.jobs j ≡ None → after ≡ old → refusal_of z.size (metadata_now old.kv) p r ≡ Some w
      → Turn (Answer.Refused w)
  plan_stopped w none same word = at_none (of_label old.beside.jobs j) _ _ none (record { same = same; word = word; due = due (Some w) word })

  free_fails : (a : Answer) → IsFault a → PlanFails z old after jk p r a → FreePlan z old after j jk p r a
  free_fails (Answer.FaultRead k) fault h = h
  free_fails Answer.FaultWrite fault h = h
  free_fails (Answer.FaultPunch k) fault h = h
  free_fails (Answer.Damaged k) fault h = h
  free_fails a fault h = absurd fault

  pub plan_failed : (why : Fault) (a : Answer) → fault_answer why ≡ Some a → of_label old.beside.jobs j ≡ None → after ≡ old
      → refusal_of z.size (metadata_now old.kv) p r ≡ None → MayFailPlan z.servers jk Answer.Planned a → Turn a
  plan_failed why a is none same free may =
      at_none (of_label old.beside.jobs j) _ _ none (free_fails a (fault_is why a is) (record {
        why = why;
        answer = is;
        same = same;
        free = free;
        may = λ tx k t st. subst (λ d. MayFailPlan z.servers jk d a) (sym (due None free tx k t st)) may;
      }))

  -- ---- a job that was planned
  module _ (x : JobView) (none : of_label old.beside.jobs j ≡ None) (keeps : KeepsOthers old after j (Some x)) (unmarked : was_job after.beside j ≡ false)
      (is_kv : after.kv ≡ record old.kv { pins = old.kv.pins ++ old.kv.number ∷ [] }) (pinned : IsPinnedOnceMore old.kv.number old.kv after.kv)
      (base : x.base ≡ old.kv.number) (job : IsJobOf (metadata_now old.kv) p r jk x)
      (did : IsPlanned kind dev new x.target (target_region (metadata_now old.kv) x.target) x.value) where
    abbrev pub plans : Plans old after j jk p r x
    plans = record {
      keeps = keeps;
      unmarked = unmarked;
      kv = is_kv;
      pinned = pinned;
      base = base;
      job = job;
      made = made_of kind dev new x.target (target_region (metadata_now old.kv) x.target) x.value did;
    }

    pub plan_made : GoesOn kind dev new [] → refusal_of z.size (metadata_now old.kv) p r ≡ None
        → ((ranges : List (ℕ × Range)) → TellsRegion kind dev ranges (target_region (metadata_now old.kv) x.target)
        → KeepsRegion new.settings.region (told_in kind new) (target_region (metadata_now old.kv) x.target) x.value) → Turn Answer.Planned
    plan_made goes free region = at_none (of_label old.beside.jobs j) _ _ none (record {
      job = x;
      plans = plans;
      recalls = recalled_in kind dev new (region_facts (target_region (metadata_now old.kv) x.target) did.under) did.recalls;
      known = made_known kind dev new x.target (target_region (metadata_now old.kv) x.target) x.value goes did;
      written = λ is. (dev, new, lent_to dev new ring, did.written is);
      own = made_own kind dev new x.target (target_region (metadata_now old.kv) x.target) x.value goes did;
      free = free;
      due = due None free;
      keeps = λ tells.
          subst (λ (st : Settings). KeepsRegion st.region (told_in kind new) (target_region (metadata_now old.kv) x.target) x.value) goes.settings
          (region tells.1.ranges (tells_region kind dev old x.target tells.0 tells.1 tells.2));
    })

-- ---- a put, and a drop
module _ (old new : TablesView) (j : ℕ) where
  pub none_put : of_label old.beside.jobs j ≡ None → new ≡ old → PutTurn old new j (Answer.Refused NoJob)
  none_put none same = at_none (of_label old.beside.jobs j) _ _ none (record { answer = refl; same = same })

  pub put_turn : (x : JobView) (a : Answer) → of_label old.beside.jobs j ≡ Some x → Puts old new j x a → PutTurn old new j a
  put_turn x a there did = at_some (of_label old.beside.jobs j) x _ _ there did

  pub none_dropped : of_label old.beside.jobs j ≡ None → new ≡ old → DropTurn old new j (Answer.Refused NoJob)
  none_dropped none same = at_none (of_label old.beside.jobs j) _ _ none (record { answer = refl; same = same })

  pub drop_turn : (x : JobView) (a : Answer) → of_label old.beside.jobs j ≡ Some x → DropsJob old new j x a → DropTurn old new j a
  drop_turn x a there did = at_some (of_label old.beside.jobs j) x _ _ there did
