use Rattle.wtf_clients.proofs.Common.{Ok, line, ◌≡◌, ◌∙◌, None, Some, refl, sym, ap, subst, Fault, Range, Dev, ℕ, [], ◌∷◌, ◌++◌, false, List, IfOk, inl, inr}
use Rattle.wtf_clients.proofs.Common.{Answer, Word, stores, Plans, LineOf, Option, IsRing, GoesOn, told_in, between, JobView, IsJobOf, lent_by, was_job, Result}
use Rattle.wtf_clients.proofs.Common.{JobInUse, is_inside, HasRegion, AreSound, of_label, InodeId, StoreKind, KindLaws, JobKind, LeadsTo, inside_of, IsPlanned}
use Rattle.wtf_clients.proofs.Common.{Event, KeepsOthers, metadata_now, OutOfMemory, IsPinnedOnceMore, fault_answer, region_in_map, target_region, SparesStores}
use Rattle.wtf_clients.proofs.Common.{any_slice, refusal_of, TablesView, MaybeBytes, IsSoundDev, job_target, IsPlanFault, KeepsRegion, TellsRegion, LeavesAlone}
use Rattle.wtf_clients.proofs.{Lives.AreInside, JobFrames.job_sound, JobMaking.plan_used, JobMaking.plan_stopped, JobMaking.plans, JobTurning.plan_turned}
use Rattle.wtf_clients.proofs.{Lining.lost_line, Lining.refused_line, Lives.now_bytes, Making.nothing_there, PlanLaws.plan_has, PlanLaws.no_refusal}
use Rattle.wtf_clients.proofs.{Lives.tables_of, Lining.line_of, JobMaking.plan_made, JobMaking.plan_failed, JobServing.plan_serves, JobServing.plan_fails}
use Rattle.wtf_clients.proofs.{JobServing.plan_may, JobServing.plan_grows, Leaving.leaves_by, Lining.answered_line, Lining.failed_line, Lining.alike_same}
use Rattle.wtf_clients.proofs.{ToldPlanning.plan_told, ToldPlanning.plan_failed_told}
use Rattle.wtf_clients.proofs.tables.Tables.plan.Given.{Over}
use Rattle.wtf_clients.proofs.tables.Tables.plan.Goals as goal
use Rattle.wtf_clients.proofs.tables.Tables.plan.Goals.{After-plan, After-plan_job}

-- ---- what a plan of a job does, by what planning is lent and leaves
module _ {S : Type 0} {kind : StoreKind S} (laws : KindLaws kind) (dev new : Dev S) (lent : IsSoundDev kind dev)
    (ring : IsRing dev.settings.servers dev.ring.now.points) (old : TablesView) (sound : AreSound old)
    (inside : AreInside kind dev old) (j : ℕ) (jk : JobKind) (p : List ℕ) (r : ℕ)
    (none : of_label old.beside.jobs j ≡ None) (free : refusal_of dev.settings.region (metadata_now old.kv) p r ≡ None) (goes : GoesOn kind dev new []) where
  abbrev e : Event
  e = Event.Plan j jk p r

  -- the map gives no reason against it, so a list may be read
  plan_leaves : (i : InodeId) → LeadsTo (metadata_now old.kv) p i → SparesStores kind dev new (job_target i r jk) (region_in_map (metadata_now old.kv) i r)
      → LeavesAlone kind (between dev new) (lent_by dev new) old e
  plan_leaves i leads spares =
      leaves_by kind dev new old e spares.down goes.past spares.syncs (plan_grows laws dev new goes lent old sound inside ring j jk p r i leads spares)
      (λ refused. elim refused [ inl used ↦ absurd (used none) | inr word ↦ absurd (word free) ])

  plan_line : (after : TablesView) (x : JobView) → KeepsOthers old after j (Some x) → was_job after.beside j ≡ false
      → after.kv ≡ record old.kv { pins = old.kv.pins ++ old.kv.number ∷ [] } → IsPinnedOnceMore old.kv.number old.kv after.kv → x.base ≡ old.kv.number
      → IsJobOf (metadata_now old.kv) p r jk x → IsPlanned kind dev new x.target (target_region (metadata_now old.kv) x.target) x.value
      → ((ranges : List (ℕ × Range)) → TellsRegion kind dev ranges (target_region (metadata_now old.kv) x.target)
      → KeepsRegion new.settings.region (told_in kind new) (target_region (metadata_now old.kv) x.target) x.value)
      → MaybeBytes (inside_of kind new) any_slice x.value
      → ((i : InodeId) → LeadsTo (metadata_now old.kv) p i → SparesStores kind dev new (job_target i r jk) (region_in_map (metadata_now old.kv) i r))
      → LineOf (line kind dev new old after) e (Ok Answer.Planned)
  plan_line after x keeps unmarked is_kv pinned base job did region own spares =
      let it : Plans old after j jk p r x = plans kind dev new ring old after j jk p r x none keeps unmarked is_kv pinned base job did in
      answered_line (line kind dev new old after) e Answer.Planned
      (record {
        turn = plan_made kind dev new ring old after j jk p r x none keeps unmarked is_kv pinned base job did goes free region;
        serves = plan_serves laws dev new goes lent old sound inside ring j jk p r after x none it did own;
        told = λ tells. plan_told laws dev new goes lent old sound inside tells j jk p r after x none it did own;
      })
      (plan_leaves x.target.inode job.leads (spares x.target.inode job.leads)) goes

  -- one that failed, of the file to which the path leads
  plan_lost : (i : InodeId) → LeadsTo (metadata_now old.kv) p i → (why : Fault) (q : Result Answer OutOfMemory) → IfOk q (λ a. fault_answer why ≡ Some a)
      → IsPlanFault kind dev new (job_target i r jk) (region_in_map (metadata_now old.kv) i r) why
      → SparesStores kind dev new (job_target i r jk) (region_in_map (metadata_now old.kv) i r) → LineOf (line kind dev new old old) e q
  plan_lost i leads why q is fails spares = failed_line (line kind dev new old old) e why q is
      (λ a same. record {
        turn = plan_failed kind dev new ring old old j jk p r why a same none refl free
            (plan_may laws dev new goes lent old sound inside ring j jk p r i leads why a same fails);
        serves = plan_fails laws dev new goes lent old sound inside ring j jk p r i leads why a same fails spares;
        told = λ tells. plan_failed_told laws dev new goes lent old sound inside tells j jk p r ring i leads why a same fails;
      })
      (plan_leaves i leads spares) (alike_same old) goes

-- the tables before it
abbrev old : (g : Over) → After-plan g → TablesView
old g c = tables_of c.self.inside

inside : (g : Over) (c : After-plan g) → AreInside g.S.SliceStore.kind c.args.dev.now (old g c)
inside g c = subst (AreInside g.S.SliceStore.kind c.args.dev.now) (sym c.self.view_is) c.requires.inside

-- the label has no job, and the map gives no reason against one
none : (g : Over) (c : After-plan g) → of_label (old g c).beside.jobs c.args.j ≡ None
none g c = nothing_there (of_label (old g c).beside.jobs c.args.j) (sym c.has_job.ensures ∙ c.if-has_job.false)

free : (g : Over) (c : After-plan g) → refusal_of c.args.dev.now.settings.region (metadata_now (old g c).kv) c.args.p.now c.args.region ≡ None
free g c = sym c.in-Ok.ensures ∙ no_refusal c.in-Ok.refusal (λ w. c.in_default.not-Some w)

there : (g : Over) (c : After-plan g) → HasRegion c.args.dev.now.settings.region (metadata_now (old g c).kv) c.args.p.now c.args.region
there g c = plan_has c.args.dev.now.settings.region (metadata_now (old g c).kv) c.args.p.now c.args.region (free g c)

pub plan-requires-clause-inside : goal.plan-requires-clause-inside
plan-requires-clause-inside g c =
    let dev = c.args.dev.now in
    now_bytes (is_inside g.S.SliceStore.kind (stores dev) dev.settings) any_slice _
    (subst (AreInside g.S.SliceStore.kind dev) (sym c.self.view_is) c.requires.inside)

pub plan-requires-clause-there : goal.plan-requires-clause-there
plan-requires-clause-there g c =
    plan_has c.args.dev.now.settings.region (metadata_now c.self.inside.kv) c.args.p.now c.args.region
    (sym c.in-Ok.ensures ∙ no_refusal c.in-Ok.refusal (λ w. c.in_default.not-Some w))

-- the label has a job
pub returns-then-has_job : goal.returns-then-has_job
returns-then-has_job g c =
    let kind = g.S.SliceStore.kind in
    let dev = c.args.dev.now in
    let before = tables_of c.self.inside in
    let asked : Event = Event.Plan c.args.j c.args.kind c.args.p.now c.args.region in
    subst (λ (t : TablesView). LineOf (line kind dev dev t t) asked (Ok (Answer.Refused JobInUse))) c.self.view_is
    (refused_line g.met.S.SliceStore.laws dev c.requires.dev before before refl c.self.invariant
    (subst (AreInside kind dev) (sym c.self.view_is) c.requires.inside) asked JobInUse
    (plan_used kind dev dev c.requires.ring before before c.args.j c.args.kind c.args.p.now c.args.region (sym c.has_job.ensures ∙ c.if-has_job.true) refl))

-- memory was short before anything was read
pub returns-in-Err : goal.returns-in-Err
returns-in-Err g c =
    lost_line g.met.S.SliceStore.laws c.args.dev.now c.requires.dev c.args.self.now c.args.self.now refl
    (Event.Plan c.args.j c.args.kind c.args.p.now c.args.region) c.in-Err.why

-- the file or the region is not there
pub returns-in-Some : goal.returns-in-Some
returns-in-Some g c =
    let kind = g.S.SliceStore.kind in
    let dev = c.args.dev.now in
    let before = tables_of c.self.inside in
    let refused : Option Word = refusal_of dev.settings.region (metadata_now before.kv) c.args.p.now c.args.region in
    let asked : Event = Event.Plan c.args.j c.args.kind c.args.p.now c.args.region in
    subst (λ (t : TablesView). LineOf (line kind dev dev t t) asked (Ok (Answer.Refused c.in-Some.word))) c.self.view_is
    (refused_line g.met.S.SliceStore.laws dev c.requires.dev before before refl c.self.invariant
    (subst (AreInside kind dev) (sym c.self.view_is) c.requires.inside) asked c.in-Some.word
    (plan_stopped kind dev dev c.requires.ring before before c.args.j c.args.kind c.args.p.now c.args.region c.in-Some.word
    (nothing_there (of_label before.beside.jobs c.args.j) (sym c.has_job.ensures ∙ c.if-has_job.false)) refl
    (sym {b = refused} c.in-Ok.ensures ∙ c.in-Some.is)))

-- a fault
pub returns-in-Err-plan : goal.returns-in-Err-plan
returns-in-Err-plan g c =
    let at = (goal.at.returns-in-Err-plan g c).After-plan in
    let did = c.in-Err-plan.ensures in
    let at_file = there g at in
    let asked : Event = Event.Plan c.args.j c.args.kind c.args.p.now c.args.region in
    line_of c.self.view_is
    (subst (λ (t : TablesView). LineOf (line g.S.SliceStore.kind c.args.dev.now c.plan.new.dev (old g at) t) asked c.answer_to.result)
    (ap (λ s. record (old g at) { kv = s }) (sym did.err))
    (plan_lost g.met.S.SliceStore.laws c.args.dev.now c.plan.new.dev c.requires.dev c.requires.ring (old g at) c.self.invariant (inside g at) c.args.j
    c.args.kind c.args.p.now c.args.region (none g at) (free g at) did.dev at_file.inode at_file.leads c.in-Err-plan.why c.answer_to.result
    c.answer_to.ensures.answer (did.fault at_file.inode at_file.leads) (did.spares at_file.inode at_file.leads)))

pub invariant_of-self : goal.invariant_of-self
invariant_of-self g c =
    let at = (goal.at.invariant_of-self g c).After-plan in
    subst AreSound (ap (λ s. record (old g at) { kv = s }) (sym c.in-Err-plan.ensures.err)) c.self.invariant

-- it was planned
abbrev planned : (g : Over) → After-plan_job g → TablesView
planned g c = record (tables_of c.self.inside) { kv = c.plan.new.kv; beside = c.plan_job.new.self }

keeps : (g : Over) (c : After-plan_job g) → KeepsOthers (tables_of c.self.inside) (planned g c) c.args.j (Some c.in-Ok-plan.job)
keeps g c =
    record { jobs = c.plan_job.ensures.sets; others = c.plan_job.ensures.others; beside = c.plan_job.ensures.is; clients = refl; next_tx = refl }

pub returns : goal.returns
returns g c =
    let here = (goal.at.returns g c).After-plan_job in
    let at = (goal.at.returns g c).After-plan in
    let did = c.in-Ok-plan.ensures in
    line_of c.self.view_is
    (plan_line g.met.S.SliceStore.laws c.args.dev.now c.plan.new.dev c.requires.dev c.requires.ring (old g at) c.self.invariant (inside g at) c.args.j
    c.args.kind c.args.p.now c.args.region (none g at) (free g at) did.dev (planned g here) c.in-Ok-plan.job (keeps g here) c.plan_job.ensures.unmarked
    did.pin did.once did.base did.job did.planned did.keeps did.inside did.spares)

pub invariant_of-self-2 : goal.invariant_of-self-2
invariant_of-self-2 g c =
    let kind = g.S.SliceStore.kind in
    let here = (goal.at.invariant_of-self-2 g c).After-plan_job in
    let at = (goal.at.invariant_of-self-2 g c).After-plan in
    let did = c.in-Ok-plan.ensures in
    let it : Plans (old g at) (planned g here) c.args.j c.args.kind c.args.p.now c.args.region c.in-Ok-plan.job =
    plans kind c.args.dev.now c.plan.new.dev c.requires.ring (old g at) (planned g here) c.args.j c.args.kind c.args.p.now c.args.region c.in-Ok-plan.job
    (none g at) (keeps g here) c.plan_job.ensures.unmarked did.pin did.once did.base did.job did.planned in
    job_sound (old g at) (planned g here) c.args.j (Some c.in-Ok-plan.job) c.self.invariant
    (plan_turned (old g at) (planned g here) c.args.j c.self.invariant c.args.kind c.args.p.now c.args.region c.in-Ok-plan.job (none g at) it)
