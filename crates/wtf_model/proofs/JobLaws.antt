-- The worked examples of the lines of jobs.
use Rattle.std.proofs.Common.{◌≡◌, ◌⊎◌, ◌≤◌, ◌<◌, ℕ, ◌+◌, ◌-◌, ◌/◌, ◌==◌, true, false, List, [], ◌∷◌, map, length, Option, Some, None, Result, Ok, Err, refl, sym, ap, subst, ◌∙◌, inl, inr, arith}
use Rattle.std.specs.Prelude.{slice_get}
use Rattle.std.proofs.lemmas.Bool.{le-leb, lt-leb, eq-eqb}
use Rattle.std.specs.FinMap.{get, remove}
use Rattle.wtf_model.specs.declared.answer.Answer.{Answer}
use Rattle.wtf_model.specs.declared.answer.Answer.TheVariants as answer
use Rattle.wtf_model.specs.declared.answer.Word.{Word}
use Rattle.wtf_model.specs.declared.answer.Word.TheVariants as word
use Rattle.wtf_model.specs.declared.op.Op.{Op}
use Rattle.wtf_model.specs.declared.op.Op.TheVariants as op
use Rattle.wtf_model.specs.declared.item.Item.{Item}
use Rattle.wtf_model.specs.declared.item.Item.TheVariants.{BodyOf}
use Rattle.wtf_model.specs.declared.op.JobKind.{JobKind}
use Rattle.wtf_model.specs.declared.op.JobKind.TheVariants.{Compact, Spill}
use Rattle.wtf_model.specs.declared.event.Verb.TheVariants as verb
use Rattle.wtf_model.specs.declared.event.Event.{Event}
use Rattle.wtf_model.specs.declared.event.Event.TheVariants as event
use Rattle.wtf_model.specs.Tree.{has_path, path_list, Dir, ◌>>=◌, paths_of, paths_at, source}
use Rattle.wtf_model.specs.Items.{is_among, meets, reads_of}
use Rattle.wtf_model.specs.Transaction.{Transaction, Job}
use Rattle.wtf_model.specs.Faults.{IsReadFault, or_refusal}
use Rattle.wtf_model.specs.Jobs.{is_idle, has_region, plan_answer, IsSpillFault, MayFailPlan, MayPut, job_changes, drop_answer}
use Rattle.wtf_model.specs.Lawful.{May}
use Rattle.wtf_model.specs.Steps.{Machine, after, cap_of, is_live, rebased, touch, touch_job, with_transaction}
use Rattle.wtf_model.specs.Examples.{Only, IsPlannable, first_job, HasTwoCalls, Runs, stale_events, moved_events, asks, calls}
use Rattle.wtf_model.proofs.Laws.{get-number_same, get-number_other}
use Rattle.wtf_model.proofs.ItemLaws.{is_among-bodies, meets-last, meets-body, get-each_some}
use Rattle.wtf_model.proofs.StepLaws.{after-client}
use Rattle.wtf_model.proofs.MachineLaws.{after-machine_refusal}
use Rattle.wtf_model.proofs.MachineExamples.{asked, only_refused, live_try, replaying_call, replaying_step, gone, left}

least : (n : ℕ) → 0 ≤ n
least n = omega arith

-- what is due to a plan

pub plan-due : (m : Machine) (j r : ℕ) (p bytes : List ℕ) → IsPlannable m j p bytes → r ≤ (length bytes - 1) / m.settings.region → plan_answer m j p r ≡ answer.Planned
plan-due m j r p bytes h fit = rw (h.idle, h.file, le-leb r ((length bytes - 1) / m.settings.region) fit) refl

pub plan-first : (m : Machine) (j : ℕ) (p bytes : List ℕ) → IsPlannable m j p bytes → plan_answer m j p 0 ≡ answer.Planned
plan-first m j p bytes h = plan-due m j 0 p bytes h (least ((length bytes - 1) / m.settings.region))

pub plan-taken : (m : Machine) (j r : ℕ) (p : List ℕ) (job : Job) → get m.jobs j ≡ Some job → plan_answer m j p r ≡ answer.Refused word.JobInUse
plan-taken m j r p job there = rw there refl

pub plan-missing : (m : Machine) (j r : ℕ) (p : List ℕ) → get m.jobs j ≡ None → get m.now p ≡ None → plan_answer m j p r ≡ answer.Refused word.NoEnt
plan-missing m j r p idle none = rw (idle, none) refl

pub plan-directory : (m : Machine) (j r : ℕ) (p : List ℕ) → get m.jobs j ≡ None → get m.now p ≡ Some Dir → plan_answer m j p r ≡ answer.Refused word.IsDir
plan-directory m j r p idle dir = rw (idle, dir) refl

pub plan-no_region : (m : Machine) (j r : ℕ) (p bytes : List ℕ) → IsPlannable m j p bytes → (length bytes - 1) / m.settings.region < r → plan_answer m j p r ≡ answer.Refused word.NoRegion
plan-no_region m j r p bytes h past = rw (h.idle, h.file, lt-leb r ((length bytes - 1) / m.settings.region) past) refl

-- what may answer a plan

pub may_plan : (m : Machine) (j r : ℕ) (kind : JobKind) (p : List ℕ) (a : Answer) → plan_answer m j p r ≡ a → May m (event.Plan j kind p r) a
may_plan m j r kind p a is = inl (sym is)

refused_plan : (servers : ℕ) (kind : JobKind) (w : Word) (a : Answer) → MayFailPlan servers kind (answer.Refused w) a → ⊥
refused_plan servers kind w a h = h

pub only_plan : (m : Machine) (j r : ℕ) (kind : JobKind) (p : List ℕ) (w : Word) → plan_answer m j p r ≡ answer.Refused w → Only m (event.Plan j kind p r) (answer.Refused w)
only_plan m j r kind p w is b = (
  λ h. elim h [ inl e ↦ e ∙ is | inr fails ↦ absurd (refused_plan m.settings.servers kind w b (subst (λ d. MayFailPlan m.settings.servers kind d b) is fails)) ],
  λ e. inl (e ∙ sym is),
)

pub plan_fails : (m : Machine) (j : ℕ) (kind : JobKind) (p bytes : List ℕ) (a : Answer) → IsPlannable m j p bytes → IsReadFault m.settings.servers a ⊎ IsSpillFault kind a
    → May m (event.Plan j kind p 0) a
plan_fails m j kind p bytes a h fails = inr (subst (λ d. MayFailPlan m.settings.servers kind d a) (sym (plan-first m j p bytes h)) fails)

-- a plan is due to answer that it is planned, or is refused
abbrev pub IsDueToPlan : Answer → Type 0
IsDueToPlan answer.Planned = Unit {0}
IsDueToPlan (answer.Refused w) = Unit {0}
IsDueToPlan a = ⊥

bound : {A : Type 0} (r : Result A Word) (f : A → Result Answer Word) → ((x : A) → IsDueToPlan (or_refusal (f x))) → IsDueToPlan (or_refusal (r >>= f))
bound (Ok x) f h = h x
bound (Err w) f h = tt

due_plan : (m : Machine) (j r : ℕ) (p : List ℕ) → IsDueToPlan (plan_answer m j p r)
due_plan m j r p = bound (is_idle (get m.jobs j)) _ (λ _. bound (source m.now p) _ (λ bytes. bound (has_region m.settings.region bytes r) _ (λ _. tt)))

fails_at : (servers : ℕ) (kind : JobKind) (d a : Answer) → IsDueToPlan d → MayFailPlan servers kind d a → IsReadFault servers a ⊎ IsSpillFault kind a
fails_at servers kind answer.Planned a due h = h
fails_at servers kind d a due h = absurd h

pub plan_answers : (m : Machine) (j r : ℕ) (kind : JobKind) (p : List ℕ) (a : Answer) → May m (event.Plan j kind p r) a → IsDueToPlan a ⊎ IsReadFault m.settings.servers a ⊎ IsSpillFault kind a
plan_answers m j r kind p a h =
    let due : IsDueToPlan (plan_answer m j p r) = due_plan m j r p in
    elim h [ inl e ↦ inl (subst IsDueToPlan (sym e) due) | inr fails ↦ inr (fails_at m.settings.servers kind (plan_answer m j p r) a due fails) ]

pub compact_writes_nothing : (m : Machine) (j r : ℕ) (p : List ℕ) → May m (event.Plan j Compact p r) answer.FaultWrite → ⊥
compact_writes_nothing m j r p h = elim (plan_answers m j r Compact p answer.FaultWrite h) [ inl due ↦ due | inr fails ↦ elim fails [ inl read ↦ read | inr spill ↦ spill ] ]

read_is_no_spill : (kind : JobKind) (k : ℕ) → IsSpillFault kind (answer.FaultRead k) → ⊥
read_is_no_spill Compact k h = h
read_is_no_spill Spill k h = h

pub unknown_server : (m : Machine) (j r k : ℕ) (kind : JobKind) (p : List ℕ) → m.settings.servers ≤ k → May m (event.Plan j kind p r) (answer.FaultRead k) → ⊥
unknown_server m j r k kind p past h =
    elim (plan_answers m j r kind p (answer.FaultRead k) h) [ inl due ↦ due | inr fails ↦ elim fails [ inl below ↦ absurd (omega (arith, below, past)) | inr spill ↦ read_is_no_spill kind k spill ] ]

-- what may answer a put

pub may_put : (m : Machine) (j : ℕ) (o : Option Job) (a : Answer) → get m.jobs j ≡ o → MayPut m o a → May m (event.Put j) a
may_put m j o a there h = subst (λ x. MayPut m x a) (sym there) h

pub put_may : (m : Machine) (j : ℕ) (o : Option Job) (a : Answer) → get m.jobs j ≡ o → May m (event.Put j) a → MayPut m o a
put_may m j o a there h = subst (λ x. MayPut m x a) there h

pub not_stale : (m : Machine) (j base now : ℕ) (job : Job) → get m.jobs j ≡ Some job → job.base ≡ m.number → May m (event.Put j) (answer.Stale base now) → ⊥
not_stale m j base now job there same h =
    let (is, number, less) = (put_may m j (Some job) (answer.Stale base now) there h).0 in
    absurd (omega arith)

pub only_drop : (m : Machine) (j : ℕ) (o : Option Job) → get m.jobs j ≡ o → Only m (event.DropJob j) (drop_answer o)
only_drop m j o there b = (λ e. e ∙ ap drop_answer there, λ e. e ∙ sym (ap drop_answer there))

-- an install for a file that may be planned changes its bytes
body_changed : (m : Machine) (p bytes : List ℕ) (h : IsPlannable m 0 p bytes) → is_among (map (λ q. BodyOf q) (path_list (paths_at m.now p))) (BodyOf p) ≡ true
body_changed m p bytes h = is_among-bodies (paths_at m.now p) p (ap (λ o. has_path (paths_of o) p) h.file ∙ h.own)

-- two jobs of one number
pub two_jobs : (m : Machine) (p bytes : List ℕ) → IsPlannable m 0 p bytes → get m.jobs 1 ≡ None → Runs m (stale_events p m.number)
unfolding Runs
two_jobs m p bytes h idle =
    let first = first_job m Compact p 0 in
    let m1 : Machine = after m (event.Plan 0 Compact p 0) answer.Planned in
    let second = first_job m1 Spill p 0 in
    let free : IsPlannable m1 1 p bytes = record { idle = get-number_other m.jobs 0 first 1 (λ e. cc) ∙ idle; paths = h.paths; file = h.file; own = h.own } in
    let m2 : Machine = after m1 (event.Plan 1 Spill p 0) answer.Planned in
    let one : get m2.jobs 0 ≡ Some first = get-number_other m1.jobs 1 second 0 (λ e. cc) ∙ get-number_same m.jobs 0 first in
    let m3 : Machine = after m2 (event.Put 0) (answer.Installed (m.number + 1)) in
    let changed : List Item = job_changes m2.now (get m2.jobs 0) in
    let seen : Job = touch_job (job_changes m.now (Some first)) second in
    let body : is_among (job_changes m.now (Some first)) (BodyOf p) ≡ true = body_changed m p bytes h in
    let other : get m3.jobs 1 ≡ Some seen =
    get-each_some (touch_job changed) (remove m2.jobs 0) 1 second (left m2.jobs 0 1 (λ e. cc) ∙ get-number_same m1.jobs 1 second)
    ∙ ap (λ o. Some (touch_job (job_changes m2.now o) second)) one in
    let m4 : Machine = after m3 (event.Put 1) (answer.Stale m.number (m.number + 1)) in (
      may_plan m 0 0 Compact p answer.Planned (plan-first m 0 p bytes h),
      (
        may_plan m1 1 0 Spill p answer.Planned (plan-first m1 1 p bytes free),
        (
          may_put m2 0 (Some first) (answer.Installed (m.number + 1)) one refl,
          (
            may_put m3 1 (Some seen) (answer.Stale m.number (m.number + 1)) other ((refl, refl, omega arith), meets-body (job_changes m.now (Some first)) p body),
            (
              may_put m4 1 None (answer.Refused word.NoJob) (gone m3.jobs 1) refl,
              tt,
            ),
          ),
        ),
      ),
    )

-- a transaction that is sent to replay by an install which changed no byte of a file that it has read

at : (l k : List Answer) (i : ℕ) → l ≡ k → slice_get l i ≡ slice_get k i
at l k i same = ap (λ x. slice_get x i) same

pub moved : (m : Machine) (t : Transaction) (p bytes : List ℕ) → IsPlannable m 0 p bytes → HasTwoCalls m t → is_among (reads_of (cap_of m) t.tree t.ops) (BodyOf p) ≡ true
    → Runs m (moved_events p m.number)
unfolding Runs
moved m t p bytes h ready reading =
    let job = first_job m Compact p 0 in
    let m1 : Machine = after m (event.Plan 0 Compact p 0) answer.Planned in
    let m2 : Machine = after m1 (event.Put 0) (answer.Installed (m.number + 1)) in
    let live : is_live t ≡ true = eq-eqb t.replayed (length t.ops) (ready.live ∙ sym ready.two) in
    let seen : Transaction = touch (job_changes m.now (Some job)) t in
    let there : get m2.transactions 0 ≡ Some seen =
    get-each_some (touch (job_changes m1.now (get m1.jobs 0))) m1.transactions 0 t ready.here
    ∙ ap (λ o. Some (touch (job_changes m1.now o) t)) (get-number_same m.jobs 0 job) in
    let met : meets seen.touched (reads_of (cap_of m) t.tree t.ops) ≡ true =
    meets-last t.touched (job_changes m.now (Some job)) (reads_of (cap_of m) t.tree t.ops) (BodyOf p) (body_changed m p bytes h) reading in
    let again : Transaction = rebased m2 seen in
    let m3 : Machine = with_transaction m2 0 again in
    let at_none : get m3.transactions 0 ≡ Some again = get-number_same m2.transactions 0 again in
    let none_yet : is_live again ≡ false = ap (λ n. 0 == n) ready.two in
    let one : Transaction = record again { replayed = 1 } in
    let m4 : Machine = with_transaction m3 0 one in
    let at_one : get m4.transactions 0 ≡ Some one = get-number_same m3.transactions 0 one in
    let one_yet : is_live one ≡ false = ap (λ n. 1 == n) ready.two in
    let two : Transaction = record one { replayed = 2 } in
    let m5 : Machine = with_transaction m4 0 two in
    let at_two : get m5.transactions 0 ≡ Some two = get-number_same m4.transactions 0 two in
    let all : is_live two ≡ true = ap (λ n. 2 == n) ready.two in
    let n : ℕ = m.number in
    let read : Op (List ℕ) = op.Read 0 2 in
    let at_last : List (Event × Answer) = (asks verb.Try, answer.Committed (n + 2)) ∷ [] in
    let one_step : List (Event × Answer) = (asks verb.Step, answer.Replayed 2) ∷ at_last in
    let two_steps : List (Event × Answer) = (asks verb.Step, answer.Replayed 1) ∷ one_step in
    let all_steps : List (Event × Answer) = (calls read, answer.Refused word.Replaying) ∷ two_steps in (
      may_plan m 0 0 Compact p answer.Planned (plan-first m 0 p bytes h),
      (
        may_put m1 0 (Some job) (answer.Installed (n + 1)) (get-number_same m.jobs 0 job) refl,
        (
          asked m2 0 (Some seen) there verb.Try (answer.Retry n (n + 1)) (live_try seen live) ((sym ready.base, refl, omega arith), met),
          subst (λ x. Runs x all_steps) (sym (after-client m2 0 verb.Try (answer.Retry n (n + 1)) (Some seen) there)) (
            (only_refused m3 0 (Some again) at_none (verb.Call read) word.Replaying (replaying_call again read none_yet) (answer.Refused word.Replaying)).1 refl,
            subst (λ x. Runs x two_steps) (sym (after-machine_refusal m3 (calls read) word.Replaying refl)) (
              asked m3 0 (Some again) at_none verb.Step (answer.Replayed 1) (replaying_step again none_yet) (refl, at _ t.shown 0 ready.same),
              subst (λ x. Runs x one_step) (sym (after-client m3 0 verb.Step (answer.Replayed 1) (Some again) at_none)) (
                asked m4 0 (Some one) at_one verb.Step (answer.Replayed 2) (replaying_step one one_yet) (refl, at _ t.shown 1 ready.same),
                subst (λ x. Runs x at_last) (sym (after-client m4 0 verb.Step (answer.Replayed 2) (Some one) at_one))
                    (asked m5 0 (Some two) at_two verb.Try (answer.Committed (n + 2)) (live_try two all) (omega arith, ready.same), tt),
              ),
            ),
          ),
        ),
      ),
    )
