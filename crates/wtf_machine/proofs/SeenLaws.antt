-- What others have changed is kept once for all: a list of items, of which an open transaction or job sees the end that came since it began.
use Rattle.std.proofs.Common.{
  ◌≡◌,
  ◌≤◌,
  ℕ,
  Bool,
  true,
  false,
  if◌then◌else◌,
  List,
  [],
  ◌++◌,
  length,
  drop,
  Option,
  Some,
  None,
  Result,
  Ok,
  Err,
  IsTrue,
  IfOk,
  refl,
  sym,
  ap,
  ap₂,
  ◌∙◌,
}
use Rattle.std.proofs.lemmas.List.{drop-append-le}
use Rattle.std.proofs.Math.Seq.{drop-length}
use Rattle.std.specs.Result.{IsOk, is_ok}
use Rattle.std.specs.Option.{option_map}
use Rattle.std.specs.Map.{lookup}
use Rattle.std.specs.BTreeMap.{is_at}
use Rattle.std.specs.Ordering.{nat_cmp}
use Rattle.std.specs.Cmp.{nat_cmp_total}
use Rattle.std.specs.FinMap.{nat_cmp-IsAntisymmetric, same_map}
use Rattle.wtf_model.specs.declared.answer.Answer.{Answer, Aborted'}
use Rattle.wtf_model.specs.declared.answer.Answer.TheVariants as answer
use Rattle.wtf_model.specs.declared.item.Item.{Item}
use Rattle.wtf_model.specs.declared.op.Op.{Op}
use Rattle.wtf_model.specs.Transaction.{Transaction}
use Rattle.wtf_model.specs.Machines.{Machine}
use Rattle.wtf_model.specs.Lawful.{MayStepAt, MayStep}
use Rattle.wtf_model.specs.Steps.{is_logged, logged, touch, touch_job, with_each}
use Rattle.wtf_model.proofs.ItemLaws.{get-each}
use Rattle.wtf_machine.specs.declared.begun.Begun.{Begun}
use Rattle.wtf_machine.specs.declared.begun.Verdict.{Verdict}
use Rattle.wtf_machine.specs.declared.begun.Verdict.TheVariants as verdict
use Rattle.wtf_machine.specs.declared.jobs.PlannedJob.{PlannedJob}
use Rattle.wtf_machine.specs.Maps.{map_of}
use Rattle.wtf_machine.specs.Verdicts.{transaction_in, seen_in, open_in, called_on, stepped_on, IsVerdict}
use Rattle.wtf_machine.specs.Kept.{job_in, planned_in}
use Rattle.wtf_machine.specs.Caps.{BeganWithin, PlannedWithin}
use Rattle.wtf_machine.proofs.MapLaws.{get-map_of}

-- ---- one transaction or job

-- what begins now has seen nothing yet
pub open_new : (changed : List Item) (b : Begun) → b.since ≡ length changed → open_in changed b ≡ transaction_in b
open_new changed b since = ap (λ items. seen_in items b) (ap (λ n. drop n changed) since ∙ drop-length changed)

pub planned_new : (changed : List Item) (j : PlannedJob) → j.since ≡ length changed → planned_in changed j ≡ job_in j
planned_new changed j since = ap (λ items. record (job_in j) { touched = items }) (ap (λ n. drop n changed) since ∙ drop-length changed)

-- one that is as it was sees what it saw
pub open_same : (changed : List Item) (w b : Begun) → transaction_in w ≡ transaction_in b → w.since ≡ b.since → open_in changed w ≡ open_in changed b
open_same changed w b same since = ap₂ (λ (t : Transaction) (n : ℕ). record t { touched = drop n changed }) same since

-- one that began anew
pub open_rebased : (changed : List Item) (w b : Begun) (t : Transaction) → transaction_in w ≡ t → w.since ≡ length changed
    → open_in changed w ≡ record t { touched = [] }
open_rebased changed w b t is since =
    ap₂ (λ (x : Transaction) (items : List Item). record x { touched = items }) is (ap (λ n. drop n changed) since ∙ drop-length changed)

-- more items are changed
pub open_more : (changed items : List Item) (b : Begun) → b.since ≤ length changed → open_in (changed ++ items) b ≡ touch items (open_in changed b)
open_more changed items b le = ap (λ xs. seen_in xs b) (drop-append-le b.since changed items le)

pub planned_more : (changed items : List Item) (j : PlannedJob) → j.since ≤ length changed
    → planned_in (changed ++ items) j ≡ touch_job items (planned_in changed j)
planned_more changed items j le = ap (λ xs. record (job_in j) { touched = xs }) (drop-append-le j.since changed items le)

-- what was appended where there was room for it
pub grown : {X A E : Type 0} (r : Result A E) (new old items : List X) → IsOk r → new ≡ (if is_ok r then old ++ items else old) → new ≡ old ++ items
grown r new old items ok is = is ∙ ap (λ b. if b then old ++ items else old) ok

-- ---- all of them

module _ (changed items : List Item) where
  each_open : (o : Option Begun) → ((b : Begun) → o ≡ Some b → b.since ≤ length changed)
      → option_map (open_in (changed ++ items)) o ≡ option_map (touch items) (option_map (open_in changed) o)
  each_open None within = refl
  each_open (Some b) within = ap (λ x. Some x) (open_more changed items b (within b refl))

  pub clients_more : (es : List (ℕ × Begun)) → BeganWithin (length changed) es
      → map_of nat_cmp (open_in (changed ++ items)) es ≡ with_each (touch items) (map_of nat_cmp (open_in changed) es)
  clients_more es within =
      same_map nat_cmp_total nat_cmp-IsAntisymmetric _ _ (λ q.
      get-map_of nat_cmp_total (open_in (changed ++ items)) es q
      ∙ each_open (lookup (is_at (nat_cmp q)) es) (within q)
      ∙ ap (option_map (touch items)) (sym (get-map_of nat_cmp_total (open_in changed) es q))
      ∙ sym (get-each (touch items) (map_of nat_cmp (open_in changed) es) q))

  each_planned : (o : Option PlannedJob) → ((j : PlannedJob) → o ≡ Some j → j.since ≤ length changed)
      → option_map (planned_in (changed ++ items)) o ≡ option_map (touch_job items) (option_map (planned_in changed) o)
  each_planned None within = refl
  each_planned (Some j) within = ap (λ x. Some x) (planned_more changed items j (within j refl))

  pub jobs_more : (es : List (ℕ × PlannedJob)) → PlannedWithin (length changed) es
      → map_of nat_cmp (planned_in (changed ++ items)) es ≡ with_each (touch_job items) (map_of nat_cmp (planned_in changed) es)
  jobs_more es within =
      same_map nat_cmp_total nat_cmp-IsAntisymmetric _ _ (λ q.
      get-map_of nat_cmp_total (planned_in (changed ++ items)) es q
      ∙ each_planned (lookup (is_at (nat_cmp q)) es) (within q)
      ∙ ap (option_map (touch_job items)) (sym (get-map_of nat_cmp_total (planned_in changed) es q))
      ∙ sym (get-each (touch_job items) (map_of nat_cmp (planned_in changed) es) q))

-- ---- calls and steps say nothing of what others have changed

called_seen : (b : Bool) (t : Transaction) (items : List Item) (o : Op (List ℕ)) (a : Answer)
    → record (if b then logged t o a else t) { touched = items } ≡ (if b then logged (record t { touched = items }) o a else record t { touched = items })
called_seen true t items o a = refl
called_seen false t items o a = refl

pub open_called : (changed : List Item) (w b : Begun) (o : Op (List ℕ)) (a : Answer) → w.since ≡ b.since → transaction_in w ≡ called_on (transaction_in b) o a
    → open_in changed w ≡ called_on (open_in changed b) o a
open_called changed w b o a since is =
    ap₂ (λ (t : Transaction) (n : ℕ). record t { touched = drop n changed }) is since
    ∙ called_seen (is_logged a) (transaction_in b) (drop b.since changed) o a

stepped_seen : (t : Transaction) (items : List Item) (a : Answer) → record (stepped_on t a) { touched = items } ≡ stepped_on (record t { touched = items }) a
stepped_seen t items (answer.Replayed i) = refl
stepped_seen t items a = refl

step_seen : (m : Machine) (t : Transaction) (items : List Item) (answers : List Answer) (a : Answer) → MayStepAt m t answers a
    → MayStepAt m (record t { touched = items }) answers a
step_seen m t items answers (answer.Replayed i) may = may
step_seen m t items answers (Aborted' i box a) may = may
step_seen m t items answers a may = may

step_back : (m : Machine) (t : Transaction) (items : List Item) (answers : List Answer) (a : Answer) → MayStepAt m (record t { touched = items }) answers a
    → MayStepAt m t answers a
step_back m t items answers (answer.Replayed i) may = may
step_back m t items answers (Aborted' i box a) may = may
step_back m t items answers a may = may

pub verdict_seen : (changed : List Item) (w b : Begun) (m : Machine) (a : Answer) (v : Verdict) → w.since ≡ b.since
    → IsVerdict (MayStep m (transaction_in b) a) (transaction_in b) (transaction_in w) a v
    → IsVerdict (MayStep m (open_in changed b) a) (open_in changed b) (open_in changed w) a v
verdict_seen changed w b m a verdict.Unlawful since is =
    (λ may. is.0 (step_back m (transaction_in b) (drop b.since changed) _ a may), open_same changed w b is.1 since)
verdict_seen changed w b m a verdict.Goes since is = (
  step_seen m (transaction_in b) (drop b.since changed) _ a is.0,
  ap₂ (λ (t : Transaction) (n : ℕ). record t { touched = drop n changed }) is.1 since ∙ stepped_seen (transaction_in b) (drop b.since changed) a,
  is.2,
)
verdict_seen changed w b m a verdict.Ends since is = (step_seen m (transaction_in b) (drop b.since changed) _ a is.0, is.1)

-- what a call comes to
pub called_next : {E : Type 0} (r : Result Bool E) (changed : List Item) (w b : Begun) (o : Op (List ℕ)) (a : Answer) → w.since ≡ b.since
    → IfOk r (λ yes. IsTrue yes → transaction_in w ≡ called_on (transaction_in b) o a)
    → IfOk r (λ yes. IsTrue yes → open_in changed w ≡ called_on (open_in changed b) o a)
called_next (Ok did) changed w b o a since is = λ h. open_called changed w b o a since (is h)
called_next (Err e) changed w b o a since is = is

pub called_stays : {E : Type 0} (r : Result Bool E) (changed : List Item) (w b : Begun) → w.since ≡ b.since
    → IfOk r (λ yes. yes ≡ false → transaction_in w ≡ transaction_in b) → IfOk r (λ yes. yes ≡ false → open_in changed w ≡ open_in changed b)
called_stays (Ok did) changed w b since is = λ h. open_same changed w b (is h) since
called_stays (Err e) changed w b since is = is
