-- What a line of a job makes of the tables, over every device.
-- NSDI 2016, section 2.8 (lists of regions are compacted, and written into slices of their own, beside the calls of clients).
use Rattle.std.specs.Prelude.{◌≡◌, ◌≢◌, ℕ, nat_eq, List, [], ◌∷◌, ◌++◌, true, false, is_some, Option, Some, None, Ok, MatchOption}
use Rattle.std.specs.Set.{remove_key}
use Rattle.wtf_base.specs.declared.fault.Fault.{Fault}
use Rattle.wtf_kv.specs.Stores.{IsPinnedOnceMore}
use Rattle.wtf_overlay.specs.declared.part.Entry.{Entry}
use Rattle.wtf_values.specs.declared.region.RegionValue.{RegionValue}
use Rattle.wtf_model.specs.declared.answer.Answer.{Answer}
use Rattle.wtf_model.specs.declared.answer.Answer.TheVariants as answer
use Rattle.wtf_model.specs.declared.answer.Word.{Word}
use Rattle.wtf_model.specs.declared.answer.Word.TheVariants.{NoJob, JobInUse}
use Rattle.wtf_model.specs.declared.op.JobKind.{JobKind}
use Rattle.wtf_model.specs.Faults.{or_refusal}
use Rattle.wtf_model.specs.Jobs.{has_region, MayFailPlan}
use Rattle.wtf_model.specs.Tree.{Tree, ◌>>=◌, source}
use Rattle.wtf_meta.specs.Contents.{SamePlaces, lists_in}
use Rattle.wtf_meta.specs.Files.{end_of}
use Rattle.wtf_meta.specs.Lists.{ListFact, TellLists, region_facts}
use Rattle.wtf_meta.specs.Trees.{Stands}
use Rattle.wtf_replay.specs.Causes.{fault_answer}
use Rattle.wtf_replay.specs.Tried.{KeepsMaps}
use Rattle.wtf_compact.specs.declared.target.Target.{Target}
use Rattle.wtf_compact.specs.Jobs.{JobView, IsJobOf, target_region}
use Rattle.wtf_compact.specs.Planned.{KeepsRegion, IsUnstoredShort, IsSpilled, spills}
use Rattle.wtf_compact.specs.Putting.{IsJobPut}
use Rattle.wtf_clients.specs.Planning.{refusal_of}
use Rattle.wtf_clients.specs.Views.{TablesView, of_label, was_job, with_labels, metadata_now}
use Rattle.wtf_clients.specs.Sounds.{SetsJob}
use Rattle.wtf_clients.specs.Seeing.{Seeing, Recalled}
use Rattle.wtf_clients.specs.Turns.{ListsAreTold, ReadsLists}

-- All is what it was but for the store of the metadata and the job of label j; that is now this one, or none.
pub record KeepsOthers (old new : TablesView) (j : ℕ) (now : Option JobView) : Type 0 where
  pub jobs : SetsJob j now old.beside.jobs new.beside.jobs
  pub others : (l : ℕ) → l ≢ j → was_job new.beside l ≡ was_job old.beside l
  pub beside : new.beside ≡ with_labels old.beside new.beside.jobs new.beside.scan_jobs
  pub clients : new.clients ≡ old.clients
  pub next_tx : new.next_tx ≡ old.next_tx

-- a line of a job is refused, and leaves all as it was
pub record RefusesJob (old new : TablesView) (w : Word) (a : Answer) : Type 0 where
  pub answer : a ≡ answer.Refused w
  pub same : new ≡ old

-- what the definitions answer to a plan of region r of the file p, under a label that is free, where a region has `size` bytes
abbrev pub plan_due : ℕ → Tree → List ℕ → ℕ → Answer
plan_due size t p r = or_refusal (do
  bytes ← source t p
  _ ← has_region size bytes r
  Ok answer.Planned)

-- What is to be put in a region's place has the region's end, and each byte at the same places, over all lists that agree with what was read
-- of its base and with what was stored. A compaction makes a compact list without a base, and so does a spill of a region without a byte; any
-- other spill makes a compact list that was stored the base, with no entry over it. A region that is missing stays so.
pub record IsMadeOf (t : Target) (now value : Option RegionValue) : Type 0 where
  pub under : List Entry
  pub stored : List ListFact
  pub same : SamePlaces (region_facts now under ++ stored) now value
  pub there : is_some value ≡ is_some now
  pub short : spills t.kind (end_of now) ≡ false → IsUnstoredShort stored value
  pub spilled : spills t.kind (end_of now) ≡ true → IsSpilled stored value

-- A job of this value was planned at the number, which it pins. It was not open when the last scan began.
pub record Plans (old new : TablesView) (j : ℕ) (kind : JobKind) (p : List ℕ) (r : ℕ) (x : JobView) : Type 0 where
  pub keeps : KeepsOthers old new j (Some x)
  pub unmarked : was_job new.beside j ≡ false
  pub kv : new.kv ≡ record old.kv { pins = old.kv.pins ++ old.kv.number ∷ [] }
  pub pinned : IsPinnedOnceMore old.kv.number old.kv new.kv
  pub base : x.base ≡ old.kv.number
  pub job : IsJobOf (metadata_now old.kv) p r kind x
  pub made : IsMadeOf x.target (target_region (metadata_now old.kv) x.target) x.value

-- A job was put in place, or is stale, and has ended; the pin of its base is undone. The labels that were open when the last scan began are
-- marked as they were.
pub record Puts (old new : TablesView) (j : ℕ) (x : JobView) (a : Answer) : Type 0 where
  pub keeps : KeepsOthers old new j None
  pub marks : new.beside.scan_jobs ≡ old.beside.scan_jobs
  pub put : IsJobPut x old.kv new.kv a
  pub maps : KeepsMaps old.kv new.kv
  pub unpinned : IsPinnedOnceMore x.base new.kv old.kv

-- a job was dropped; the marks stay
pub record DropsJob (old new : TablesView) (j : ℕ) (x : JobView) (a : Answer) : Type 0 where
  pub answer : a ≡ answer.Okay
  pub keeps : KeepsOthers old new j None
  pub marks : new.beside.scan_jobs ≡ old.beside.scan_jobs
  pub kv : new.kv ≡ record old.kv { pins = remove_key (nat_eq x.base) old.kv.pins }
  pub unpinned : IsPinnedOnceMore x.base new.kv old.kv

abbrev pub PutTurn : TablesView → TablesView → ℕ → Answer → Type 0
PutTurn old new j a = MatchOption (of_label old.beside.jobs j) (RefusesJob old new NoJob a) (λ x. Puts old new j x a)

abbrev pub DropTurn : TablesView → TablesView → ℕ → Answer → Type 0
DropTurn old new j a = MatchOption (of_label old.beside.jobs j) (RefusesJob old new NoJob a) (λ x. DropsJob old new j x a)

-- what is seen over a line
module _ (z : Seeing) where
  -- The map gives no reason against it. What was read of the region's base is remembered, and is what its slice decodes to, as reads of calls
  -- are; and the list of a spill was stored, and is so over stores that tell. There it keeps the bytes of the region.
  pub record PlansSoundly (old new : TablesView) (j : ℕ) (kind : JobKind) (p : List ℕ) (r : ℕ) : Type 0 where
    pub job : JobView
    pub plans : Plans old new j kind p r job
    pub recalls : Recalled z (region_facts (target_region (metadata_now old.kv) job.target) plans.made.under)
    pub known : (ReadsLists z).known (region_facts (target_region (metadata_now old.kv) job.target) plans.made.under)
    pub written : spills job.target.kind (end_of (target_region (metadata_now old.kv) job.target)) ≡ true → z.stores job.target plans.made.stored
    pub own : z.telling → TellLists (lists_in z.size z.later) plans.made.stored
    pub free : refusal_of z.size (metadata_now old.kv) p r ≡ None
    pub due : (tx k : ℕ) (t : Tree) → Stands z.size z.told tx k (metadata_now old.kv) t → plan_due z.size t p r ≡ answer.Planned
    pub keeps : ListsAreTold z old (metadata_now old.kv)
        → KeepsRegion z.size z.later (target_region (metadata_now old.kv) job.target) job.value

  -- no job was planned, for the first reason that the map gives against one; and each tree for which it stands gives the same
  pub record PlanRefused (old new : TablesView) (p : List ℕ) (r : ℕ) (w : Word) : Type 0 where
    pub same : new ≡ old
    pub word : refusal_of z.size (metadata_now old.kv) p r ≡ Some w
    pub due : (tx k : ℕ) (t : Tree) → Stands z.size z.told tx k (metadata_now old.kv) t → plan_due z.size t p r ≡ answer.Refused w

  -- or a fault of the stores came where the map gives none, and one was due
  pub record PlanFails (old new : TablesView) (kind : JobKind) (p : List ℕ) (r : ℕ) (a : Answer) : Type 0 where
    pub why : Fault
    pub answer : fault_answer why ≡ Some a
    pub same : new ≡ old
    pub free : refusal_of z.size (metadata_now old.kv) p r ≡ None
    pub may : (tx k : ℕ) (t : Tree) → Stands z.size z.told tx k (metadata_now old.kv) t → MayFailPlan z.servers kind (plan_due z.size t p r) a

  abbrev pub FreePlan : TablesView → TablesView → ℕ → JobKind → List ℕ → ℕ → Answer → Type 0
  FreePlan old new j kind p r answer.Planned = PlansSoundly old new j kind p r
  FreePlan old new j kind p r (answer.Refused w) = PlanRefused old new p r w
  FreePlan old new j kind p r a = PlanFails old new kind p r a

  -- a plan, unless the label has a job
  abbrev pub PlanTurn : TablesView → TablesView → ℕ → JobKind → List ℕ → ℕ → Answer → Type 0
  PlanTurn old new j kind p r a = MatchOption (of_label old.beside.jobs j) (FreePlan old new j kind p r a) (λ x. RefusesJob old new JobInUse a)
