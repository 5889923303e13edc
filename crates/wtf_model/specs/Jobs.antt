-- Lines of jobs. A job makes another list for one region of a file, against the tree as it stands; what it made is put in
-- place only where nothing has moved, and is dropped else.
-- NSDI 2016, section 2.8 (compaction of metadata); labels and refusals are this store's own.
use Rattle.std.specs.Prelude.{◌≡◌, ◌⊎◌, ℕ, ◌+◌, ◌-◌, ◌/◌, nat_le, Bool, true, if◌then◌else◌, List, [], length, Option, Some, None, Result, Ok, Err}
use Rattle.std.specs.FinMap.{get}
use Rattle.wtf_model.specs.declared.answer.Answer.{Answer}
use Rattle.wtf_model.specs.declared.answer.Answer.TheVariants as answer
use Rattle.wtf_model.specs.declared.answer.Word.{Word}
use Rattle.wtf_model.specs.declared.answer.Word.TheVariants.{NoJob, JobInUse, NoRegion}
use Rattle.wtf_model.specs.declared.op.JobKind.{JobKind}
use Rattle.wtf_model.specs.declared.op.JobKind.TheVariants.{Spill}
use Rattle.wtf_model.specs.declared.item.Item.{Item}
use Rattle.wtf_model.specs.Tree.{Tree, ◌>>=◌, source}
use Rattle.wtf_model.specs.Items.{meets, source_reads, bodies_at}
use Rattle.wtf_model.specs.Transaction.{Job}
use Rattle.wtf_model.specs.Machines.{Machine, IsBehind}
use Rattle.wtf_model.specs.Faults.{IsReadFault, or_refusal}

-- no job has the label
abbrev pub is_idle : Option Job → Result (Unit {0}) Word
is_idle None = Ok tt
is_idle (Some j) = Err JobInUse

-- the last region of a file of n bytes; an empty file has region 0 alone
abbrev pub last_region : ℕ → ℕ → ℕ
last_region region n = (n - 1) / region

abbrev pub has_region : ℕ → List ℕ → ℕ → Result (Unit {0}) Word
has_region region bytes r = if nat_le r (last_region region (length bytes)) then Ok tt else Err NoRegion

-- a plan for region r of the file p, under label j
abbrev pub planned : Machine → ℕ → List ℕ → ℕ → Result Answer Word
planned m j p r = do
  _ ← is_idle (get m.jobs j)
  bytes ← source m.now p
  _ ← has_region m.settings.region bytes r
  Ok answer.Planned

abbrev pub plan_answer : Machine → ℕ → List ℕ → ℕ → Answer
plan_answer m j p r = or_refusal (planned m j p r)

-- the list that a spill makes could not be stored
abbrev pub IsSpillFault : JobKind → Answer → Type 0
IsSpillFault Spill answer.FaultWrite = Unit {0}
IsSpillFault kind a = ⊥

-- where a plan is due, the region's list could not be read, or that of a spill not be stored
abbrev pub MayFailPlan : ℕ → JobKind → Answer → Answer → Type 0
MayFailPlan servers kind answer.Planned a = IsReadFault servers a ⊎ IsSpillFault kind a
MayFailPlan servers kind d a = ⊥

-- what stands at a job's path, or the bytes there, were changed by others
abbrev pub is_job_touched : Job → Bool
is_job_touched j = meets j.touched (source_reads j.path)

-- what a job made is put in place under the next number, or others have installed since its base and changed its file
abbrev pub MayPut : Machine → Option Job → Answer → Type 0
MayPut m None a = a ≡ answer.Refused NoJob
MayPut m (Some j) (answer.Installed n) = n ≡ m.number + 1
MayPut m (Some j) (answer.Stale base now) = IsBehind m.number j.base base now × (is_job_touched j ≡ true)
MayPut m (Some j) a = ⊥

-- and then these items are changed
abbrev pub job_changes : Tree → Option Job → List Item
job_changes t None = []
job_changes t (Some j) = bodies_at t j.path

abbrev pub drop_answer : Option Job → Answer
drop_answer None = answer.Refused NoJob
drop_answer (Some j) = answer.Okay
