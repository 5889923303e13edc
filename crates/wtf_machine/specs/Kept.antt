-- What the machine keeps: transactions by their clients, and jobs by their labels. What an answer was found to be.
use Rattle.std.specs.Prelude.{◌≡◌, ℕ, Bool, true, false, if◌then◌else◌, List, [], drop}
use Rattle.std.specs.FinMap.{FinMap, insert, remove}
use Rattle.std.specs.Ordering.{nat_cmp}
use Rattle.wtf_machine.specs.declared.clients.Clients.{Clients}
use Rattle.wtf_machine.specs.declared.jobs.Jobs.{Jobs}
use Rattle.wtf_machine.specs.declared.jobs.PlannedJob.{PlannedJob}
use Rattle.wtf_model.specs.declared.answer.Answer.{Answer, Aborted'}
use Rattle.wtf_model.specs.declared.answer.Answer.TheVariants as answer
use Rattle.wtf_model.specs.declared.op.Op.{Op}
use Rattle.wtf_model.specs.declared.item.Item.{Item}
use Rattle.wtf_model.specs.Transaction.{Transaction, Job}
use Rattle.wtf_model.specs.Steps.{is_logged, logged}
use Rattle.wtf_machine.specs.Maps.{map_of}
use Rattle.wtf_machine.specs.Verdicts.{open_in}

-- transactions by their clients
abbrev pub clients_in : Clients → FinMap nat_cmp Transaction
clients_in k = map_of nat_cmp (open_in k.changed.items) k.items.entries

-- a job, without what others have changed since it was planned, and with it
abbrev pub job_in : PlannedJob → Job
job_in j = record { stamp = j.stamp; path = j.path; region = j.region; kind = j.kind; base = j.base; touched = [] }

abbrev pub planned_in : List Item → PlannedJob → Job
planned_in changed j = record (job_in j) { touched = drop j.since changed }

-- jobs by their labels
abbrev pub jobs_in : Jobs → FinMap nat_cmp Job
jobs_in k = map_of nat_cmp (planned_in k.changed.items) k.items.entries

-- an answer is lawful, and all goes on to what is next; or it is not, and all stays
abbrev pub Decides : {A : Type 0} → Type 0 → (old next new : A) → Bool → Type 0
Decides Lawful old next new true = Lawful × (new ≡ next)
Decides Lawful old next new false = (Lawful → ⊥) × (new ≡ old)

-- transactions after a call of one of them
abbrev pub called_in : FinMap nat_cmp Transaction → ℕ → Transaction → Op (List ℕ) → Answer → FinMap nat_cmp Transaction
called_in ts c t o a = if is_logged a then insert ts c (logged t o a) else ts

-- and after a step of its replay
abbrev pub stepped_in : FinMap nat_cmp Transaction → ℕ → Transaction → Answer → FinMap nat_cmp Transaction
stepped_in ts c t (answer.Replayed i) = insert ts c (record t { replayed = i })
stepped_in ts c t (Aborted' i box a) = remove ts c
stepped_in ts c t a = ts
