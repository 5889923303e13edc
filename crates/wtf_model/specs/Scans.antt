-- Lines of scans and collections. A scan finds in 64 parts which bytes are in use; a collection frees what two scans in a row
-- did not find. A scan waits for what was open when the one before it began.
-- NSDI 2016, section 2.8 (garbage collection in two scans); parts and refusals are this store's own.
use Rattle.std.specs.Prelude.{◌≡◌, ℕ, ◌-◌, nat_lt, ◌==◌, Bool, is_some, if◌then◌else◌, List, [], ◌∷◌, ◌++◌, map, filter, Option, Some, None}
use Rattle.std.specs.List.{list_any}
use Rattle.std.specs.FinMap.{entries, values}
use Rattle.wtf_model.specs.declared.answer.Answer.{Answer}
use Rattle.wtf_model.specs.declared.answer.Answer.TheVariants as answer
use Rattle.wtf_model.specs.declared.answer.Word.{Word}
use Rattle.wtf_model.specs.declared.answer.Word.TheVariants.{NoServer, ScanBusy, NoScan}
use Rattle.wtf_model.specs.declared.event.Holder.{Holder}
use Rattle.wtf_model.specs.declared.event.Holder.TheVariants as holder
use Rattle.wtf_model.specs.Transaction.{Transaction, Job}
use Rattle.wtf_model.specs.Machines.{Machine}
use Rattle.wtf_model.specs.Faults.{IsReadFault}

-- the stamps of all transactions and jobs that are open
abbrev pub open_stamps : Machine → List ℕ
open_stamps m = map (λ t. t.stamp) (values m.transactions) ++ map (λ j. j.stamp) (values m.jobs)

-- what has this stamp was open when the last scan began
abbrev pub was_open : Machine → ℕ → Bool
was_open m stamp = list_any (λ s. s == stamp) m.scan_list

-- of two clients the one whose transaction began first
abbrev pub earlier : ℕ × Transaction → Option (ℕ × Transaction) → ℕ × Transaction
earlier t None = t
earlier t (Some other) = if nat_lt other.1.stamp t.1.stamp then other else t

-- of many
unfoldable pub first_begun : List (ℕ × Transaction) → Option (ℕ × Transaction)
first_begun [] = None
first_begun (t ∷ ts) = Some (earlier t (first_begun ts))

-- the lowest label of jobs, which stand in the order of their labels
abbrev pub lowest : List (ℕ × Job) → Option Holder
lowest [] = None
lowest (j ∷ jobs) = Some (holder.Job j.0)

abbrev pub client_or_job : Option (ℕ × Transaction) → Option Holder → Option Holder
client_or_job None job = job
client_or_job (Some t) job = Some (holder.Client t.0)

-- what holds a scan back: of all that was open when the last one began and still is, the client whose transaction began
-- first; where only jobs are left, the lowest label
abbrev pub held_by : Machine → Option Holder
held_by m =
    client_or_job (first_begun (filter (λ t. was_open m t.1.stamp) (entries m.transactions)))
    (lowest (filter (λ j. was_open m j.1.stamp) (entries m.jobs)))

abbrev pub or_held : Option Holder → Answer
or_held None = answer.Scanning
or_held (Some h) = answer.Held h

-- a scan begins where none runs and nothing holds it back
abbrev pub scan_answer : Machine → Answer
scan_answer m = if is_some m.parts_left then answer.Refused ScanBusy else or_held (held_by m)

-- the next k parts of a scan with so many left
abbrev pub piece_answer : ℕ → Option ℕ → Answer
piece_answer k None = answer.Refused NoScan
piece_answer k (Some left) = if nat_lt k left then answer.More (left - k) else answer.Done

-- a list that a part has to read could not be read
abbrev pub MayFailPiece : ℕ → Answer → Answer → Type 0
MayFailPiece servers (answer.More left) a = IsReadFault servers a
MayFailPiece servers answer.Done a = IsReadFault servers a
MayFailPiece servers d a = ⊥

-- a collection on server k: there must be one, and two scans have finished
abbrev pub collect_refusal : Machine → ℕ → Option Word
collect_refusal m k =
    if nat_lt k m.settings.servers then (if nat_lt m.scans 2 then Some NoScan else None) else Some NoServer

-- what was freed, or that the server failed
abbrev pub MayCollect : ℕ → Answer → Type 0
MayCollect k (answer.Collected n) = Unit {0}
MayCollect k (answer.FaultPunch j) = j ≡ k
MayCollect k a = ⊥
