-- What the machine's own refusals leave, and what lines of jobs and scans do.
use Rattle.std.proofs.Common.{◌≡◌, ℕ, true, false, if◌then◌else◌, List, Option, Some, None, refl, ap, ◌∙◌}
use Rattle.std.specs.FinMap.{get}
use Rattle.wtf_model.specs.declared.answer.Answer.{Answer}
use Rattle.wtf_model.specs.declared.answer.Answer.TheVariants.{Okay, Planned, Installed, Stale, Scanning, More, Done, Refused}
use Rattle.wtf_model.specs.declared.answer.Word.{Word}
use Rattle.wtf_model.specs.declared.op.Op.{Op}
use Rattle.wtf_model.specs.declared.op.JobKind.{JobKind}
use Rattle.wtf_model.specs.declared.event.Verb.{Verb}
use Rattle.wtf_model.specs.declared.event.Verb.TheVariants as verb
use Rattle.wtf_model.specs.declared.event.Event.{Event}
use Rattle.wtf_model.specs.declared.event.Event.TheVariants as event
use Rattle.wtf_model.specs.Transaction.{Transaction}
use Rattle.wtf_model.specs.Steps.{Machine, is_call_refusal, logged, with_transaction, with_job, put_in_place, dropped, scanning, scanned, after, after_client}
use Rattle.wtf_model.proofs.StepLaws.{called-other, after-client}

client_refused : (m : Machine) (c : ℕ) (o : Option Transaction) (v : Verb) (w : Word) → is_call_refusal w ≡ false → after_client m c o v (Refused w) ≡ m
client_refused m c None verb.Begin w own = refl
client_refused m c (Some t) verb.Try w own = refl
client_refused m c (Some t) verb.Step w own = refl
client_refused m c (Some t) verb.Commit w own = refl
client_refused m c (Some t) verb.Abort w own = refl
client_refused m c (Some t) (verb.Call o) w own = called-other m c t o (Refused w) own
client_refused m c o v w own = refl

pub after-machine_refusal : (m : Machine) (e : Event) (w : Word) → is_call_refusal w ≡ false → after m e (Refused w) ≡ m
after-machine_refusal m (event.Client c v) w own = client_refused m c (get m.transactions c) v w own
after-machine_refusal m e w own = refl

-- and a call's own is logged
pub after-call_refusal : (m : Machine) (c : ℕ) (t : Transaction) (o : Op (List ℕ)) (w : Word) → is_call_refusal w ≡ true → get m.transactions c ≡ Some t
    → after m (event.Client c (verb.Call o)) (Refused w) ≡ with_transaction m c (logged t o (Refused w))
after-call_refusal m c t o w own there =
    after-client m c (verb.Call o) (Refused w) (Some t) there ∙ ap (λ b. if b then with_transaction m c (logged t o (Refused w)) else m) own

-- lines of jobs and scans change what is theirs and nothing else

pub with_job-rest : (m : Machine) (j : ℕ) (kind : JobKind) (p : List ℕ) (r : ℕ) (a : Answer) → record (with_job m j kind p r a) { jobs = m.jobs; next_stamp = m.next_stamp } ≡ m
with_job-rest m j kind p r Planned = refl
with_job-rest m j kind p r a = refl

pub put_in_place-rest : (m : Machine) (j : ℕ) (a : Answer) → record (put_in_place m j a) { transactions = m.transactions; jobs = m.jobs; number = m.number } ≡ m
put_in_place-rest m j (Installed n) = refl
put_in_place-rest m j (Stale base now) = refl
put_in_place-rest m j a = refl

pub dropped-rest : (m : Machine) (j : ℕ) (a : Answer) → record (dropped m j a) { jobs = m.jobs } ≡ m
dropped-rest m j Okay = refl
dropped-rest m j a = refl

pub scanning-rest : (m : Machine) (a : Answer) → record (scanning m a) { scan_list = m.scan_list; parts_left = m.parts_left } ≡ m
scanning-rest m Scanning = refl
scanning-rest m a = refl

pub scanned-rest : (m : Machine) (a : Answer) → record (scanned m a) { parts_left = m.parts_left; scans = m.scans } ≡ m
scanned-rest m (More left) = refl
scanned-rest m Done = refl
scanned-rest m a = refl
