-- What lines that begin no scan, and do no part of one, leave of the machine's scans and of the stamps of what is open.
use Rattle.wtf_core.proofs.Common.{FinMap, get, insert, remove, nat_cmp, ⊤, Answer, Aborted', JobKind, Event, Verb, Item, writes_of, job_changes, Machine}
use Rattle.wtf_core.proofs.Common.{cap_of, Transaction, Job, after, after_client, tried, stepped, committed, aborted, ended, is_logged, logged}
use Rattle.wtf_core.proofs.Common.{with_transaction, with_each, touch, touch_job, installed, saved, with_job, put_in_place, dropped, get-each_none}
use Rattle.wtf_core.proofs.Common.{get-each_some, get-number_same, get-number_other, number_cases, ◌≡◌, ◌≢◌, ◌<◌, ◌≤◌, ℕ, ◌+◌, Bool, true, false, if◌then◌else◌}
use Rattle.wtf_core.proofs.Common.{List, [], Option, None, Some, refl, sym, ap, ◌∙◌, subst, ⊎_elim, arith}
use Rattle.wtf_model.specs.Steps.{begun}
use Rattle.wtf_core.proofs.Machines.{gone_here, gone_there}

-- ---- maps of what is open
module _ {X : Type 0} (stamp : X → ℕ) (next later : ℕ) where
  -- it has the stamp that it had, or the line made it, with the next one
  abbrev pub HasStamp : Option X → ℕ → Type 0
  HasStamp None s = (s ≡ next) × (next < later)
  HasStamp (Some t) s = s ≡ stamp t

  abbrev pub HaveStamps : FinMap nat_cmp X → FinMap nat_cmp X → Type 0
  HaveStamps old new = (c : ℕ) (u : X) → get new c ≡ Some u → HasStamp (get old c) (stamp u)

  same_stamps : (ones : FinMap nat_cmp X) → HaveStamps ones ones
  same_stamps ones c u is = subst (λ o. HasStamp o (stamp u)) (sym is) refl

  gone_stamps : (ones : FinMap nat_cmp X) (k : ℕ) → HaveStamps ones (remove ones k)
  gone_stamps ones k c u is = ⊎_elim
      (λ same. let none : get (remove ones k) c ≡ None = subst (λ d. get (remove ones k) d ≡ None) (sym same) (gone_here ones k) in absurd (cc))
      (λ other. same_stamps ones c u (sym (gone_there ones k c other) ∙ is))
      (number_cases c k)

  set_stamps : (ones : FinMap nat_cmp X) (k : ℕ) (v : X) → HasStamp (get ones k) (stamp v) → HaveStamps ones (insert ones k v)
  set_stamps ones k v has c u is = ⊎_elim
      (λ same.
      let there : get (insert ones k v) c ≡ Some v = subst (λ d. get (insert ones k v) d ≡ Some v) (sym same) (get-number_same ones k v) in
      let one : v ≡ u = cc in
      subst (λ w. HasStamp (get ones c) (stamp w)) one (subst (λ d. HasStamp (get ones d) (stamp v)) (sym same) has))
      (λ other. same_stamps ones c u (sym (get-number_other ones k v c other) ∙ is))
      (number_cases c k)

  each_stamps : (f : X → X) → ((x : X) → stamp (f x) ≡ stamp x) → (old mid : FinMap nat_cmp X) → HaveStamps old mid → HaveStamps old (with_each f mid)
  each_stamps f keeps old mid h c u is = by (get mid c) refl
    where
      by : (o : Option X) → get mid c ≡ o → HasStamp (get old c) (stamp u)
      by None none = let gone : get (with_each f mid) c ≡ None = get-each_none f mid c none in absurd (cc)
      by (Some t) there =
          let found : get (with_each f mid) c ≡ Some (f t) = get-each_some f mid c t there in
          let one : f t ≡ u = cc in
          subst (λ s. HasStamp (get old c) s) (sym (keeps t) ∙ ap stamp one) (h c t there)

abbrev pub txn_stamp : Transaction → ℕ
txn_stamp t = t.stamp

abbrev pub job_stamp : Job → ℕ
job_stamp j = j.stamp

-- ---- machines
-- The settings stay, and the scans; and of what is open the stamps. Where P holds, the trees stay that may be saved.
pub record Stamped (P : Type 0) (m next : Machine) : Type 0 where
  pub settings : next.settings ≡ m.settings
  pub may : P → next.may_be_saved ≡ m.may_be_saved
  pub up : m.next_stamp ≤ next.next_stamp
  pub list : next.scan_list ≡ m.scan_list
  pub parts : next.parts_left ≡ m.parts_left
  pub scans : next.scans ≡ m.scans
  pub txns : HaveStamps txn_stamp m.next_stamp next.next_stamp m.transactions next.transactions
  pub jobs : HaveStamps job_stamp m.next_stamp next.next_stamp m.jobs next.jobs

-- an install: others see what it touched, and keep their stamps
touched_stamped : (m : Machine) (items : List Item) (ones : FinMap nat_cmp Transaction) (others : FinMap nat_cmp Job)
    → HaveStamps txn_stamp m.next_stamp m.next_stamp m.transactions ones → HaveStamps job_stamp m.next_stamp m.next_stamp m.jobs others
    → HaveStamps txn_stamp m.next_stamp m.next_stamp m.transactions (with_each (touch items) ones)
    × HaveStamps job_stamp m.next_stamp m.next_stamp m.jobs (with_each (touch_job items) others)
touched_stamped m items ones others txns jobs = (
  each_stamps txn_stamp m.next_stamp m.next_stamp (touch items) (λ t. refl) m.transactions ones txns,
  each_stamps job_stamp m.next_stamp m.next_stamp (touch_job items) (λ j. refl) m.jobs others jobs,
)

module _ {P : Type 0} where
  same_stamped : (m : Machine) → Stamped P m m
  same_stamped m = record {
    settings = refl;
    may = λ p. refl;
    up = omega arith;
    list = refl;
    parts = refl;
    scans = refl;
    txns = same_stamps txn_stamp m.next_stamp m.next_stamp m.transactions;
    jobs = same_stamps job_stamp m.next_stamp m.next_stamp m.jobs;
  }

  -- another number, another tree, and others open
  open_stamped : (m next : Machine)
      → next ≡ record m { number = next.number; now = next.now; next_stamp = next.next_stamp; transactions = next.transactions; jobs = next.jobs }
      → m.next_stamp ≤ next.next_stamp → HaveStamps txn_stamp m.next_stamp next.next_stamp m.transactions next.transactions
      → HaveStamps job_stamp m.next_stamp next.next_stamp m.jobs next.jobs → Stamped P m next
  open_stamped m next is up txns jobs = record {
    settings = ap (λ (n : Machine). n.settings) is;
    may = λ p. ap (λ (n : Machine). n.may_be_saved) is;
    up = up;
    list = ap (λ (n : Machine). n.scan_list) is;
    parts = ap (λ (n : Machine). n.parts_left) is;
    scans = ap (λ (n : Machine). n.scans) is;
    txns = txns;
    jobs = jobs;
  }

  set_stamped : (m : Machine) (c : ℕ) (t u : Transaction) → get m.transactions c ≡ Some t → u.stamp ≡ t.stamp → Stamped P m (with_transaction m c u)
  set_stamped m c t u there same = open_stamped m (with_transaction m c u) refl (omega arith)
      (set_stamps txn_stamp m.next_stamp m.next_stamp m.transactions c u (subst (λ o. HasStamp txn_stamp m.next_stamp m.next_stamp o u.stamp) (sym there) same))
      (same_stamps job_stamp m.next_stamp m.next_stamp m.jobs)

  ended_stamped : (m : Machine) (c : ℕ) → Stamped P m (ended m c)
  ended_stamped m c = open_stamped m (ended m c) refl (omega arith)
      (gone_stamps txn_stamp m.next_stamp m.next_stamp m.transactions c) (same_stamps job_stamp m.next_stamp m.next_stamp m.jobs)

  begun_stamped : (m : Machine) (c : ℕ) (a : Answer) → get m.transactions c ≡ None → Stamped P m (begun m c a)
  begun_stamped m c (Answer.Begun n) none =
      let t : Transaction = record { stamp = m.next_stamp; base = m.number; tree = m.now; ops = []; shown = []; replayed = 0; touched = [] } in
      open_stamped m (begun m c (Answer.Begun n)) refl (omega arith) (set_stamps txn_stamp m.next_stamp (m.next_stamp + 1) m.transactions c t
      (subst (λ o. HasStamp txn_stamp m.next_stamp (m.next_stamp + 1) o m.next_stamp) (sym none) (refl, omega arith)))
      (same_stamps job_stamp m.next_stamp (m.next_stamp + 1) m.jobs)
  begun_stamped m c a none = same_stamped m

  installed_stamped : (m : Machine) (c : ℕ) (t : Transaction) (n : ℕ) → Stamped P m (installed m c t n)
  installed_stamped m c t n =
      let both = touched_stamped m (writes_of (cap_of m) m.now t.ops) (remove m.transactions c) m.jobs
      (gone_stamps txn_stamp m.next_stamp m.next_stamp m.transactions c) (same_stamps job_stamp m.next_stamp m.next_stamp m.jobs) in
      open_stamped m (installed m c t n) refl (omega arith) both.0 both.1

  tried_stamped : (m : Machine) (c : ℕ) (t : Transaction) (a : Answer) → get m.transactions c ≡ Some t → Stamped P m (tried m c t a)
  tried_stamped m c t (Answer.Committed n) there = installed_stamped m c t n
  tried_stamped m c t (Answer.Retry b n) there = set_stamped m c t _ there refl
  tried_stamped m c t a there = same_stamped m

  stepped_stamped : (m : Machine) (c : ℕ) (t : Transaction) (a : Answer) → get m.transactions c ≡ Some t → Stamped P m (stepped m c t a)
  stepped_stamped m c t (Answer.Replayed i) there = set_stamped m c t (record t { replayed = i }) there refl
  stepped_stamped m c t (Aborted' i box a) there = ended_stamped m c
  stepped_stamped m c t a there = same_stamped m

  committed_stamped : (m : Machine) (c : ℕ) (t : Transaction) (a : Answer) → Stamped P m (committed m c t a)
  committed_stamped m c t (Answer.Committed n) = installed_stamped m c t n
  committed_stamped m c t (Aborted' i box a) = ended_stamped m c
  committed_stamped m c t a = same_stamped m

  aborted_stamped : (m : Machine) (c : ℕ) (a : Answer) → Stamped P m (aborted m c a)
  aborted_stamped m c Answer.Okay = ended_stamped m c
  aborted_stamped m c a = same_stamped m

  either_stamped : (m later : Machine) (b : Bool) → Stamped P m later → Stamped P m (if b then later else m)
  either_stamped m later true h = h
  either_stamped m later false h = same_stamped m

  client_stamped : (m : Machine) (c : ℕ) (o : Option Transaction) (v : Verb) (a : Answer) → get m.transactions c ≡ o → Stamped P m (after_client m c o v a)
  client_stamped m c None Verb.Begin a is = begun_stamped m c a is
  client_stamped m c (Some t) Verb.Try a is = tried_stamped m c t a is
  client_stamped m c (Some t) Verb.Step a is = stepped_stamped m c t a is
  client_stamped m c (Some t) Verb.Commit a is = committed_stamped m c t a
  client_stamped m c (Some t) Verb.Abort a is = aborted_stamped m c a
  client_stamped m c (Some t) (Verb.Call o) a is = either_stamped m (with_transaction m c (logged t o a)) (is_logged a)
      (set_stamped m c t (logged t o a) is refl)
  client_stamped m c o v a is = same_stamped m

  planned_stamped : (m : Machine) (j : ℕ) (kind : JobKind) (p : List ℕ) (r : ℕ) (a : Answer) → (a ≡ Answer.Planned → get m.jobs j ≡ None)
      → Stamped P m (with_job m j kind p r a)
  planned_stamped m j kind p r Answer.Planned free =
      let job : Job = record { stamp = m.next_stamp; path = p; region = r; kind = kind; base = m.number; touched = [] } in
      open_stamped m (with_job m j kind p r Answer.Planned) refl (omega arith) (same_stamps txn_stamp m.next_stamp (m.next_stamp + 1) m.transactions)
      (set_stamps job_stamp m.next_stamp (m.next_stamp + 1) m.jobs j job
      (subst (λ o. HasStamp job_stamp m.next_stamp (m.next_stamp + 1) o m.next_stamp) (sym (free refl)) (refl, omega arith)))
  planned_stamped m j kind p r a free = same_stamped m

  without_stamped : (m : Machine) (j : ℕ) → Stamped P m (record m { jobs = remove m.jobs j })
  without_stamped m j = open_stamped m (record m { jobs = remove m.jobs j }) refl (omega arith)
      (same_stamps txn_stamp m.next_stamp m.next_stamp m.transactions) (gone_stamps job_stamp m.next_stamp m.next_stamp m.jobs j)

  put_stamped : (m : Machine) (j : ℕ) (a : Answer) → Stamped P m (put_in_place m j a)
  put_stamped m j (Answer.Installed n) =
      let both = touched_stamped m (job_changes m.now (get m.jobs j)) m.transactions (remove m.jobs j)
      (same_stamps txn_stamp m.next_stamp m.next_stamp m.transactions) (gone_stamps job_stamp m.next_stamp m.next_stamp m.jobs j) in
      open_stamped m (put_in_place m j (Answer.Installed n)) refl (omega arith) both.0 both.1
  put_stamped m j (Answer.Stale b n) = without_stamped m j
  put_stamped m j a = same_stamped m

  dropped_stamped : (m : Machine) (j : ℕ) (a : Answer) → Stamped P m (dropped m j a)
  dropped_stamped m j Answer.Okay = without_stamped m j
  dropped_stamped m j a = same_stamped m

  -- a machine that differs in its servers, or in what may be saved
  beside_stamped : (m next : Machine) → next.settings ≡ m.settings → (P → next.may_be_saved ≡ m.may_be_saved)
      → next.next_stamp ≡ m.next_stamp → next.transactions ≡ m.transactions → next.jobs ≡ m.jobs
      → next.scan_list ≡ m.scan_list → next.parts_left ≡ m.parts_left → next.scans ≡ m.scans → Stamped P m next
  beside_stamped m next settings may stamp txns jobs list parts scans = record {
    settings = settings;
    may = may;
    up = omega (arith, stamp);
    list = list;
    parts = parts;
    scans = scans;
    txns = λ c t is. same_stamps txn_stamp m.next_stamp next.next_stamp m.transactions c t (ap (λ ts. get ts c) (sym txns) ∙ is);
    jobs = λ j t is. same_stamps job_stamp m.next_stamp next.next_stamp m.jobs j t (ap (λ js. get js j) (sym jobs) ∙ is);
  }

  down_stamped : (m : Machine) (k : ℕ) (a : Answer) → Stamped P m (after m (Event.Down k) a)
  down_stamped m k Answer.Okay = beside_stamped m (after m (Event.Down k) Answer.Okay) refl (λ p. refl) refl refl refl refl refl refl
  down_stamped m k a = same_stamped m

  up_stamped : (m : Machine) (k : ℕ) (a : Answer) → Stamped P m (after m (Event.Up k) a)
  up_stamped m k Answer.Okay = beside_stamped m (after m (Event.Up k) Answer.Okay) refl (λ p. refl) refl refl refl refl refl refl
  up_stamped m k a = same_stamped m

-- a save changes those
saved_stamped : (m : Machine) (a : Answer) → Stamped (Event.Save ≢ Event.Save) m (saved m a)
saved_stamped m (Answer.Saved n) = beside_stamped m (saved m (Answer.Saved n)) refl (λ ne. absurd (ne refl)) refl refl refl refl refl refl
saved_stamped m Answer.FaultSave = beside_stamped m (saved m Answer.FaultSave) refl (λ ne. absurd (ne refl)) refl refl refl refl refl refl
saved_stamped m a = same_stamped m

-- lines that begin no scan, do no part of one and collect nothing
abbrev pub IsOther : Event → Type 0
IsOther Event.Scan = ⊥
IsOther (Event.Piece n) = ⊥
IsOther (Event.Collect k) = ⊥
IsOther e = ⊤

-- a job is planned under a label that has none
abbrev pub IsFree : Machine → Event → Answer → Type 0
IsFree m (Event.Plan j kind p r) a = a ≡ Answer.Planned → get m.jobs j ≡ None
IsFree m e a = ⊤

pub event_stamped : (m : Machine) (e : Event) (a : Answer) → IsOther e → IsFree m e a → Stamped (e ≢ Event.Save) m (after m e a)
event_stamped m (Event.Client c v) a other free = client_stamped m c (get m.transactions c) v a refl
event_stamped m (Event.Plan j kind p r) a other free = planned_stamped m j kind p r a free
event_stamped m (Event.Put j) a other free = put_stamped m j a
event_stamped m (Event.DropJob j) a other free = dropped_stamped m j a
event_stamped m (Event.Down k) a other free = down_stamped m k a
event_stamped m (Event.Up k) a other free = up_stamped m k a
event_stamped m Event.Save a other free = saved_stamped m a
event_stamped m (Event.Dump p) a other free = same_stamped m
event_stamped m Event.Tree a other free = same_stamped m
event_stamped m e a other free = absurd other
