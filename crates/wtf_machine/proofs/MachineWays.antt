-- What a machine is after a client's line, from what its transactions are.
use Rattle.std.proofs.Common.{
  ◌≡◌,
  ℕ,
  ◌+◌,
  Bool,
  true,
  false,
  if◌then◌else◌,
  List,
  Option,
  Some,
  None,
  Result,
  Ok,
  Err,
  IsTrue,
  IfOk,
  OnErr,
  ◌↔◌,
  refl,
  sym,
  ap,
  ap₂,
  subst,
  ◌∙◌,
}
use Rattle.std.specs.Prelude.{Vec}
use Rattle.std.specs.declared.alloc.Global.{Global}
use Rattle.std.specs.FinMap.{FinMap, get, remove}
use Rattle.std.specs.Ordering.{nat_cmp}
use Rattle.wtf_model.specs.declared.answer.Answer.{Answer, Aborted'}
use Rattle.wtf_model.specs.declared.answer.Answer.TheVariants as answer
use Rattle.wtf_model.specs.declared.event.Event.{Event}
use Rattle.wtf_model.specs.declared.event.Verb.{Verb}
use Rattle.wtf_model.specs.declared.event.Verb.TheVariants as verb
use Rattle.wtf_model.specs.declared.op.Op.{Op}
use Rattle.wtf_model.specs.declared.item.Item.{Item}
use Rattle.wtf_model.specs.Tree.{Tree}
use Rattle.wtf_model.specs.Items.{writes_of}
use Rattle.wtf_model.specs.Transaction.{Transaction, Job, session_after}
use Rattle.wtf_model.specs.Jobs.{job_changes}
use Rattle.wtf_model.specs.Machines.{cap_of}
use Rattle.wtf_model.specs.Lawful.{MayTry, MayStep, MayCommit, MayCall, MayClient, May, client_refusal}
use Rattle.wtf_model.specs.Steps.{
  Machine,
  is_logged,
  with_each,
  touch,
  touch_job,
  touching,
  put_in_place,
  installed,
  begun,
  tried,
  stepped,
  committed,
  aborted,
  called,
  after_client,
  after,
}
use Rattle.wtf_model.proofs.StepLaws.{MayClient-asked, MayAsk-asked}
use Rattle.wtf_machine.specs.declared.begun.Fate.{Fate}
use Rattle.wtf_machine.specs.declared.begun.Fate.TheVariants as fate
use Rattle.wtf_machine.specs.Verdicts.{IsFate, IsIdle}
use Rattle.wtf_machine.specs.Kept.{Decides, called_in, stepped_in}
use Rattle.wtf_machine.specs.Machines.{is_lawful, settled}
use Rattle.wtf_machine.proofs.LogLaws.{not_so}

-- of all machines that run so, this one
pub for_one : {E : Type 0} {A : Type 0} (r : Result Bool E) (P : A → Type 0) (Q : A → Bool → Type 0) (m : A) → P m → IfOk r (λ yes. (x : A) → P x → Q x yes)
    → IfOk r (Q m)
for_one (Ok b) P Q m fit h = h m fit
for_one (Err e) P Q m fit h = h

-- what was decided of its transactions is decided of the machine

called_by : (b : Bool) (m : Machine) (ts : FinMap nat_cmp Transaction)
    → record m { transactions = if b then ts else m.transactions } ≡ (if b then record m { transactions = ts } else m)
called_by true m ts = refl
called_by false m ts = refl

decided_by : (Lawful : Type 0) (m next : Machine) (ts new : FinMap nat_cmp Transaction) (yes : Bool) → record m { transactions = ts } ≡ next
    → Decides Lawful m.transactions ts new yes → Decides Lawful m next (record m { transactions = new }) yes
decided_by Lawful m next ts new true is d = (d.0, ap (λ x. record m { transactions = x }) d.1 ∙ is)
decided_by Lawful m next ts new false is d = (d.0, ap (λ x. record m { transactions = x }) d.1)

pub decided_all : {E : Type 0} (r : Result Bool E) (Lawful : Type 0) (m next : Machine) (ts new : FinMap nat_cmp Transaction)
    → record m { transactions = ts } ≡ next
    → IfOk r (Decides Lawful m.transactions ts new) → IfOk r (Decides Lawful m next (record m { transactions = new }))
decided_all (Ok b) Lawful m next ts new is d = decided_by Lawful m next ts new b is d
decided_all (Err e) Lawful m next ts new is d = d

pub called_is : (m : Machine) (c : ℕ) (t : Transaction) (o : Op (List ℕ)) (a : Answer)
    → record m { transactions = called_in m.transactions c t o a } ≡ called m c t o a
called_is m c t o a = called_by (is_logged a) m _

pub stepped_is : (m : Machine) (c : ℕ) (t : Transaction) (a : Answer) → record m { transactions = stepped_in m.transactions c t a } ≡ stepped m c t a
stepped_is m c t (answer.Replayed i) = refl
stepped_is m c t (Aborted' i box a) = refl
stepped_is m c t a = refl

-- attempts to commit

module _ (m : Machine) (c : ℕ) (t : Transaction) where
  tried_idle : (a : Answer) → IsIdle a → tried m c t a ≡ m
  tried_idle (answer.Committed n) idle = absurd idle
  tried_idle (answer.Retry base now) idle = absurd idle
  tried_idle a idle = refl

  committed_idle : (a : Answer) → IsIdle a → committed m c t a ≡ m
  committed_idle (answer.Committed n) idle = absurd idle
  committed_idle (Aborted' i box a) idle = absurd idle
  committed_idle a idle = refl

  -- an install, by its number, its tree and what it changes
  installs_so : (n : ℕ) (tree : Tree) (items : Vec Item Global) → n ≡ m.number + 1
      → (tree ≡ (session_after (cap_of m) m.now t.ops).tree) × (items.items ≡ writes_of (cap_of m) m.now t.ops)
      → settled m c t (fate.Installs tree items) ≡ installed m c t n
  installs_so n tree items number is =
      ap₂ (λ k w. touching (record m { number = k; now = w; transactions = remove m.transactions c }) items.items) (sym number) is.0
      ∙ ap (λ changed. touching (record m { number = n; now = (session_after (cap_of m) m.now t.ops).tree; transactions = remove m.transactions c })
      changed) is.1

  settled_try : (a : Answer) (f : Fate) → is_lawful f ≡ true → IsFate (MayTry m t a) m t a f → settled m c t f ≡ tried m c t a
  settled_try a fate.Unlawful lawful is = absurd (cc)
  settled_try a fate.Stays lawful is = sym (tried_idle a is.1)
  settled_try (Aborted' i box a) fate.Ends lawful is = absurd is.0
  settled_try a fate.Ends lawful is = absurd is.1
  settled_try (answer.Retry base now) fate.Rebases lawful is = refl
  settled_try a fate.Rebases lawful is = absurd is.1
  settled_try (answer.Committed n) (fate.Installs tree items) lawful is = installs_so n tree items is.0.0 is.1
  settled_try a (fate.Installs tree items) lawful is = absurd is.1

  settled_commit : (a : Answer) (f : Fate) → is_lawful f ≡ true → IsFate (MayCommit m t a) m t a f → settled m c t f ≡ committed m c t a
  settled_commit a fate.Unlawful lawful is = absurd (cc)
  settled_commit a fate.Stays lawful is = sym (committed_idle a is.1)
  settled_commit (Aborted' i box a) fate.Ends lawful is = refl
  settled_commit a fate.Ends lawful is = absurd is.1
  settled_commit (answer.Retry base now) fate.Rebases lawful is = absurd is.0
  settled_commit a fate.Rebases lawful is = absurd is.1
  settled_commit (answer.Committed n) (fate.Installs tree items) lawful is = installs_so n tree items is.0.0 is.1
  settled_commit a (fate.Installs tree items) lawful is = absurd is.1

  lawful_so : (Lawful : Type 0) (a : Answer) (f : Fate) → is_lawful f ≡ true → IsFate Lawful m t a f → Lawful
  lawful_so Lawful a fate.Unlawful lawful is = absurd (cc)
  lawful_so Lawful a fate.Stays lawful is = is.0
  lawful_so Lawful a fate.Ends lawful is = is.0
  lawful_so Lawful a fate.Rebases lawful is = is.0
  lawful_so Lawful a (fate.Installs tree items) lawful is = is.0

  unlawful_so : (Lawful : Type 0) (a : Answer) (f : Fate) → is_lawful f ≡ false → IsFate Lawful m t a f → (Lawful → ⊥) × (settled m c t f ≡ m)
  unlawful_so Lawful a fate.Unlawful not is = (is, refl)
  unlawful_so Lawful a fate.Stays not is = absurd (cc)
  unlawful_so Lawful a fate.Ends not is = absurd (cc)
  unlawful_so Lawful a fate.Rebases not is = absurd (cc)
  unlawful_so Lawful a (fate.Installs tree items) not is = absurd (cc)

  decided_fate : {E : Type 0} (r : Result Bool E) (Lawful : Type 0) (a : Answer) (f : Fate) (next new : Machine) → IsFate Lawful m t a f
      → (is_lawful f ≡ true → settled m c t f ≡ next) → IfOk r (λ yes. yes ≡ is_lawful f) → IfOk r (λ yes. new ≡ settled m c t f)
      → IfOk r (Decides Lawful m next new)
  decided_fate (Err e) Lawful a f next new is so yes_is at = yes_is
  decided_fate (Ok true) Lawful a f next new is so yes_is at = (lawful_so Lawful a f (sym yes_is) is, at ∙ so (sym yes_is))
  decided_fate (Ok false) Lawful a f next new is so yes_is at = let un = unlawful_so Lawful a f (sym yes_is) is in (un.0, at ∙ un.1)

  pub decided_try : {E : Type 0} (r : Result Bool E) (a : Answer) (f : Fate) (new : Machine) → IsFate (MayTry m t a) m t a f
      → IfOk r (λ yes. yes ≡ is_lawful f) → IfOk r (λ yes. new ≡ settled m c t f) → IfOk r (Decides (MayTry m t a) m (tried m c t a) new)
  decided_try r a f new is yes_is at = decided_fate r (MayTry m t a) a f (tried m c t a) new is (λ lawful. settled_try a f lawful is) yes_is at

  pub decided_commit : {E : Type 0} (r : Result Bool E) (a : Answer) (f : Fate) (new : Machine) → IsFate (MayCommit m t a) m t a f
      → IfOk r (λ yes. yes ≡ is_lawful f) → IfOk r (λ yes. new ≡ settled m c t f) → IfOk r (Decides (MayCommit m t a) m (committed m c t a) new)
  decided_commit r a f new is yes_is at = decided_fate r (MayCommit m t a) a f (committed m c t a) new is (λ lawful. settled_commit a f lawful is) yes_is at

-- a call that the machine does not refuse

decides_iff : (P Q : Type 0) (old next new : Machine) (yes : Bool) → (P → Q) → (Q → P) → Decides P old next new yes → Decides Q old next new yes
decides_iff P Q old next new true to from d = (to d.0, d.1)
decides_iff P Q old next new false to from d = ((λ q. d.0 (from q)), d.1)

all_iff : {E : Type 0} (r : Result Bool E) (P Q : Type 0) (old next new : Machine) → (P → Q) → (Q → P) → IfOk r (Decides P old next new)
    → IfOk r (Decides Q old next new)
all_iff (Ok b) P Q old next new to from d = decides_iff P Q old next new b to from d
all_iff (Err e) P Q old next new to from d = d

pub called_client : {E : Type 0} (r : Result Bool E) (m : Machine) (c : ℕ) (found : Option Transaction) (o : Op (List ℕ)) (a : Answer) (new : Machine)
    → client_refusal found (verb.Call o) ≡ None
    → ((t : Transaction) → found ≡ Some t → IfOk r (Decides (MayCall m t o a) m (called m c t o a) new))
    → IfOk r (Decides (MayClient m found (verb.Call o) a) m (after_client m c found (verb.Call o) a) new)
called_client r m c None o a new free d = absurd (cc)
called_client r m c (Some t) o a new free d =
    all_iff r _ _ m (called m c t o a) new (MayClient-asked m (Some t) (verb.Call o) a free) (MayAsk-asked m (Some t) (verb.Call o) a free) (d t refl)

pub at_verb : {E : Type 0} (r : Result Bool E) (m new : Machine) (c : ℕ) (found : Option Transaction) (v w : Verb) (a : Answer) → v ≡ w
    → IfOk r (Decides (MayClient m found w a) m (after_client m c found w a) new) → IfOk r (Decides (MayClient m found v a) m (after_client m c found v a) new)
at_verb r m new c found v w a is d = subst (λ (x : Verb). IfOk r (Decides (MayClient m found x a) m (after_client m c found x a) new)) (sym is) d

pub said_at_verb : (did : Bool) (m new : Machine) (c : ℕ) (found : Option Transaction) (v w : Verb) (a : Answer) → v ≡ w
    → Decides (MayClient m found w a) m (after_client m c found w a) new did → Decides (MayClient m found v a) m (after_client m c found v a) new did
said_at_verb did m new c found v w a is d = subst (λ (x : Verb). Decides (MayClient m found x a) m (after_client m c found x a) new did) (sym is) d

pub begun_client : {E : Type 0} (r : Result Bool E) (m : Machine) (c : ℕ) (found : Option Transaction) (a : Answer) (new : Machine)
    → client_refusal found verb.Begin ≡ None → IfOk r (Decides (a ≡ answer.Begun m.number) m (begun m c a) new)
    → IfOk r (Decides (MayClient m found verb.Begin a) m (after_client m c found verb.Begin a) new)
begun_client r m c None a new free d = d
begun_client r m c (Some t) a new free d = absurd (cc)

pub tried_client : {E : Type 0} (r : Result Bool E) (m : Machine) (c : ℕ) (found : Option Transaction) (a : Answer) (new : Machine)
    → client_refusal found verb.Try ≡ None → ((t : Transaction) → found ≡ Some t → IfOk r (Decides (MayTry m t a) m (tried m c t a) new))
    → IfOk r (Decides (MayClient m found verb.Try a) m (after_client m c found verb.Try a) new)
tried_client r m c None a new free d = absurd (cc)
tried_client r m c (Some t) a new free d = all_iff r _ _ m (tried m c t a) new (MayClient-asked m (Some t) verb.Try a free)
    (MayAsk-asked m (Some t) verb.Try a free) (d t refl)

pub stepped_client : {E : Type 0} (r : Result Bool E) (m : Machine) (c : ℕ) (found : Option Transaction) (a : Answer) (new : Machine)
    → client_refusal found verb.Step ≡ None → ((t : Transaction) → found ≡ Some t → IfOk r (Decides (MayStep m t a) m (stepped m c t a) new))
    → IfOk r (Decides (MayClient m found verb.Step a) m (after_client m c found verb.Step a) new)
stepped_client r m c None a new free d = absurd (cc)
stepped_client r m c (Some t) a new free d =
    all_iff r _ _ m (stepped m c t a) new (MayClient-asked m (Some t) verb.Step a free) (MayAsk-asked m (Some t) verb.Step a free) (d t refl)

pub committed_client : {E : Type 0} (r : Result Bool E) (m : Machine) (c : ℕ) (found : Option Transaction) (a : Answer) (new : Machine)
    → client_refusal found verb.Commit ≡ None → ((t : Transaction) → found ≡ Some t → IfOk r (Decides (MayCommit m t a) m (committed m c t a) new))
    → IfOk r (Decides (MayClient m found verb.Commit a) m (after_client m c found verb.Commit a) new)
committed_client r m c None a new free d = absurd (cc)
committed_client r m c (Some t) a new free d =
    all_iff r _ _ m (committed m c t a) new (MayClient-asked m (Some t) verb.Commit a free) (MayAsk-asked m (Some t) verb.Commit a free) (d t refl)

pub aborted_client : (did : Bool) (m : Machine) (c : ℕ) (found : Option Transaction) (a : Answer) (new : Machine)
    → client_refusal found verb.Abort ≡ None → Decides (a ≡ answer.Okay) m (aborted m c a) new did
    → Decides (MayClient m found verb.Abort a) m (after_client m c found verb.Abort a) new did
aborted_client did m c None a new free d = absurd (cc)
aborted_client did m c (Some t) a new free d = d

-- what was decided of an event, in the clauses of a step

pub said_at_event : (did : Bool) (m new : Machine) (e f : Event) (a : Answer) → e ≡ f → Decides (May m f a) m (after m f a) new did
    → Decides (May m e a) m (after m e a) new did
said_at_event did m new e f a is d = subst (λ (x : Event). Decides (May m x a) m (after m x a) new did) (sym is) d

still_decided : (did : Bool) (Lawful : Type 0) (m next : Machine) → next ≡ m → IsTrue did ↔ Lawful → Decides Lawful m next m did
still_decided true Lawful m next still says = (says.0 refl, sym still)
still_decided false Lawful m next still says = ((λ may. not_so (says.1 may)), refl)

pub seen_at_event : (did : Bool) (m : Machine) (e f : Event) (a : Answer) → e ≡ f → after m f a ≡ m → IsTrue did ↔ May m f a
    → Decides (May m e a) m (after m e a) m did
seen_at_event did m e f a is still says = said_at_event did m m e f a is (still_decided did (May m f a) m (after m f a) still says)

module _ {E : Type 0} where
  pub lawful_of : (r : Result Bool E) (Lawful : Type 0) (old next new : Machine) → IfOk r (Decides Lawful old next new) → IfOk r (λ yes. IsTrue yes ↔ Lawful)
  lawful_of (Ok true) Lawful old next new d = (λ _. d.0, λ _. refl)
  lawful_of (Ok false) Lawful old next new d = (λ h. absurd (not_so h), λ may. absurd (d.0 may))
  lawful_of (Err e) Lawful old next new d = d

  pub next_of : (r : Result Bool E) (Lawful : Type 0) (old next new : Machine) → IfOk r (Decides Lawful old next new) → IfOk r (λ yes. IsTrue yes → new ≡ next)
  next_of (Ok true) Lawful old next new d = λ _. d.1
  next_of (Ok false) Lawful old next new d = λ h. absurd (not_so h)
  next_of (Err e) Lawful old next new d = d

  pub stays_of : (r : Result Bool E) (Lawful : Type 0) (old next new : Machine) → IfOk r (Decides Lawful old next new) → IfOk r (λ yes. yes ≡ false → new ≡ old)
  stays_of (Ok true) Lawful old next new d = λ h. absurd (not_so (sym h))
  stays_of (Ok false) Lawful old next new d = λ _. d.1
  stays_of (Err e) Lawful old next new d = d

  -- and of one that is known
  pub at_event : (r : Result Bool E) (m new : Machine) (e f : Event) (a : Answer) → e ≡ f → IfOk r (Decides (May m f a) m (after m f a) new)
      → IfOk r (Decides (May m e a) m (after m e a) new)
  at_event r m new e f a is d = subst (λ (x : Event). IfOk r (Decides (May m x a) m (after m x a) new)) (sym is) d

  pub all_seen_at_event : (r : Result Bool E) (m : Machine) (e f : Event) (a : Answer) → e ≡ f → after m f a ≡ m → IfOk r (λ yes. IsTrue yes ↔ May m f a)
      → IfOk r (Decides (May m e a) m (after m e a) m)
  all_seen_at_event (Ok did) m e f a is still says = seen_at_event did m e f a is still says
  all_seen_at_event (Err x) m e f a is still says = says

  pub unless_err : {A : Type 0} (r : Result A E) (P : Type 0) → P → OnErr r P
  unless_err (Ok x) P p = tt
  unless_err (Err e) P p = p

-- what others see of an install: a client's transaction has ended, or a job has

pub touching_so : (m : Machine) (n c : ℕ) (tree : Tree) (items copy : List Item) (ts old : FinMap nat_cmp Transaction) (js jobs : FinMap nat_cmp Job)
    → ts ≡ with_each (touch items) (remove old c) → old ≡ m.transactions → js ≡ with_each (touch_job copy) jobs → jobs ≡ m.jobs → copy ≡ items
    → record m { number = n; now = tree; transactions = ts; jobs = js }
    ≡ touching (record m { number = n; now = tree; transactions = remove m.transactions c }) items
touching_so m n c tree items copy ts old js jobs clients kept seen same copied =
    ap₂ (λ x y. record m { number = n; now = tree; transactions = x; jobs = y })
    (clients ∙ ap (λ (x : FinMap nat_cmp Transaction). with_each (touch items) (remove x c)) kept)
    (seen ∙ ap (λ (x : FinMap nat_cmp Job). with_each (touch_job copy) x) same ∙ ap (λ (l : List Item). with_each (touch_job l) m.jobs) copied)

pub placing_so : (m : Machine) (n j : ℕ) (items copy : List Item) (ts old : FinMap nat_cmp Transaction) (js jobs : FinMap nat_cmp Job)
    → ts ≡ with_each (touch items) old → old ≡ m.transactions → js ≡ with_each (touch_job copy) (remove jobs j) → jobs ≡ m.jobs → copy ≡ items
    → items ≡ job_changes m.now (get m.jobs j)
    → record m { number = n; transactions = ts; jobs = js } ≡ put_in_place m j (answer.Installed n)
placing_so m n j items copy ts old js jobs clients kept seen same copied are =
    ap₂ (λ x y. record m { number = n; transactions = x; jobs = y })
    (clients ∙ ap (λ (x : FinMap nat_cmp Transaction). with_each (touch items) x) kept ∙ ap (λ (l : List Item). with_each (touch l) m.transactions) are)
    (seen ∙ ap (λ (x : FinMap nat_cmp Job). with_each (touch_job copy) (remove x j)) same
    ∙ ap (λ (l : List Item). with_each (touch_job l) (remove m.jobs j)) (copied ∙ are))

-- what is found is the transaction
pub found_same : (x t : Transaction) (o : Option Transaction) → Some x ≡ o → o ≡ Some t → x ≡ t
found_same x t o found there = let same : Some x ≡ Some t = found ∙ there in cc
