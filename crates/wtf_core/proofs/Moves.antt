-- What a line moves of the tables: one record, made by one walk over the lines, of which all is read off that a line leaves.
use Rattle.wtf_core.proofs.Common.{MatchBool, StoreKind, KeepsMaps, of_client, PieceTurn, PieceFails, KeepsStore, TablesStay, CallFails, ClientTurn, added_kept}
use Rattle.wtf_core.proofs.Common.{◌⊎◌, times_pinned, with_finished, SetsClientAlone, begun_reaches, ended_reaches, moved_reaches, saved_reaches, IsUncollected}
use Rattle.wtf_core.proofs.Common.{IsTrue, Answer, NoScan, run_on, GcView, Seeing, seeing, Begins, Finals, TxnTurn, Reaches, IsFault, lent_of, nat_eq, nat_lt}
use Rattle.wtf_core.proofs.Common.{Span, of_label, AreSound, all_kept, SaveTurn, FreePlan, PlanTurn, DropsJob, DropTurn, ScanTurn, DoesTurn, StepTurn, LoneTurn}
use Rattle.wtf_core.proofs.Common.{Store, Value, Word, NoTx, InTx, NoJob, Event, Verb, Sets, AreUp, Saves, Tries, Calls, ℕ, false, Option, subst, ⊎_elim, arith}
use Rattle.wtf_core.proofs.Common.{is_live, Key, JobKind, TxnView, JobView, RunView, was_job, with_gc, PutTurn, Refuses, fault_is, Switches, LineTurn, CoreView}
use Rattle.wtf_core.proofs.Common.{IsLogged, Aborted', NoServer, JobInUse, ScanBusy, IsJobPut, with_run, live_upto, same_kept, only_kept, same_maps, all_stays}
use Rattle.wtf_core.proofs.Common.{metadata_at, call_refusal, try_refusal, step_refusal, plan_reaches, drop_reaches, same_reaches, number_cases, IsTreeAnswer}
use Rattle.wtf_core.proofs.Common.{Dev, Puts, Ends, ◌≡◌, ◌≢◌, ◌≤◌, ◌+◌, Bool, true, cond, List, None, Some, refl, sym, ap, ◌∙◌, inl, inr}
use Rattle.wtf_core.proofs.Common.{BesideView, TablesView, only_image, with_image, KeepsOthers, RefusesJob, CollectTurn, uncollected, put_reaches, MatchOption}
use Rattle.wtf_core.proofs.Stamped.{IsOther}

-- ---- what is moved
-- the number of installs, and that of the transaction that begins next, each by at most one
pub record Rises (old new : TablesView) : Type 0 where
  pub number : new.kv.number ≤ old.kv.number + 1
  pub next_tx : new.next_tx ≤ old.next_tx + 1
  pub no_fewer : old.kv.number ≤ new.kv.number
  pub no_earlier : old.next_tx ≤ new.next_tx

-- the images that may be on the keeper are what they were
abbrev pub SameImages : BesideView → BesideView → Type 0
SameImages old new = (new.images ≡ old.images) × (new.none ≡ old.none)

-- a transaction goes on, or is the next one
abbrev pub KeepsAge : ℕ → Option TxnView → TxnView → Type 0
KeepsAge next None y = y.tx ≡ next
KeepsAge next (Some x) y = y.tx ≡ x.tx

-- the mark of a job that goes on stays; one that begins has none
abbrev pub KeepsMark : Bool → Option JobView → Bool → Type 0
KeepsMark was None is = is ≡ false
KeepsMark was (Some x) is = is ≡ was

-- no number is pinned that could not be read, the scans are what they were, and so are the ages of what is open
pub record Aged (old new : TablesView) : Type 0 where
  pub reach : Reaches old.kv new.kv
  pub gc : new.beside.gc ≡ old.beside.gc
  pub scan_tx : new.beside.scan_tx ≡ old.beside.scan_tx
  pub txns : (c : ℕ) (y : TxnView) → of_client new.clients c ≡ Some y → KeepsAge old.next_tx (of_client old.clients c) y
  pub jobs : (j : ℕ) (y : JobView) → of_label new.beside.jobs j ≡ Some y → KeepsMark (was_job old.beside j) (of_label old.beside.jobs j) (was_job new.beside j)

-- The maps at numbers that can be read stay, and so does the number that is watched. A save alone moves the images, a collection alone what was freed,
-- and lines of scans alone the scans.
pub record Moves (old new : TablesView) (e : Event) (a : Answer) : Type 0 where
  pub rises : Rises old new
  pub maps : (n : ℕ) → IsTrue (is_live old.kv n) → metadata_at new.kv n ≡ metadata_at old.kv n
  pub images : e ≢ Event.Save → SameImages old.beside new.beside
  pub numbers : e ≡ Event.Save → (new.kv.number ≡ old.kv.number) × (new.next_tx ≡ old.next_tx)
  pub watched : new.beside.watched ≡ old.beside.watched
  pub freed : ((k : ℕ) → e ≢ Event.Collect k) → new.beside.gc.freed ≡ old.beside.gc.freed
  pub answer : ((k : ℕ) → e ≢ Event.Collect k) → IsUncollected a
  pub aged : IsOther e → Aged old new

-- what is read of the images goes on
pub record GoesLive (old new : TablesView) : Type 0 where
  pub maps : (n : ℕ) → IsTrue (is_live old.kv n) → metadata_at new.kv n ≡ metadata_at old.kv n
  pub more : old.next_tx ≤ new.next_tx
  pub saved : SameImages old.beside new.beside

pub goes_live : (old new : TablesView) (e : Event) (a : Answer) → Moves old new e a → e ≢ Event.Save → GoesLive old new
goes_live old new e a moves unsaved = record { maps = moves.maps; more = moves.rises.no_earlier; saved = moves.images unsaved }

-- ---- parts of it
still : (n : ℕ) → (n ≤ n) × (n ≤ n + 1)
still n = (omega arith, omega arith)

rises_by : (old new : TablesView) (n m : ℕ) → new.kv.number ≡ n → new.next_tx ≡ m → (old.kv.number ≤ n) × (n ≤ old.kv.number + 1)
    → (old.next_tx ≤ m) × (m ≤ old.next_tx + 1) → Rises old new
rises_by old new n m number next up more = record {
  number = omega (arith, number, up.1);
  next_tx = omega (arith, next, more.1);
  no_fewer = omega (arith, number, up.0);
  no_earlier = omega (arith, next, more.0);
}

-- both numbers stay
stay : (old new : TablesView) → new.kv.number ≡ old.kv.number → new.next_tx ≡ old.next_tx → Rises old new
stay old new number next = rises_by old new old.kv.number old.next_tx number next (still old.kv.number) (still old.next_tx)

same_store : (old new : Store Key Value) → new ≡ old → new.number ≡ old.number
same_store old new is = ap (λ (s : Store Key Value). s.number) is

same_images : (old new : BesideView) → new ≡ old → SameImages old new
same_images old new is = (ap (λ (b : BesideView). b.images) is, ap (λ (b : BesideView). b.none) is)

gc_images : (old new : BesideView) → new ≡ with_gc old new.gc → SameImages old new
gc_images old new is = (ap (λ (b : BesideView). b.images) is, ap (λ (b : BesideView). b.none) is)

stays_age : (next : ℕ) (o : Option TxnView) (y : TxnView) → o ≡ Some y → KeepsAge next o y
stays_age next o y is = subst (λ p. KeepsAge next p y) (sym is) refl

stays_mark : (was : Bool) (o : Option JobView) (y : JobView) → o ≡ Some y → KeepsMark was o was
stays_mark was o y is = subst (λ p. KeepsMark was p was) (sym is) refl

-- what stands beside the store and the clients stays
beside_marks : (old new : BesideView) → new ≡ old → (j : ℕ) (y : JobView) → of_label new.jobs j ≡ Some y
    → KeepsMark (was_job old j) (of_label old.jobs j) (was_job new j)
beside_marks old new same j y is =
    subst (λ (b : BesideView). KeepsMark (was_job old j) (of_label old.jobs j) (was_job b j)) (sym same)
    (stays_mark (was_job old j) (of_label old.jobs j) y (ap (λ (b : BesideView). of_label b.jobs j) (sym same) ∙ is))

logged_uncollected : (a : Answer) → IsLogged a → IsUncollected a
logged_uncollected (Answer.Collected n) h = absurd h
logged_uncollected a h = tt

fault_uncollected : (a : Answer) → IsFault a → IsUncollected a
fault_uncollected (Answer.Collected n) h = absurd h
fault_uncollected a h = tt

refused_uncollected : (a : Answer) (w : Word) → a ≡ Answer.Refused w → IsUncollected a
refused_uncollected a w is = subst IsUncollected (sym is) tt

-- what a line moves that saves nothing and collects nothing
pub record Keeps (old new : TablesView) (a : Answer) : Type 0 where
  pub rises : Rises old new
  pub maps : (n : ℕ) → IsTrue (is_live old.kv n) → metadata_at new.kv n ≡ metadata_at old.kv n
  pub images : SameImages old.beside new.beside
  pub watched : new.beside.watched ≡ old.beside.watched
  pub freed : new.beside.gc.freed ≡ old.beside.gc.freed
  pub answer : IsUncollected a

-- and does nothing of a scan
pub record Plainly (old new : TablesView) (a : Answer) : Type 0 where
  pub keeps : Keeps old new a
  pub aged : Aged old new

keeps_move : (old new : TablesView) (e : Event) (a : Answer) → e ≢ Event.Save → Keeps old new a → (IsOther e → Aged old new) → Moves old new e a
keeps_move old new e a unsaved h aged = record {
  rises = h.rises;
  maps = h.maps;
  images = λ ne. h.images;
  watched = h.watched;
  numbers = λ is. absurd (unsaved is);
  freed = λ ne. h.freed;
  answer = λ ne. h.answer;
  aged = aged;
}

plainly_moves : (old new : TablesView) (e : Event) (a : Answer) → e ≢ Event.Save → Plainly old new a → Moves old new e a
plainly_moves old new e a unsaved h = keeps_move old new e a unsaved h.keeps (λ other. h.aged)

-- ---- lines of clients
module _ (old new : TablesView) (c : ℕ) (sound : AreSound old) where
  set : (now : Option TxnView) → Sets c now old.clients new.clients → KeepsMaps old.kv new.kv → Reaches old.kv new.kv → new.beside ≡ old.beside
      → Rises old new → ((y : TxnView) → now ≡ Some y → KeepsAge old.next_tx (of_client old.clients c) y) → (a : Answer) → IsUncollected a → Plainly old new a
  set now sets maps reach beside up own a said = record {
    keeps = record {
      rises = up;
      maps = λ n live. maps n (live_upto old n sound live);
      images = same_images old.beside new.beside beside;
      watched = ap (λ (b : BesideView). b.watched) beside;
      freed = ap (λ (b : BesideView). b.gc.freed) beside;
      answer = said;
    };
    aged = record {
      reach = reach;
      gc = ap (λ (b : BesideView). b.gc) beside;
      scan_tx = ap (λ (b : BesideView). b.scan_tx) beside;
      txns = λ d y is. ⊎_elim
          (λ same. subst (λ k. KeepsAge old.next_tx (of_client old.clients k) y) (sym same)
          (own y (sym sets.is ∙ ap (of_client new.clients) (sym same) ∙ is)))
          (λ other. stays_age old.next_tx (of_client old.clients d) y (sym (sets.others d other) ∙ is))
          (number_cases d c);
      jobs = beside_marks old.beside new.beside beside;
    };
  }

  goes_age : (x : TxnView) → of_client old.clients c ≡ Some x → (later : TxnView) → later.tx ≡ x.tx → (y : TxnView) → Some later ≡ Some y
      → KeepsAge old.next_tx (of_client old.clients c) y
  goes_age x here later same y is =
      let one : later ≡ y = cc in
      subst (λ o. KeepsAge old.next_tx o y) (sym here) (ap (λ (z : TxnView). z.tx) (sym one) ∙ same)

  keeps : (now : Option TxnView) → SetsClientAlone old new c now → ((y : TxnView) → now ≡ Some y → KeepsAge old.next_tx (of_client old.clients c) y)
      → (a : Answer) → IsUncollected a → Plainly old new a
  keeps now h own a said =
      set now h.clients (λ n le. ap (λ (s : Store Key Value). metadata_at s n) h.kv)
      (same_reaches old.kv new.kv (λ n. ap (λ (s : Store Key Value). times_pinned s n) h.kv)) h.beside
      (stay old new (same_store old.kv new.kv h.kv) h.next_tx) own a said

  refuses : (w : Word) (a : Answer) → Refuses old new c w a → Plainly old new a
  refuses w a h = keeps (of_client old.clients c) h.keeps (λ y is. stays_age old.next_tx (of_client old.clients c) y is) a (refused_uncollected a w h.answer)

  stays : TablesStay old new c → (a : Answer) → IsUncollected a → Plainly old new a
  stays h a said =
      set (of_client old.clients c) h.clients h.maps (same_reaches old.kv new.kv h.pins) h.beside (stay old new h.number h.next_tx)
      (λ y is. stays_age old.next_tx (of_client old.clients c) y is) a said

  unchanged : new ≡ old → (a : Answer) → IsUncollected a → Plainly old new a
  unchanged is a said = stays (subst (λ (t : TablesView). TablesStay old t c) (sym is) (all_stays old c)) a said

  ends : (mid : Store Key Value) (x : TxnView) → (old.kv.number ≤ mid.number) × (mid.number ≤ old.kv.number + 1) → Ends old new mid c x
      → (a : Answer) → IsUncollected a → Plainly old new a
  ends mid x up h a said =
      set None h.clients (λ n le. ap (λ (s : Store Key Value). metadata_at s n) h.kv ∙ h.maps n le)
      (ended_reaches old.kv mid new.kv x.at.base h.pins h.unpinned) h.beside
      (rises_by old new mid.number old.next_tx (ap (λ (s : Store Key Value). s.number) h.kv) h.next_tx up (still old.next_tx)) (λ y is. absurd (cc)) a said

  begins : (a : Answer) → of_client old.clients c ≡ None → Begins old new c a → Plainly old new a
  begins a none h =
      set _ h.clients (λ n le. ap (λ (s : Store Key Value). metadata_at s n) h.kv) (begun_reaches old.kv new.kv h.pinned) h.beside
      (rises_by old new old.kv.number (old.next_tx + 1) (ap (λ (s : Store Key Value). s.number) h.kv) h.next_tx
      (still old.kv.number) (omega arith, omega arith))
      (λ y is. subst (λ o. KeepsAge old.next_tx o y) (sym none) (ap tx_of (sym is)))
      a (subst IsUncollected (sym h.answer) tt)
    where
      tx_of : Option TxnView → ℕ
      tx_of None = 0
      tx_of (Some x) = x.tx

  tries : (x : TxnView) (a : Answer) → of_client old.clients c ≡ Some x → Tries old new c x a → Plainly old new a
  tries x (Answer.Committed n) here h =
      let is = h.committed.installed.number in
      let next = h.committed.installed.next in
      ends h.mid x (omega (arith, is, next), omega (arith, is, next)) h.ends (Answer.Committed n) tt
  tries x (Answer.Retry b n) here h =
      set (Some h.later) h.clients h.maps (moved_reaches old.kv new.kv b n h.retried.number_is h.retried.pins) h.beside
      (stay old new h.retried.number h.next_tx) (goes_age x here h.later (ap (λ (y : TxnView). y.tx) h.retried.is)) (Answer.Retry b n) tt
  tries x a here h = absurd h

  module _ (z : Seeing) where
    steps : (x : TxnView) (a : Answer) → of_client old.clients c ≡ Some x → StepTurn z old new c x a → Plainly old new a
    steps x (Answer.Replayed i) here h =
        keeps (Some h.later_one) h.keeps (goes_age x here h.later_one (ap (λ (y : TxnView). y.tx) h.replayed.is)) (Answer.Replayed i) tt
    steps x (Aborted' i box b) here h = ends old.kv x (still old.kv.number) h.ends (Aborted' i box b) tt
    steps x a here h = stays h.fails.stays a (fault_uncollected a (fault_is h.fails.why a h.fails.answer))

    finals : (x : TxnView) (a : Answer) → Finals z old new c x a → Plainly old new a
    finals x (Answer.Committed n) h =
        let is = h.number in
        let next = h.next in
        ends h.mid x (omega (arith, is, next), omega (arith, is, next)) h.ends (Answer.Committed n) tt
    finals x (Aborted' i box b) h =
        let is = h.number in
        ends h.mid x (omega (arith, is), omega (arith, is)) h.ends (Aborted' i box b) tt
    finals x a h = stays h.fails.stays a (fault_uncollected a (fault_is h.fails.why a h.fails.answer))

    made : (x : TxnView) (o : _) (a : Answer) → of_client old.clients c ≡ Some x → Calls z old new c x o a ⊎ CallFails z old new c x o a → Plainly old new a
    made x o a here (inl h) = keeps (Some h.later_one) h.keeps (goes_age x here h.later_one h.called.logged.tx) a (logged_uncollected a h.called.logged.answer)
    made x o a here (inr h) = stays h.fails.stays a (fault_uncollected a (fault_is h.fails.why a h.fails.answer))

    -- unless it is refused
    or_refused : (P : Type 0) (a : Answer) (r : Option Word) → (P → Plainly old new a) → MatchOption r P (λ w. Refuses old new c w a) → Plainly old new a
    or_refused P a None go h = go h
    or_refused P a (Some w) go h = refuses w a h

    lone : (v : Verb) (a : Answer) → of_client old.clients c ≡ None → LoneTurn z old new c v a → Plainly old new a
    lone Verb.Begin a none h = begins a none h
    lone v a none h = refuses NoTx a h

    txn : (x : TxnView) (v : Verb) (a : Answer) → of_client old.clients c ≡ Some x → TxnTurn z old new c x v a → Plainly old new a
    txn x Verb.Begin a here h = refuses InTx a h
    txn x Verb.Try a here h = or_refused (Tries old new c x a) a (try_refusal x) (tries x a here) h
    txn x Verb.Step a here h = or_refused (StepTurn z old new c x a) a (step_refusal x) (steps x a here) h
    txn x Verb.Commit a here h = finals x a h
    txn x Verb.Abort a here h = ends old.kv x (still old.kv.number) h.1 a (subst IsUncollected (sym h.0) tt)
    txn x (Verb.Call o) a here h = or_refused _ a (call_refusal x) (made x o a here) h

    client : (v : Verb) (a : Answer) → ClientTurn z old new c v a → Plainly old new a
    client v a h = by (of_client old.clients c) refl h
      where
        by : (o : Option TxnView) → of_client old.clients c ≡ o → MatchOption o (LoneTurn z old new c v a) (λ x. TxnTurn z old new c x v a) → Plainly old new a
        by None here g = lone v a here g
        by (Some x) here g = txn x v a here g

-- ---- lines of jobs
module _ (old new : TablesView) (j : ℕ) (sound : AreSound old) where
  others : (now : Option JobView) → KeepsOthers old new j now → KeepsMaps old.kv new.kv → Reaches old.kv new.kv
      → (old.kv.number ≤ new.kv.number) × (new.kv.number ≤ old.kv.number + 1)
      → ((y : JobView) → now ≡ Some y → KeepsMark (was_job old.beside j) (of_label old.beside.jobs j) (was_job new.beside j))
      → (a : Answer) → IsUncollected a → Plainly old new a
  others now h maps reach up own a said = record {
    keeps = record {
      rises = rises_by old new new.kv.number old.next_tx refl h.next_tx up (still old.next_tx);
      maps = λ n live. maps n (live_upto old n sound live);
      images = (ap (λ (b : BesideView). b.images) h.beside, ap (λ (b : BesideView). b.none) h.beside);
      watched = ap (λ (b : BesideView). b.watched) h.beside;
      freed = ap (λ (b : BesideView). b.gc.freed) h.beside;
      answer = said;
    };
    aged = record {
      reach = reach;
      gc = ap (λ (b : BesideView). b.gc) h.beside;
      scan_tx = ap (λ (b : BesideView). b.scan_tx) h.beside;
      txns = λ c y is. stays_age old.next_tx (of_client old.clients c) y (ap (λ l. of_client l c) (sym h.clients) ∙ is);
      jobs = λ l y is. ⊎_elim
          (λ same. subst (λ k. KeepsMark (was_job old.beside k) (of_label old.beside.jobs k) (was_job new.beside k)) (sym same)
          (own y (sym h.jobs.is ∙ ap (of_label new.beside.jobs) (sym same) ∙ is)))
          (λ other.
          subst (λ b. KeepsMark (was_job old.beside l) (of_label old.beside.jobs l) b) (sym (h.others l other))
          (stays_mark (was_job old.beside l) (of_label old.beside.jobs l) y (sym (h.jobs.others l other) ∙ is))) (number_cases l j);
    };
  }

  refused : (w : Word) (a : Answer) → RefusesJob old new w a → Plainly old new a
  refused w a h = unchanged old new 0 sound h.same a (refused_uncollected a w h.answer)

  module _ (z : Seeing) (kind : JobKind) (p : List ℕ) (r : ℕ) where
    free : (a : Answer) → of_label old.beside.jobs j ≡ None → FreePlan z old new j kind p r a → Plainly old new a
    free Answer.Planned none h =
        let same : new.kv.number ≡ old.kv.number = ap (λ (s : Store Key Value). s.number) h.plans.kv in
        others (Some h.job) h.plans.keeps (λ n le. ap (λ (s : Store Key Value). metadata_at s n) h.plans.kv)
        (plan_reaches old new j sound kind p r h.job none h.plans) (omega (arith, same), omega (arith, same))
        (λ y is. subst (λ o. KeepsMark (was_job old.beside j) o (was_job new.beside j)) (sym none) h.plans.unmarked) Answer.Planned tt
    free (Answer.Refused w) none h = unchanged old new 0 sound h.same (Answer.Refused w) tt
    free a none h = unchanged old new 0 sound h.same a (fault_uncollected a (fault_is h.why a h.answer))

    plan : (a : Answer) → PlanTurn z old new j kind p r a → Plainly old new a
    plan a h = by (of_label old.beside.jobs j) refl h
      where
        by : (o : Option JobView) → of_label old.beside.jobs j ≡ o → MatchOption o (FreePlan z old new j kind p r a)
            (λ x. RefusesJob old new JobInUse a) → Plainly old new a
        by None none g = free a none g
        by (Some x) there g = refused JobInUse a g

    -- it was planned under a label that had no job
    pub planned_free : (a : Answer) → PlanTurn z old new j kind p r a → a ≡ Answer.Planned → of_label old.beside.jobs j ≡ None
    planned_free a h is = by (of_label old.beside.jobs j) h
      where
        by : (o : Option JobView) → MatchOption o (FreePlan z old new j kind p r a) (λ x. RefusesJob old new JobInUse a) → o ≡ None
        by None g = refl
        by (Some x) g = let said : a ≡ Answer.Refused JobInUse = g.answer in absurd (cc)

  -- ... put in place, or stale
  puts : (x : JobView) (a : Answer) → of_label old.beside.jobs j ≡ Some x → Puts old new j x a → IsJobPut x old.kv new.kv a → Plainly old new a
  puts x (Answer.Installed n) there h put =
      let number = put.number in
      let next = put.next in
      others None h.keeps h.maps (put_reaches old new j sound x there (Answer.Installed n) h) (omega (arith, number, next), omega (arith, number, next))
      (λ y is. absurd (cc)) (Answer.Installed n) tt
  puts x (Answer.Stale b n) there h put =
      let number = put.number in
      others None h.keeps h.maps (put_reaches old new j sound x there (Answer.Stale b n) h) (omega (arith, number), omega (arith, number))
      (λ y is. absurd (cc)) (Answer.Stale b n) tt
  puts x a there h put = absurd put

  put : (a : Answer) → PutTurn old new j a → Plainly old new a
  put a h = by (of_label old.beside.jobs j) refl h
    where
      by : (o : Option JobView) → of_label old.beside.jobs j ≡ o → MatchOption o (RefusesJob old new NoJob a) (λ x. Puts old new j x a) → Plainly old new a
      by None none g = refused NoJob a g
      by (Some x) there g = puts x a there g g.put

  drop : (a : Answer) → DropTurn old new j a → Plainly old new a
  drop a h = by (of_label old.beside.jobs j) refl h
    where
      by : (o : Option JobView) → of_label old.beside.jobs j ≡ o → MatchOption o (RefusesJob old new NoJob a) (λ x. DropsJob old new j x a) → Plainly old new a
      by None none g = refused NoJob a g
      by (Some x) there g =
          let same : new.kv.number ≡ old.kv.number = ap (λ (s : Store Key Value). s.number) g.kv in
          others None g.keeps (λ n le. ap (λ (s : Store Key Value). metadata_at s n) g.kv) (drop_reaches old new j sound x there a g)
          (omega (arith, same), omega (arith, same)) (λ y is. absurd (cc)) a (subst IsUncollected (sym g.answer) tt)

-- ---- a save
saves : (old new : TablesView) (now : BesideView) → AreSound old → now ≡ record old.beside { images = now.images; none = now.none }
    → ((n : ℕ) → all_kept n now ≤ all_kept n old.beside + cond (nat_eq n old.kv.number) 1 0) → Saves old new now → (a : Answer) → IsUncollected a
    → Moves old new Event.Save a
saves old new now sound rest most h a said =
    let beside : new.beside ≡ record old.beside { images = now.images; none = now.none } = h.beside ∙ rest in
    record {
      rises = stay old new h.number h.next_tx;
      maps = λ n live. h.maps n (live_upto old n sound live);
      images = λ ne. absurd (ne refl);
      numbers = λ is. (h.number, h.next_tx);
      watched = ap (λ (b : BesideView). b.watched) beside;
      freed = λ ne. ap (λ (b : BesideView). b.gc.freed) beside;
      answer = λ ne. said;
      aged = λ other. record {
        reach = saved_reaches old new now most h;
        gc = ap (λ (b : BesideView). b.gc) beside;
        scan_tx = ap (λ (b : BesideView). b.scan_tx) beside;
        txns = λ c y is. stays_age old.next_tx (of_client old.clients c) y (ap (λ l. of_client l c) (sym h.clients) ∙ is);
        jobs = λ j y is.
            subst (λ (b : BesideView). KeepsMark (was_job old.beside j) (of_label old.beside.jobs j) (was_job b j)) (sym beside)
            (stays_mark (was_job old.beside j) (of_label old.beside.jobs j) y (ap (λ (b : BesideView). of_label b.jobs j) (sym beside) ∙ is));
      };
    }

save : (Up : Type 0) (old new : TablesView) (a : Answer) → AreSound old → SaveTurn Up old new a → Moves old new Event.Save a
save Up old new (Answer.Saved n) sound (is, up, h) = saves old new (only_image old.beside n) sound refl (λ k. only_kept old n k is) h (Answer.Saved n) tt
save Up old new Answer.FaultSave sound (inl h) = saves old new old.beside sound refl (same_kept old) h Answer.FaultSave tt
save Up old new Answer.FaultSave sound (inr h) = saves old new (with_image old.beside old.kv.number) sound refl (added_kept old) h Answer.FaultSave tt
save Up old new a sound turn = absurd turn

-- ---- lines of scans
same_scans : (old new : TablesView) (a : Answer) → IsUncollected a → new ≡ old → Keeps old new a
same_scans old new a said is =
    subst (λ t. Keeps old t a) (sym is)
    (record { rises = stay old old refl refl; maps = λ n live. refl; images = (refl, refl); watched = refl; freed = refl; answer = said })

scan : {S : Type 0} (kind : StoreKind S) (shelf : List S) (old new : TablesView) (a : Answer) → ScanTurn kind shelf old new a → Keeps old new a
scan kind shelf old new (Answer.Refused ScanBusy) h = same_scans old new (Answer.Refused ScanBusy) tt h.0
scan kind shelf old new (Answer.Held who) h = same_scans old new (Answer.Held who) tt h.0
scan kind shelf old new Answer.Scanning h = record {
  rises = stay old new h.starts.pins.number h.next_tx;
  maps = λ n live. same_maps old.kv new.kv h.starts.pins.number h.starts.pins.cells n;
  images = (ap (λ (b : BesideView). b.images) h.beside, ap (λ (b : BesideView). b.none) h.beside);
  watched = ap (λ (b : BesideView). b.watched) h.beside;
  freed = ap (λ (g : GcView). g.freed) h.starts.is;
  answer = tt;
}
scan kind shelf old new a h = absurd h

does_freed : (g : GcView) (r : RunView) → (with_run g r).freed ≡ g.freed
does_freed g r = by (nat_eq r.left 0)
  where
    by : (b : Bool) → (cond b (with_finished g r.scan) (record g { running = Some r })).freed ≡ g.freed
    by true = refl
    by false = refl

module _ {S : Type 0} (kind : StoreKind S) (before after : Dev S) (old new : TablesView) where
  does : (n left : ℕ) (a : Answer) → IsUncollected a → DoesTurn kind before after old new n left → Keeps old new a
  does n left a said h = record {
    rises = stay old new h.prunes.number h.keeps.next_tx;
    maps = h.prunes.maps;
    images = gc_images old.beside new.beside h.keeps.beside;
    watched = ap (λ (b : BesideView). b.watched) h.keeps.beside;
    freed = ap (λ (g : GcView). g.freed) h.does.is ∙ does_freed old.beside.gc (run_on h.does.run n h.does.found);
    answer = said;
  }

  fails : (n : ℕ) (a : Answer) → PieceFails kind before after old new n a → Keeps old new a
  fails n a h = record {
    rises = stay old new h.pruned.kv.number h.pruned.next_tx;
    maps = h.pruned.kv.maps;
    images = same_images old.beside new.beside h.pruned.beside;
    watched = ap (λ (b : BesideView). b.watched) h.pruned.beside;
    freed = ap (λ (b : BesideView). b.gc.freed) h.pruned.beside;
    answer = fault_uncollected a (fault_is h.why a h.answer);
  }

  piece : (n : ℕ) (a : Answer) → PieceTurn kind before after old new n a → Keeps old new a
  piece n (Answer.Refused NoScan) h = same_scans old new (Answer.Refused NoScan) tt h.0
  piece n (Answer.More left) h = does n left (Answer.More left) tt h.1
  piece n Answer.Done h = does n 0 Answer.Done tt h
  piece n a h = fails n a h

  -- a collection moves what was freed
  freed_moves : (k : ℕ) (a : Answer) → KeepsStore old new → Moves old new (Event.Collect k) a
  freed_moves k a h = record {
    rises = stay old new (same_store old.kv new.kv h.kv) h.keeps.next_tx;
    maps = λ n live. ap (λ (s : Store Key Value). metadata_at s n) h.kv;
    images = λ ne. gc_images old.beside new.beside h.keeps.beside;
    watched = ap (λ (b : BesideView). b.watched) h.keeps.beside;
    numbers = λ is. absurd (cc);
    freed = λ ne. absurd (ne k refl);
    answer = λ ne. absurd (ne k refl);
    aged = λ other. absurd other;
  }

  same_collect : (k : ℕ) (a : Answer) → new ≡ old → Moves old new (Event.Collect k) a
  same_collect k a is = freed_moves k a (subst (KeepsStore old) (sym is)
      (record { kv = refl; keeps = record { beside = refl; clients = refl; next_tx = refl } }))

  collect : (k : ℕ) (a : Answer) → CollectTurn kind before after old new k a → Moves old new (Event.Collect k) a
  collect k (Answer.Refused NoServer) h = same_collect k (Answer.Refused NoServer) h.0
  collect k (Answer.Refused NoScan) h = same_collect k (Answer.Refused NoScan) h.0
  collect k (Answer.Collected n) h = freed_moves k (Answer.Collected n) h.1.keeps
  collect k (Answer.FaultPunch i) h = freed_moves k (Answer.FaultPunch i) h.1.keeps
  collect k a h = absurd h

-- ---- each line
tree_uncollected : (a : Answer) → IsTreeAnswer a → IsUncollected a
tree_uncollected (Answer.Collected n) h = absurd h
tree_uncollected a h = tt

dump_uncollected : (a : Answer) → ((n : ℕ) → a ≢ Answer.Collected n) → IsUncollected a
dump_uncollected (Answer.Collected n) none = none n refl
dump_uncollected a none = tt

module _ {S : Type 0} (kind : StoreKind S) (t : Span S) (old new : CoreView) (sound : AreSound old.tables) (a : Answer) where
  server : (k : ℕ) (to b : Bool) → MatchBool b (Switches old new k to a) ((a ≡ Answer.Refused NoServer) × (new ≡ old)) → Plainly old.tables new.tables a
  server k to true h = unchanged old.tables new.tables 0 sound (ap (λ (c : CoreView). c.tables) h.rest) a (subst IsUncollected (sym h.answer) tt)
  server k to false h = unchanged old.tables new.tables 0 sound (ap (λ (c : CoreView). c.tables) h.1) a (subst IsUncollected (sym h.0) tt)

  pub line_moves : (e : Event) → LineTurn kind t old new e a → Moves old.tables new.tables e a
  line_moves (Event.Client c v) h =
      plainly_moves old.tables new.tables (Event.Client c v) a (λ is. absurd (cc))
      (client old.tables new.tables c sound (seeing kind t (lent_of old new)) v a h.0)
  line_moves (Event.Plan j job p r) h =
      plainly_moves old.tables new.tables (Event.Plan j job p r) a (λ is. absurd (cc))
      (plan old.tables new.tables j sound (seeing kind t (lent_of old new)) job p r a h.0)
  line_moves (Event.Put j) h = plainly_moves old.tables new.tables (Event.Put j) a (λ is. absurd (cc)) (put old.tables new.tables j sound a h.0)
  line_moves (Event.DropJob j) h = plainly_moves old.tables new.tables (Event.DropJob j) a (λ is. absurd (cc)) (drop old.tables new.tables j sound a h.0)
  line_moves Event.Scan h = keeps_move old.tables new.tables Event.Scan a (λ is. absurd (cc)) (scan kind t.before old.tables new.tables a h.0)
      (λ other. absurd other)
  line_moves (Event.Piece n) h = keeps_move old.tables new.tables (Event.Piece n) a (λ is. absurd (cc))
      (piece kind h.0.before h.0.after old.tables new.tables n a h.0.did) (λ other. absurd other)
  line_moves (Event.Collect k) h = collect kind h.0.before h.0.after old.tables new.tables k a h.0.did
  line_moves (Event.Down k) h = plainly_moves old.tables new.tables (Event.Down k) a (λ is. absurd (cc)) (server k true (nat_lt k old.settings.servers) h)
  line_moves (Event.Up k) h = plainly_moves old.tables new.tables (Event.Up k) a (λ is. absurd (cc)) (server k false (nat_lt k old.settings.servers) h)
  line_moves (Event.Dump p) h =
      plainly_moves old.tables new.tables (Event.Dump p) a (λ is. absurd (cc))
      (stays old.tables new.tables 0 sound (h.0.stays 0) a (dump_uncollected a (uncollected (seeing kind t (lent_of old new)) old.tables new.tables p a h.0)))
  line_moves Event.Tree h = plainly_moves old.tables new.tables Event.Tree a (λ is. absurd (cc))
      (unchanged old.tables new.tables 0 sound (ap (λ (c : CoreView). c.tables) h.1) a (tree_uncollected a h.2))
  line_moves Event.Save h = save (AreUp old.replicas old.settings.servers) old.tables new.tables a sound h.0
