-- A lawful answer raises what the machine counts by one at most.
use Rattle.std.proofs.Common.{◌≡◌, ℕ, ◌+◌, ◌≤◌, Bool, true, false, if◌then◌else◌, List, Option, Some, None, Result, Ok, Err, refl, sym, subst, arith}
use Rattle.std.specs.Prelude.{MatchOption}
use Rattle.std.specs.FinMap.{get}
use Rattle.wtf_model.specs.declared.answer.Answer.{Answer, Aborted'}
use Rattle.wtf_model.specs.declared.answer.Answer.TheVariants as answer
use Rattle.wtf_model.specs.declared.answer.Word.{Word}
use Rattle.wtf_model.specs.declared.event.Event.{Event}
use Rattle.wtf_model.specs.declared.event.Event.TheVariants as event
use Rattle.wtf_model.specs.declared.event.Verb.{Verb}
use Rattle.wtf_model.specs.declared.event.Verb.TheVariants as verb
use Rattle.wtf_model.specs.declared.op.JobKind.{JobKind}
use Rattle.std.specs.FinSet.{FinSet}
use Rattle.std.specs.Ordering.{nat_cmp}
use Rattle.wtf_model.specs.Transaction.{Transaction, Job}
use Rattle.wtf_model.specs.Jobs.{MayPut}
use Rattle.wtf_model.specs.Lawful.{client_refusal, MayAsk, MayTry, MayCommit, May}
use Rattle.wtf_model.specs.declared.answer.Kind.{Kind}
use Rattle.wtf_model.specs.Lines.{MayLine, after_line}
use Rattle.wtf_checker.specs.Lawful.{event_or_bad}
use Rattle.wtf_checker.specs.Judging.{IsAnswered, IsWithin}
use Rattle.wtf_model.specs.Steps.{
  Machine,
  is_logged,
  with_transaction,
  logged,
  begun,
  tried,
  stepped,
  committed,
  aborted,
  after_client,
  with_down,
  saved,
  with_job,
  put_in_place,
  dropped,
  scanning,
  scanned,
  after,
}

pub record Rises (old new : Machine) : Type 0 where
  pub number : new.number ≤ old.number + 1
  pub stamps : new.next_stamp ≤ old.next_stamp + 1
  pub scans : new.scans ≤ old.scans + 1

still : (m : Machine) → Rises m m
still m = record { number = omega arith; stamps = omega arith; scans = omega arith }

by_number : (m new : Machine) (n : ℕ) → n ≡ m.number + 1 → new.number ≡ n → new.next_stamp ≡ m.next_stamp → new.scans ≡ m.scans → Rises m new
by_number m new n is number stamps scans = record { number = omega (arith, is, number); stamps = omega (arith, stamps); scans = omega (arith, scans) }

module _ (m : Machine) (c : ℕ) where
  begun_rises : (a : Answer) → Rises m (begun m c a)
  begun_rises (answer.Begun n) = record { number = omega arith; stamps = omega arith; scans = omega arith }
  begun_rises a = still m

  called_by : (b : Bool) (t : Transaction) → Rises m (if b then with_transaction m c t else m)
  called_by true t = record { number = omega arith; stamps = omega arith; scans = omega arith }
  called_by false t = still m

  tried_rises : (t : Transaction) (a : Answer) → MayTry m t a → Rises m (tried m c t a)
  tried_rises t (answer.Committed n) may = by_number m _ n may.0 refl refl refl
  tried_rises t (answer.Retry base now) may = record { number = omega arith; stamps = omega arith; scans = omega arith }
  tried_rises t a may = still m

  stepped_rises : (t : Transaction) (a : Answer) → Rises m (stepped m c t a)
  stepped_rises t (answer.Replayed i) = record { number = omega arith; stamps = omega arith; scans = omega arith }
  stepped_rises t (Aborted' i box a) = record { number = omega arith; stamps = omega arith; scans = omega arith }
  stepped_rises t a = still m

  committed_rises : (t : Transaction) (a : Answer) → MayCommit m t a → Rises m (committed m c t a)
  committed_rises t (answer.Committed n) may = by_number m _ n may.0 refl refl refl
  committed_rises t (Aborted' i box a) may = record { number = omega arith; stamps = omega arith; scans = omega arith }
  committed_rises t a may = still m

  aborted_rises : (a : Answer) → Rises m (aborted m c a)
  aborted_rises answer.Okay = record { number = omega arith; stamps = omega arith; scans = omega arith }
  aborted_rises a = still m

  asked_rises : (o : Option Transaction) (v : Verb) (a : Answer) → MayAsk m o v a → Rises m (after_client m c o v a)
  asked_rises None verb.Begin a may = begun_rises a
  asked_rises None v a may = still m
  asked_rises (Some t) verb.Begin a may = absurd may
  asked_rises (Some t) verb.Try a may = tried_rises t a may
  asked_rises (Some t) verb.Step a may = stepped_rises t a
  asked_rises (Some t) verb.Commit a may = committed_rises t a may
  asked_rises (Some t) verb.Abort a may = aborted_rises a
  asked_rises (Some t) (verb.Call o) a may = called_by (is_logged a) (logged t o a)

  refused_rises : (o : Option Transaction) (v : Verb) (w : Word) → Rises m (after_client m c o v (answer.Refused w))
  refused_rises None verb.Begin w = still m
  refused_rises None v w = still m
  refused_rises (Some t) verb.Begin w = still m
  refused_rises (Some t) verb.Try w = still m
  refused_rises (Some t) verb.Step w = still m
  refused_rises (Some t) verb.Commit w = still m
  refused_rises (Some t) verb.Abort w = still m
  refused_rises (Some t) (verb.Call o) w = called_by (is_logged (answer.Refused w)) (logged t o (answer.Refused w))

  client_by : (r : Option Word) (o : Option Transaction) (v : Verb) (a : Answer) → MatchOption r (MayAsk m o v a) (λ w. a ≡ answer.Refused w)
      → Rises m (after_client m c o v a)
  client_by None o v a may = asked_rises o v a may
  client_by (Some w) o v a is = subst (λ x. Rises m (after_client m c o v x)) (sym is) (refused_rises o v w)

module _ (m : Machine) where
  job_rises : (j : ℕ) (kind : JobKind) (p : List ℕ) (r : ℕ) (a : Answer) → Rises m (with_job m j kind p r a)
  job_rises j kind p r answer.Planned = record { number = omega arith; stamps = omega arith; scans = omega arith }
  job_rises j kind p r a = still m

  put_rises : (j : ℕ) (o : Option Job) (a : Answer) → MayPut m o a → Rises m (put_in_place m j a)
  put_rises j None a is = subst (λ x. Rises m (put_in_place m j x)) (sym is) (still m)
  put_rises j (Some job) (answer.Installed n) is = by_number m _ n is refl refl refl
  put_rises j (Some job) (answer.Stale base now) is = record { number = omega arith; stamps = omega arith; scans = omega arith }
  put_rises j (Some job) a is = still m

  dropped_rises : (j : ℕ) (a : Answer) → Rises m (dropped m j a)
  dropped_rises j answer.Okay = record { number = omega arith; stamps = omega arith; scans = omega arith }
  dropped_rises j a = still m

  scanning_rises : (a : Answer) → Rises m (scanning m a)
  scanning_rises answer.Scanning = record { number = omega arith; stamps = omega arith; scans = omega arith }
  scanning_rises a = still m

  scanned_rises : (a : Answer) → Rises m (scanned m a)
  scanned_rises (answer.More left) = record { number = omega arith; stamps = omega arith; scans = omega arith }
  scanned_rises answer.Done = record { number = omega arith; stamps = omega arith; scans = omega arith }
  scanned_rises a = still m

  down_rises : (down : FinSet nat_cmp) (a : Answer) → Rises m (with_down m down a)
  down_rises down answer.Okay = record { number = omega arith; stamps = omega arith; scans = omega arith }
  down_rises down a = still m

  saved_rises : (a : Answer) → Rises m (saved m a)
  saved_rises (answer.Saved n) = record { number = omega arith; stamps = omega arith; scans = omega arith }
  saved_rises answer.FaultSave = record { number = omega arith; stamps = omega arith; scans = omega arith }
  saved_rises a = still m

  pub after_rises : (e : Event) (a : Answer) → May m e a → Rises m (after m e a)
  after_rises (event.Client c v) a may = client_by m c (client_refusal (get m.transactions c) v) (get m.transactions c) v a may
  after_rises (event.Plan j kind p r) a may = job_rises j kind p r a
  after_rises (event.Put j) a may = put_rises j (get m.jobs j) a may
  after_rises (event.DropJob j) a may = dropped_rises j a
  after_rises event.Scan a may = scanning_rises a
  after_rises (event.Piece k) a may = scanned_rises a
  after_rises (event.Collect k) a may = still m
  after_rises (event.Down k) a may = down_rises _ a
  after_rises (event.Up k) a may = down_rises _ a
  after_rises event.Save a may = saved_rises a
  after_rises (event.Dump p) a may = still m
  after_rises event.Tree a may = still m

-- an answer that the machine may give to a line
pub line_rises : (m : Machine) (asked : Result Event Kind) (a : Answer) → MayLine m (event_or_bad asked) a → Rises m (after_line m (event_or_bad asked) a)
line_rises m (Err k) a may = still m
line_rises m (Ok e) a may = after_rises m e a may

-- so much is counted at most then
pub rises_within : (most : ℕ) (m : Machine) (asked : Result Event Kind) (a : Answer) → MayLine m (event_or_bad asked) a → IsWithin most m
    → IsWithin (most + 1) (after_line m (event_or_bad asked) a)
rises_within most m asked a may w =
    let r = line_rises m asked a may in
    record { number = omega (arith, r.number, w.number); stamps = omega (arith, r.stamps, w.stamps); scans = omega (arith, r.scans, w.scans) }

-- and so behind an answer that a line told
pub answered_within : (most : ℕ) (m m' : Machine) (asked : Result Event Kind) (left rest : List ℕ) → IsAnswered m (event_or_bad asked) left rest m'
    → IsWithin most m → IsWithin (most + 1) m'
answered_within most m m' asked left rest a w = subst (IsWithin (most + 1)) (sym a.next_is) (rises_within most m asked a.answer a.may w)
