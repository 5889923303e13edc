-- What answers come of lines, and which servers are down after them.
use Rattle.wtf_core.proofs.Common.{MatchBool, StoreKind, is_down, Span, span, Answer, Word, InTx, NoTx, NoServer, NoJob, Event, Verb, down_after_event}
use Rattle.wtf_core.proofs.Common.{any_slice, is_inside, reads_nothing, Remembered, TxnView, try_refusal, JobView, IsJobPut, TablesView, of_client, of_label}
use Rattle.wtf_core.proofs.Common.{RefusesJob, Puts, PutTurn, DropsJob, DropTurn, CoreView, TablesBytes, any_byte, no_slice, has_copies, Load, no_load}
use Rattle.wtf_core.proofs.Common.{AddsBytes, load_of, Lending, line_asked, Seeing, NamesTables, IsPlain, AreBased, AreFull, ServesLine, Refuses, Tries}
use Rattle.wtf_core.proofs.Common.{LoneTurn, TxnTurn, ClientTurn, Switches, IsTreeAnswer, LineTurn, number_cases, plain_caused, plain_failed, none_placed}
use Rattle.wtf_core.proofs.Common.{none_added, ◌≡◌, ℕ, ◌==◌, Bool, true, false, nat_lt, if◌then◌else◌, List, Option, None, Some, MatchOption, refl, sym, ap}
use Rattle.wtf_core.proofs.Common.{◌∙◌, subst, ⊎_elim, ne_eqb, eq-eqb}
use Rattle.wtf_core.proofs.Naming.{IsLocal}

pub tree_plain : (a : Answer) → IsTreeAnswer a → IsPlain a
tree_plain (Answer.Tree rows) h = tt
tree_plain a h = absurd h

-- what is answered to a refused line
refusal_plain : (old new : TablesView) (c : ℕ) (w : Word) (a : Answer) → Refuses old new c w a → IsPlain a
refusal_plain old new c w a h = subst IsPlain (sym h.answer) tt

tries_plain : (old new : TablesView) (c : ℕ) (x : TxnView) (a : Answer) → Tries old new c x a → IsPlain a
tries_plain old new c x (Answer.Committed n) h = tt
tries_plain old new c x (Answer.Retry b n) h = tt
tries_plain old new c x a h = absurd h

module _ (z : Seeing) (old new : TablesView) (c : ℕ) where
  or_refused : (P : Type 0) (Q : Type 0) (a : Answer) (r : Option Word) → (P → Q) → ((w : Word) → Refuses old new c w a → Q)
      → MatchOption r P (λ w. Refuses old new c w a) → Q
  or_refused P Q a None f g h = f h
  or_refused P Q a (Some w) f g h = g w h

  -- lines that need no store are answered by no fault
  pub local_plain : (v : Verb) (a : Answer) → IsLocal v → ClientTurn z old new c v a → IsPlain a
  local_plain v a local h = by (of_client old.clients c) v local h
    where
      by : (o : Option TxnView) (u : Verb) → IsLocal u → MatchOption o (LoneTurn z old new c u a) (λ x. TxnTurn z old new c x u a) → IsPlain a
      by None Verb.Begin l g = subst IsPlain (sym g.answer) tt
      by None Verb.Try l g = refusal_plain old new c NoTx a g
      by None Verb.Abort l g = refusal_plain old new c NoTx a g
      by None Verb.Step l g = absurd l
      by None Verb.Commit l g = absurd l
      by None (Verb.Call o) l g = absurd l
      by (Some x) Verb.Begin l g = refusal_plain old new c InTx a g
      by (Some x) Verb.Try l g = or_refused _ (IsPlain a) a (try_refusal x) (tries_plain old new c x a) (λ w. refusal_plain old new c w a) g
      by (Some x) Verb.Abort l g = subst IsPlain (sym g.0) tt
      by (Some x) Verb.Step l g = absurd l
      by (Some x) Verb.Commit l g = absurd l
      by (Some x) (Verb.Call o) l g = absurd l

module _ {S : Type 0} (kind : StoreKind S) (t : Span S) (old new : CoreView) (a : Answer) where
  -- ---- which servers are down
  same_down : new ≡ old → (j : ℕ) → is_down new.replicas j ≡ is_down old.replicas j
  same_down e j = ap (λ (core : CoreView). is_down core.replicas j) e

  rest_down : (t : TablesView) (lists : Remembered) → new ≡ record old { tables = t; lists = lists } → (j : ℕ) → is_down new.replicas j ≡ is_down old.replicas j
  rest_down t lists e j = ap (λ (core : CoreView). is_down core.replicas j) e

  switched : (k : ℕ) (to : Bool) → Switches old new k to a → (j : ℕ) → is_down new.replicas j ≡ (if j == k then to else is_down old.replicas j)
  switched k to h j = ⊎_elim
      (λ same. subst (λ i. is_down new.replicas i ≡ to) (sym same) h.is ∙ sym (ap (λ b. if b then to else is_down old.replicas j) (eq-eqb j k same)))
      (λ other. h.others j other ∙ sym (ap (λ b. if b then to else is_down old.replicas j) (ne_eqb j k other)))
      (number_cases j k)

  down_line : (k : ℕ) (b : Bool) → MatchBool b (Switches old new k true a) ((a ≡ Answer.Refused NoServer) × (new ≡ old)) → (j : ℕ)
      → is_down new.replicas j ≡ down_after_event (is_down old.replicas) (Event.Down k) a j
  down_line k true h j = subst (λ r. is_down new.replicas j ≡ down_after_event (is_down old.replicas) (Event.Down k) r j) (sym h.answer) (switched k true h j)
  down_line k false h j = subst (λ r. is_down new.replicas j ≡ down_after_event (is_down old.replicas) (Event.Down k) r j) (sym h.0) (same_down h.1 j)

  up_line : (k : ℕ) (b : Bool) → MatchBool b (Switches old new k false a) ((a ≡ Answer.Refused NoServer) × (new ≡ old)) → (j : ℕ)
      → is_down new.replicas j ≡ down_after_event (is_down old.replicas) (Event.Up k) a j
  up_line k true h j = subst (λ r. is_down new.replicas j ≡ down_after_event (is_down old.replicas) (Event.Up k) r j) (sym h.answer) (switched k false h j)
  up_line k false h j = subst (λ r. is_down new.replicas j ≡ down_after_event (is_down old.replicas) (Event.Up k) r j) (sym h.0) (same_down h.1 j)

  pub line_downs : (e : Event) → LineTurn kind t old new e a → (j : ℕ) → is_down new.replicas j ≡ down_after_event (is_down old.replicas) e a j
  line_downs (Event.Put j) h = rest_down new.tables old.lists h.1
  line_downs (Event.DropJob j) h = rest_down new.tables old.lists h.1
  line_downs Event.Scan h = rest_down new.tables old.lists h.1
  line_downs (Event.Down k) h = down_line k (nat_lt k old.settings.servers) h
  line_downs (Event.Up k) h = up_line k (nat_lt k old.settings.servers) h
  line_downs Event.Tree h = same_down h.1
  line_downs Event.Save h = rest_down new.tables old.lists h.1
  line_downs e h = rest_down new.tables new.lists h.1

-- ---- lines that were lent no store

-- a put, and a drop, are answered by no fault
pub put_plain : (old new : TablesView) (j : ℕ) (a : Answer) → PutTurn old new j a → IsPlain a
put_plain old new j a h = by (of_label old.beside.jobs j) h
  where
    is_put : (x : JobView) (b : Answer) → IsJobPut x old.kv new.kv b → IsPlain b
    is_put x (Answer.Installed n) put = tt
    is_put x (Answer.Stale b n) put = tt
    is_put x b put = absurd put

    by : (o : Option JobView) → MatchOption o (RefusesJob old new NoJob a) (λ x. Puts old new j x a) → IsPlain a
    by None g = subst IsPlain (sym g.answer) tt
    by (Some x) g = is_put x a g.put

pub drop_plain : (old new : TablesView) (j : ℕ) (a : Answer) → DropTurn old new j a → IsPlain a
drop_plain old new j a h = by (of_label old.beside.jobs j) h
  where
    by : (o : Option JobView) → MatchOption o (RefusesJob old new NoJob a) (λ x. DropsJob old new j x a) → IsPlain a
    by None g = subst IsPlain (sym g.answer) tt
    by (Some x) g = subst IsPlain (sym g.answer) tt

-- nor is a server that goes down, or comes up, which leaves the tables
pub server_plain : (old new : CoreView) (k : ℕ) (to b : Bool) (a : Answer) → MatchBool b (Switches old new k to a) ((a ≡ Answer.Refused NoServer) × (new ≡ old))
    → IsPlain a × (new.tables ≡ old.tables)
server_plain old new k to true a h = (subst IsPlain (sym h.answer) tt, ap (λ (core : CoreView). core.tables) h.rest)
server_plain old new k to false a h = (subst IsPlain (sym h.0) tt, ap (λ (core : CoreView). core.tables) h.1)

module _ {S : Type 0} (kind : StoreKind S) (down : ℕ → Bool) (shelf : List S) (lent : Lending) where
  pub still_serves : (old new : TablesView) (e : Event) (a : Answer) → TablesBytes (is_inside kind shelf lent.settings) any_slice old → NamesTables old new →
      load_of e ≡ no_load → IsPlain a → ServesLine kind (span down shelf shelf) lent old new e a
  still_serves old new e a inside names none plain = record {
    inside = names (is_inside kind shelf lent.settings) any_slice refl inside;
    bare = λ free. names any_byte no_slice refl;
    full = λ free. names (has_copies lent.settings.replicas) no_slice refl;
    adds = subst (λ (l : Load). AddsBytes kind (span down shelf shelf) lent.settings l a) (sym none)
        (none_added kind (span down shelf shelf) lent.settings a (reads_nothing kind down shelf).lengths);
    caused = plain_caused kind (span down shelf shelf) lent.settings ⊥ (AreBased old) (AreFull lent.settings old) (load_of e) a plain;
    placed = none_placed kind (span down shelf shelf) lent.settings (line_asked kind (span down shelf shelf) lent old e) a none;
    failed = plain_failed (line_asked kind (span down shelf shelf) lent old e).fails a plain;
  }
