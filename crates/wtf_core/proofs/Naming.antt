-- Lines that need no store, and dropping old versions, keep what holds of the places of each byte that is named.
use Rattle.wtf_core.proofs.Common.{MatchOption, Slice, Store, Key, Value, Answer, Word, InTx, NoTx, NoJob, Verb, MapBytes, metadata_at, with_bytes}
use Rattle.wtf_core.proofs.Common.{nothing_kept, All-nil, TxnView, begun, rebased, TxnBytes, try_refusal, JobView, RefusesJob, Puts, PutTurn, DropsJob}
use Rattle.wtf_core.proofs.Common.{DropTurn, BesideView, TablesView, of_client, of_label, metadata_now, Seeing, AreSound, IsTidied, TablesBytes, NamesTables}
use Rattle.wtf_core.proofs.Common.{Refuses, Begins, Commits, Retries, Tries, LoneTurn, TxnTurn, ClientTurn, txn_along, bytes_set, now_along, stays_bytes}
use Rattle.wtf_core.proofs.Common.{ends_bytes, leaves_bytes, keeps_stays, puts_bytes, drops_bytes, now_bytes, begun_reaches, moved_reaches, ◌≡◌, ℕ, Bool, true}
use Rattle.wtf_core.proofs.Common.{List, [], Option, None, Some, refl, sym, ap, ◌∙◌, subst}
use Rattle.wtf_overlay.specs.Origin.{Place}
use Rattle.wtf_core.proofs.Tidying.{base_same, live_same}

module _ (P : List Place → Bool) (Q : Slice → Bool) (hole : P [] ≡ true) where
  begins_bytes : (old new : TablesView) (c : ℕ) (a : Answer) → AreSound old → Begins old new c a → TablesBytes P Q old → TablesBytes P Q new
  begins_bytes old new c a sound begins h =
      let at : (n : ℕ) → metadata_at new.kv n ≡ metadata_at old.kv n = λ n. ap (λ (s : Store Key Value). metadata_at s n) begins.kv in
      let x : TxnView = begun old.next_tx old.kv.number in
      let own : TxnBytes P Q new.kv x = record {
        hand = record { base = subst (MapBytes P Q) (sym (at old.kv.number)) (now_bytes P Q old h); changes = tt; slices = nothing_kept P };
        log = All-nil _;
      } in
      bytes_set P Q old new c (Some x) sound begins.clients (λ n le. at n) (begun_reaches old.kv new.kv begins.pinned) h
      (subst (MapBytes P Q) (sym (ap (λ (s : Store Key Value). metadata_now s) begins.kv)) (now_bytes P Q old h))
      (λ y is. subst (TxnBytes P Q new.kv) (let e : x ≡ y = cc in e) own) begins.beside

  commits_bytes : (old new : TablesView) (c : ℕ) (x : TxnView) (n : ℕ) → AreSound old → of_client old.clients c ≡ Some x → Commits old new c x n → TablesBytes
      P Q old → TablesBytes P Q new
  commits_bytes old new c x n sound here turn h =
      let is = turn.committed.installed in
      let map : metadata_now turn.mid ≡ _ = ap (metadata_at turn.mid) is.number ∙ is.map in
      ends_bytes P Q old new turn.mid c x sound turn.ends (subst (MapBytes P Q) (sym map)
      (with_bytes P Q hole x.at.changes (metadata_now old.kv) (now_bytes P Q old h) (h.each c x here).hand.changes)) h

  retries_bytes : (old new : TablesView) (c : ℕ) (x : TxnView) (b n : ℕ) → AreSound old → of_client old.clients c ≡ Some x → Retries old new c x b n →
      TablesBytes P Q old → TablesBytes P Q new
  retries_bytes old new c x b n sound here turn h =
      let is = turn.retried.is in
      let now : MapBytes P Q (metadata_now new.kv) = now_along P Q old.kv new.kv turn.retried.number turn.maps (now_bytes P Q old h) in
      let base : metadata_at new.kv n ≡ metadata_now new.kv = ap (metadata_at new.kv) (turn.retried.number_is ∙ sym turn.retried.number) in
      let own : TxnBytes P Q new.kv (rebased x n) =
      record { hand = record { base = subst (MapBytes P Q) (sym base) now; changes = tt; slices = nothing_kept P }; log = (h.each c x here).log } in
      bytes_set P Q old new c (Some turn.later) sound turn.clients turn.maps (moved_reaches old.kv new.kv b n turn.retried.number_is turn.retried.pins) h now
      (λ y same. subst (TxnBytes P Q new.kv) (sym is ∙ (let e : turn.later ≡ y = cc in e)) own) turn.beside

  tries_bytes : (old new : TablesView) (c : ℕ) (x : TxnView) (a : Answer) → AreSound old → of_client old.clients c ≡ Some x → Tries old new c x a →
      TablesBytes P Q old → TablesBytes P Q new
  tries_bytes old new c x (Answer.Committed n) sound here turn h = commits_bytes old new c x n sound here turn h
  tries_bytes old new c x (Answer.Retry b n) sound here turn h = retries_bytes old new c x b n sound here turn h
  tries_bytes old new c x a sound here turn h = absurd turn

  refuses_bytes : (old new : TablesView) (c : ℕ) (w : Word) (a : Answer) → AreSound old → Refuses old new c w a → TablesBytes P Q old → TablesBytes P Q new
  refuses_bytes old new c w a sound turn h = stays_bytes P Q old new c sound (keeps_stays old new c turn.keeps) h

  try_bytes : (r : Option Word) (old new : TablesView) (c : ℕ) (x : TxnView) (a : Answer) → AreSound old → of_client old.clients c ≡ Some x → MatchOption r
      (Tries old new c x a) (λ w. Refuses old new c w a) → TablesBytes P Q old → TablesBytes P Q new
  try_bytes None old new c x a sound here turn h = tries_bytes old new c x a sound here turn h
  try_bytes (Some w) old new c x a sound here turn h = refuses_bytes old new c w a sound turn h

-- lines that need no store: of a client that begins, attempts or aborts
abbrev pub IsLocal : Verb → Type 0
IsLocal Verb.Begin = Unit {0}
IsLocal Verb.Try = Unit {0}
IsLocal Verb.Abort = Unit {0}
IsLocal v = ⊥

pub local_names : (z : Seeing) (old new : TablesView) (c : ℕ) (v : Verb) (a : Answer) →
    IsLocal v → AreSound old → ClientTurn z old new c v a → NamesTables old new
local_names z old new c v a local sound turn P Q hole h = by (of_client old.clients c) v local refl turn
  where
    by : (o : Option TxnView) (u : Verb) → IsLocal u → of_client old.clients c ≡ o → MatchOption o (LoneTurn z old new c u a) (λ x. TxnTurn z old new c x u a) →
        TablesBytes P Q new
    by None Verb.Begin l here t = begins_bytes P Q hole old new c a sound t h
    by None Verb.Try l here t = refuses_bytes P Q hole old new c NoTx a sound t h
    by None Verb.Abort l here t = refuses_bytes P Q hole old new c NoTx a sound t h
    by None Verb.Step l here t = absurd l
    by None Verb.Commit l here t = absurd l
    by None (Verb.Call o) l here t = absurd l
    by (Some x) Verb.Begin l here t = refuses_bytes P Q hole old new c InTx a sound t h
    by (Some x) Verb.Try l here t = try_bytes P Q hole (try_refusal x) old new c x a sound here t h
    by (Some x) Verb.Abort l here t = leaves_bytes P Q old new old.kv c x sound t.1 refl h
    by (Some x) Verb.Step l here t = absurd l
    by (Some x) Verb.Commit l here t = absurd l
    by (Some x) (Verb.Call o) l here t = absurd l

-- so do a put and a drop of a job
module _ (old new : TablesView) (j : ℕ) (sound : AreSound old) (a : Answer) where
  pub put_names : PutTurn old new j a → NamesTables old new
  put_names turn P Q hole h = by (of_label old.beside.jobs j) refl turn
    where
      by : (o : Option JobView) → of_label old.beside.jobs j ≡ o → MatchOption o (RefusesJob old new NoJob a) (λ x. Puts old new j x a) → TablesBytes P Q new
      by None none t = subst (TablesBytes P Q) (sym t.same) h
      by (Some x) there t = puts_bytes P Q old new j sound x a there t hole h

  pub drop_names : DropTurn old new j a → NamesTables old new
  drop_names turn P Q hole h = by (of_label old.beside.jobs j) refl turn
    where
      by : (o : Option JobView) → of_label old.beside.jobs j ≡ o → MatchOption o (RefusesJob old new NoJob a) (λ x. DropsJob old new j x a)
          → TablesBytes P Q new
      by None none t = subst (TablesBytes P Q) (sym t.same) h
      by (Some x) there t = drops_bytes P Q old new j sound x a there t h

-- dropping versions that no one sees leaves the bytes that are named
pub tidied_bytes : (P : List Place → Bool) (Q : Slice → Bool) (old new : TablesView) → AreSound old → IsTidied old new → TablesBytes P Q old → TablesBytes P Q
    new
tidied_bytes P Q old new sound tidy h = record {
  live = λ n live. let was = live_same old new tidy n live in subst (MapBytes P Q) (sym (tidy.maps n was)) (h.live n was);
  each = λ c x is.
      let was : of_client old.clients c ≡ Some x = ap (λ l. of_client l c) (sym tidy.clients) ∙ is in
      txn_along P Q old.kv new.kv x (base_same old new sound tidy c x was) (h.each c x was);
  planned = λ j x is. h.planned j x (ap (λ (b : BesideView). of_label b.jobs j) (sym tidy.beside) ∙ is);
}
