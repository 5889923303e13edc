-- Where a line answers a fault that only a store or a keeper that failed can have caused, the counts of faults rise.
use Rattle.std.proofs.Common.{◌≡◌, ◌≢◌, ◌⊎◌, ℕ, zero, suc, ◌+◌, ◌<◌, ◌≤◌, Bool, true, false, not, ◌||◌, if◌then◌else◌, List, [], ◌∷◌, length, Ok, Err, refl}
use Rattle.std.proofs.Common.{get_or, sym, ◌∙◌, ap, subst, arith, inl, inr}
use Rattle.std.specs.Prelude.{nat_lt, ⊤}
use Rattle.std.specs.List.{All, Contains}
use Rattle.std.proofs.lemmas.Bool.{cases_lt, eq-eqb, ne_eqb, le-ltb, le-leb, lt-leb}
use Rattle.std.proofs.lemmas.List.Elements.{All-head, All-tail, All-weaker}
use Rattle.wtf_base.specs.declared.settings.Settings.{Settings}
use Rattle.wtf_base.specs.declared.slice.Slice.{Slice}
use Rattle.wtf_dev.specs.Counts.{Rose}
use Rattle.wtf_dev.specs.Keep.{KeeperView}
use Rattle.wtf_dev.specs.Store.{Range, StoreKind, KindLaws}
use Rattle.wtf_dev.specs.Each.{EachFollows}
use Rattle.wtf_dev.specs.Sums.{all_faults}
use Rattle.wtf_dev.proofs.Each.{each_kept}
use Rattle.wtf_dev.proofs.Sums.{sum_still, all_faults-grows}
use Rattle.wtf_overlay.specs.Origin.{Place}
use Rattle.wtf_replica.specs.Spans.{Span}
use Rattle.wtf_replica.specs.Outs.{HasRisen, IsOut}
use Rattle.wtf_replica.specs.Faults.{AreTooFew}
use Rattle.wtf_model.specs.declared.answer.Answer.{Answer}
use Rattle.wtf_model.specs.declared.answer.Answer.TheVariants as answer
use Rattle.wtf_model.specs.declared.event.Event.{Event}
use Rattle.wtf_model.specs.declared.event.Event.TheVariants as event
use Rattle.wtf_core.specs.Outcomes.{Load, AscendFrom, last_of, IsLost, IsUnread, SaveFault, HasCause, Frees, PunchFault}
use Rattle.wtf_model.specs.Lines.{Line, AlongBy, count_by}
use Rattle.wtf_model.specs.Servers.{downs_below, downs, down_after, AlongDowns, is_device_fault, is_device_fault_of_run, count_along, IsAllUp}
use Rattle.wtf_serve.specs.Answering.{line_load}
use Rattle.wtf_serve.specs.Engines.{Engine, Step, span_of, IsSaveFailure, IsCaused}
use Rattle.wtf_serve.specs.Logs.{is_fault, fault_count}
use Rattle.wtf_serve.specs.Stocks.{Stock, faults_in, AreCounting, IsSaveFault}
use Rattle.wtf_base.proofs.Elements.{contains_cons, in_tail, element}

-- how much a test counts for
abbrev pub one : Bool → ℕ
one b = if b then 1 else 0

-- the others of a list, one fewer
abbrev Others : List ℕ → ℕ → Type 0
Others rest n = (others : List ℕ) × (length rest ≡ length others + 1) × ((k : ℕ) → k ≢ n → Contains rest k → Contains others k)

without : (rest : List ℕ) (n : ℕ) → Contains rest n → Others rest n
without [] n c = absurd (omega (arith, c.1))
without (x ∷ xs) n c = elim (contains_cons x xs n c) [
  | inl e ↦ (
    xs,
    omega arith,
    λ k ne d. elim (contains_cons x xs k d) [ inl f ↦ absurd (ne (sym f ∙ e)) | inr f ↦ f ],
  )
  | inr there ↦
      let (others, less, keep) = without xs n there in (
        x ∷ others,
        omega (arith, less),
        λ k ne d. elim (contains_cons x xs k d) [ inl f ↦ (0, omega arith, f) | inr f ↦ in_tail x others k (keep k ne f) ],
      )
]

-- How many servers are down

one-true : (b : Bool) → b ≡ true → one b ≡ 1
one-true true e = refl
one-true false e = cc

one-false : (b : Bool) → b ≡ false → one b ≡ 0
one-false true e = cc
one-false false e = refl

-- where each of n servers is in a list or down
covered : (down : ℕ → Bool) (n : ℕ) (rest : List ℕ) → ((k : ℕ) → k < n → Contains rest k ⊎ (down k ≡ true)) → n ≤ downs_below down n + length rest
covered down zero rest cover = omega arith
covered down (suc n) rest cover = elim (cover n (omega arith)) [
  | inl c ↦
      let (others, less, keep) = without rest n c in
      omega (
        arith,
        less,
        covered down n others (λ k h. elim (cover k (omega (arith, h)))
            [ inl d ↦ inl (keep k (λ e. omega (arith, e, h)) d) | inr d ↦ inr d ]),
      )
  | inr d ↦ omega (arith, one-true (down n) d, covered down n rest (λ k h. cover k (omega (arith, h))))
]

downs-more : (down : ℕ → Bool) (a b : ℕ) → a ≤ b → downs_below down a ≤ downs_below down b
downs-more down a zero h = let e : a ≡ 0 = omega (arith, h) in omega (arith, ap (downs_below down) e)
downs-more down a (suc b) h = elim (cases_lt a (suc b)) [
  | inl l ↦ omega (arith, downs-more down a b (omega (arith, l)))
  | inr g ↦ let e : a ≡ suc b = omega (arith, h, g) in omega (arith, ap (downs_below down) e)
]

downs-next : (down : ℕ → Bool) (k : ℕ) → down k ≡ true → downs_below down (k + 1) ≡ downs_below down k + 1
downs-next down k is = let e : k + 1 ≡ suc k = omega arith in omega (arith, ap (downs_below down) e, one-true (down k) is)

-- places that go up by server, all of them on servers that are down
ascending : (down : ℕ → Bool) (n low : ℕ) (ps : List Place) → low ≤ n → AscendFrom low ps → All (λ p. p.server < n) ps → All (λ p. down p.server ≡ true) ps
    → downs_below down low + length ps ≤ downs_below down n
ascending down n low [] h up near is = omega (arith, downs-more down low n h)
ascending down n low (p ∷ ps) h up near is =
    let here : down p.server ≡ true = All-head (λ p. down p.server ≡ true) p ps is in
    let below : p.server < n = All-head (λ p. p.server < n) p ps near in
    omega (
      arith,
      downs-more down low p.server up.0,
      downs-next down p.server here,
      ascending down n (p.server + 1) ps (omega (arith, below)) up.1 (All-tail (λ p. p.server < n) p ps near) (All-tail (λ p. down p.server ≡ true) p ps is),
    )

last_in : (P : ℕ → Type 0) (ps : List Place) (k : ℕ) → P k → All (λ p. P p.server) ps → P (last_of ps k)
last_in P [] k here all = here
last_in P (p ∷ ps) k here all = last_in P ps p.server (All-head (λ p. P p.server) p ps all) (All-tail (λ p. P p.server) p ps all)

last_is : (P : ℕ → Type 0) (ps : List Place) (k : ℕ) → 0 < length ps → All (λ p. P p.server) ps → P (last_of ps k)
last_is P [] k some all = absurd (omega (arith, some))
last_is P (p ∷ ps) k some all = last_in P ps p.server (All-head (λ p. P p.server) p ps all) (All-tail (λ p. P p.server) p ps all)

no_downs : (down : ℕ → Bool) → ((k : ℕ) → down k ≡ false) → (n : ℕ) → downs_below down n ≡ 0
no_downs down up zero = refl
no_downs down up (suc n) = omega (arith, one-false (down n) (up n), no_downs down up n)

-- Where no store failed

-- no store's count of faults falls, whatever is punched
abbrev pub FaultsGrow : {S : Type 0} → StoreKind S → List S → List S → Type 0
FaultsGrow {S} kind old new = (k : ℕ) (d : S) → k < length old → (kind.view (get_or old k d)).faults ≤ (kind.view (get_or new k d)).faults

pub faults_grow : {S : Type 0} {kind : StoreKind S} → KindLaws kind → {old new : List S} {ranges : List (ℕ × Range)} → EachFollows kind old new ranges
    → FaultsGrow kind old new
faults_grow laws e k d h = (each_kept laws e k d h).faults

-- the counts of faults grew, or no store's and not the keeper's did
pub rose_or_still : {S : Type 0} {kind : StoreKind S} → KindLaws kind → (old new : Stock S) → {ranges : List (ℕ × Range)}
    → EachFollows kind old.shelf new.shelf ranges → old.keeper.faults ≤ new.keeper.faults → AreCounting kind new
    → (faults_in kind old + 1 ≤ faults_in kind new) ⊎ (((k : ℕ) → HasRisen kind old.shelf new.shelf k → ⊥) × (Rose old.keeper.faults new.keeper.faults → ⊥))
rose_or_still {kind = kind} laws old new e grew low = elim (cases_lt (faults_in kind old) (faults_in kind new)) [
  | inl more ↦ inl (omega (arith, more))
  | inr less ↦
      let grows = all_faults-grows laws e in
      let least : all_faults kind new.shelf ≤ all_faults kind old.shelf = omega (arith, less, grows, grew) in
      inr (
        λ k risen.
            let d = element old.shelf k risen.0 in
            let same = sum_still (λ s. (kind.view s).faults) old.shelf new.shelf e.same_length (faults_grow laws e) least k d risen.0 in
            omega (arith, same, risen.1 d (low.0 k d (omega (arith, risen.0, e.same_length)))),
        λ rose. omega (arith, rose low.1, less, grows, grew),
      )
]

or-false : (a b : Bool) → a ≡ true → b ≡ false → (not a || b) ≡ false
or-false true b e f = f
or-false false b e f = cc

-- then no fault is one that only a store or a keeper that failed can have caused
module _ {S : Type 0} (kind : StoreKind S) (t : Span S) (none : (k : ℕ) → HasRisen kind t.before t.after k → ⊥) (settings : Settings)
    (old new : KeeperView) (steady : Rose old.faults new.faults → ⊥) where
  -- each server that is out is down
  out_down : (k : ℕ) → IsOut kind t k → t.down k ≡ true
  out_down k (inl is) = is
  out_down k (inr risen) = absurd (none k risen)

  all_down : (places : List Place) (k : ℕ) → IsLost kind t settings places k → All (λ p. t.down p.server ≡ true) places
  all_down places k lost = All-weaker (λ p. IsOut kind t p.server) (λ p. t.down p.server ≡ true) (λ p out. out_down p.server out) places lost.out

  last_down : (places : List Place) (k : ℕ) → IsLost kind t settings places k → t.down k ≡ true
  last_down places k lost =
      subst (λ (j : ℕ). t.down j ≡ true) lost.last (last_is (λ j. t.down j ≡ true) places 0 lost.some (all_down places k lost))

  no_read_of_run : (places : List Place) (k : ℕ) → length places ≡ settings.replicas → IsLost kind t settings places k
      → is_device_fault_of_run settings t.down (answer.FaultRead k) ≡ false
  no_read_of_run places k width lost =
      let many : settings.replicas ≤ downs settings t.down
      = omega (arith, width, ascending t.down settings.servers 0 places (omega arith) lost.ascend lost.known (all_down places k lost)) in
      or-false (t.down k) (nat_lt (downs settings t.down) settings.replicas) (last_down places k lost) (le-ltb (downs settings t.down) settings.replicas many)

  no_write : AreTooFew kind t settings.servers settings.replicas → is_device_fault settings t.down answer.FaultWrite ≡ false
  no_write few =
      let enough : settings.servers ≤ downs settings t.down + length few.rest
      = covered t.down settings.servers few.rest
      (λ k h. elim (few.out k h) [ inl c ↦ inl c | inr out ↦ inr (out_down k out) ]) in
      lt-leb (settings.replicas + downs settings t.down) settings.servers (omega (arith, enough, few.few))

  pub no_save : IsSaveFault kind t settings.servers old new → is_device_fault settings t.down answer.FaultSave ≡ false
  no_save (inl (k, below, out)) =
      let one_more : downs_below t.down k + 1 ≤ downs settings t.down
      = omega (arith, downs-next t.down k (out_down k out), downs-more t.down (k + 1) settings.servers (omega (arith, below))) in
      ne_eqb (downs settings t.down) 0 (λ e. omega (arith, e, one_more))
  no_save (inr rose) = absurd (steady rose)

  module _ (saving : Type 0) (based : (Slice → Bool) → Type 0) (full : Type 0) (given : Load)
      (save : saving → IsSaveFault kind t settings.servers old new) where
    -- a collection that failed while its server is up raised that one's count
    no_punch : (load : Load) (k : ℕ) → PunchFault kind t load k → not (t.down k) ≡ false
    no_punch (Frees j) k (same, out) = ap not (out_down k out)
    no_punch load k h = absurd h

    no_fault : (a : Answer) → HasCause kind t settings saving based full given a → is_device_fault settings t.down a ≡ false
    no_fault (answer.FaultRead k) cause = ap not (last_down cause.places k cause.lost)
    no_fault (answer.FaultPunch k) cause = no_punch given k cause
    no_fault answer.FaultWrite cause = no_write cause.1
    no_fault answer.FaultSave cause = no_save (save cause)
    no_fault a cause = refl

    no_fault_of_run : (a : Answer) → ((k : ℕ) → a ≡ answer.FaultRead k → IsUnread kind t settings ⊤ k)
        → HasCause kind t settings saving based full given a → is_device_fault_of_run settings t.down a ≡ false
    no_fault_of_run (answer.FaultPunch k) read cause = no_punch given k cause
    no_fault_of_run (answer.FaultRead k) read cause = let unread = read k refl in no_read_of_run unread.places k (unread.width tt) unread.lost
    no_fault_of_run answer.FaultWrite read cause = no_write cause.1
    no_fault_of_run answer.FaultSave read cause = no_save (save cause)
    no_fault_of_run a read cause = refl

-- One line

-- why a save failed, whatever the line
save_event : {S : Type 0} (kind : StoreKind S) (t : Span S) (settings : Settings) (old new : KeeperView) (e : Event)
    → SaveFault kind t settings (Rose old.faults new.faults) e → IsSaveFault kind t settings.servers old new
save_event kind t settings old new event.Save why = why
save_event kind t settings old new e why = absurd why

save_fault : {S State : Type 0} (engine : Engine S State) (t : Step S State) (line : Line) → IsSaveFailure engine t line
    → IsSaveFault engine.kind (span_of engine t) (engine.settings t.old).servers t.before.keeper t.after.keeper
save_fault engine t (Ok e) why = save_event engine.kind (span_of engine t) (engine.settings t.old) t.before.keeper t.after.keeper e why
save_fault engine t (Err bad) why = absurd why

-- a line that answers a fault that only a store or a keeper that failed can have caused raises the counts
pub raises : {S State : Type 0} (engine : Engine S State) → KindLaws engine.kind → (t : Step S State) → {ranges : List (ℕ × Range)}
    → EachFollows engine.kind t.before.shelf t.after.shelf ranges → t.before.keeper.faults ≤ t.after.keeper.faults
    → (line : Line) (a : Answer) → IsCaused engine t line a
    → AreCounting engine.kind t.after
    → is_device_fault (engine.settings t.old) (engine.down t.old) a ≡ true → faults_in engine.kind t.before + 1 ≤ faults_in engine.kind t.after
raises engine laws t e grew line a cause low fault = elim (rose_or_still laws t.before t.after e grew low) [
  | inl more ↦ more
  | inr (none, steady) ↦
      let not_one : is_device_fault (engine.settings t.old) (engine.down t.old) a ≡ false
      = no_fault engine.kind (span_of engine t) none (engine.settings t.old) t.before.keeper t.after.keeper steady (IsSaveFailure engine t line)
      (engine.based t.old) (engine.full t.old) (line_load line) (save_fault engine t line) a cause in
      absurd (cc)
]

-- where each byte that is named has as many copies as there are replicas, so had one that was not read
pub full_unread : {S State : Type 0} (engine : Engine S State) (t : Step S State) (line : Line) (a : Answer) → engine.full t.old
    → IsCaused engine t line a → (k : ℕ) → a ≡ answer.FaultRead k → IsUnread engine.kind (span_of engine t) (engine.settings t.old) ⊤ k
full_unread engine t line a full cause k is =
    let here = subst (λ (x : Answer). IsCaused engine t line x) is cause in
    record { places = here.places; lost = here.lost; width = λ _. here.width full }

-- and so does one that only such a store can have caused where a byte that was not read had as many copies as there are replicas
pub raises_of_run : {S State : Type 0} (engine : Engine S State) → KindLaws engine.kind → (t : Step S State) → {ranges : List (ℕ × Range)}
    → EachFollows engine.kind t.before.shelf t.after.shelf ranges → t.before.keeper.faults ≤ t.after.keeper.faults → (line : Line) (a : Answer)
    → ((k : ℕ) → a ≡ answer.FaultRead k → IsUnread engine.kind (span_of engine t) (engine.settings t.old) ⊤ k) → IsCaused engine t line a
    → AreCounting engine.kind t.after
    → is_device_fault_of_run (engine.settings t.old) (engine.down t.old) a ≡ true → faults_in engine.kind t.before + 1 ≤ faults_in engine.kind t.after
raises_of_run engine laws t e grew line a read cause low fault = elim (rose_or_still laws t.before t.after e grew low) [
  | inl more ↦ more
  | inr (none, steady) ↦
      let not_one : is_device_fault_of_run (engine.settings t.old) (engine.down t.old) a ≡ false
      = no_fault_of_run engine.kind (span_of engine t) none (engine.settings t.old) t.before.keeper t.after.keeper steady (IsSaveFailure engine t line)
      (engine.based t.old) (engine.full t.old) (line_load line) (save_fault engine t line) a read cause in
      absurd (cc)
]

-- Where all servers are up

-- a fault is a device's
up_fault : (settings : Settings) (down : ℕ → Bool) (a : Answer) → ((k : ℕ) → down k ≡ false) → one (is_device_fault settings down a) ≡ one (is_fault a)
up_fault settings down (answer.FaultRead k) up = ap (λ (b : Bool). one (not b)) (up k)
up_fault settings down (answer.FaultPunch k) up = ap (λ (b : Bool). one (not b)) (up k)
up_fault settings down answer.FaultWrite up =
    let fits : settings.replicas + downs settings down ≤ settings.servers = omega (arith, no_downs down up settings.servers, settings.limits) in
    one-true (is_device_fault settings down answer.FaultWrite) (le-leb (settings.replicas + downs settings down) settings.servers fits)
up_fault settings down answer.FaultSave up =
    one-true (is_device_fault settings down answer.FaultSave) (eq-eqb (downs settings down) 0 (no_downs down up settings.servers))
up_fault settings down a up = refl

pub up_faults : (settings : Settings) (down : ℕ → Bool) (lines : List Line) (answers : List Answer) → AlongDowns IsAllUp down lines answers
    → count_along (is_device_fault settings) down lines answers ≡ fault_count answers
unfolding count_by AlongBy
up_faults settings down [] [] up = refl
up_faults settings down [] (a ∷ answers) up = absurd up
up_faults settings down (e ∷ lines) [] up = absurd up
up_faults settings down (e ∷ lines) (a ∷ answers) up = omega (arith, up_fault settings down a up.0, up_faults settings (down_after down e a) lines answers up.1)
