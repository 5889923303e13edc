-- One more line with its answer, behind those that ran.
use Rattle.std.proofs.Common.{◌≡◌, ◌≢◌, ◌⊎◌, ◌≤◌, ◌+◌, ◌*◌, ℕ, Bool, true, false, List, [], ◌∷◌, ◌++◌, length, Ok, Err, inl, inr}
use Rattle.std.proofs.Common.{refl, sym, ◌∙◌, ap, subst, true≢false, arith}
use Rattle.std.specs.Prelude.{⊤}
use Rattle.std.proofs.lemmas.List.{map-append}
use Rattle.std.proofs.lemmas.List.Elements.{All-append, All-nil, All-cons}
use Rattle.wtf_base.specs.declared.settings.Settings.{Settings}
use Rattle.wtf_base.specs.declared.slice.Slice.{Slice}
use Rattle.wtf_dev.specs.Store.{StoreKind, KindLaws}
use Rattle.wtf_dev.specs.Each.{EachFollows}
use Rattle.wtf_dev.specs.Sums.{TellsAll, all_stored, all_faults}
use Rattle.wtf_replica.specs.Bytes.{byte_at}
use Rattle.wtf_replica.specs.Spans.{Span}
use Rattle.wtf_replica.specs.Outs.{HasRisen}
use Rattle.wtf_model.specs.declared.answer.Answer.{Answer}
use Rattle.wtf_model.specs.declared.answer.Answer.TheVariants as answer
use Rattle.wtf_model.specs.declared.event.Event.{Event}
use Rattle.wtf_model.specs.declared.event.Event.TheVariants as event
use Rattle.wtf_model.specs.declared.op.JobKind.{JobKind}
use Rattle.wtf_model.specs.declared.op.JobKind.TheVariants.{Compact, Spill}
use Rattle.wtf_model.specs.Machines.{Machine}
use Rattle.wtf_model.specs.Tree.{Tree, root_alone}
use Rattle.wtf_model.specs.Lines.{Line, MayLine, AlongBy, after_line, Along, machine_after}
use Rattle.wtf_model.specs.Servers.{none_down, down_after, downs_after, AlongDowns, is_device_fault, is_device_fault_of_run, count_along}
use Rattle.wtf_model.proofs.LineLaws.{state_after-push, AlongBy-lengths, AlongBy-push, count_by-none, count_by-push, Accepts-from_lines}
use Rattle.wtf_meta.specs.Contents.{Told}
use Rattle.wtf_core.specs.Telling.{stores_of}
use Rattle.wtf_core.proofs.Telling.{first_on}
use Rattle.wtf_serve.specs.Scripts.{line_of}
use Rattle.wtf_core.specs.Named.{no_slice}
use Rattle.wtf_core.specs.Outcomes.{Load, Data, RegionList, Frees, load_of_job, load_of, data_of_event, has_spilled, IsUnspilled, IsUnread, AddsBytes, HasCause}
use Rattle.wtf_gc.specs.Frees.{AreApart, ranges_len}
use Rattle.wtf_serve.specs.Answering.{IsOwnAnswer, line_data, line_load}
use Rattle.wtf_serve.specs.Punched.{punch_fault_count, collected_bytes}
use Rattle.wtf_serve.proofs.PunchLaws.{apart_joined, bytes_joined, only_on, all_on, punched_now, collected_push, punch_fault_push}
use Rattle.wtf_serve.specs.Engines.{Engine, IsAsGiven, IsAsPunched, IsAsTold, Step, span_of, IsSaveFailure, IsLineLawful, IsToldAnswer, IsAnswer}
use Rattle.wtf_serve.specs.Logs.{Log, asked, last, last_downs, IsUndamaged, is_write_fault, write_fault_count, if_okay, written_bytes}
use Rattle.wtf_serve.specs.Logs.{spill_count, IsUnspilledLog}
use Rattle.wtf_serve.specs.Openings.{Opening, StartsFrom, first}
use Rattle.wtf_serve.specs.Quiet.{HasQuietEnding}
use Rattle.wtf_serve.specs.Runs.{AreStoresStill, Ran}
use Rattle.wtf_serve.specs.Stocks.{Stock, faults_in, AreCounting, RoseBy}
use Rattle.wtf_base.proofs.Elements.{element}
use Rattle.wtf_replica.proofs.Spans.{same_lengths-stored}
use Rattle.wtf_dev.proofs.Each.{each_same, each_on}
use Rattle.wtf_dev.proofs.Sums.{all_faults-grows}
use Rattle.wtf_script.specs.declared.limits.TheConstants.{SCRIPT_BYTES}
use Rattle.wtf_serve.proofs.Growing.{stays_small}
use Rattle.wtf_serve.proofs.Picturing.{starts_on}
use Rattle.wtf_serve.proofs.Quieting.{QuietSoFar, quiet_more, collected_more}
use Rattle.wtf_serve.proofs.Rising.{one, FaultsGrow, faults_grow, full_unread, raises, raises_of_run}

-- the lines so far, and one more
abbrev pub longer : Log → List ℕ → Answer → Log
longer log line a = record { lines = log.lines ++ line ∷ []; answers = log.answers ++ a ∷ [] }

pub asked-longer : (log : Log) (line : List ℕ) (a : Answer) → asked (longer log line a) ≡ asked log ++ line_of line ∷ []
asked-longer log line a = map-append line_of log.lines (line ∷ [])

pub along_none : {S : Type 0} (next : S → Line → Answer → S) (P : S → Line → Answer → Type 0) (s : S) → AlongBy next P s [] []
unfolding AlongBy
along_none next P s = tt

module _ {S : Type 0} (kind : StoreKind S) (t : Span S) (settings : Settings) (saving : Type 0) (based : (Slice → Bool) → Type 0) (full : Type 0)
    (given : Load) where
  undamaged_of : (a : Answer) → based no_slice → HasCause kind t settings saving based full given a → IsUndamaged a
  undamaged_of (answer.Damaged k) none h = absurd (true≢false (sym (h.passes no_slice none)))
  undamaged_of a none h = tt

undamaged_by : (a : Answer) → ((k : ℕ) → a ≢ answer.Damaged k) → IsUndamaged a
undamaged_by (answer.Damaged k) other = other k refl
undamaged_by a other = tt

-- the tree that a run starts with where the keeper gave no byte
starts_alone : (told : Told) (bytes : List ℕ) → bytes ≡ [] → StartsFrom told bytes root_alone
starts_alone told [] none = refl
starts_alone told (b ∷ bytes) none = cc

write_fault_count-push : (answers : List Answer) (a : Answer) → write_fault_count (answers ++ a ∷ []) ≡ write_fault_count answers + one (is_write_fault a)
write_fault_count-push [] a = omega arith
write_fault_count-push (b ∷ answers) a = omega (arith, write_fault_count-push answers a)

written_bytes-push : (es : List Line) (answers : List Answer) (e : Line) (a : Answer) → length es ≡ length answers
    → written_bytes (es ++ e ∷ []) (answers ++ a ∷ []) ≡ written_bytes es answers + if_okay a (length (line_data e))
written_bytes-push [] [] e a same = omega arith
written_bytes-push [] (b ∷ answers) e a same = absurd (omega (arith, same))
written_bytes-push (d ∷ es) [] e a same = absurd (omega (arith, same))
written_bytes-push (d ∷ es) (b ∷ answers) e a same = omega (arith, written_bytes-push es answers e a (omega (arith, same)))

spill_count-push : (es : List Line) (answers : List Answer) (e : Line) (a : Answer) → length es ≡ length answers
    → spill_count (es ++ e ∷ []) (answers ++ a ∷ []) ≡ spill_count es answers + one (has_spilled (line_load e) a)
spill_count-push [] [] e a same = omega arith
spill_count-push [] (b ∷ answers) e a same = absurd (omega (arith, same))
spill_count-push (d ∷ es) [] e a same = absurd (omega (arith, same))
spill_count-push (d ∷ es) (b ∷ answers) e a same = omega (arith, spill_count-push es answers e a (omega (arith, same)))

is_false : (b : Bool) → one b ≡ 0 → b ≡ false
is_false true h = absurd (omega (arith, h))
is_false false h = refl

-- the bytes that a line hands in, where it hands in any
abbrev data_in : Load → List ℕ
data_in (Data bytes) = bytes
data_in RegionList = []
data_in (Frees k) = []

grown : {S : Type 0} (kind : StoreKind S) (t : Span S) → length t.after ≡ length t.before → ((k : ℕ) → HasRisen kind t.before t.after k → ⊥)
    → (settings : Settings) (given : Load) (a : Answer) → has_spilled given a ≡ false → AddsBytes kind t settings given a
    → is_write_fault a ≡ false → all_stored kind t.after ≡ all_stored kind t.before + settings.replicas * if_okay a (length (data_in given))
grown kind t same none settings (Data (b ∷ bs)) answer.Okay free adds no_fault = adds.2.total none
grown kind t same none settings (Data (b ∷ bs)) answer.FaultWrite free adds no_fault = cc
grown kind t same none settings (Data (b ∷ bs)) a free adds no_fault = omega (arith, same_lengths-stored kind t.before t.after same adds)
grown kind t same none settings (Data []) answer.FaultWrite free adds no_fault = cc
grown kind t same none settings (Data []) answer.Okay free adds no_fault = omega (arith, same_lengths-stored kind t.before t.after same adds)
grown kind t same none settings (Data []) a free adds no_fault = omega (arith, same_lengths-stored kind t.before t.after same adds)
grown kind t same none settings RegionList answer.FaultWrite free adds no_fault = cc
grown kind t same none settings RegionList answer.Planned free adds no_fault = cc
grown kind t same none settings RegionList answer.Okay free adds no_fault = omega (arith, same_lengths-stored kind t.before t.after same adds)
grown kind t same none settings RegionList a free adds no_fault = omega (arith, same_lengths-stored kind t.before t.after same adds)
grown kind t same none settings (Frees k) answer.FaultWrite free adds no_fault = cc
grown kind t same none settings (Frees k) answer.Okay free adds no_fault = omega (arith, same_lengths-stored kind t.before t.after same adds)
grown kind t same none settings (Frees k) a free adds no_fault = omega (arith, same_lengths-stored kind t.before t.after same adds)

-- A line of a job hands in no bytes; so what it is to store and what it hands in are the same number of bytes.

data_in-job : (k : JobKind) → data_in (load_of_job k) ≡ []
data_in-job Compact = refl
data_in-job Spill = refl

data_in-event : (e : Event) → data_in (load_of e) ≡ data_of_event e
data_in-event (event.Plan j kind p r) = data_in-job kind
data_in-event e = refl

data_in-line : (line : Line) → data_in (line_load line) ≡ line_data line
data_in-line (Ok e) = data_in-event e
data_in-line (Err bad) = refl

by_products : (r s t u x y z : ℕ) → t ≡ s + r * x → u ≡ t + r * y → z ≡ x + y → u ≡ s + r * z
by_products r s t u x y z early more all = more ∙ ap (λ (w : ℕ). w + r * y) early ∙ grind (arith) ∙ ap (λ (w : ℕ). s + r * w) (sym all)

-- The first part of a span in which no store failed

still_front : {S : Type 0} (kind : StoreKind S) (before now after' : List S) → length now ≡ length before → length after' ≡ length now
    → FaultsGrow kind before now → FaultsGrow kind now after' → AreStoresStill kind before after' → AreStoresStill kind before now
still_front kind before now after' front back early late still = λ k d h.
    let was = early k d (omega (arith, h, front)) in
    let is = late k d h in
    let both = still k d (omega (arith, h, back)) in
    (omega (arith, both.0, was, is), omega (arith, both.1, is))

-- and in the second no store rose
pub still_back : {S : Type 0} (kind : StoreKind S) (before now after' : List S) → length now ≡ length before → length after' ≡ length now
    → FaultsGrow kind before now → AreStoresStill kind before after' → (k : ℕ) → HasRisen kind now after' k → ⊥
still_back kind before now after' front back early still k risen =
    let d = element now k risen.0 in
    let was = early k d (omega (arith, risen.0, front)) in
    let both = still k d (omega (arith, risen.0, back)) in
    omega (arith, both.0, was, risen.1 d both.1)

-- The counts of faults over one more line

pub counting_before : {S : Type 0} (kind : StoreKind S) (now after' : Stock S) → length after'.shelf ≡ length now.shelf → FaultsGrow kind now.shelf after'.shelf
    → now.keeper.faults ≤ after'.keeper.faults → AreCounting kind after' → AreCounting kind now
counting_before kind now after' same kept grew low = (
  λ k d h. omega (arith, kept k d h, low.0 k d (omega (arith, h, same))),
  omega (arith, grew, low.1),
)

pub rose_more : {S : Type 0} (kind : StoreKind S) (before now after' : Stock S) → length after'.shelf ≡ length now.shelf
    → FaultsGrow kind now.shelf after'.shelf
    → now.keeper.faults ≤ after'.keeper.faults → faults_in kind now ≤ faults_in kind after'
    → (n : ℕ) (b : Bool) → RoseBy kind before now n
    → (AreCounting kind after' → b ≡ true → faults_in kind now + 1 ≤ faults_in kind after')
    → RoseBy kind before after' (n + one b)
rose_more {S = S} kind before now after' same kept grew grows n b rose raises = λ low.
    let early : AreCounting kind now = counting_before kind now after' same kept grew low in
    elim b as (λ (c : Bool). b ≡ c → faults_in kind before + (n + one c) ≤ faults_in kind after') [
      | true ↦ λ e. omega (arith, rose early, raises low e)
      | false ↦ λ e. omega (arith, rose early, grows)
    ] refl

count_more : (counts : (ℕ → Bool) → Answer → Bool) (log : Log) (line : List ℕ) (a : Answer) → length (asked log) ≡ length log.answers
    → count_along counts none_down (asked log) log.answers + one (counts (downs_after none_down (asked log) log.answers) a)
    ≡ count_along counts none_down (asked (longer log line a)) (log.answers ++ a ∷ [])
count_more counts log line a same =
    sym (count_by-push down_after counts none_down (asked log) log.answers (line_of line) a same)
    ∙ ap (λ (x : List Line). count_along counts none_down x (log.answers ++ a ∷ [])) (sym (asked-longer log line a))

-- no line has run
pub ran_none : {S : Type 0} (kind : StoreKind S) → KindLaws kind → (opening : Opening) (old new : Stock S) → new.shelf ≡ old.shelf
    → old.keeper.faults ≤ new.keeper.faults → Ran kind opening (record { lines = []; answers = [] }) old new
ran_none kind laws opening old new same grew =
    let faults : all_faults kind new.shelf ≡ all_faults kind old.shelf = ap (all_faults kind) same in
    record {
      accepts = λ tells t from. Accepts-from_lines (first opening t) [] [] (along_none after_line MayLine (first opening t));
      accepted = λ tells t from. along_none after_line MayLine (first opening t);
      each = along_none down_after (λ down e a. IsOwnAnswer e a) none_down;
      undamaged = λ free none. All-nil IsUndamaged;
      undamaged_told = λ tells t from none. All-nil IsUndamaged;
      undamaged_from = λ tells t from. All-nil IsUndamaged;
      faults = λ low. omega (arith, faults, grew, count_by-none down_after (is_device_fault opening.settings) none_down);
      faults_of_run = λ by empty low. omega (arith, faults, grew, count_by-none down_after (is_device_fault_of_run opening.settings) none_down);
      grew = λ free still none. omega (arith, ap (all_stored kind) same);
      punched = [];
      follows_on = subst (λ (shelf : List _). EachFollows kind old.shelf shelf []) (sym same) (each_same laws old.shelf);
      freed = λ none. (tt, refl);
    }

pub none_ran : {S : Type 0} (kind : StoreKind S) (laws : KindLaws kind) (opening : Opening) (old new : Stock S) (same : new.shelf ≡ old.shelf)
    (grew : old.keeper.faults ≤ new.keeper.faults) → (ran_none kind laws opening old new same grew).punched ≡ []
unfolding ran_none
none_ran kind laws opening old new same grew = refl

-- What a run so far gives of the state that is to answer the next line
pub record SoFar {S State : Type 0} (engine : Engine S State) (opening : Opening) (log : Log) (before now : Stock S) (state : State) : Type 0 where
  pub ran : Ran engine.kind opening log before now
  pub settings : engine.settings state ≡ opening.settings
  pub downs : engine.down state ≡ last_downs log
  pub punched : IsAsPunched engine ran.punched log.answers state
  pub given : IsAsGiven engine opening.bytes (IsUnspilledLog log) state
  pub told : TellsAll engine.kind before.shelf → IsAsTold engine opening before.shelf now.shelf state
  pub stands : TellsAll engine.kind before.shelf → (tree : Tree) → StartsFrom (byte_at engine.kind before.shelf) opening.bytes tree
      → engine.stands now.shelf state (last opening tree log)
  pub quiet : TellsAll engine.kind before.shelf → (tree : Tree) → StartsFrom (byte_at engine.kind before.shelf) opening.bytes tree
      → QuietSoFar engine opening tree log now.shelf state
  pub collected : TellsAll engine.kind before.shelf → (tree : Tree) → StartsFrom (byte_at engine.kind before.shelf) opening.bytes tree
      → (k : ℕ) → HasQuietEnding opening tree log k → engine.collected k now.shelf state

-- One more line

module _ {S State : Type 0} (engine : Engine S State) (laws : KindLaws engine.kind) (opening : Opening) (before : Stock S) (log : Log) (t : Step S State)
    (g : SoFar engine opening log before t.before t.old) (line : List ℕ) (a : Answer) (is : IsAnswer engine t (line_of line) a)
    (keeper : t.before.keeper.faults ≤ t.after.keeper.faults) (short : length log.lines ≤ SCRIPT_BYTES + 1) where
  next : EachFollows engine.kind t.before.shelf t.after.shelf is.punched.ranges
  next = is.punched.follows

  -- each line so far has its answer
  same : length (asked log) ≡ length log.answers
  same = AlongBy-lengths down_after _ none_down (asked log) log.answers g.ran.each

  was : FaultsGrow engine.kind before.shelf t.before.shelf
  was = faults_grow laws g.ran.follows_on

  kept : FaultsGrow engine.kind t.before.shelf t.after.shelf
  kept = faults_grow laws next

  pub lawful_more : TellsAll engine.kind before.shelf → (tree : Tree) → StartsFrom (byte_at engine.kind before.shelf) opening.bytes tree
      → IsLineLawful engine t (last opening tree log) (line_of line) a
  lawful_more tells tree from = is.lawful ((g.told tells).tells tree from) (last opening tree log)
      (stays_small opening (byte_at engine.kind before.shelf) tree log from short) (g.stands tells tree from)

  along : (P : Machine → Line → Answer → Type 0) (m : Machine) → Along P m (asked log) log.answers
      → P (machine_after m (asked log) log.answers) (line_of line) a
      → Along P m (asked (longer log line a)) (log.answers ++ a ∷ [])
  along P m early here = subst (λ (x : List Line). Along P m x (log.answers ++ a ∷ [])) (sym (asked-longer log line a))
      (AlongBy-push after_line P m (asked log) log.answers (line_of line) a early here)

  rose : (counts : Settings → (ℕ → Bool) → Answer → Bool)
      → (AreCounting engine.kind t.after
      → counts (engine.settings t.old) (engine.down t.old) a ≡ true → faults_in engine.kind t.before + 1 ≤ faults_in engine.kind t.after)
      → RoseBy engine.kind before t.before (count_along (counts opening.settings) none_down (asked log) log.answers)
      → RoseBy engine.kind before t.after (count_along (counts opening.settings) none_down (asked (longer log line a)) (log.answers ++ a ∷ []))
  rose counts raised early =
      let here : counts (engine.settings t.old) (engine.down t.old) a ≡ counts opening.settings (last_downs log) a
      = ap (λ (s : Settings). counts s (engine.down t.old) a) g.settings ∙ ap (λ (d : ℕ → Bool). counts opening.settings d a) g.downs in
      let grows : faults_in engine.kind t.before ≤ faults_in engine.kind t.after = omega (arith, all_faults-grows laws next, keeper) in
      subst (λ (n : ℕ). RoseBy engine.kind before t.after n) (count_more (counts opening.settings) log line a same)
      (rose_more engine.kind before t.before t.after next.same_length kept keeper grows
      (count_along (counts opening.settings) none_down (asked log) log.answers) (counts opening.settings (last_downs log) a) early
      (λ low fault. raised low (here ∙ fault)))

  adds : AddsBytes engine.kind (span_of engine t) opening.settings (line_load (line_of line)) a
  adds = subst (λ (s : Settings). AddsBytes engine.kind (span_of engine t) s (line_load (line_of line)) a)
      g.settings is.stored

  -- where no region was spilled with it, none was before, and none is in it

  both_free : IsUnspilledLog (longer log line a) → spill_count (asked log) log.answers + one (has_spilled (line_load (line_of line)) a) ≡ 0
  both_free free =
      sym (spill_count-push (asked log) log.answers (line_of line) a same)
      ∙ ap (λ (x : List Line). spill_count x (log.answers ++ a ∷ [])) (sym (asked-longer log line a)) ∙ free

  free_before : IsUnspilledLog (longer log line a) → IsUnspilledLog log
  free_before free = omega (arith, both_free free)

  free_here : IsUnspilledLog (longer log line a) → IsUnspilled (line_load (line_of line)) a
  free_here free = is_false (has_spilled (line_load (line_of line)) a) (omega (arith, both_free free))

  -- what the state behind it has of the bytes that the keeper gave
  given_more : IsAsGiven engine opening.bytes (IsUnspilledLog (longer log line a)) t.new
  given_more = record {
    full = λ free empty. is.goes_on.full (free_here free) (g.given.full (free_before free) empty);
    bare = λ free none. is.goes_on.bare (free_here free) (g.given.bare (free_before free) none);
  }

  -- the same over stores that tell their content

  told_here : TellsAll engine.kind before.shelf → (tree : Tree) → StartsFrom (byte_at engine.kind before.shelf) opening.bytes tree
      → IsToldAnswer engine t (line_of line) a
  told_here tells tree from = is.told ((g.told tells).tells tree from) (last opening tree log) (g.stands tells tree from)

  told_alone : TellsAll engine.kind before.shelf → opening.bytes ≡ [] → IsToldAnswer engine t (line_of line) a
  told_alone tells empty = told_here tells root_alone (starts_alone (byte_at engine.kind before.shelf) opening.bytes empty)

  -- from the tree that the stores of the settings' servers tell
  told_from : TellsAll engine.kind before.shelf → (tree : Tree)
      → StartsFrom (byte_at engine.kind (stores_of opening.settings before.shelf)) opening.bytes tree → IsToldAnswer engine t (line_of line) a
  told_from tells tree from = told_here tells tree
      (starts_on (byte_at engine.kind (stores_of opening.settings before.shelf)) (byte_at engine.kind before.shelf) opening.bytes tree
      (first_on laws before.shelf opening.settings) from)

  told_more : TellsAll engine.kind before.shelf → IsAsTold engine opening before.shelf t.after.shelf t.new
  told_more tells = record {
    tells = λ tree from. (told_here tells tree from).next;
    wide = λ empty. (told_alone tells empty).wide ((g.told tells).wide empty);
    within = λ tree from none. (told_here tells tree from).within ((g.told tells).within tree from none);
    within_from = λ tree from. (told_from tells tree from).within ((g.told tells).within_from tree from);
  }

  -- either way a byte that was not read had as many copies as there are replicas

  either_before : IsUnspilledLog (longer log line a) ⊎ TellsAll engine.kind before.shelf → IsUnspilledLog log ⊎ TellsAll engine.kind before.shelf
  either_before (inl free) = inl (free_before free)
  either_before (inr tells) = inr tells

  unread_here : IsUnspilledLog (longer log line a) ⊎ TellsAll engine.kind before.shelf → opening.bytes ≡ []
      → (k : ℕ) → a ≡ answer.FaultRead k → IsUnread engine.kind (span_of engine t) (engine.settings t.old) ⊤ k
  unread_here (inl free) empty = full_unread engine t (line_of line) a (g.given.full (free_before free) empty) is.caused
  unread_here (inr tells) empty = (told_alone tells empty).unread ((g.told tells).wide empty)

  grew : IsUnspilledLog (longer log line a) → AreStoresStill engine.kind before.shelf t.after.shelf → write_fault_count (log.answers ++ a ∷ []) ≡ 0
      → all_stored engine.kind t.after.shelf ≡ all_stored engine.kind before.shelf + opening.settings.replicas * written_bytes (asked (longer log line a))
      (log.answers ++ a ∷ [])
  grew free still none =
      let both = write_fault_count-push log.answers a in
      let there = is_false (is_write_fault a) (omega (arith, none, both)) in
      let more : all_stored engine.kind t.after.shelf ≡ all_stored engine.kind t.before.shelf + opening.settings.replicas * if_okay a
      (length (line_data (line_of line)))
      = grown engine.kind (span_of engine t) next.same_length
      (still_back engine.kind before.shelf t.before.shelf t.after.shelf g.ran.follows_on.same_length next.same_length was still)
      opening.settings (line_load (line_of line)) a (free_here free) adds there
      ∙ ap (λ (x : List ℕ). all_stored engine.kind t.before.shelf + opening.settings.replicas * if_okay a (length x)) (data_in-line (line_of line)) in
      let bytes : written_bytes (asked (longer log line a)) (log.answers ++ a ∷ []) ≡ written_bytes (asked log) log.answers + if_okay a
      (length (line_data (line_of line)))
      = ap (λ (x : List Line). written_bytes x (log.answers ++ a ∷ [])) (asked-longer log line a)
      ∙ written_bytes-push (asked log) log.answers (line_of line) a same in
      let early = still_front engine.kind before.shelf t.before.shelf t.after.shelf g.ran.follows_on.same_length next.same_length was kept still in
      let earlier = g.ran.grew (free_before free) early (omega (arith, none, both)) in
      by_products opening.settings.replicas (all_stored engine.kind before.shelf) (all_stored engine.kind t.before.shelf) (all_stored engine.kind t.after.shelf)
      (written_bytes (asked log) log.answers) (if_okay a (length (line_data (line_of line))))
      (written_bytes (asked (longer log line a)) (log.answers ++ a ∷ [])) earlier more bytes

  -- what was punched so far and with the line, where no collection failed
  none_before : punch_fault_count (log.answers ++ a ∷ []) ≡ 0 → punch_fault_count log.answers ≡ 0
  none_before none = let both = punch_fault_push log.answers a in omega (arith, none, both)

  freed_more : punch_fault_count (log.answers ++ a ∷ []) ≡ 0
      → AreApart (g.ran.punched ++ is.punched.ranges) × (ranges_len (g.ran.punched ++ is.punched.ranges) ≡ collected_bytes (log.answers ++ a ∷ []))
  freed_more none =
      let was = g.ran.freed (none_before none) in
      let here = punched_now (engine.freed t.old) (line_of line) a is.punched.ranges is.punched.are in (
        apart_joined g.ran.punched is.punched.ranges was.0 here.0
            (λ p in_old in_new. let there = g.punched.all (none_before none) p in_old in let fresh = here.1 p in_new in true≢false (sym there ∙ fresh)),
        bytes_joined g.ran.punched is.punched.ranges ∙ ap (λ (n : ℕ). n + ranges_len is.punched.ranges) was.1
            ∙ ap (λ (n : ℕ). collected_bytes log.answers + n) (here.2 (let both = punch_fault_push log.answers a in omega (arith, none, both)))
            ∙ sym (collected_push log.answers a),
      )

  punched_more : IsAsPunched engine (g.ran.punched ++ is.punched.ranges) (log.answers ++ a ∷ []) t.new
  punched_more = record {
    only = only_on (engine.freed t.old) (engine.freed t.new) a g.ran.punched is.punched.ranges is.punched.counts g.punched.only;
    all = λ none. all_on (engine.freed t.old) (engine.freed t.new) a g.ran.punched is.punched.ranges
        (let both = punch_fault_push log.answers a in omega (arith, none, both)) is.punched.counts (g.punched.all (none_before none));
  }

  ran_more : Ran engine.kind opening (longer log line a) before t.after
  ran_more =
      let accepted : TellsAll engine.kind before.shelf → (tree : Tree) → StartsFrom (byte_at engine.kind before.shelf) opening.bytes tree
      → Along MayLine (first opening tree) (asked (longer log line a)) (log.answers ++ a ∷ [])
      = λ tells tree from. along MayLine (first opening tree) (g.ran.accepted tells tree from) (lawful_more tells tree from).may in
      record {
        accepts = λ tells tree from. Accepts-from_lines (first opening tree) (asked (longer log line a)) (log.answers ++ a ∷ []) (accepted tells tree from);
        accepted = accepted;
        each = subst (λ (x : List Line). AlongDowns (λ down e b. IsOwnAnswer e b) none_down x (log.answers ++ a ∷ [])) (sym (asked-longer log line a))
            (AlongBy-push down_after (λ down e b. IsOwnAnswer e b) none_down (asked log) log.answers (line_of line) a g.ran.each is.goes_on.own);
        undamaged = λ free none. All-append IsUndamaged log.answers (a ∷ []) (g.ran.undamaged (free_before free) none)
            (All-cons IsUndamaged a [] (undamaged_of engine.kind (span_of engine t) (engine.settings t.old) (IsSaveFailure engine t (line_of line))
            (engine.based t.old) (engine.full t.old) (line_load (line_of line)) a
            (g.given.bare (free_before free) none) is.caused) (All-nil IsUndamaged));
        undamaged_told = λ tells tree from none. All-append IsUndamaged log.answers (a ∷ []) (g.ran.undamaged_told tells tree from none)
            (All-cons IsUndamaged a [] (undamaged_by a ((told_here tells tree from).undamaged ((g.told tells).within tree from none))) (All-nil IsUndamaged));
        undamaged_from = λ tells tree from. All-append IsUndamaged log.answers (a ∷ []) (g.ran.undamaged_from tells tree from)
            (All-cons IsUndamaged a [] (undamaged_by a ((told_from tells tree from).undamaged ((g.told tells).within_from tree from))) (All-nil IsUndamaged));
        faults = rose is_device_fault (raises engine laws t next keeper (line_of line) a is.caused) g.ran.faults;
        faults_of_run = λ by empty. rose is_device_fault_of_run
            (raises_of_run engine laws t next keeper (line_of line) a (unread_here by empty) is.caused) (g.ran.faults_of_run (either_before by) empty);
        grew = grew;
        punched = g.ran.punched ++ is.punched.ranges;
        follows_on = each_on laws g.ran.follows_on next;
        freed = freed_more;
      }

  -- the machine behind it
  pub last_more : (tree : Tree) → after_line (last opening tree log) (line_of line) a ≡ last opening tree (longer log line a)
  last_more tree =
      sym (state_after-push after_line (first opening tree) (asked log) log.answers (line_of line) a same)
      ∙ ap (λ (x : List Line). machine_after (first opening tree) x (log.answers ++ a ∷ [])) (sym (asked-longer log line a))

  -- what the state stands for, and which servers are down, behind it
  stands_more : TellsAll engine.kind before.shelf → (tree : Tree) → StartsFrom (byte_at engine.kind before.shelf) opening.bytes tree
      → engine.stands t.after.shelf t.new (last opening tree (longer log line a))
  stands_more tells tree from = subst (λ (m : Machine). engine.stands t.after.shelf t.new m) (last_more tree) (lawful_more tells tree from).stands

  downs_more : engine.down t.new ≡ last_downs (longer log line a)
  downs_more =
      is.goes_on.down ∙ ap (λ (d : ℕ → Bool). down_after d (line_of line) a) g.downs
      ∙ sym (state_after-push down_after none_down (asked log) log.answers (line_of line) a same)
      ∙ ap (λ (x : List Line). downs_after none_down x (log.answers ++ a ∷ [])) (sym (asked-longer log line a))

  pub so_far_more : SoFar engine opening (longer log line a) before t.after t.new
  unfolding ran_more
  so_far_more = record {
    ran = ran_more;
    settings = is.goes_on.settings ∙ g.settings;
    downs = downs_more;
    punched = punched_more;
    given = given_more;
    told = told_more;
    stands = stands_more;
    quiet = λ tells tree from. quiet_more engine opening tree log (longer log line a) t (line_of line) a (asked-longer log line a) refl
        (lawful_more tells tree from) (told_here tells tree from) (g.quiet tells tree from);
    collected = λ tells tree from. collected_more engine opening tree log (longer log line a) t (line_of line) a (asked-longer log line a) refl
        (lawful_more tells tree from) (told_here tells tree from) (g.quiet tells tree from) (g.collected tells tree from);
  }
