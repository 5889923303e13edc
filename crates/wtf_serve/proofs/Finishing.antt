-- How a run ends, without a further line or with one that is not written.
use Rattle.std.proofs.Common.{◌≡◌, ◌≢◌, ◌↔◌, ◌⊎◌, ◌<◌, ◌≤◌, ◌^◌, ℕ, Bool, true, false, List, [], ◌∷◌, ◌++◌, length, Option, Some, None, Result, Ok}
use Rattle.std.proofs.Common.{Err, refl, sym, ◌∙◌, ap, subst, arith, append_assoc, inl, inr, true≢false}
use Rattle.std.proofs.lemmas.List.{length-append}
use Rattle.wtf_base.specs.declared.settings.Settings.{Settings}
use Rattle.wtf_base.specs.Places.{Place}
use Rattle.wtf_dev.specs.Counts.{Rose}
use Rattle.wtf_dev.proofs.Keeping.{rose_in}
use Rattle.wtf_dev.specs.Streams.{SinkView}
use Rattle.wtf_dev.specs.Each.{EachFollows}
use Rattle.wtf_dev.specs.Store.{Range, KindLaws}
use Rattle.wtf_dev.specs.Sums.{TellsAll}
use Rattle.wtf_dev.proofs.Each.{each_same, each_on}
use Rattle.wtf_replica.specs.Bytes.{byte_at}
use Rattle.wtf_replica.specs.Outs.{SameLengths}
use Rattle.wtf_replica.specs.Spans.{span}
use Rattle.wtf_model.specs.declared.answer.Answer.{Answer}
use Rattle.wtf_model.specs.declared.answer.Answer.TheVariants as answer
use Rattle.wtf_model.specs.declared.event.Event.TheVariants as event
use Rattle.wtf_model.specs.Machines.{Machine}
use Rattle.wtf_model.specs.Tree.{Tree}
use Rattle.wtf_model.specs.Lines.{Line, after_line}
use Rattle.wtf_model.specs.Servers.{none_down, is_device_fault, is_device_fault_of_run, count_along}
use Rattle.wtf_meta.specs.Contents.{Told}
use Rattle.wtf_replay.proofs.Later.{tells_on}
use Rattle.wtf_image.specs.Rules.{size_in}
use Rattle.wtf_core.specs.Pictured.{HoldsTree}
use Rattle.wtf_core.specs.Telling.{stores_of}
use Rattle.wtf_core.proofs.FirstStores.{first_later}
use Rattle.wtf_core.proofs.Telling.{first_on}
use Rattle.wtf_script.specs.declared.limits.TheConstants.{SCRIPT_BYTES}
use Rattle.wtf_serve.specs.declared.service.Stop.{Stop}
use Rattle.wtf_serve.specs.declared.service.Stop.TheVariants as stop
use Rattle.wtf_serve.specs.Beginnings.{Closes, Ends}
use Rattle.wtf_serve.specs.Endings.{Devices, IsServedStatus, IsEarlyStatus, stop_status, IsNextLine, IsOfCollect, IsLeft, IsNext, Served}
use Rattle.wtf_serve.specs.Engines.{Engine, Step, step, IsLineLawful, IsAnswer}
use Rattle.wtf_serve.specs.Logs.{Log, asked, last, last_downs, output}
use Rattle.wtf_serve.specs.Openings.{Opening, StartsFrom}
use Rattle.wtf_serve.specs.Passes.{Hand, step_of, IsLeftOut, PassIs}
use Rattle.wtf_serve.specs.Punched.{ArePunchedIn}
use Rattle.wtf_serve.specs.Quiet.{HasQuietEnding, AreUsed}
use Rattle.wtf_serve.specs.Scripts.{line_of, IsEndStatus, IsWholeStatus, end_status}
use Rattle.wtf_serve.specs.Stocks.{Stock, IsSaveFault, IsTelling, HoldsOneOf, HoldsStart, HoldsJust, KeeperGoesOn, KeeperStays}
use Rattle.wtf_serve.specs.Turns.{IsLeftAlone}
use Rattle.wtf_serve.specs.Traces.{HasRead}
use Rattle.wtf_serve.proofs.Closing.{closing_rose, still_count, still_save, still_status}
use Rattle.wtf_serve.proofs.Going.{Going, given_then, counted_then, room_now, short_now, small_now}
use Rattle.wtf_serve.proofs.Leaving.{KeepsWithin, left_saved, left_failed, left_early, left_short, left_out}
use Rattle.wtf_serve.proofs.Picturing.{holds_on, starts_on, start_on, next_saved, next_kept, next_out}
use Rattle.wtf_serve.proofs.PunchLaws.{only_still}
use Rattle.wtf_serve.proofs.RanLaws.{longer, lawful_more, last_more, so_far_more}
use Rattle.wtf_serve.proofs.Rising.{up_faults}
use Rattle.wtf_serve.proofs.Telling.{told_more, told_front, told_end, told_held, told_fault, told_much, told_short, told_other, short_end}

ends_as : (bad : Bool) → IsEndStatus (end_status bad)
ends_as true = inr refl
ends_as false = inl refl

pub never : (n m : ℕ) → (n ≡ m → ⊥) → (k : ℕ) → k ≤ SCRIPT_BYTES → (n ≡ m) ↔ (SCRIPT_BYTES < k)
never n m differ k few = ((λ e. absurd (differ e)), (λ h. absurd (omega (arith, few, h))))

-- what a line punched that is the next one of the script
of_collect : (freed : Place → Bool) (script : Option (List ℕ)) (lines : List (List ℕ)) (line : List ℕ) → IsNextLine script lines line → (asked : Line)
    → line_of line ≡ asked → (a : Answer) (ranges : List (ℕ × Range)) → ArePunchedIn freed asked a ranges
    → (ranges ≡ []) ⊎ IsOfCollect script lines ranges
of_collect freed script lines line next (Ok (event.Collect k)) asks (answer.Collected n) ranges h =
    inr (record { line = line; next = next; server = k; asks = asks; apart = h.0.apart; there = λ p here. (h.0.fresh p here).0 })
of_collect freed script lines line next (Ok (event.Collect k)) asks (answer.FaultPunch j) ranges h =
    inr (record { line = line; next = next; server = k; asks = asks; apart = h.apart; there = λ p here. (h.fresh p here).0 })
of_collect freed script lines line next asked asks a ranges h = inl h.0

-- with another status there were stores enough
pub enough : (status n servers : ℕ) → status ≢ 2 → servers ≤ n → (status ≡ 2) ↔ (n < servers)
enough status n servers not_2 many = ((λ e. absurd (not_2 e)), (λ h. absurd (omega (arith, many, h))))

-- what the end of a run makes of its sink: no byte is added to what it took, and it failed with status 4 alone
record SinkEnds (status : ℕ) (old new : SinkView) : Type 0 where
  taken : (bytes : List ℕ) → old.taken ≡ Some bytes → new.taken ≡ Some bytes
  still : status ≢ 4 → new.faults ≡ old.faults
  rose : status ≡ 4 → Rose old.faults new.faults
  rises : old.faults ≤ new.faults

-- with another status it may be the same
sink_same : (status : ℕ) (old new : SinkView) → status ≢ 4 → new ≡ old → SinkEnds status old new
sink_same status old new not_4 same =
    let steady : new.faults ≡ old.faults = ap (λ (s : SinkView). s.faults) same in
    record {
      taken = λ bytes e. ap (λ (s : SinkView). s.taken) same ∙ e;
      still = λ _. steady;
      rose = λ e. absurd (not_4 e);
      rises = omega (arith, steady);
    }

-- The end of a run so far
module _ {S State : Type 0} (engine : Engine S State) (laws : KindLaws engine.kind) (keeps : KeepsWithin engine) (handed : List (List ℕ) → Type 0)
    (opening : Opening) (start : Devices S) (now next : Hand S State) (bad : Bool) (g : Going engine opening start now bad) where
  -- a shelf's bytes, and those of the stores of the settings' servers by themselves
  abbrev all_told : List S → Told
  all_told shelf = byte_at engine.kind shelf

  abbrev first_told : List S → Told
  first_told shelf = byte_at engine.kind (stores_of opening.settings shelf)

  -- the run starts from a tree that stands over the latter
  abbrev StartsWithin : Tree → Type 0
  StartsWithin t = StartsFrom (first_told start.stock.shelf) opening.bytes t

  -- so that stands over all stores
  starts_wide : (t : Tree) → StartsWithin t → StartsFrom (all_told start.stock.shelf) opening.bytes t
  starts_wide t from = starts_on (first_told start.stock.shelf) (all_told start.stock.shelf) opening.bytes t
      (first_on laws start.stock.shelf opening.settings) from

  -- what the premises of the last part give of what was left on the keeper, and of the bytes that a quiet ending has left
  abbrev Leaves : (status : ℕ) (final : Stock S) → Type 0
  Leaves status final = TellsAll engine.kind start.stock.shelf → IsTelling start.stock.keeper opening.bytes → opening.number ≤ 2 ^ 61 → opening.next_tx ≤ 2 ^ 61
      → (t : Tree) → StartsFrom (all_told start.stock.shelf) opening.bytes t → (bytes : List ℕ) → final.keeper.held ≡ Some bytes
      → IsLeft (all_told final.shelf) (last opening t g.log) start.source.rest g.log.lines status bytes
      × IsNext (size_in engine.kind final.shelf) opening (last opening t g.log) g.log.lines status bytes
      × (IsEndStatus status → (k : ℕ) → HasQuietEnding opening t g.log k
      → AreUsed (all_told final.shelf) (size_in engine.kind final.shelf) g.so_far.ran.punched bytes k)
      × (StartsWithin t → IsLeft (first_told final.shelf) (last opening t g.log) start.source.rest g.log.lines status bytes)

  -- what the keeper holds that stands over all stores stands over the latter
  within_now : TellsAll engine.kind start.stock.shelf → IsTelling start.stock.keeper opening.bytes → (t : Tree) → StartsWithin t → (may : List Tree)
      → HoldsOneOf engine.kind now.stock may → HoldsTree now.stock.keeper (first_told now.stock.shelf) may
  within_now tells telling t from may held =
      subst (λ (s : Settings). HoldsTree now.stock.keeper (byte_at engine.kind (stores_of s now.stock.shelf)) may) g.so_far.settings
      (keeps now.stock now.state (last opening t g.log) may g.sound (g.so_far.stands tells t (starts_wide t from)) ((g.so_far.told tells).within_from t from)
      (g.kept telling) held)

  -- and so it does behind a line that was answered
  within_then : (final : Stock S) (state' : State) (line : Line) (a : Answer) → IsAnswer engine (step now.stock final now.state state') line a
      → TellsAll engine.kind start.stock.shelf → IsTelling start.stock.keeper opening.bytes → (t : Tree) → StartsWithin t → (may : List Tree)
      → HoldsOneOf engine.kind final may → HoldsTree final.keeper (first_told final.shelf) may
  within_then final state' line a is tells telling t from may held =
      let named = (g.so_far.told tells).tells t (starts_wide t from) in
      let m = last opening t g.log in
      let stands = g.so_far.stands tells t (starts_wide t from) in
      subst (λ (s : Settings). HoldsTree final.keeper (byte_at engine.kind (stores_of s final.shelf)) may) (is.goes_on.settings ∙ g.so_far.settings)
      (keeps final state' (after_line m line a) may is.goes_on.sound
      (is.lawful named m (small_now engine laws opening start now next bad g (all_told start.stock.shelf) t (starts_wide t from)) stands).stands
      ((is.told named m stands).within ((g.so_far.told tells).within_from t from)) (is.goes_on.kept (g.keeper.tells ∙ telling.tells) (g.kept telling)) held)

  -- it is served, with these lines, and this stock when the last of them was answered
  abbrev ServedBy : Log → Stock S → ℕ → Devices S → Type 0
  ServedBy log mid status new = (served : Served engine.kind handed opening status start new) × (served.log ≡ log) × (served.mid ≡ mid)

  -- the run ends without a further line
  finish : (status : ℕ) (sink' : SinkView) (final : Stock S) (result : Result (Option Bool) Stop) → PassIs engine now next result
      → (rest : List (ℕ × Range)) → (status ≢ 7 → rest ≡ []) → (rest ≡ []) ⊎ IsOfCollect start.source.rest g.log.lines rest
      → EachFollows engine.kind now.stock.shelf final.shelf rest
      → KeeperGoesOn now.stock.keeper final.keeper → (IsEarlyStatus status → now.stock ≡ final)
      → (IsWholeStatus status → SameLengths engine.kind now.stock.shelf final.shelf)
      → ((script : List ℕ) → start.source.rest ≡ Some script → HasRead script next.input.source.rest status g.log.lines)
      → SinkEnds status now.sink sink' → status ≢ 2
      → (status ≡ 9) ↔ (SCRIPT_BYTES < next.input.held.count) → IsServedStatus status → (IsEndStatus status → status ≡ end_status bad)
      → (status ≡ 3 → Rose now.input.source.faults next.input.source.faults)
      → (status ≡ 5 → IsSaveFault engine.kind (span (last_downs g.log) now.stock.shelf final.shelf) opening.settings.servers now.stock.keeper final.keeper)
      → Leaves status final
      → Served engine.kind handed opening status start (record { source = next.input.source; sink = sink'; stock = final })
  finish status sink' final result pass rest none by_line follows keeper at_end adds read sink_ends not_2 limit statuses ends cause why left =
      let sink_rose : status ≡ 4 → Rose start.sink.faults sink'.faults
      = λ is. rose_in start.sink.faults now.sink.faults sink'.faults sink'.faults (omega (arith, g.sink_still)) (sink_ends.rose is) (omega arith) in
      let rose : status ≡ 3 → Rose start.source.faults next.input.source.faults
      = λ is. rose_in start.source.faults now.input.source.faults next.input.source.faults next.input.source.faults g.source_faults (cause is) (omega arith) in
      record {
        log = g.log;
        started = true;
        taken = next.input.held.count;
        mid = now.stock;
        ran = g.so_far.ran;
        rest = rest;
        rest_none = none;
        rest_line = by_line;
        rest_follows = follows;
        at_end = at_end;
        rest_adds = adds;
        unstarted = λ e. absurd (cc);
        sound = λ _. g.taken;
        read = read;
        wrote = λ text e. record {
          whole = λ _ _. sink_ends.taken (text ++ output opening g.log.answers) (g.wrote text e);
          cut = λ _ _. inr (sink_ends.taken (text ++ output opening g.log.answers) (g.wrote text e));
          cut_first = λ is. absurd (cc);
          nothing = λ is. absurd (cc);
        };
        given = given_then engine laws opening start now next bad g pass.drawn;
        limit = limit;
        counted = counted_then engine laws opening start now next bad g pass.drawn;
        statuses = statuses;
        ended = λ h. ends h ∙ ap end_status (sym g.bad_is);
        few_stores = enough status (length start.stock.shelf) opening.settings.servers not_2 g.enough;
        unread = λ is. absurd (not_2 is);
        source_cause = rose;
        sink_cause = sink_rose;
        save_cause = why;
        source_faults = omega (arith, g.source_faults, pass.drawn.faults);
        sink_faults = omega (arith, g.sink_still, sink_ends.rises);
        sink_still = λ other. sink_ends.still other ∙ g.sink_still;
        faults = closing_rose laws opening.settings status (last_downs g.log) start.stock now.stock final
            (count_along (is_device_fault opening.settings) none_down (asked g.log) g.log.answers) follows keeper why g.so_far.ran.faults;
        faults_of_run = λ by empty. closing_rose laws opening.settings status (last_downs g.log) start.stock now.stock final
            (count_along (is_device_fault_of_run opening.settings) none_down (asked g.log) g.log.answers) follows keeper why
            (g.so_far.ran.faults_of_run by empty);
        follows_on = each_on laws g.so_far.ran.follows_on follows;
        complete = λ many still up end. (
          sym (up_faults opening.settings none_down (asked g.log) g.log.answers up)
              ∙ still_count laws start (record { source = next.input.source; sink = sink'; stock = final }) now.stock
              (count_along (is_device_fault opening.settings) none_down (asked g.log) g.log.answers) g.so_far.ran.faults
              g.so_far.ran.follows_on follows keeper still,
          still_status status start.source.faults next.input.source.faults start.sink.faults sink'.faults statuses not_2 rose sink_rose
              (λ is. still_save laws start (record { source = next.input.source; sink = sink'; stock = final }) now.stock
              (last_downs g.log) opening.settings.servers
              g.so_far.ran.follows_on follows g.keeper still end (why is)) still.source_is still.sink_is,
        );
        left = λ _ tells telling number next_tx t from bytes held. (left tells telling number next_tx t from bytes held).0;
        left_within = λ _ tells telling number next_tx t from bytes held. (left tells telling number next_tx t (starts_wide t from) bytes held).3 from;
        next = λ _ tells telling number next_tx t from bytes held. (left tells telling number next_tx t from bytes held).1;
        quiet = λ k end tells telling number next_tx t from bytes held. (left tells telling number next_tx t from bytes held).2 end k;
      }

  -- for want of memory, where no line was answered
  short_left : (final : Stock S) → EachFollows engine.kind now.stock.shelf final.shelf [] → KeeperStays now.stock.keeper final.keeper → Leaves 7 final
  short_left final follows same = λ tells telling number next_tx tree from bytes held.
      let m = last opening tree g.log in
      let holds = g.saved tells telling number next_tx tree from in (
        left_short (all_told final.shelf) m start.source.rest g.log.lines final.keeper bytes held
            (holds_on (all_told now.stock.shelf) (all_told final.shelf) (tells_on laws follows) now.stock.keeper final.keeper m.may_be_saved same.held holds),
        next_kept engine.kind opening m g.log.lines final bytes held (engine.number now.state) (engine.next_tx now.state) 7
            (λ e. omega (arith, e)) (g.number_is tells tree from) g.begun
            (start_on laws now.stock final opening.settings (engine.number now.state) (engine.next_tx now.state) follows same.held
            (g.start_holds tells telling number next_tx tree from)),
        λ end. absurd (omega (arith, end)),
        λ within. left_short (first_told final.shelf) m start.source.rest g.log.lines final.keeper bytes held
            (holds_on (first_told now.stock.shelf) (first_told final.shelf) (first_later laws opening.settings follows) now.stock.keeper final.keeper
            m.may_be_saved same.held (within_now tells telling tree within m.may_be_saved holds)),
      )

  -- ---- the closing save, where a pass came to the end of the script

  -- once what the sink held back is out
  module _ (sink' : SinkView) (final : Stock S) (state' : State) (came : PassIs engine now next (Ok None))
      (follows : EachFollows engine.kind now.stock.shelf final.shelf []) (keeper : KeeperGoesOn now.stock.keeper final.keeper)
      (taken : (bytes : List ℕ) → next.sink.taken ≡ Some bytes → sink'.taken ≡ Some bytes) (steady : sink'.faults ≡ next.sink.faults) where
    sink_out : (status : ℕ) → status ≢ 4 → SinkEnds status now.sink sink'
    sink_out status not_4 =
        let quiet = came.came.1.sink in
        let same : sink'.faults ≡ now.sink.faults = steady ∙ ap (λ (s : SinkView). s.faults) quiet in
        record {
          taken = λ bytes e. taken bytes (ap (λ (s : SinkView). s.taken) quiet ∙ e);
          still = λ _. same;
          rose = λ e. absurd (not_4 e);
          rises = omega (arith, same);
        }

    read_whole : (status : ℕ) → IsWholeStatus status → (script : List ℕ) → start.source.rest ≡ Some script
        → HasRead script next.input.source.rest status g.log.lines
    read_whole status whole script e = told_end script now.input.source.rest next.input.source.rest now.input.held next.input.held g.log.lines
        (g.read script e) came.came.0 status whole

    abbrev t : Step S State
    t = step now.stock final now.state state'

    lawful : (a : _) → IsAnswer engine t (Ok event.Save) a → TellsAll engine.kind start.stock.shelf → (tree : Tree)
        → StartsFrom (byte_at engine.kind start.stock.shelf) opening.bytes tree → IsLineLawful engine t (last opening tree g.log) (Ok event.Save) a
    lawful a is tells tree from =
        is.lawful ((g.so_far.told tells).tells tree from) (last opening tree g.log)
        (small_now engine laws opening start now next bad g (all_told start.stock.shelf) tree from) (g.so_far.stands tells tree from)

    finish_saved : (status n : ℕ) → status ≡ end_status bad → IsEndStatus status → IsAnswer engine t (Ok event.Save) (answer.Saved n)
        → Served engine.kind handed opening status start (record { source = next.input.source; sink = sink'; stock = final })
    finish_saved status n is_end ends is =
        finish status sink' final (Ok None) came [] (λ _. refl) (inl refl) follows keeper
        (λ early. absurd (omega (arith, early, ends))) (λ _. is.stored) (read_whole status (inl ends))
        (sink_out status (λ e. omega (arith, e, ends))) (λ e. omega (arith, e, ends))
        (never status 9 (λ e. omega (arith, e, ends)) next.input.held.count (came.limit (λ e. cc))) (inl (inl ends)) (λ _. is_end)
        (λ e. absurd (omega (arith, e, ends))) (λ e. absurd (omega (arith, e, ends)))
        (λ tells telling number next_tx tree from bytes held.
        let room = room_now engine laws opening start now next bad g number next_tx in
        let m = last opening tree g.log in
        let law = lawful (answer.Saved n) is tells tree from in
        let holds = law.saved (g.keeper.tells ∙ telling.tells) room (g.kept telling) (g.saved tells telling number next_tx tree from) in
        let (image, image_is, some) = is.kept (g.keeper.tells ∙ telling.tells) in
        let bytes_some : bytes ≡ [] → ⊥ = λ none. some (same_bytes image bytes (sym image_is ∙ held) ∙ none) in (
          left_saved (all_told final.shelf) m start.source.rest g.log.lines final.keeper bytes held status ends bytes_some holds,
          next_saved engine.kind opening (last opening tree g.log) g.log.lines final bytes held (engine.number now.state) (engine.next_tx now.state) status ends
              (g.number_is tells tree from) g.begun
              (subst (λ (x : Settings). HoldsJust engine.kind final x (engine.number now.state) (engine.next_tx now.state)) g.so_far.settings
              (law.leaves (g.keeper.tells ∙ telling.tells) room)),
          λ _ k quiet p on file below. elim
              (law.left k n (g.so_far.collected tells tree from k quiet) refl refl (g.keeper.tells ∙ telling.tells) bytes held p on file below) [
                | inl freed ↦ inl (only_still (engine.freed now.state) (engine.freed state') (answer.Saved n) g.so_far.ran.punched is.punched.ranges
                    is.punched.counts is.punched.are.0 g.so_far.punched.only p freed)
                | inr names ↦ inr names
              ],
          λ within. left_saved (first_told final.shelf) m start.source.rest g.log.lines final.keeper bytes held status ends bytes_some
              (within_then final state' (Ok event.Save) (answer.Saved n) is tells telling tree within (m.now ∷ []) holds),
        ))
      where
        same_bytes : (a b : List ℕ) → Some a ≡ Some b → a ≡ b
        same_bytes a b e = cc

    finish_failed : IsAnswer engine t (Ok event.Save) answer.FaultSave
        → Served engine.kind handed opening 5 start (record { source = next.input.source; sink = sink'; stock = final })
    finish_failed is =
        let why : IsSaveFault engine.kind (span (last_downs g.log) now.stock.shelf final.shelf) opening.settings.servers now.stock.keeper final.keeper
        = subst (λ (n : ℕ). IsSaveFault engine.kind (span (last_downs g.log) now.stock.shelf final.shelf) n now.stock.keeper final.keeper)
        (ap (λ s. s.servers) g.so_far.settings)
        (subst (λ (d : ℕ → Bool). IsSaveFault engine.kind (span d now.stock.shelf final.shelf) (engine.settings now.state).servers now.stock.keeper
        final.keeper) g.so_far.downs is.kept) in
        finish 5 sink' final (Ok None) came [] (λ _. refl) (inl refl) follows keeper
        (λ early. absurd (omega (arith, early))) (λ _. is.stored) (read_whole 5 (inr refl))
        (sink_out 5 (λ e. omega (arith, e))) (λ e. omega (arith, e))
        (never 5 9 (λ e. omega (arith, e)) next.input.held.count (came.limit (λ e. cc))) (inl (inr refl)) (λ ends. absurd (omega (arith, ends)))
        (λ e. absurd (omega (arith, e))) (λ _. why)
        (λ tells telling number next_tx tree from bytes held.
        let room = room_now engine laws opening start now next bad g number next_tx in
        let m = last opening tree g.log in
        let law = lawful answer.FaultSave is tells tree from in
        let holds = law.saved (g.keeper.tells ∙ telling.tells) room (g.kept telling) (g.saved tells telling number next_tx tree from) in
        let was = subst (λ (x : Settings). HoldsStart engine.kind now.stock x (engine.number now.state) (engine.next_tx now.state)) (sym g.so_far.settings)
        (g.start_holds tells telling number next_tx tree from) in (
          left_failed (all_told final.shelf) m start.source.rest g.log.lines final.keeper bytes held holds,
          next_kept engine.kind opening (last opening tree g.log) g.log.lines final bytes held (engine.number state') (engine.next_tx state') 5
              (λ e. omega (arith, e)) law.number
              (omega (arith, is.goes_on.same_next_tx refl, g.begun))
              (subst (λ (x : Settings). HoldsStart engine.kind final x (engine.number state') (engine.next_tx state')) g.so_far.settings
              (law.taken (g.keeper.tells ∙ telling.tells) room was)),
          λ end. absurd (omega (arith, end)),
          λ within. left_failed (first_told final.shelf) m start.source.rest g.log.lines final.keeper bytes held
              (within_then final state' (Ok event.Save) answer.FaultSave is tells telling tree within (m.may_be_saved ++ m.now ∷ []) holds),
        ))

    finish_short : KeeperStays now.stock.keeper final.keeper
        → Served engine.kind handed opening 7 start (record { source = next.input.source; sink = sink'; stock = final })
    finish_short same =
        finish 7 sink' final (Ok None) came [] (λ _. refl) (inl refl) follows keeper
        (λ early. absurd (omega (arith, early))) (λ whole. absurd (omega (arith, whole)))
        (λ script e. told_other script now.input.source.rest next.input.source.rest now.input.held g.log.lines 7 (λ d. omega (arith, d)) (λ d. omega (arith, d))
        (λ d. omega (arith, d)) (λ d. absurd (omega (arith, d)))
        (λ _. short_end script now.input.source.rest next.input.source.rest now.input.held next.input.held g.log.lines (g.read script e) came.came.0)
        (g.read script e))
        (sink_out 7 (λ e. omega (arith, e))) (λ e. omega (arith, e))
        (never 7 9 (λ e. omega (arith, e)) next.input.held.count (came.limit (λ e. cc))) (inr (inr (inr (inr (inl refl)))))
        (λ ends. absurd (omega (arith, ends)))
        (λ e. absurd (omega (arith, e))) (λ e. absurd (omega (arith, e)))
        (short_left final follows same)

    -- a keeper that tells nothing need not be handed an image
    pub finish_blind : start.stock.keeper.tells ≡ false → SameLengths engine.kind now.stock.shelf final.shelf
        → Served engine.kind handed opening (end_status bad) start (record { source = next.input.source; sink = sink'; stock = final })
    finish_blind blind same =
        let status = end_status bad in
        let ends : IsEndStatus status = ends_as bad in
        finish status sink' final (Ok None) came [] (λ _. refl) (inl refl) follows keeper
        (λ early. absurd (omega (arith, early, ends))) (λ _. same) (read_whole status (inl ends))
        (sink_out status (λ e. omega (arith, e, ends))) (λ e. omega (arith, e, ends))
        (never status 9 (λ e. omega (arith, e, ends)) next.input.held.count (came.limit (λ e. cc))) (inl (inl ends)) (λ _. refl)
        (λ e. absurd (omega (arith, e, ends))) (λ e. absurd (omega (arith, e, ends)))
        (λ tells telling. absurd (true≢false (sym telling.tells ∙ blind)))

    pub blind_log : (blind : start.stock.keeper.tells ≡ false) (same : SameLengths engine.kind now.stock.shelf final.shelf)
        → (finish_blind blind same).log ≡ g.log
    unfolding finish_blind finish
    blind_log blind same = refl

    closed : (status : ℕ) → Closes engine t bad status
        → ServedBy g.log now.stock status (record { source = next.input.source; sink = sink'; stock = final })
    unfolding finish_saved finish_failed finish_short finish
    closed status (inl (n, is_end, is)) =
        (finish_saved status n is_end (subst (λ (x : ℕ). IsEndStatus x) (sym is_end) (ends_as bad)) is, refl, refl)
    closed status (inr (inl (is_5, is))) =
        subst (λ (x : ℕ). ServedBy g.log now.stock x (record { source = next.input.source; sink = sink'; stock = final })) (sym is_5)
        (finish_failed is, refl, refl)
    closed status (inr (inr (is_7, same))) =
        subst (λ (x : ℕ). ServedBy g.log now.stock x (record { source = next.input.source; sink = sink'; stock = final })) (sym is_7)
        (finish_short same, refl, refl)

  -- ---- an end before the end of the script

  -- at which the run left what it had in hand
  early_left : (status : ℕ) → next.stock ≡ now.stock → IsEarlyStatus status → Leaves status next.stock
  early_left status same early = λ tells telling number next_tx tree from bytes held.
      let m = last opening tree g.log in
      let holds = g.saved tells telling number next_tx tree from in (
        left_early (all_told next.stock.shelf) m start.source.rest g.log.lines next.stock.keeper bytes held status early
            (subst (λ (s : Stock S). HoldsTree s.keeper (all_told s.shelf) m.may_be_saved) (sym same) holds),
        next_kept engine.kind opening m g.log.lines next.stock bytes held (engine.number now.state) (engine.next_tx now.state) status
            (λ e. omega (arith, e, early)) (g.number_is tells tree from) g.begun
            (subst (λ (s : Stock S). HoldsStart engine.kind s opening.settings (engine.number now.state) (engine.next_tx now.state)) (sym same)
            (g.start_holds tells telling number next_tx tree from)),
        λ end. absurd (omega (arith, end, early)),
        λ within. left_early (first_told next.stock.shelf) m start.source.rest g.log.lines next.stock.keeper bytes held status early
            (subst (λ (s : Stock S). HoldsTree s.keeper (first_told s.shelf) m.may_be_saved) (sym same)
            (within_now tells telling tree within m.may_be_saved holds)),
      )

  -- nothing was punched
  still : next.stock ≡ now.stock → EachFollows engine.kind now.stock.shelf next.stock.shelf []
  still same = subst (λ (s : Stock S). EachFollows engine.kind now.stock.shelf s.shelf []) (sym same) (each_same laws now.stock.shelf)

  finish_unread : PassIs engine now next (Err stop.Unread)
      → Served engine.kind handed opening 3 start (record { source = next.input.source; sink = next.sink; stock = next.stock })
  finish_unread pass =
      let (came, quiet) = pass.came in
      let (reads, rose, unended) = came in
      finish 3 next.sink next.stock (Err stop.Unread) pass [] (λ _. refl) (inl refl) (still quiet.stock) pass.keeper
      (λ _. sym quiet.stock) (λ whole. absurd (omega (arith, whole)))
      (λ script e. told_fault script now.input.source.rest next.input.source.rest now.input.held next.input.held g.log.lines unended (g.read script e) reads)
      (sink_same 3 now.sink next.sink (λ e. omega (arith, e)) quiet.sink) (λ e. omega (arith, e))
      (never 3 9 (λ e. omega (arith, e)) next.input.held.count (pass.limit (λ e. cc))) (inr (inr (inl refl))) (λ ends. absurd (omega (arith, ends))) (λ _. rose)
      (λ e. absurd (omega (arith, e))) (early_left 3 quiet.stock (inr (inl refl)))

  finish_too_much : PassIs engine now next (Err stop.TooMuch)
      → Served engine.kind handed opening 9 start (record { source = next.input.source; sink = next.sink; stock = next.stock })
  finish_too_much pass =
      let (came, quiet) = pass.came in
      let (reads, full, unended) = came in
      finish 9 next.sink next.stock (Err stop.TooMuch) pass [] (λ _. refl) (inl refl) (still quiet.stock) pass.keeper
      (λ _. sym quiet.stock) (λ whole. absurd (omega (arith, whole)))
      (λ script e. let told = g.read script e in
      told_much script now.input.source.rest next.input.source.rest now.input.held next.input.held g.log.lines unended g.count told reads
      (λ left f. omega (arith, full, g.counted script told.rest e told.left_is, pass.drawn.counted told.rest left told.left_is f)))
      (sink_same 9 now.sink next.sink (λ e. omega (arith, e)) quiet.sink) (λ e. omega (arith, e))
      ((λ _. omega (arith, full)), (λ _. refl)) (inr (inr (inr (inr (inr refl))))) (λ ends. absurd (omega (arith, ends))) (λ e. absurd (omega (arith, e)))
      (λ e. absurd (omega (arith, e))) (early_left 9 quiet.stock (inr (inr (inr refl))))

  -- what the sink held back could not be brought out, so that nothing is saved
  pub finish_held : (sink' : SinkView) → PassIs engine now next (Ok None)
      → ((bytes : List ℕ) → next.sink.taken ≡ Some bytes → sink'.taken ≡ Some bytes) → next.sink.faults ≤ sink'.faults
      → Rose next.sink.faults sink'.faults
      → Served engine.kind handed opening 4 start (record { source = next.input.source; sink = sink'; stock = next.stock })
  finish_held sink' pass taken rises rose =
      let (came, quiet) = pass.came in
      let same : next.sink.faults ≡ now.sink.faults = ap (λ (s : SinkView). s.faults) quiet.sink in
      finish 4 sink' next.stock (Ok None) pass [] (λ _. refl) (inl refl) (still quiet.stock) pass.keeper
      (λ _. sym quiet.stock) (λ whole. absurd (omega (arith, whole)))
      (λ script e. told_held script now.input.source.rest next.input.source.rest now.input.held next.input.held g.log.lines (g.read script e) came)
      (record {
        taken = λ bytes e. taken bytes (ap (λ (s : SinkView). s.taken) quiet.sink ∙ e);
        still = λ other. absurd (other refl);
        rose = λ _. subst (λ (n : ℕ). Rose n sink'.faults) same rose;
        rises = omega (arith, same, rises);
      })
      (λ e. omega (arith, e))
      (never 4 9 (λ e. omega (arith, e)) next.input.held.count (pass.limit (λ e. cc))) (inr (inr (inr (inl refl)))) (λ ends. absurd (omega (arith, ends)))
      (λ e. absurd (omega (arith, e))) (λ e. absurd (omega (arith, e))) (early_left 4 quiet.stock (inr (inr (inl refl))))

  held_by : (sink' : SinkView) → PassIs engine now next (Ok None)
      → ((bytes : List ℕ) → next.sink.taken ≡ Some bytes → sink'.taken ≡ Some bytes) → next.sink.faults ≤ sink'.faults
      → Rose next.sink.faults sink'.faults
      → ServedBy g.log now.stock 4 (record { source = next.input.source; sink = sink'; stock = next.stock })
  unfolding finish_held finish
  held_by sink' pass taken rises rose = (finish_held sink' pass taken rises rose, refl, refl)

  -- a pass came to the end of the script: what follows begins with what the pass left, which is what it was
  pub finish_end : (status : ℕ) (sink' : SinkView) (final : Stock S) (state' : State) → PassIs engine now next (Ok None)
      → EachFollows engine.kind next.stock.shelf final.shelf [] → KeeperGoesOn next.stock.keeper final.keeper
      → Ends engine (step next.stock final next.state state') next.sink sink' bad status
      → ServedBy g.log now.stock status (record { source = next.input.source; sink = sink'; stock = final })
  finish_end status sink' final state' came follows keeper end =
      let quiet = came.came.1 in
      elim end.ends [
        | inl saved ↦ closed sink' final state' came
            (subst (λ (s : Stock S). EachFollows engine.kind s.shelf final.shelf []) quiet.stock follows)
            (subst (λ (s : Stock S). KeeperGoesOn s.keeper final.keeper) quiet.stock keeper)
            end.taken saved.0 status
            (subst (λ (s : Stock S). Closes engine (step s final now.state state') bad status) quiet.stock
            (subst (λ (x : State). Closes engine (step next.stock final x state') bad status) quiet.state saved.1))
        | inr held ↦
            subst (λ (n : ℕ). ServedBy g.log now.stock n (record { source = next.input.source; sink = sink'; stock = final })) (sym held.0)
            (subst (λ (s : Stock S). ServedBy g.log now.stock 4 (record { source = next.input.source; sink = sink'; stock = s }))
            (sym held.1) (held_by sink' came end.taken end.rises held.2))
      ]

  -- the line that was answered, whose text was not written
  pub out_line : (out : IsLeftOut engine now next) → IsNextLine start.source.rest g.log.lines out.line
  out_line out all e =
      let (more, all_is) = told_front all next.input.source.rest next.input.held (g.log.lines ++ out.line ∷ [])
      (told_more all now.input.source.rest next.input.source.rest now.input.held next.input.held g.log.lines out.line (g.read all e) out.came) in
      (more, all_is ∙ append_assoc g.log.lines (out.line ∷ []) more)

  -- or where one was, whose text was not written
  memory_out : PassIs engine now next (Err stop.Memory) → IsLeftOut engine now next → Leaves 7 next.stock
  memory_out pass out = λ tells telling number next_tx tree from bytes held.
      let room = room_now engine laws opening start now next bad g number next_tx in
      let is = out.out.is in
      let a = out.out.answer in
      let m = last opening tree g.log in
      let law = is.lawful ((g.so_far.told tells).tells tree from) m
      (small_now engine laws opening start now next bad g (all_told start.stock.shelf) tree from) (g.so_far.stands tells tree from) in
      let holds = law.saved (g.keeper.tells ∙ telling.tells) room (g.kept telling) (g.saved tells telling number next_tx tree from) in (
        left_out (all_told next.stock.shelf) m start.source.rest g.log.lines next.stock.keeper bytes held out.line (out_line out) a law.may holds,
        next_out engine.kind opening m g.log.lines next.stock bytes held (engine.number next.state) (engine.next_tx next.state)
            (omega (arith, is.goes_on.number, g.number_is tells tree from)) (omega (arith, is.goes_on.next_tx, g.begun))
            (subst (λ (x : Settings). HoldsStart engine.kind next.stock x (engine.number next.state) (engine.next_tx next.state)) g.so_far.settings
            (law.taken (g.keeper.tells ∙ telling.tells) room
            (subst (λ (x : Settings). HoldsStart engine.kind now.stock x (engine.number now.state) (engine.next_tx now.state))
            (sym g.so_far.settings) (g.start_holds tells telling number next_tx tree from)))),
        λ end. absurd (omega (arith, end)),
        λ within. left_out (first_told next.stock.shelf) m start.source.rest g.log.lines next.stock.keeper bytes held out.line (out_line out) a law.may
            (within_then next.stock next.state (line_of out.line) a is tells telling tree within (after_line m (line_of out.line) a).may_be_saved holds),
      )

  finish_short_of : (rest : List (ℕ × Range)) → (rest ≡ []) ⊎ IsOfCollect start.source.rest g.log.lines rest
      → EachFollows engine.kind now.stock.shelf next.stock.shelf rest → PassIs engine now next (Err stop.Memory) → Leaves 7 next.stock
      → Served engine.kind handed opening 7 start (record { source = next.input.source; sink = next.sink; stock = next.stock })
  finish_short_of rest by_line follows pass left =
      finish 7 next.sink next.stock (Err stop.Memory) pass rest (λ other. absurd (other refl)) by_line follows pass.keeper
      (λ early. absurd (omega (arith, early))) (λ whole. absurd (omega (arith, whole)))
      (λ script e. told_other script now.input.source.rest next.input.source.rest now.input.held g.log.lines 7 (λ d. omega (arith, d)) (λ d. omega (arith, d))
      (λ d. omega (arith, d)) (λ d. absurd (omega (arith, d)))
      (λ _. told_short now.input next.input script g.log.lines pass.drawn.few (g.read script e) pass.came.came) (g.read script e))
      (sink_same 7 now.sink next.sink (λ e. omega (arith, e)) pass.came.sink) (λ e. omega (arith, e))
      (never 7 9 (λ e. omega (arith, e)) next.input.held.count (pass.limit (λ e. cc))) (inr (inr (inr (inr (inl refl))))) (λ ends. absurd (omega (arith, ends)))
      (λ e. absurd (omega (arith, e)))
      (λ e. absurd (omega (arith, e))) left

  finish_memory : PassIs engine now next (Err stop.Memory) → IsLeftAlone engine (step_of now next) ⊎ IsLeftOut engine now next
      → Served engine.kind handed opening 7 start (record { source = next.input.source; sink = next.sink; stock = next.stock })
  finish_memory pass (inl alone) = finish_short_of [] (inl refl) alone.follows pass (short_left next.stock alone.follows alone.keeper)
  finish_memory pass (inr out) =
      let did = out.out.is.punched in
      finish_short_of did.ranges (of_collect (engine.freed now.state) start.source.rest g.log.lines out.line (out_line out) (line_of out.line) refl
      out.out.answer did.ranges did.are) did.follows pass (memory_out pass out)

  -- the sink fails while an answer is written
  finish_unwritten : PassIs engine now next (Err stop.Unwritten)
      → Served engine.kind handed opening 4 start (record { source = next.input.source; sink = next.sink; stock = next.stock })
  finish_unwritten pass =
      let line = pass.came.line in
      let cut = pass.came.cut in
      let log = longer g.log line cut.answer in
      let t = step_of now next in
      let short = short_now engine laws opening start now next bad g in
      let same = last_more engine laws opening start.stock g.log t g.so_far line cut.answer cut.is pass.keeper.faults short in
      let law = lawful_more engine laws opening start.stock g.log t g.so_far line cut.answer cut.is pass.keeper.faults short in
      let ran = (so_far_more engine laws opening start.stock g.log t g.so_far line cut.answer cut.is pass.keeper.faults short).ran in
      let rose : Rose start.sink.faults next.sink.faults = rose_in start.sink.faults now.sink.faults next.sink.faults next.sink.faults
      (omega (arith, g.sink_still)) cut.cause (omega arith) in
      let holds : TellsAll engine.kind start.stock.shelf → IsTelling start.stock.keeper opening.bytes → opening.number ≤ 2 ^ 61 → opening.next_tx ≤ 2 ^ 61
      → (t : Tree) → StartsFrom (all_told start.stock.shelf) opening.bytes t → HoldsOneOf engine.kind next.stock (last opening t log).may_be_saved
      = λ tells telling number next_tx tree from.
      subst (λ (m : Machine). HoldsOneOf engine.kind next.stock m.may_be_saved) (same tree)
      ((law tells tree from).saved (g.keeper.tells ∙ telling.tells) (room_now engine laws opening start now next bad g number next_tx)
      (g.kept telling) (g.saved tells telling number next_tx tree from)) in
      record {
        log = log;
        started = true;
        taken = next.input.held.count;
        mid = next.stock;
        ran = ran;
        rest = [];
        rest_none = λ _. refl;
        rest_line = inl refl;
        rest_follows = each_same laws next.stock.shelf;
        at_end = λ _. refl;
        rest_adds = λ whole. absurd (omega (arith, whole));
        unstarted = λ e. absurd (cc);
        sound = λ _. g.taken;
        read = λ script e. told_other script next.input.source.rest next.input.source.rest next.input.held (g.log.lines ++ line ∷ []) 4 (λ d. omega (arith, d))
            (λ d. omega (arith, d)) (λ d. omega (arith, d)) (λ _. (refl, pass.drawn.few)) (λ d. absurd (omega (arith, d)))
            (told_more script now.input.source.rest next.input.source.rest now.input.held next.input.held g.log.lines line (g.read script e) pass.came.came);
        wrote = λ text e. record {
          whole = λ _ is. absurd (is refl);
          cut = λ _ _.
              let (front, back, text_is, new_is) = cut.wrote (text ++ output opening g.log.answers) (g.wrote text e) in
              inl (record {
                earlier = g.log.answers;
                last = cut.answer;
                front = front;
                back = back;
                all = refl;
                text = text_is;
                new_is = new_is ∙ ap (λ (x : List ℕ). Some x) (append_assoc text (output opening g.log.answers) front);
              });
          cut_first = λ is. absurd (cc);
          nothing = λ is. absurd (cc);
        };
        given = given_then engine laws opening start now next bad g pass.drawn;
        limit = never 4 9 (λ e. omega (arith, e)) next.input.held.count (pass.limit (λ e. cc));
        counted = counted_then engine laws opening start now next bad g pass.drawn;
        statuses = inr (inr (inr (inl refl)));
        ended = λ ends. absurd (omega (arith, ends));
        few_stores = enough 4 (length start.stock.shelf) opening.settings.servers (λ e. omega (arith, e)) g.enough;
        unread = λ e. absurd (omega (arith, e));
        source_cause = λ e. absurd (omega (arith, e));
        sink_cause = λ _. rose;
        save_cause = λ e. absurd (omega (arith, e));
        source_faults = omega (arith, g.source_faults, pass.drawn.faults);
        sink_faults = omega (arith, g.sink_still, pass.sink_faults);
        sink_still = λ other. absurd (other refl);
        faults = λ low. omega (arith, ran.faults low);
        faults_of_run = λ by empty low. omega (arith, ran.faults_of_run by empty low);
        follows_on = each_on laws ran.follows_on (each_same laws next.stock.shelf);
        complete = λ many still up end. absurd (omega (arith, rose still.sink_is.1, still.sink_is.0));
        left = λ _ tells telling number next_tx tree from bytes held.
            left_early (all_told next.stock.shelf) (last opening tree log) start.source.rest log.lines next.stock.keeper bytes held 4 (inr (inr (inl refl)))
            (holds tells telling number next_tx tree from);
        left_within = λ _ tells telling number next_tx tree from bytes held.
            left_early (first_told next.stock.shelf) (last opening tree log) start.source.rest log.lines next.stock.keeper bytes held 4 (inr (inr (inl refl)))
            (within_then next.stock next.state (line_of line) cut.answer cut.is tells telling tree from (last opening tree log).may_be_saved
            (holds tells telling number next_tx tree (starts_wide tree from)));
        next = λ _ tells telling number next_tx tree from bytes held.
            next_kept engine.kind opening (last opening tree log) log.lines next.stock bytes held (engine.number next.state) (engine.next_tx next.state) 4
            (λ e. omega (arith, e)) ((law tells tree from).number ∙ ap (λ (m : Machine). m.number) (same tree))
            (omega (arith, cut.is.goes_on.next_tx, g.begun, length-append g.log.lines (line ∷ [])))
            (subst (λ (x : Settings). HoldsStart engine.kind next.stock x (engine.number next.state) (engine.next_tx next.state)) g.so_far.settings
            ((law tells tree from).taken (g.keeper.tells ∙ telling.tells) (room_now engine laws opening start now next bad g number next_tx)
            (subst (λ (x : Settings). HoldsStart engine.kind now.stock x (engine.number now.state) (engine.next_tx now.state)) (sym g.so_far.settings)
            (g.start_holds tells telling number next_tx tree from))));
        quiet = λ k end. absurd (omega (arith, end));
      }

  -- the run ends before the end of its script
  pub finish_stop : (why : Stop) → PassIs engine now next (Err why)
      → Served engine.kind handed opening (stop_status why) start (record { source = next.input.source; sink = next.sink; stock = next.stock })
  finish_stop stop.Unread pass = finish_unread pass
  finish_stop stop.Unwritten pass = finish_unwritten pass
  finish_stop stop.TooMuch pass = finish_too_much pass
  finish_stop stop.Memory pass = finish_memory pass pass.came.kept

  pub held_log : (sink' : SinkView) (pass : PassIs engine now next (Ok None))
      (taken : (bytes : List ℕ) → next.sink.taken ≡ Some bytes → sink'.taken ≡ Some bytes) (rises : next.sink.faults ≤ sink'.faults)
      (rose : Rose next.sink.faults sink'.faults) → (finish_held sink' pass taken rises rose).log ≡ g.log
  unfolding finish_held finish
  held_log sink' pass taken rises rose = refl

  -- ---- the lines of a run that ended so: those so far, and the one whose answer was cut
  abbrev pub EndsWith : (why : Stop) → PassIs engine now next (Err why) → Log → Type 0
  EndsWith stop.Unwritten pass log = log ≡ longer g.log pass.came.line pass.came.cut.answer
  EndsWith why pass log = log ≡ g.log

  memory_log : (pass : PassIs engine now next (Err stop.Memory)) (kept : IsLeftAlone engine (step_of now next) ⊎ IsLeftOut engine now next)
      → (finish_memory pass kept).log ≡ g.log
  unfolding finish_memory finish_short_of finish
  memory_log pass (inl alone) = refl
  memory_log pass (inr out) = refl

  pub stop_log : (why : Stop) (pass : PassIs engine now next (Err why)) → EndsWith why pass (finish_stop why pass).log
  unfolding finish_stop finish_unread finish_too_much finish_unwritten finish
  stop_log stop.Unread pass = refl
  stop_log stop.Unwritten pass = refl
  stop_log stop.TooMuch pass = refl
  stop_log stop.Memory pass = memory_log pass pass.came.kept

  -- and the stock when the last of them was answered
  abbrev pub StopsAt : (why : Stop) → Stock S → Type 0
  StopsAt stop.Unwritten mid = mid ≡ next.stock
  StopsAt why mid = mid ≡ now.stock

  memory_mid : (pass : PassIs engine now next (Err stop.Memory)) (kept : IsLeftAlone engine (step_of now next) ⊎ IsLeftOut engine now next)
      → (finish_memory pass kept).mid ≡ now.stock
  unfolding finish_memory finish_short_of finish
  memory_mid pass (inl alone) = refl
  memory_mid pass (inr out) = refl

  pub stop_mid : (why : Stop) (pass : PassIs engine now next (Err why)) → StopsAt why (finish_stop why pass).mid
  unfolding finish_stop finish_unread finish_too_much finish_unwritten finish
  stop_mid stop.Unread pass = refl
  stop_mid stop.Unwritten pass = refl
  stop_mid stop.TooMuch pass = refl
  stop_mid stop.Memory pass = memory_mid pass pass.came.kept
