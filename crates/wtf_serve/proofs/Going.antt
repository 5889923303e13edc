-- A run so far, and how it goes on.
use Rattle.std.proofs.Common.{◌≡◌, ◌≤◌, ◌+◌, ◌-◌, ◌^◌, ℕ, Bool, false, min, List, [], ◌∷◌, ◌++◌, length, Some, Ok, refl, sym, ◌∙◌, ap, subst, arith}
use Rattle.std.proofs.Common.{append_assoc, true≢false}
use Rattle.std.proofs.lemmas.List.{append-nil, length-append}
use Rattle.std.proofs.lemmas.Grind.{flat_map-append}
use Rattle.std.specs.List.{flat_map}
use Rattle.std.specs.Prelude.{◌||◌, is_err}
use Rattle.wtf_base.specs.declared.settings.Settings.{Settings}
use Rattle.wtf_dev.specs.Keep.{KeeperView}
use Rattle.wtf_dev.specs.Streams.{SinkView}
use Rattle.wtf_dev.specs.Store.{Range, KindLaws}
use Rattle.wtf_dev.specs.Sums.{TellsAll}
use Rattle.wtf_replica.specs.Bytes.{byte_at}
use Rattle.wtf_model.specs.declared.answer.Answer.{Answer}
use Rattle.wtf_model.specs.Machines.{Machine}
use Rattle.wtf_model.specs.Tree.{Tree}
use Rattle.wtf_model.specs.Lines.{Line, state_after, after_line}
use Rattle.wtf_model.specs.Servers.{none_down, down_after}
use Rattle.wtf_image.specs.Rules.{size_in}
use Rattle.wtf_gc.specs.Frees.{lie_in}
use Rattle.wtf_meta.specs.Contents.{Told}
use Rattle.wtf_core.specs.Pictured.{IsTakenFor}
use Rattle.wtf_core.specs.Standing.{IsSmall}
use Rattle.wtf_script.specs.declared.limits.TheConstants.{SCRIPT_BYTES}
use Rattle.wtf_script.specs.Reading.{work}
use Rattle.wtf_serve.specs.Beginnings.{CanBegin}
use Rattle.wtf_serve.specs.Endings.{Devices}
use Rattle.wtf_serve.specs.Engines.{Engine, StateHasRoom}
use Rattle.wtf_serve.specs.Logs.{Log, asked, last, first_line, output}
use Rattle.wtf_serve.specs.Openings.{Opening, IsTakenOver, StartsFrom, first}
use Rattle.wtf_serve.specs.Passes.{Hand, hand, input, step_of, HasDrawn, PassIs}
use Rattle.wtf_serve.specs.Scripts.{line_of, line_text, has_bad}
use Rattle.wtf_serve.specs.Stocks.{stock, KeeperGoesOn, IsTelling, HoldsOneOf, HoldsStart}
use Rattle.wtf_serve.proofs.Growing.{stays_small}
use Rattle.wtf_serve.proofs.Picturing.{starts_holds}
use Rattle.wtf_serve.proofs.Quieting.{quiet_none, collected_none}
use Rattle.wtf_serve.proofs.RanLaws.{longer, asked-longer, ran_none, none_ran, SoFar, lawful_more, last_more, so_far_more}
use Rattle.wtf_serve.proofs.ScriptLaws.{has_bad-push}
use Rattle.wtf_serve.proofs.Telling.{Told as IsTold, some_same, told_none, told_more}

-- a run so far: the lines with their answers, what the run has in hand, and whether one of the lines asked nothing
pub record Going {S State : Type 0} (engine : Engine S State) (opening : Opening) (start : Devices S) (now : Hand S State) (bad : Bool) : Type 0 where
  pub log : Log
  pub so_far : SoFar engine opening log start.stock now.stock now.state
  pub saved : TellsAll engine.kind start.stock.shelf → IsTelling start.stock.keeper opening.bytes → opening.number ≤ 2 ^ 61 → opening.next_tx ≤ 2 ^ 61
      → (t : Tree) → StartsFrom (byte_at engine.kind start.stock.shelf) opening.bytes t → HoldsOneOf engine.kind now.stock (last opening t log).may_be_saved
  pub start_holds : TellsAll engine.kind start.stock.shelf → IsTelling start.stock.keeper opening.bytes → opening.number ≤ 2 ^ 61 → opening.next_tx ≤ 2 ^ 61
      → (t : Tree) → StartsFrom (byte_at engine.kind start.stock.shelf) opening.bytes t
      → HoldsStart engine.kind now.stock opening.settings (engine.number now.state) (engine.next_tx now.state)
  pub kept : IsTelling start.stock.keeper opening.bytes → engine.kept now.stock.keeper now.state
  pub number_is : TellsAll engine.kind start.stock.shelf → (t : Tree) → StartsFrom (byte_at engine.kind start.stock.shelf) opening.bytes t
      → engine.number now.state ≡ (last opening t log).number
  pub begun : engine.next_tx now.state ≤ opening.next_tx + length log.lines
  pub lines : length log.lines + work now.input.held ≤ SCRIPT_BYTES + 1
  pub taken : IsTakenOver (size_in engine.kind start.stock.shelf) opening.bytes
  pub bad_is : has_bad (asked log) ≡ bad
  pub sound : engine.sound now.stock.shelf now.state
  pub enough : opening.settings.servers ≤ length start.stock.shelf
  pub number : engine.number now.state + work now.input.held ≤ opening.number + (SCRIPT_BYTES + 1)
  pub next_tx : engine.next_tx now.state + work now.input.held ≤ opening.next_tx + (SCRIPT_BYTES + 1)
  pub room : (opening.number ≤ 2 ^ 62) × (opening.next_tx ≤ 2 ^ 62)
  pub count : now.input.held.count ≤ SCRIPT_BYTES
  pub read : (script : List ℕ) → start.source.rest ≡ Some script → IsTold script now.input.source.rest now.input.held log.lines
  pub wrote : (old : List ℕ) → start.sink.taken ≡ Some old → now.sink.taken ≡ Some (old ++ output opening log.answers)
  pub given : start.source.given ≤ 2 ^ 64 - 1 → now.input.source.given ≡ min (start.source.given + now.input.held.count) (2 ^ 64 - 1)
  pub counted : (script left : List ℕ) → start.source.rest ≡ Some script → now.input.source.rest ≡ Some left
      → length script ≡ length left + now.input.held.count
  pub source_faults : start.source.faults ≤ now.input.source.faults
  pub sink_still : now.sink.faults ≡ start.sink.faults
  pub keeper : KeeperGoesOn start.stock.keeper now.stock.keeper

-- what the first line and a list of answers write, and one more answer
output-more : (opening : Opening) (answers : List Answer) (a : Answer) → output opening (answers ++ a ∷ []) ≡ output opening answers ++ line_text a
output-more opening answers a =
    ap (λ (x : List ℕ). first_line opening ++ x) (flat_map-append line_text answers (a ∷ [])
    ∙ ap (λ (x : List ℕ). flat_map line_text answers ++ x) (append-nil (line_text a)))
    ∙ sym (append_assoc (first_line opening) (flat_map line_text answers) (line_text a))

given_on : (old now new count next : ℕ) → count ≤ next → now ≡ min (old + count) (2 ^ 64 - 1) → new ≡ min (now + (next - count)) (2 ^ 64 - 1)
    → new ≡ min (old + next) (2 ^ 64 - 1)
given_on old now new count next h is more = omega arith

after_none : {X : Type 0} (next : X → Line → Answer → X) (x : X) → state_after next x [] [] ≡ x
unfolding state_after
after_none next x = refl

-- an image of the numbers of an opening is one of the state that it opened
taken_same : (size : ℕ → ℕ → ℕ) (settings : Settings) (n next n' next' : ℕ) (bytes : List ℕ) → n' ≡ n → next' ≡ next → IsTakenFor size settings n next bytes
    → IsTakenFor size settings n' next' bytes
taken_same size settings n next n' next' bytes same_n same_next is = subst (λ (x : ℕ). IsTakenFor size settings x next' bytes) (sym same_n)
    (subst (λ (x : ℕ). IsTakenFor size settings n x bytes) (sym same_next) is)

-- the run after its first line, behind which the keeper holds what it held before it was loaded
pub going_none : {S State : Type 0} (engine : Engine S State) → KindLaws engine.kind
    → (opening : Opening) (start : Devices S) (sink' : SinkView) (keeper' : KeeperView) (state : State)
    → CanBegin engine opening start.stock.shelf state → (opening.number ≤ 2 ^ 62) × (opening.next_tx ≤ 2 ^ 62)
    → IsTakenFor (size_in engine.kind start.stock.shelf) opening.settings opening.number opening.next_tx opening.bytes
    → KeeperGoesOn start.stock.keeper keeper' → ((b : List ℕ) → start.stock.keeper.held ≡ Some b → keeper'.held ≡ Some b)
    → ((old : List ℕ) → start.sink.taken ≡ Some old → sink'.taken ≡ Some (old ++ first_line opening)) → sink'.faults ≡ start.sink.faults
    → Going engine opening start (hand (input start.source (record { bytes = []; count = 0; ended = false })) sink'
    (stock start.stock.shelf keeper') state) false
going_none engine laws opening start sink' keeper' state ready room begins keeper held wrote still = record {
  log = record { lines = []; answers = [] };
  so_far = record {
    ran = ran_none engine.kind laws opening start.stock (stock start.stock.shelf keeper') refl keeper.faults;
    settings = ready.settings;
    downs = ready.up ∙ sym (after_none down_after none_down);
    punched = record {
      only = λ p is. absurd (true≢false (sym is ∙ ready.unfreed p));
      all = λ none p is. absurd (true≢false (sym is ∙ ap (λ (ranges : List (ℕ × Range)). lie_in ranges p)
          (none_ran engine.kind laws opening start.stock (stock start.stock.shelf keeper') refl keeper.faults)));
    };
    given = record { full = λ free. ready.given.full tt; bare = λ free. ready.given.bare tt };
    told = ready.told;
    stands = λ tells t from.
        subst (λ (m : Machine). engine.stands start.stock.shelf state m) (sym (after_none after_line (first opening t))) (ready.stands t from);
    quiet = λ tells t from. quiet_none engine opening t start.stock.shelf state;
    collected = λ tells t from. collected_none engine opening t start.stock.shelf state;
  };
  saved = λ tells telling number next_tx t from.
      subst (λ (m : Machine). HoldsOneOf engine.kind (stock start.stock.shelf keeper') m.may_be_saved) (sym (after_none after_line (first opening t)))
      (starts_holds engine.kind start.stock.shelf keeper' opening.bytes t (held opening.bytes telling.held) from);
  start_holds = λ tells telling number next_tx t from. (
    opening.bytes,
    held opening.bytes telling.held,
    taken_same (size_in engine.kind start.stock.shelf) opening.settings opening.number opening.next_tx
        (engine.number state) (engine.next_tx state) opening.bytes ready.number ready.next_tx begins,
  );
  kept = λ telling. ready.kept keeper' (held opening.bytes telling.held);
  number_is = λ tells t from. ready.number ∙ sym (ap (λ (m : Machine). m.number) (after_none after_line (first opening t)));
  begun = omega (arith, ready.next_tx);
  lines = omega arith;
  taken = ready.taken;
  bad_is = refl;
  sound = ready.sound;
  enough = ready.enough;
  number = omega (arith, ready.number);
  next_tx = omega (arith, ready.next_tx);
  room = room;
  count = omega arith;
  read = λ script e. told_none script start.source.rest e;
  wrote = λ old e. wrote old e ∙ ap (λ (x : List ℕ). Some (old ++ x)) (sym (append-nil (first_line opening)));
  given = λ h. omega (arith, h);
  counted = λ script left e f. omega (arith, ap length (some_same script left (sym e ∙ f)));
  source_faults = omega arith;
  sink_still = still;
  keeper = keeper;
}

pub going_none_log : {S State : Type 0} (engine : Engine S State) (laws : KindLaws engine.kind)
    (opening : Opening) (start : Devices S) (sink' : SinkView) (keeper' : KeeperView) (state : State)
    (ready : CanBegin engine opening start.stock.shelf state) (room : (opening.number ≤ 2 ^ 62) × (opening.next_tx ≤ 2 ^ 62))
    (begins : IsTakenFor (size_in engine.kind start.stock.shelf) opening.settings opening.number opening.next_tx opening.bytes)
    (keeper : KeeperGoesOn start.stock.keeper keeper') (held : (b : List ℕ) → start.stock.keeper.held ≡ Some b → keeper'.held ≡ Some b)
    (wrote : (old : List ℕ) → start.sink.taken ≡ Some old → sink'.taken ≡ Some (old ++ first_line opening)) (still : sink'.faults ≡ start.sink.faults)
    → (going_none engine laws opening start sink' keeper' state ready room begins keeper held wrote still).log ≡ record { lines = []; answers = [] }
unfolding going_none
going_none_log engine laws opening start sink' keeper' state ready room begins keeper held wrote still = refl

pub keeper_on : (a b c : KeeperView) → KeeperGoesOn a b → KeeperGoesOn b c → KeeperGoesOn a c
keeper_on a b c early late = record { faults = omega (arith, early.faults, late.faults); tells = late.tells ∙ early.tells }

-- The next line of a run so far
module _ {S State : Type 0} (engine : Engine S State) (laws : KindLaws engine.kind) (opening : Opening) (start : Devices S) (now next : Hand S State)
    (bad : Bool) (g : Going engine opening start now bad) where
  pub given_then : HasDrawn now.input next.input → start.source.given ≤ 2 ^ 64 - 1
      → next.input.source.given ≡ min (start.source.given + next.input.held.count) (2 ^ 64 - 1)
  given_then drawn h =
      given_on start.source.given now.input.source.given next.input.source.given now.input.held.count next.input.held.count drawn.grows (g.given h)
      (drawn.given (omega (arith, g.given h)))

  pub counted_then : HasDrawn now.input next.input → (script left : List ℕ) → start.source.rest ≡ Some script → next.input.source.rest ≡ Some left
      → length script ≡ length left + next.input.held.count
  counted_then drawn script left e f = let told = g.read script e in omega
      (arith, g.counted script told.rest e told.left_is, drawn.counted told.rest left told.left_is f)

  -- as long as the image's numbers leave room for the script's, an image has room for the numbers
  pub room_now : opening.number ≤ 2 ^ 61 → opening.next_tx ≤ 2 ^ 61 → StateHasRoom engine now.state
  room_now low few = record { number = omega (arith, g.number, low); next_tx = omega (arith, g.next_tx, few) }

  -- few lines have run, so the tree is small
  pub short_now : length g.log.lines ≤ SCRIPT_BYTES + 1
  short_now = omega (arith, g.lines)

  pub small_now : (told : Told) (t : Tree) → StartsFrom told opening.bytes t → IsSmall (last opening t g.log)
  small_now told t from = stays_small opening told t g.log from short_now

  -- a line was answered
  pub going_on : (more : Bool) → PassIs engine now next (Ok (Some more)) → Going engine opening start next (bad || more)
  going_on more pass =
      let line = pass.came.line in
      let a = pass.came.done.answer in
      let is = pass.came.done.is in
      let t = step_of now next in
      let same = last_more engine laws opening start.stock g.log t g.so_far line a is pass.keeper.faults short_now in
      let law = lawful_more engine laws opening start.stock g.log t g.so_far line a is pass.keeper.faults short_now in
      record {
        log = longer g.log line a;
        so_far = so_far_more engine laws opening start.stock g.log t g.so_far line a is pass.keeper.faults short_now;
        saved = λ tells telling number next_tx tree from.
            subst (λ (m : Machine). HoldsOneOf engine.kind next.stock m.may_be_saved) (same tree)
            ((law tells tree from).saved (g.keeper.tells ∙ telling.tells) (room_now number next_tx) (g.kept telling)
            (g.saved tells telling number next_tx tree from));
        start_holds = λ tells telling number next_tx tree from.
            subst (λ (s : Settings). HoldsStart engine.kind next.stock s (engine.number next.state) (engine.next_tx next.state)) g.so_far.settings
            ((law tells tree from).taken (g.keeper.tells ∙ telling.tells) (room_now number next_tx)
            (subst (λ (s : Settings). HoldsStart engine.kind now.stock s (engine.number now.state) (engine.next_tx now.state)) (sym g.so_far.settings)
            (g.start_holds tells telling number next_tx tree from)));
        kept = λ telling. is.goes_on.kept (g.keeper.tells ∙ telling.tells) (g.kept telling);
        number_is = λ tells tree from. (law tells tree from).number ∙ ap (λ (m : Machine). m.number) (same tree);
        begun = omega (arith, is.goes_on.next_tx, g.begun, length-append g.log.lines (line ∷ []));
        lines = omega (arith, g.lines, pass.came.less, length-append g.log.lines (line ∷ []));
        taken = g.taken;
        bad_is = ap has_bad (asked-longer g.log line a) ∙ has_bad-push (asked g.log) (line_of line) ∙ ap (λ (b : Bool). b || is_err (line_of line)) g.bad_is
            ∙ ap (λ (b : Bool). bad || b) pass.came.bad_is;
        sound = is.goes_on.sound;
        enough = g.enough;
        number = omega (arith, is.goes_on.number, g.number, pass.came.less);
        next_tx = omega (arith, is.goes_on.next_tx, g.next_tx, pass.came.less);
        room = g.room;
        count = pass.limit (λ e. cc);
        read = λ script e. told_more script now.input.source.rest next.input.source.rest now.input.held next.input.held g.log.lines line
            (g.read script e) pass.came.came;
        wrote = λ text e. pass.came.done.wrote (text ++ output opening g.log.answers) (g.wrote text e)
            ∙ ap (λ (x : List ℕ). Some x) (append_assoc text (output opening g.log.answers) (line_text a)
            ∙ ap (λ (x : List ℕ). text ++ x) (sym (output-more opening g.log.answers a)));
        given = given_then pass.drawn;
        counted = counted_then pass.drawn;
        source_faults = omega (arith, g.source_faults, pass.drawn.faults);
        sink_still = pass.came.done.still ∙ g.sink_still;
        keeper = keeper_on start.stock.keeper now.stock.keeper next.stock.keeper g.keeper pass.keeper;
      }

  pub going_on_log : (more : Bool) (pass : PassIs engine now next (Ok (Some more)))
      → (going_on more pass).log ≡ longer g.log pass.came.line pass.came.done.answer
  unfolding going_on
  going_on_log more pass = refl
