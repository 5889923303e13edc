-- A journaled run on its way, and how it ends.
use Rattle.std.proofs.Common.{◌≡◌, ◌≢◌, ◌⊎◌, ◌<◌, ◌≤◌, ◌+◌, ◌^◌, ◌++◌, ℕ, Bool, true, false, List, [], ◌∷◌, length, None, Some, Ok, Err, refl, sym, ◌∙◌, ap}
use Rattle.std.proofs.Common.{subst, inl, inr, append_assoc, ⊎_elim, arith}
use Rattle.std.proofs.lemmas.List.{length_push}
use Rattle.std.specs.Prelude.{⊤, ◌||◌}
use Rattle.wtf_base.specs.declared.settings.Settings.{Settings}
use Rattle.wtf_dev.specs.Counts.{Rose}
use Rattle.wtf_dev.specs.Disk.{DiskGoesOn, DiskKind, DiskLaws}
use Rattle.wtf_dev.specs.Each.{EachFollows}
use Rattle.wtf_dev.specs.Keep.{KeeperView}
use Rattle.wtf_dev.specs.Streams.{SinkView}
use Rattle.wtf_dev.specs.Store.{KindLaws}
use Rattle.wtf_dev.specs.Sums.{TellsAll}
use Rattle.wtf_dev.proofs.Each.{each_same}
use Rattle.wtf_dev.proofs.Keeping.{rose_in}
use Rattle.wtf_journal.specs.Follows.{SyncedState, synced_kind, synced_laws}
use Rattle.wtf_journal.specs.Held.{held_by}
use Rattle.wtf_journal.specs.Scan.{IsBadAt}
use Rattle.wtf_replica.specs.Bytes.{byte_at}
use Rattle.wtf_replica.specs.Inside.{size_in}
use Rattle.wtf_replica.specs.Outs.{SameFrom, SameLengths}
use Rattle.wtf_model.specs.declared.answer.Answer.{Answer}
use Rattle.wtf_model.specs.Lines.{Line, MayLine, after_line, state_after}
use Rattle.wtf_model.specs.Machines.{Machine}
use Rattle.wtf_model.specs.Tree.{Tree}
use Rattle.wtf_serve.specs.declared.service.Stop.{Stop}
use Rattle.wtf_serve.specs.declared.service.Stop.TheVariants as stop
use Rattle.wtf_serve.specs.Endings.{Devices, IsKeeperKept, IsNextLine, Served, stop_status}
use Rattle.wtf_serve.specs.Beginnings.{CanBegin}
use Rattle.wtf_serve.specs.Logs.{Log, first_line, last}
use Rattle.wtf_serve.specs.Openings.{Opening, StartsFrom, first}
use Rattle.wtf_serve.specs.Passes.{CameLine, Input, IsQuiet, PassIs, input, step_of}
use Rattle.wtf_serve.specs.Scripts.{end_status, line_of, settings_line}
use Rattle.wtf_serve.specs.Stocks.{KeeperGoesOn, Stock}
use Rattle.wtf_serve.specs.Turns.{WroteFront}
use Rattle.wtf_serve.proofs.Underway.{begins_of, line_of_first, room_of}
use Rattle.wtf_serve.proofs.Unstarted.{unstarted, unstarted_log, unwritten, unwritten_log}
use Rattle.wtf_serve.proofs.Finishing.{blind_log, finish_blind, finish_held, finish_stop, held_log, stop_log}
use Rattle.wtf_serve.proofs.Going.{Going, going_none, going_none_log, going_on, going_on_log, short_now, small_now}
use Rattle.wtf_serve.proofs.Keeping.{text_some}
use Rattle.wtf_serve.proofs.Leaving.{KeepsWithin}
use Rattle.wtf_serve.proofs.RanLaws.{along_none, last_more, lawful_more, longer, so_far_more}
use Rattle.wtf_serve.proofs.Telling.{told_front, told_more}
use Rattle.wtf_core.specs.Named.{IsInside}
use Rattle.wtf_core.specs.Promises.{CoreHasRoom}
use Rattle.wtf_core.specs.Standing.{IsSmall}
use Rattle.wtf_core.proofs.FirstStores.{kept_within}
use Rattle.wtf_durable.specs.Journaled.{StandsDurably}
use Rattle.wtf_durable.specs.Stops.{LeavesStore, Leftover}
use Rattle.wtf_durable.specs.Opened.{IsGivenBy, LeavesRecords, OpensDurable}
use Rattle.wtf_durable.specs.Views.{DurableView, blind, durable_scene}
use Rattle.wtf_durable.proofs.Stopping.{durable_leaves}
use Rattle.wtf_durable.proofs.Trees.{store_later}
use Rattle.wtf_journaled.specs.declared.halt.Halt.{Halt}
use Rattle.wtf_journaled.specs.declared.halt.Halt.TheVariants as halt
use Rattle.wtf_journaled.specs.Added.{LineAdds, PassAdds}
use Rattle.wtf_journaled.specs.Breaks.{BreaksOff, FailsAt, MayGrow, PassBreaks, halt_status, stop_of, text_status}
use Rattle.wtf_journaled.specs.Engine.{JournaledHand, JournaledState, journaled_hand, journaled, journaled_engine, scene_of}
use Rattle.wtf_journaled.proofs.Adding.{Adding, adding_end, adding_more, adding_none, rests_of}
use Rattle.wtf_journaled.proofs.LineLaws.{disk_same}
use Rattle.wtf_journaled.specs.Runs.{AddsRecords, BeginsSafely, FailsAtNext, HasBegun, IsJournaledRun, IsOfNextLine, JournaledDevices, LastsBehind, StopBehind}
use Rattle.wtf_journaled.specs.Runs.{blind_devices, on_devices}

module _ {S D : Type 0} (stores : DiskKind S) (kind : DiskKind D) (store_laws : DiskLaws stores) (disk_laws : DiskLaws kind) where
  laws : KindLaws (synced_kind stores)
  laws = synced_laws stores store_laws

  -- what is kept for it stands over the stores of its servers by themselves
  pub keeps : KeepsWithin (journaled_engine stores kind)
  keeps s state m may sound stands within (inl kept) holds =
      kept_within (synced_kind stores) s.shelf state.durable.core sound.durable.tables within.1 m s.keeper may (stands.core within.0) kept holds
  keeps s state m may sound stands within (inr none) (bytes, held, inl empty) = (bytes, held, inl empty)
  keeps s state m may sound stands within (inr none) (bytes, held, inr (t, there, image)) =
      absurd (text_some image.rows bytes image.text (no_byte bytes (sym none ∙ held)))
    where
      no_byte : (b : List ℕ) → Some [] ≡ Some b → b ≡ []
      no_byte b e = cc

  -- A run so far, of what the journal opened
  pub record Journaling (asked : Settings) (old : JournaledDevices S D) (now : JournaledHand S D) (bad : Bool) : Type 0 where
    pub shelf : List (SyncedState S)
    pub disk : D
    pub opening : Opening
    pub begun : HasBegun stores kind asked old shelf disk opening
    pub going : Going (journaled_engine stores kind) opening (blind_devices kind (on_devices old.source old.sink shelf disk)) now bad
    pub on : DiskGoesOn kind disk now.state.disk
    pub past : SameFrom opening.settings.servers shelf now.stock.shelf
    pub added : (kind.view old.disk).tells ≡ true → Adding kind disk opening going.log now.state
    pub number : now.state.durable.core.tables.kv.number < 2 ^ 63
    pub next_tx : now.state.durable.core.tables.next_tx < 2 ^ 63

  pub journaling : (asked : Settings) (old : JournaledDevices S D) (now : JournaledHand S D) (bad : Bool) (shelf : List (SyncedState S)) (disk : D)
      (opening : Opening) → HasBegun stores kind asked old shelf disk opening
      → (going : Going (journaled_engine stores kind) opening (blind_devices kind (on_devices old.source old.sink shelf disk)) now bad)
      → DiskGoesOn kind disk now.state.disk → SameFrom opening.settings.servers shelf now.stock.shelf
      → ((kind.view old.disk).tells ≡ true → Adding kind disk opening going.log now.state) → Journaling asked old now bad
  journaling asked old now bad shelf disk opening begun going on past added = record {
    shelf = shelf;
    disk = disk;
    opening = opening;
    begun = begun;
    going = going;
    on = on;
    past = past;
    added = added;
    number = let most = going.number in let room = going.room.0 in omega (arith, most, room);
    next_tx = let most = going.next_tx in let room = going.room.1 in omega (arith, most, room);
  }

  disk_on : (a b c : D) → DiskGoesOn kind a b → DiskGoesOn kind b c → DiskGoesOn kind a c
  disk_on a b c early late = record {
    faults = let x = early.faults in let y = late.faults in omega (arith, x, y);
    size = λ f. let x = early.size f in let y = late.size f in omega (arith, x, y);
    tells = late.tells ∙ early.tells;
  }

  -- What the run has in hand, and what it has behind the next line
  module _ (asked : Settings) (old : JournaledDevices S D) (now : JournaledHand S D) (input' : Input) (sink' : SinkView) (shelf' : List (SyncedState S))
      (state' : JournaledState D) (bad : Bool) (j : Journaling asked old now bad) (on : DiskGoesOn kind now.state.disk state'.disk)
      (past : SameFrom now.state.durable.core.settings.servers now.stock.shelf shelf') where
    abbrev next : JournaledHand S D
    next = journaled_hand kind input' sink' shelf' state'

    abbrev start : Devices (SyncedState S)
    start = blind_devices kind (on_devices old.source old.sink j.shelf j.disk)

    abbrev new_with : SinkView → JournaledDevices S D
    new_with sink = on_devices input'.source sink shelf' state'.disk

    goes_then : DiskGoesOn kind j.disk state'.disk
    goes_then = disk_on j.disk now.state.disk state'.disk j.on on

    past_then : SameFrom j.opening.settings.servers j.shelf shelf'
    past_then k s there =
        let here : SameFrom j.opening.settings.servers now.stock.shelf shelf'
        = subst (λ (settings : Settings). SameFrom settings.servers now.stock.shelf shelf') j.going.so_far.settings past in
        here k s there ∙ j.past k s there

    told_then : (kind.view old.disk).tells ≡ true → (kind.view now.state.disk).tells ≡ true
    told_then told = j.on.tells ∙ j.begun.goes_on.tells ∙ told

    -- the records behind one more line
    added_then : (line : List ℕ) (a : Answer) → LineAdds kind now.state state' (line_of line) a → (kind.view old.disk).tells ≡ true
        → Adding kind j.disk j.opening (longer j.going.log line a) state'
    added_then line a adds told =
        adding_more kind j.disk j.opening j.going.log now.state state' (j.added told) (told_then told) j.going.so_far.ran.each line a adds

    pub journaling_on : (more : Bool) → PassAdds stores kind now next (Ok (Some more)) → Journaling asked old next (bad || more)
    journaling_on more pass = journaling asked old next (bad || more) j.shelf j.disk j.opening j.begun
        (going_on (journaled_engine stores kind) laws j.opening start now next bad j.going more pass.is) goes_then past_then
        (λ told. subst (λ (l : Log). Adding kind j.disk j.opening l state')
        (sym (going_on_log (journaled_engine stores kind) laws j.opening start now next bad j.going more pass.is))
        (added_then pass.is.came.line pass.is.came.done.answer pass.adds told))

    next_line : (line : List ℕ) → CameLine now.input input' line → IsNextLine old.source.rest j.going.log.lines line
    next_line line came all e =
        let (more, all_is) = told_front all input'.source.rest input'.held (j.going.log.lines ++ line ∷ [])
        (told_more all now.input.source.rest input'.source.rest now.input.held input'.held j.going.log.lines line (j.going.read all e) came) in
        (more, all_is ∙ append_assoc j.going.log.lines (line ∷ []) more)

    -- ---- what a stop leaves, where the devices tell, there is room, and the run starts from this tree
    module _ (tells : TellsAll (synced_kind stores) j.shelf) (told : (kind.view old.disk).tells ≡ true) (low : j.opening.number ≤ 2 ^ 61)
        (few : j.opening.next_tx ≤ 2 ^ 61) (t : Tree) (from : StartsFrom (byte_at (synced_kind stores) j.shelf) j.opening.bytes t) where
      abbrev m : Machine
      m = last j.opening t j.going.log

      abbrev most : ℕ
      most = j.opening.next_tx + length j.going.log.lines + 1

      told_now : (kind.view now.state.disk).tells ≡ true
      told_now = told_then told

      room : CoreHasRoom now.state.durable.core
      room = (
        let most = j.going.number in omega (arith, most, low),
        let most = j.going.next_tx in omega (arith, most, few),
      )

      grow : MayGrow now.state.durable.core
      grow = (
        let most = j.going.number in omega (arith, most, low),
        let most = j.going.next_tx in omega (arith, most, few),
      )

      small : IsSmall m
      small = small_now (journaled_engine stores kind) laws j.opening start now next bad j.going (byte_at (synced_kind stores) j.shelf) t from

      stands_now : StandsDurably stores kind (scene_of now) m
      stands_now = (j.going.so_far.stands tells t from).journal ((j.going.so_far.told tells).tells t from).tables.all told_now room

      -- nothing was touched
      stands_quiet : IsQuiet now next → StandsDurably stores kind (scene_of next) m
      stands_quiet quiet =
          subst (λ (s : JournaledState D). StandsDurably stores kind (durable_scene shelf' s.disk s.durable) m) (sym quiet.state)
          (subst (λ (s : Stock (SyncedState S)). StandsDurably stores kind (durable_scene s.shelf now.state.disk now.state.durable) m) (sym quiet.stock)
          stands_now)

      inside_quiet : IsQuiet now next → IsInside (synced_kind stores) shelf' state'.durable.core
      inside_quiet quiet =
          subst (λ (s : JournaledState D). IsInside (synced_kind stores) shelf' s.durable.core) (sym quiet.state)
          (subst (λ (s : Stock (SyncedState S)). IsInside (synced_kind stores) s.shelf now.state.durable.core) (sym quiet.stock) j.going.sound.durable.inside)

      leaves_quiet : IsQuiet now next → (sink : SinkView) (left : Leftover) → StopBehind stores kind (new_with sink) left → LeavesStore left m most
      leaves_quiet quiet sink left behind =
          store_later left m state'.durable.core.tables.next_tx most
          (let same = ap (λ (s : JournaledState D). s.durable.core.tables.next_tx) quiet.state in let begun = j.going.begun in omega (arith, same, begun))
          (durable_leaves stores kind store_laws disk_laws (scene_of next) m (stands_quiet quiet) (inside_quiet quiet) left
          (record { shelf = behind.shelf; disk = behind.disk }))

      -- a line was answered, whose text was cut
      leaves_cut : (pass : PassIs (journaled_engine stores kind) now next (Err stop.Unwritten)) (left : Leftover) → StopBehind stores kind (new_with sink') left
          → LeavesStore left (last j.opening t (longer j.going.log pass.came.line pass.came.cut.answer))
          (j.opening.next_tx + length (longer j.going.log pass.came.line pass.came.cut.answer).lines + 1)
      leaves_cut pass left behind =
          let cut = pass.came.cut in
          let then = so_far_more (journaled_engine stores kind) laws j.opening start.stock j.going.log (step_of now next) j.going.so_far pass.came.line
          cut.answer cut.is pass.keeper.faults (short_now (journaled_engine stores kind) laws j.opening start now next bad j.going) in
          let top : CoreHasRoom state'.durable.core = (
            let most = j.going.number in let more = cut.is.goes_on.number in omega (arith, most, low, more),
            let most = j.going.next_tx in let more = cut.is.goes_on.next_tx in omega (arith, most, few, more),
          ) in
          store_later left (last j.opening t (longer j.going.log pass.came.line cut.answer)) state'.durable.core.tables.next_tx
          (j.opening.next_tx + length (longer j.going.log pass.came.line cut.answer).lines + 1)
          (let begun = j.going.begun in let more = cut.is.goes_on.next_tx in let long = length_push j.going.log.lines pass.came.line in
          omega (arith, begun, more, long))
          (durable_leaves stores kind store_laws disk_laws (scene_of next) (last j.opening t (longer j.going.log pass.came.line cut.answer))
          ((then.stands tells t from).journal ((then.told tells).tells t from).tables.all (on.tells ∙ told_now) top) cut.is.goes_on.sound.durable.inside left
          (record { shelf = behind.shelf; disk = behind.disk }))

      -- a line was not answered, or not told of
      leaves_broken : (b : BreaksOff stores kind now next) (left : Leftover) → StopBehind stores kind (new_with sink') left
          → (final : Machine) × ((final ≡ m) ⊎ IsOfNextLine m old.source.rest j.going.log.lines final) × LeavesStore left final most
      leaves_broken b left behind =
          let (final, which, leaves) = b.survives m small stands_now grow left (record { shelf = behind.shelf; disk = behind.disk }) in (
            final,
            ⊎_elim (λ same. inl same) (λ may. inr (record { line = b.line; next = next_line b.line b.came; may = may })) which,
            store_later left final (now.state.durable.core.tables.next_tx + 1) most (let begun = j.going.begun in omega (arith, begun)) leaves,
          )

    -- ---- the ends
    abbrev Lasts : ℕ → JournaledDevices S D → Log → Type 0
    Lasts status new log = LastsBehind stores kind old j.shelf j.opening status new log

    abbrev IsServed : ℕ → JournaledDevices S D → Log → Type 0
    IsServed found new log = (served : Served (synced_kind stores) (λ images. ⊤) j.opening found start (blind_devices kind new)) × (served.log ≡ log)

    abbrev Adds : JournaledDevices S D → Log → Type 0
    Adds new log = AddsRecords stores kind old j.shelf j.disk j.opening new log

    opened_by : (status found : ℕ) → text_status status ≡ found → (sink : SinkView) (log : Log) → IsServed found (new_with sink) log
        → (status ≡ 5 → FailsAtNext kind j.disk state'.disk old.source.rest log.lines) → Lasts status (new_with sink) log
        → (status ≢ 5 → status ≢ 7 → Adds (new_with sink) log) → IsJournaledRun stores kind asked status old (new_with sink)
    opened_by status found is sink log by cause lasts adds =
        let (served, same) = subst (λ (n : ℕ). IsServed n (new_with sink) log) (sym is) by in
        inr (record {
          shelf = j.shelf;
          disk = j.disk;
          opening = j.opening;
          begun = j.begun;
          served = served;
          cause = λ is_5. subst (λ (l : Log). FailsAtNext kind j.disk state'.disk old.source.rest l.lines) (sym same) (cause is_5);
          lasts = subst (λ (l : Log). Lasts status (new_with sink) l) (sym same) lasts;
          past = λ k s there. past_then k s there ∙ j.begun.past k s there;
          adds = λ on_5 on_7. subst (λ (l : Log). Adds (new_with sink) l) (sym same) (adds on_5 on_7);
        })

    -- nothing was touched behind the last line
    adds_quiet : IsQuiet now next → (sink : SinkView) → Adds (new_with sink) j.going.log
    adds_quiet quiet sink = λ tells told t from.
        adding_end kind j.disk j.opening j.going.log state' t
        (subst (λ (s : JournaledState D). Adding kind j.disk j.opening j.going.log s) (sym quiet.state) (j.added told))
        (j.going.so_far.ran.accepted tells t from)
        (ap (λ (s : JournaledState D). s.durable.core.tables.kv.number) quiet.state ∙ j.going.number_is tells t from)

    -- a line was answered, whose text was cut
    adds_cut : (pass : PassAdds stores kind now next (Err stop.Unwritten))
        → Adds (new_with sink') (longer j.going.log pass.is.came.line pass.is.came.cut.answer)
    adds_cut pass = λ tells told t from.
        let came = pass.is.came in
        let a = came.cut.answer in
        let short = short_now (journaled_engine stores kind) laws j.opening start now next bad j.going in
        let then = so_far_more (journaled_engine stores kind) laws j.opening start.stock j.going.log (step_of now next) j.going.so_far came.line a came.cut.is
        pass.is.keeper.faults short in
        let law = lawful_more (journaled_engine stores kind) laws j.opening start.stock j.going.log (step_of now next) j.going.so_far came.line a came.cut.is
        pass.is.keeper.faults short tells t from in
        let same = last_more (journaled_engine stores kind) laws j.opening start.stock j.going.log (step_of now next) j.going.so_far came.line a came.cut.is
        pass.is.keeper.faults short t in
        adding_end kind j.disk j.opening (longer j.going.log came.line a) state' t (added_then came.line a pass.adds told)
        (then.ran.accepted tells t from) (law.number ∙ ap (λ (m : Machine). m.number) same)

    lasts_quiet : IsQuiet now next → (status : ℕ) (sink : SinkView) → Lasts status (new_with sink) j.going.log
    lasts_quiet quiet status sink = λ tells told low few t from left behind.
        (last j.opening t j.going.log, inl refl, leaves_quiet tells told low few t from quiet sink left behind)

    -- the journal failed, or memory was wanted
    lasts_short : PassBreaks stores kind now next → (status : ℕ) → (status ≡ 5) ⊎ (status ≡ 7) → Lasts status (new_with sink') j.going.log
    lasts_short (inl quiet) status which = lasts_quiet quiet status sink'
    lasts_short (inr broken) status which = λ tells told low few t from left behind.
        let (final, is, leaves) = leaves_broken tells told low few t from broken left behind in
        (final, ⊎_elim (λ same. inl same) (λ of_next. inr (which, of_next)) is, leaves)

    stopped_by : (why : Stop) (pass : PassIs (journaled_engine stores kind) now next (Err why)) (log : Log)
        → (finish_stop (journaled_engine stores kind) laws keeps (λ images. ⊤) j.opening start now next bad j.going why pass).log ≡ log
        → IsServed (stop_status why) (new_with sink') log
    stopped_by why pass log same = (finish_stop (journaled_engine stores kind) laws keeps (λ images. ⊤) j.opening start now next bad j.going why pass, same)

    rose : Rose (kind.view now.state.disk).faults (kind.view state'.disk).faults → Rose (kind.view j.disk).faults (kind.view state'.disk).faults
    rose cause = rose_in (kind.view j.disk).faults (kind.view now.state.disk).faults (kind.view state'.disk).faults (kind.view state'.disk).faults
        j.on.faults cause (omega arith)

    -- the run ends before the end of its script
    pub halted : (why : Halt) → PassAdds stores kind now next (Err (stop_of why))
        → ((why ≡ halt.Stopped stop.Memory) ⊎ (why ≡ halt.Journal) → PassBreaks stores kind now next)
        → (why ≡ halt.Journal → FailsAt kind now.input input' now.state.disk state'.disk)
        → IsJournaledRun stores kind asked (halt_status why) old (new_with sink')
    halted (halt.Stopped stop.Unread) pass breaks cause =
        opened_by 3 3 refl sink' j.going.log (stopped_by stop.Unread pass.is j.going.log
        (stop_log (journaled_engine stores kind) laws keeps (λ images. ⊤) j.opening start now next bad j.going stop.Unread pass.is))
        (λ e. absurd (omega (arith, e)))
        (lasts_quiet pass.is.came.1 3 sink') (λ on_5 on_7. adds_quiet pass.is.came.1 sink')
    halted (halt.Stopped stop.Unwritten) pass breaks cause =
        opened_by 4 4 refl sink' (longer j.going.log pass.is.came.line pass.is.came.cut.answer)
        (stopped_by stop.Unwritten pass.is (longer j.going.log pass.is.came.line pass.is.came.cut.answer)
        (stop_log (journaled_engine stores kind) laws keeps (λ images. ⊤) j.opening start now next bad j.going stop.Unwritten pass.is))
        (λ e. absurd (omega (arith, e)))
        (λ tells told low few t from left behind.
        (last j.opening t (longer j.going.log pass.is.came.line pass.is.came.cut.answer), inl refl, leaves_cut tells told low few t from pass.is left behind))
        (λ on_5 on_7. adds_cut pass)
    halted (halt.Stopped stop.TooMuch) pass breaks cause =
        opened_by 9 9 refl sink' j.going.log (stopped_by stop.TooMuch pass.is j.going.log
        (stop_log (journaled_engine stores kind) laws keeps (λ images. ⊤) j.opening start now next bad j.going stop.TooMuch pass.is))
        (λ e. absurd (omega (arith, e)))
        (lasts_quiet pass.is.came.1 9 sink') (λ on_5 on_7. adds_quiet pass.is.came.1 sink')
    halted (halt.Stopped stop.Memory) pass breaks cause =
        opened_by 7 7 refl sink' j.going.log (stopped_by stop.Memory pass.is j.going.log
        (stop_log (journaled_engine stores kind) laws keeps (λ images. ⊤) j.opening start now next bad j.going stop.Memory pass.is))
        (λ e. absurd (omega (arith, e)))
        (lasts_short (breaks (inl refl)) 7 (inr refl)) (λ on_5 on_7. absurd (on_7 refl))
    halted halt.Journal pass breaks cause =
        opened_by 5 7 refl sink' j.going.log (stopped_by stop.Memory pass.is j.going.log
        (stop_log (journaled_engine stores kind) laws keeps (λ images. ⊤) j.opening start now next bad j.going stop.Memory pass.is))
        (λ e. let fails = cause refl in record { rose = rose fails.rose; line = fails.line; next = next_line fails.line fails.came })
        (lasts_short (breaks (inr refl)) 5 (inl refl)) (λ on_5 on_7. absurd (on_5 refl))

    -- ---- the end of the script: what the sink held back is brought out, or the sink failed
    as_ended : (b : Bool) → text_status (end_status b) ≡ end_status b
    as_ended true = refl
    as_ended false = refl

    not_5 : (b : Bool) → end_status b ≡ 5 → ⊥
    not_5 true e = omega (arith, e)
    not_5 false e = omega (arith, e)

    pub journaled_end : PassIs (journaled_engine stores kind) now next (Ok None) → (status : ℕ) (sink : SinkView)
        → ((bytes : List ℕ) → sink'.taken ≡ Some bytes → sink.taken ≡ Some bytes) → sink'.faults ≤ sink.faults
        → ((status ≡ end_status bad) × (sink.faults ≡ sink'.faults)) ⊎ ((status ≡ 4) × Rose sink'.faults sink.faults)
        → IsJournaledRun stores kind asked status old (new_with sink)
    journaled_end pass status sink taken rises (inl (is, still)) =
        let quiet = pass.came.1 in
        let follows = subst (λ (s : Stock (SyncedState S)). EachFollows (synced_kind stores) now.stock.shelf s.shelf []) (sym quiet.stock)
        (each_same laws now.stock.shelf) in
        let same : SameLengths (synced_kind stores) now.stock.shelf shelf'
        = subst (λ (s : Stock (SyncedState S)). SameLengths (synced_kind stores) now.stock.shelf s.shelf) (sym quiet.stock) (λ k d there f. refl) in
        opened_by status (end_status bad) (ap text_status is ∙ as_ended bad) sink j.going.log (
          finish_blind (journaled_engine stores kind) laws keeps (λ images. ⊤) j.opening start now next bad j.going sink next.stock state' pass follows
              pass.keeper taken still refl same,
          blind_log (journaled_engine stores kind) laws keeps (λ images. ⊤) j.opening start now next bad j.going sink next.stock state' pass follows
              pass.keeper taken still refl same,
        )
        (λ e. absurd (not_5 bad (sym is ∙ e))) (lasts_quiet quiet status sink) (λ on_5 on_7. adds_quiet quiet sink)
    journaled_end pass status sink taken rises (inr (is, cause)) =
        opened_by status 4 (ap text_status is) sink j.going.log (
          finish_held (journaled_engine stores kind) laws keeps (λ images. ⊤) j.opening start now next bad j.going sink pass taken rises cause,
          held_log (journaled_engine stores kind) laws keeps (λ images. ⊤) j.opening start now next bad j.going sink pass taken rises cause,
        )
        (λ e. absurd (omega (arith, is, e))) (lasts_quiet pass.came.1 status sink) (λ on_5 on_7. adds_quiet pass.came.1 sink)

  -- ---- A run whose journal was just opened
  module _ (asked : Settings) (old : JournaledDevices S D) (shelf : List (SyncedState S)) (disk : D) (d : DurableView)
      (o : OpensDurable stores kind asked old.disk (durable_scene shelf disk d)) (follows : EachFollows (synced_kind stores) old.shelf shelf [])
      (goes_on : DiskGoesOn kind old.disk disk) (safe : BeginsSafely stores kind asked old (on_devices old.source old.sink shelf disk))
      (sane : (kind.view old.disk).tells ≡ true → (n : ℕ) → IsBadAt held_by None ((kind.view old.disk).file 0).seen n → ⊥)
      (lengths : SameLengths (synced_kind stores) old.shelf shelf) (past : SameFrom d.core.settings.servers old.shelf shelf) where
    abbrev opening : Opening
    opening = o.opened.opening

    abbrev begin : Devices (SyncedState S)
    begin = blind_devices kind (on_devices old.source old.sink shelf disk)

    abbrev keeper : KeeperView
    keeper = blind (kind.view disk)

    begun : HasBegun stores kind asked old shelf disk opening
    begun = record {
      follows = follows;
      lengths = lengths;
      past = subst (λ (settings : Settings). SameFrom settings.servers old.shelf shelf) o.opened.ready.settings past;
      goes_on = goes_on;
      safe = safe;
      sane = sane;
      opens = o.opened.opens;
      given = subst (λ (b : List ℕ). IsGivenBy kind old.disk b) (sym o.opened.bytes_are) o.given;
      records = λ tells. (
        d.journal.end,
        subst (λ (b : List ℕ). LeavesRecords kind asked (byte_at (synced_kind stores) shelf) old.disk disk d.journal.end b) (sym o.opened.bytes_are)
            (o.records tells),
      );
    }

    stands_first : TellsAll (synced_kind stores) shelf → (kind.view old.disk).tells ≡ true → (t : Tree)
        → StartsFrom (byte_at (synced_kind stores) shelf) opening.bytes t → StandsDurably stores kind (durable_scene shelf disk d) (first opening t)
    stands_first all told t from =
        o.stands all told t (subst (λ (b : List ℕ). StartsFrom (byte_at (synced_kind stores) shelf) b t) o.opened.bytes_are from)

    ready : CanBegin (journaled_engine stores kind) opening shelf (journaled d disk)
    ready =
        let r = o.opened.ready in
        record {
          sound = record { durable = r.sound; reach = o.reach };
          settings = r.settings;
          number = r.number;
          next_tx = r.next_tx;
          up = r.up;
          unfreed = r.unfreed;
          kept = r.kept;
          given = record { full = r.given.full; bare = r.given.bare };
          told = λ all.
              let is = r.told all in
              record {
                tells = is.tells;
                wide = is.wide;
                within = λ t from bare. (all, is.within t from bare);
                within_from = λ t from. (all, is.within_from t from);
              };
          stands = λ t from. record {
            core = r.stands t from;
            journal = λ all told room. stands_first all (sym goes_on.tells ∙ told) t from;
          };
          enough = r.enough;
          taken = r.taken;
        }

    unhanded : IsKeeperKept (λ images. ⊤) keeper keeper
    unhanded = record { held = λ bytes is. is; nothing = tt }

    stays : KeeperGoesOn keeper keeper
    stays = record { faults = omega arith; tells = refl }

    first_is : (text : List ℕ) → text ≡ settings_line d.core.settings d.core.tables.kv.number → text ≡ first_line opening
    first_is text is = is ∙ line_of_first (journaled_engine stores kind) opening (journaled d disk) ready.settings ready.number

    adding_first : (kind.view old.disk).tells ≡ true → Adding kind disk opening (record { lines = []; answers = [] }) (journaled d disk)
    adding_first told = adding_none kind opening (journaled d disk) ready.number
        (rests_of kind asked (byte_at (synced_kind stores) shelf) old.disk disk d.journal.end o.image (o.records told))

    -- behind its first line
    pub journaling_first : (sink' : SinkView) (text : List ℕ) → text ≡ settings_line d.core.settings d.core.tables.kv.number
        → ((taken : List ℕ) → old.sink.taken ≡ Some taken → sink'.taken ≡ Some (taken ++ text)) → sink'.faults ≡ old.sink.faults
        → Journaling asked old (journaled_hand kind (input old.source (record { bytes = []; count = 0; ended = false })) sink' shelf (journaled d disk)) false
    journaling_first sink' text is wrote still =
        let at = journaled_hand kind (input old.source (record { bytes = []; count = 0; ended = false })) sink' shelf (journaled d disk) in
        journaling asked old at false shelf disk opening begun
        (going_none (journaled_engine stores kind) laws opening begin sink' keeper (journaled d disk) ready (room_of asked opening.bytes opening begun.opens)
        (begins_of (size_in (synced_kind stores) shelf) asked opening.bytes opening begun.opens ready.taken) stays (λ bytes held. held)
        (λ taken e. wrote taken e ∙ ap (λ (x : List ℕ). Some (taken ++ x)) (first_is text is)) still)
        (disk_same kind disk) (λ k s there. refl) (λ told. subst (λ (l : Log). Adding kind disk opening l (journaled d disk))
        (sym (going_none_log (journaled_engine stores kind) laws opening begin sink' keeper (journaled d disk) ready
        (room_of asked opening.bytes opening begun.opens)
        (begins_of (size_in (synced_kind stores) shelf) asked opening.bytes opening begun.opens ready.taken) stays (λ bytes held. held)
        (λ taken e. wrote taken e ∙ ap (λ (x : List ℕ). Some (taken ++ x)) (first_is text is)) still)) (adding_first told))

    -- a stop before it leaves the tree that the journal gave
    none_after : {X : Type 0} (go : X → Line → Answer → X) (x : X) → state_after go x [] [] ≡ x
    unfolding state_after
    none_after go x = refl

    adds_first : (sink : SinkView) → AddsRecords stores kind old shelf disk opening (on_devices old.source sink shelf disk)
        (record { lines = []; answers = [] })
    adds_first sink = λ all told t from.
        adding_end kind disk opening (record { lines = []; answers = [] }) (journaled d disk) t (adding_first told)
        (along_none after_line MayLine (first opening t)) (ready.number ∙ sym (ap (λ (m : Machine). m.number) (none_after after_line (first opening t))))

    lasts_first : (status : ℕ) (sink : SinkView) → LastsBehind stores kind old shelf opening status (on_devices old.source sink shelf disk)
        (record { lines = []; answers = [] })
    lasts_first status sink = λ all told low few t from left behind. (
      last opening t (record { lines = []; answers = [] }),
      inl refl,
      subst (λ (x : Machine). LeavesStore left x (opening.next_tx + 0 + 1)) (sym (none_after after_line (first opening t)))
          (store_later left (first opening t) d.core.tables.next_tx (opening.next_tx + 0 + 1) (let same = o.opened.ready.next_tx in omega (arith, same))
          (durable_leaves stores kind store_laws disk_laws (durable_scene shelf disk d) (first opening t) (stands_first all told t from)
          o.opened.ready.sound.inside left (record { shelf = behind.shelf; disk = behind.disk }))),
    )

    -- memory was wanted before it, or the sink failed
    pub short_first : IsJournaledRun stores kind asked 7 old (on_devices old.source old.sink shelf disk)
    short_first = inr (record {
      shelf = shelf;
      disk = disk;
      opening = opening;
      begun = begun;
      served = unstarted (synced_kind stores) laws (λ images. ⊤) opening begin keeper unhanded stays ready.enough;
      cause = λ e. absurd (omega (arith, e));
      lasts = subst (λ (l : Log). LastsBehind stores kind old shelf opening 7 (on_devices old.source old.sink shelf disk) l)
          (sym (unstarted_log (synced_kind stores) laws (λ images. ⊤) opening begin keeper unhanded stays ready.enough)) (lasts_first 7 old.sink);
      past = begun.past;
      adds = λ on_5 on_7. absurd (on_7 refl);
    })

    pub unwritten_first : (sink' : SinkView) (text : List ℕ) → text ≡ settings_line d.core.settings d.core.tables.kv.number
        → ((taken : List ℕ) → old.sink.taken ≡ Some taken → WroteFront taken text sink'.taken) → Rose old.sink.faults sink'.faults
        → old.sink.faults ≤ sink'.faults → IsJournaledRun stores kind asked 4 old (on_devices old.source sink' shelf disk)
    unwritten_first sink' text is cut cause rises =
        let front : (taken : List ℕ) → old.sink.taken ≡ Some taken → WroteFront taken (first_line opening) sink'.taken
        = λ taken e. let (f, back, all, new) = cut taken e in (f, back, sym (first_is text is) ∙ all, new) in
        inr (record {
          shelf = shelf;
          disk = disk;
          opening = opening;
          begun = begun;
          served = unwritten (synced_kind stores) laws (λ images. ⊤) opening begin keeper unhanded stays sink' ready.enough ready.taken front cause rises;
          cause = λ e. absurd (omega (arith, e));
          lasts = subst (λ (l : Log). LastsBehind stores kind old shelf opening 4 (on_devices old.source sink' shelf disk) l)
              (sym (unwritten_log (synced_kind stores) laws (λ images. ⊤) opening begin keeper unhanded stays sink' ready.enough ready.taken front cause rises))
              (lasts_first 4 sink');
          past = begun.past;
          adds = λ on_5 on_7. subst (λ (l : Log). AddsRecords stores kind old shelf disk opening (on_devices old.source sink' shelf disk) l)
              (sym (unwritten_log (synced_kind stores) laws (λ images. ⊤) opening begin keeper unhanded stays sink' ready.enough ready.taken front cause rises))
              (adds_first sink');
        })
