-- What a line adds to the journal, and what came of a pass adds.
use Rattle.std.proofs.Common.{◌≡◌, ◌⊎◌, ◌≤◌, ◌+◌, ◌++◌, ℕ, Bool, true, false, List, [], ◌∷◌, Option, Some, None, Ok, Err, length, refl, sym, ap, ◌∙◌, subst}
use Rattle.std.proofs.Common.{inl, inr, append_assoc, arith}
use Rattle.std.proofs.lemmas.List.{append-nil}
use Rattle.std.specs.Prelude.{if◌then◌else◌, is_err, ⊤}
use Rattle.wtf_base.specs.Places.{Place}
use Rattle.wtf_base.specs.declared.settings.Settings.{Settings}
use Rattle.wtf_dev.specs.Disk.{DiskKind}
use Rattle.wtf_dev.specs.Store.{KindLaws}
use Rattle.wtf_dev.specs.Streams.{SinkView}
use Rattle.wtf_journal.specs.Follows.{SyncedState, synced_kind}
use Rattle.wtf_journal.specs.Held.{ends_in_changes, renewal}
use Rattle.wtf_journal.specs.Records.{RestsAt}
use Rattle.wtf_model.specs.declared.answer.Answer.{Answer}
use Rattle.wtf_model.specs.declared.answer.Answer.TheVariants as answer
use Rattle.wtf_model.specs.declared.event.Event.{Event}
use Rattle.wtf_model.specs.declared.event.Event.TheVariants as event
use Rattle.wtf_model.specs.Lines.{Along, Line, MayLine}
use Rattle.wtf_model.specs.Servers.{AlongDowns, down_after, none_down}
use Rattle.wtf_model.specs.Tree.{Tree}
use Rattle.wtf_model.proofs.LineLaws.{AlongBy-lengths}
use Rattle.wtf_core.specs.Promises.{span_of}
use Rattle.wtf_core.specs.Views.{CoreView}
use Rattle.wtf_core.proofs.Watching.{line_watched}
use Rattle.wtf_serve.specs.declared.service.Stop.{Stop}
use Rattle.wtf_serve.specs.declared.service.Stop.TheVariants as stop
use Rattle.wtf_serve.specs.Answering.{IsOwnAnswer}
use Rattle.wtf_serve.specs.Engines.{Step}
use Rattle.wtf_serve.specs.Logs.{Log, asked, last}
use Rattle.wtf_serve.specs.Openings.{Opening, first}
use Rattle.wtf_serve.specs.Passes.{CameLine, CameStop, HasLine, Input, IsLeftOut, PassCame, hand, step_of}
use Rattle.wtf_serve.specs.Scripts.{line_of}
use Rattle.wtf_serve.specs.Turns.{IsLeftAlone, IsUnwritten}
use Rattle.wtf_serve.proofs.Passing.{pass_unread}
use Rattle.wtf_serve.proofs.RanLaws.{asked-longer, longer}
use Rattle.wtf_durable.specs.Opened.{LeavesRecords}
use Rattle.wtf_durable.specs.Promises.{DurableDoes, IsImageBody, Records, changes_body}
use Rattle.wtf_durable.specs.Sound.{IsSoundDurable}
use Rattle.wtf_durable.specs.Views.{DurableScene, core_scene}
use Rattle.wtf_journaled.specs.declared.halt.Halt.{Halt}
use Rattle.wtf_journaled.specs.declared.halt.Halt.TheVariants as halt
use Rattle.wtf_journaled.specs.Added.{AddedRecords, CameAdds, LineAdds, TurnAdds, change_count, has_saved, image_count}
use Rattle.wtf_journaled.specs.Breaks.{stop_of}
use Rattle.wtf_journaled.specs.Engine.{JournaledHand, JournaledState, journaled, journaled_engine}
use Rattle.wtf_journaled.proofs.Saving.{saves_are, saves_count}

some_is : (x y : ℕ) → Some x ≡ Some y → x ≡ y
some_is x y is = cc

image_count-append : (xs ys : List (List ℕ)) → image_count (xs ++ ys) ≡ image_count xs + image_count ys
image_count-append [] ys = omega arith
image_count-append (x ∷ xs) ys = let rest = image_count-append xs ys in omega (arith, rest)

change_count-append : (xs ys : List (List ℕ)) → change_count (xs ++ ys) ≡ change_count xs + change_count ys
change_count-append [] ys = omega arith
change_count-append (x ∷ xs) ys = let rest = change_count-append xs ys in omega (arith, rest)

abbrev bit : Bool → ℕ
bit b = if b then 1 else 0

saves_count-push : (lines : List Line) (answers : List Answer) (line : Line) (a : Answer) → length lines ≡ length answers
    → saves_count (lines ++ line ∷ []) (answers ++ a ∷ []) ≡ saves_count lines answers + bit (has_saved line a)
saves_count-push [] [] line a same = omega arith
saves_count-push [] (b ∷ answers) line a same = absurd (omega (arith, same))
saves_count-push (l ∷ lines) [] line a same = absurd (omega (arith, same))
saves_count-push (l ∷ lines) (b ∷ answers) line a same = omega (arith, saves_count-push lines answers line a (omega (arith, same)))

-- these records have so many images, and so many changes
abbrev Counts : ℕ → ℕ → List (List ℕ) → Type 0
Counts images changes bodies = (image_count bodies ≡ images) × (change_count bodies ≡ changes)

-- an image is recorded where the line saved
images_of : (core : CoreView) (e : Event) (a : Answer) (bodies : List (List ℕ)) → IsImageBody core e a bodies → Counts (bit (has_saved (Ok e) a)) 0 bodies
images_of core event.Save (answer.Saved n) bodies (image, save, is) = subst (Counts 1 0) (sym is) (refl, refl)
images_of core event.Save a bodies is = subst (Counts 0 0) (sym is) (refl, refl)
images_of core e a bodies is = subst (Counts 0 0) (sym is) (refl, refl)

one_more : (a b : ℕ) → a ≤ b → b ≤ a + 1 → (a ≡ b → ⊥) → 1 + a ≡ b
one_more a b least most differ = omega (arith, least, most, differ)

-- and changes where the number of installs is another than the one that was watched
changes_of : (mid new : CoreView) (changes : Option (List ℕ)) (number : ℕ) → Records mid new changes → mid.tables.beside.watched ≡ Some number
    → number ≤ new.tables.kv.number → new.tables.kv.number ≤ number + 1
    → (image_count (changes_body changes) ≡ 0) × (change_count (changes_body changes) + number ≡ new.tables.kv.number)
changes_of mid new None number (all, same) watched least most =
    let is = some_is mid.tables.kv.number number (sym all ∙ watched) in
    let now = ap (λ (core : CoreView). core.tables.kv.number) same in
    (refl, omega (arith, is, now))
changes_of mid new (Some changes) number told watched least most =
    let now = told.watches.tables.number in
    let is = some_is told.since number (sym told.was ∙ watched) in
    (refl, one_more number new.tables.kv.number least most (λ same. told.later (is ∙ same ∙ now)))

module _ {S D : Type 0} (stores : DiskKind S) (kind : DiskKind D) where
  -- a line that a durable store answered
  pub event_adds : (old new : DurableScene S D) (e : Event) (a : Answer) → IsSoundDurable (synced_kind stores) old.shelf old.durable
      → DurableDoes stores kind old new e a → LineAdds kind (journaled old.durable old.disk) (journaled new.durable new.disk) (Ok e) a
  event_adds old new e a sound does =
      let line = does.line in
      let watched = line_watched (synced_kind stores) (span_of (core_scene kind old) (core_scene kind new)) old.durable.core line.answered sound.tables e a
      line.line ∙ sound.watched in
      let (none, changed) = changes_of line.answered new.durable.core line.changes old.durable.core.tables.kv.number line.told watched does.goes_on.number
      does.stays.number in
      let (saved, still) = images_of old.durable.core e a line.saved line.saved_is in
      record {
        more = line.saved ++ changes_body line.changes;
        rests = λ told bodies rests.
            subst (RestsAt kind new.disk new.durable.journal.end) (append_assoc bodies line.saved (changes_body line.changes)) (line.added told bodies rests);
        images = let all = image_count-append line.saved (changes_body line.changes) in omega (arith, all, none, saved);
        changes = let all = change_count-append line.saved (changes_body line.changes) in omega (arith, all, changed, still);
      }

  -- one that asks nothing
  pub bad_adds : (s : JournaledState D) (bad : Answer) → LineAdds kind s s (Err bad) bad
  bad_adds s bad = record {
    more = [];
    rests = λ told bodies rests. subst (RestsAt kind s.disk s.durable.journal.end) (sym (append-nil bodies)) rests;
    images = refl;
    changes = omega arith;
  }

  -- a turn whose line was not answered
  pub turn_unanswered : (t : Step (SyncedState S) (JournaledState D)) (line : Line) (sink : SinkView) (why : Halt)
      → (why ≡ halt.Journal) ⊎ (why ≡ halt.Stopped stop.Memory) → IsLeftAlone (journaled_engine stores kind) t
      → TurnAdds stores kind t line sink sink (Err (stop_of why))
  turn_unanswered t line sink why which alone =
      let memory : stop_of why ≡ stop.Memory = elim which [ inl is ↦ ap stop_of is | inr is ↦ ap stop_of is ] in
      subst (λ (s : Stop). TurnAdds stores kind t line sink sink (Err s)) (sym memory) (record { is = (refl, inl alone); adds = tt })

  -- ---- a pass
  module _ (h h' : JournaledHand S D) where
    abbrev t : Step (SyncedState S) (JournaledState D)
    t = step_of h h'

    abbrev StopsBy : Stop → Type 0
    StopsBy why = (came : PassCame (journaled_engine stores kind) h h' (Err why)) × CameAdds stores kind h h' (Err why) came

    out_of : (bytes : List ℕ) → CameLine h.input h'.input bytes
        → IsLeftAlone (journaled_engine stores kind) t ⊎ IsUnwritten (journaled_engine stores kind) t (line_of bytes)
        → IsLeftAlone (journaled_engine stores kind) t ⊎ IsLeftOut (journaled_engine stores kind) h h'
    out_of bytes came (inl alone) = inl alone
    out_of bytes came (inr out) = inr (record { line = bytes; came = came; out = out })

    stops_by : (bytes : List ℕ) (why : Stop) → CameLine h.input h'.input bytes → TurnAdds stores kind t (line_of bytes) h.sink h'.sink (Err why) → StopsBy why
    stops_by bytes stop.Unwritten came turn = (record { line = bytes; came = came; cut = turn.is }, turn.adds)
    stops_by bytes stop.Memory came turn = (record { came = inr (bytes, came); sink = turn.is.0; kept = out_of bytes came turn.is.1 }, tt)
    stops_by bytes why came turn = absurd turn.is

    pub pass_stops : (asked : Line) (why : Stop) → HasLine h.input h'.input asked → TurnAdds stores kind t asked h.sink h'.sink (Err why) → StopsBy why
    pass_stops asked why read turn =
        stops_by read.line why read.came (subst (λ (l : Line). TurnAdds stores kind t l h.sink h'.sink (Err why)) (sym read.asks) turn)

    pub pass_done : (asked : Line) (bad : Bool) → is_err asked ≡ bad → HasLine h.input h'.input asked → TurnAdds stores kind t asked h.sink h'.sink (Ok tt)
        → (came : PassCame (journaled_engine stores kind) h h' (Ok (Some bad))) × CameAdds stores kind h h' (Ok (Some bad)) came
    pass_done asked bad is read turn =
        let did = subst (λ (l : Line). TurnAdds stores kind t l h.sink h'.sink (Ok tt)) (sym read.asks) turn in
        (record { line = read.line; bad_is = ap is_err read.asks ∙ is; came = read.came; done = did.is; less = read.less }, did.adds)

  -- no line was read
  module _ (laws : KindLaws (synced_kind stores)) (h : JournaledHand S D) (i' : Input) where
    abbrev same : JournaledHand S D
    same = hand i' h.sink h.stock h.state

    abbrev unread : (why : Stop) → CameStop h.input i' why → PassCame (journaled_engine stores kind) h same (Err why)
    unread why came = (pass_unread (journaled_engine stores kind) laws (λ images. ⊤) h i' tt why came).0

    pub pass_alone : (why : Stop) → CameStop h.input i' why → StopsBy h same why
    pass_alone stop.Unread came = (unread stop.Unread came, tt)
    pass_alone stop.TooMuch came = (unread stop.TooMuch came, tt)
    pass_alone stop.Memory came = (unread stop.Memory came, tt)
    pass_alone stop.Unwritten came = absurd came

-- ---- a run
module _ {D : Type 0} (kind : DiskKind D) where
  -- the records that opening leaves
  pub rests_of : (asked : Settings) (told : Place → Option ℕ) (before after : D) (end : ℕ) (bytes : List ℕ) → LeavesRecords kind asked told before after end bytes
      → (bodies : List (List ℕ)) × RestsAt kind after end bodies
  rests_of asked told before after end [] leaves = ((0 ∷ leaves.image) ∷ [], leaves.rests)
  rests_of asked told before after end (b ∷ bytes) leaves =
      (leaves.bodies ++ renewal (ends_in_changes false leaves.bodies) (b ∷ bytes), leaves.rests)

  -- the records so far: those from before the run, and what its lines added
  pub record Adding (before : D) (opening : Opening) (log : Log) (s : JournaledState D) : Type 0 where
    pub end : ℕ
    pub bodies : List (List ℕ)
    pub begun : RestsAt kind before end bodies
    pub more : List (List ℕ)
    pub rests : RestsAt kind s.disk s.durable.journal.end (bodies ++ more)
    pub images : image_count more ≡ saves_count (asked log) log.answers
    pub changes : change_count more + opening.number ≡ s.durable.core.tables.kv.number

  -- no line has run
  pub adding_none : (opening : Opening) (s : JournaledState D) → s.durable.core.tables.kv.number ≡ opening.number
      → (bodies : List (List ℕ)) × RestsAt kind s.disk s.durable.journal.end bodies → Adding s.disk opening (record { lines = []; answers = [] }) s
  adding_none opening s number (bodies, rests) = record {
    end = s.durable.journal.end;
    bodies = bodies;
    begun = rests;
    more = [];
    rests = subst (RestsAt kind s.disk s.durable.journal.end) (sym (append-nil bodies)) rests;
    images = refl;
    changes = omega (arith, number);
  }

  -- one more line was answered
  pub adding_more : (before : D) (opening : Opening) (log : Log) (old new : JournaledState D) → Adding before opening log old
      → (kind.view old.disk).tells ≡ true → AlongDowns (λ down e b. IsOwnAnswer e b) none_down (asked log) log.answers → (line : List ℕ) (a : Answer)
      → LineAdds kind old new (line_of line) a → Adding before opening (longer log line a) new
  adding_more before opening log old new early told each line a late = record {
    end = early.end;
    bodies = early.bodies;
    begun = early.begun;
    more = early.more ++ late.more;
    rests = subst (RestsAt kind new.disk new.durable.journal.end) (append_assoc early.bodies early.more late.more)
        (late.rests told (early.bodies ++ early.more) early.rests);
    images = image_count-append early.more late.more ∙ ap (λ (n : ℕ). n + image_count late.more) early.images
        ∙ ap (λ (n : ℕ). saves_count (asked log) log.answers + n) late.images
        ∙ sym (saves_count-push (asked log) log.answers (line_of line) a (AlongBy-lengths down_after _ none_down (asked log) log.answers each))
        ∙ ap (λ (lines : List Line). saves_count lines (log.answers ++ a ∷ [])) (sym (asked-longer log line a));
    changes = let all = change_count-append early.more late.more in let was = early.changes in let here = late.changes in omega (arith, all, was, here);
  }

  -- the run ends there
  pub adding_end : (before : D) (opening : Opening) (log : Log) (s : JournaledState D) (t : Tree) → Adding before opening log s
      → Along MayLine (first opening t) (asked log) log.answers → s.durable.core.tables.kv.number ≡ (last opening t log).number
      → AddedRecords kind before s.disk opening t log
  adding_end before opening log s t so_far accepted number = record {
    end = so_far.end;
    bodies = so_far.bodies;
    begun = so_far.begun;
    more = so_far.more;
    last_end = s.durable.journal.end;
    rests = so_far.rests;
    images = so_far.images ∙ saves_are (first opening t) log.lines log.answers accepted;
    changes = so_far.changes ∙ number;
  }
