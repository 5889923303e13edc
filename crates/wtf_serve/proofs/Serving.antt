-- A run that was opened, on its way and at its end, with what its lines left alone.
use Rattle.std.proofs.Common.{◌≡◌, ◌⊎◌, ◌≤◌, ◌++◌, ℕ, Bool, false, List, [], Some, None, Ok, Err, refl, sym, ◌∙◌, subst, arith, ap, inl, inr}
use Rattle.std.specs.Prelude.{◌||◌, slice_index_or}
use Rattle.std.proofs.lemmas.List.{append-nil}
use Rattle.wtf_base.specs.declared.settings.Settings.{Settings}
use Rattle.wtf_dev.specs.Counts.{Rose}
use Rattle.wtf_dev.specs.Each.{EachFollows}
use Rattle.wtf_dev.specs.Keep.{KeeperView}
use Rattle.wtf_dev.specs.Streams.{SinkView}
use Rattle.wtf_dev.specs.Store.{StoreKind, KindLaws}
use Rattle.wtf_replica.specs.Outs.{SameFrom}
use Rattle.wtf_replica.specs.Spans.{Span, span}
use Rattle.wtf_model.specs.declared.answer.Answer.{Answer}
use Rattle.wtf_serve.specs.declared.service.Stop.{Stop}
use Rattle.wtf_serve.specs.declared.service.Stop.TheVariants as stop
use Rattle.wtf_serve.specs.Beginnings.{IsOpenedFrom, Ends}
use Rattle.wtf_serve.specs.Endings.{Devices, IsEarlyStatus, IsKeeperKept, IsNextLine, Served, stop_status}
use Rattle.wtf_serve.specs.Engines.{Engine, step, span_of}
use Rattle.wtf_serve.specs.Logs.{Log, first_line, last_downs}
use Rattle.wtf_serve.specs.Openings.{Opening, Opens}
use Rattle.wtf_serve.specs.Passes.{Hand, hand, input, step_of, IsLeftOut, ReadSpares, ShortSpares, PassDoes}
use Rattle.wtf_serve.specs.Scripts.{line_of, settings_line}
use Rattle.wtf_serve.specs.Spared.{RunSpares}
use Rattle.wtf_serve.specs.Sparing.{SparesStores, LineSpares, EndSpares}
use Rattle.wtf_serve.specs.Stocks.{Stock, stock, KeeperGoesOn, HandsOver}
use Rattle.wtf_serve.specs.Turns.{IsLeftAlone, WroteFront}
use Rattle.wtf_serve.specs.Unopened.{IsOpened, IsRunWith}
use Rattle.wtf_serve.proofs.Finishing.{finish_end, finish_stop, stop_log, stop_mid, out_line}
use Rattle.wtf_serve.proofs.Leaving.{KeepsWithin}
use Rattle.wtf_serve.proofs.RanLaws.{longer}
use Rattle.wtf_serve.proofs.Sparing.{Spared, spared_none, spared_more, save_or_none}
use Rattle.wtf_serve.proofs.Underway.{Underway, first_is, underway_first, underway_first_log, underway_on, underway_on_log}
use Rattle.wtf_serve.proofs.Unstarted.{unwritten, unwritten_log, unwritten_mid}

-- ---- What a run leaves alone, by what its lines left alone

-- where nothing comes behind the last line
pub spares_still : {S : Type 0} (kind : StoreKind S) (handed : List (List ℕ) → Type 0) (log : Log) (mid : List S) (start new : Devices S)
    → Spared kind handed log start.stock.shelf mid → (status : ℕ) → IsEarlyStatus status → new.stock.shelf ≡ mid
    → RunSpares kind handed status log mid start new
spares_still kind handed log mid start new s status early same = record {
  along = s.along;
  down = λ k d is. ap (λ stores. slice_index_or stores k d) same;
  images = s.images;
  last = [];
  handed_are = subst handed (sym (append-nil s.images)) s.handed_are;
  each = s.each;
  saved = λ e. absurd (omega (arith, e, early));
  failed = λ e. absurd (omega (arith, e, early));
  early = λ _. refl;
  memory = λ e. absurd (omega (arith, e, early));
}

-- the stores behind those of so many servers stayed, and stay
past_on : {S : Type 0} (servers : ℕ) (old mid new : List S) → SameFrom servers old mid → SameFrom servers mid new → SameFrom servers old new
past_on servers old mid new first next k d there = next k d there ∙ first k d there

-- The keeper was handed no more behind the lines, or some images more
module _ {S : Type 0} (kind : StoreKind S) (handed more both : List (List ℕ) → Type 0)
    (join : (xs ys : List (List ℕ)) → handed xs → more ys → both (xs ++ ys)) (log : Log) (mid : List S) (start new : Devices S)
    (s : Spared kind handed log start.stock.shelf mid) where
  pub spared_on : more [] → Spared kind both log start.stock.shelf mid
  spared_on nothing = record {
    along = s.along;
    images = s.images;
    each = s.each;
    handed_are = subst both (append-nil s.images) (join s.images [] s.handed_are nothing);
  }

  abbrev t : Span S
  t = span (last_downs log) mid new.stock.shelf

  -- the closing save
  pub spares_end : (servers status : ℕ) → EndSpares kind more servers t status → RunSpares kind both status log mid start new
  spares_end servers status end = record {
    along = s.along;
    down = end.down;
    images = s.images;
    last = end.images;
    handed_are = join s.images end.images s.handed_are end.handed_are;
    each = s.each;
    saved = end.saved;
    failed = end.failed;
    early = λ early. (end.unsaved (λ whole. omega (arith, early, whole))).1;
    memory = λ is. inl (end.unsaved (λ whole. omega (arith, is, whole)));
  }

  -- memory was wanted for a line
  pub spares_short : SparesStores kind t false → more [] → RunSpares kind both 7 log mid start new
  spares_short stores nothing = record {
    along = s.along;
    down = stores.down;
    images = s.images;
    last = [];
    handed_are = join s.images [] s.handed_are nothing;
    each = s.each;
    saved = λ e. absurd (omega (arith, e));
    failed = λ e. absurd (omega (arith, e));
    early = λ e. absurd (omega (arith, e));
    memory = λ _. inl (stores.unsynced refl, refl);
  }

  -- or for the text of its answer
  pub spares_out : (servers : ℕ) (line : List ℕ) → IsNextLine start.source.rest log.lines line → (a : Answer)
      → LineSpares kind more servers t (line_of line) (Some a) → RunSpares kind both 7 log mid start new
  spares_out servers line next a here = record {
    along = s.along;
    down = here.stores.down;
    images = s.images;
    last = here.images;
    handed_are = join s.images here.images s.handed_are here.handed_are;
    each = s.each;
    saved = λ e. absurd (omega (arith, e));
    failed = λ e. absurd (omega (arith, e));
    early = λ e. absurd (omega (arith, e));
    memory = λ _. elim (save_or_none kind t (line_of line) a here.images here.stores here.hands) [
      | inl none ↦ inl none
      | inr save ↦ inr ((line, next, save.0), save.1)
    ];
  }

-- a run that was opened, by what is told of it with these lines, and this stock when the last of them was answered
pub opened_by : {S : Type 0} (kind : StoreKind S) (handed : List (List ℕ) → Type 0) (asked : Settings) (opening : Opening) (start new : Devices S)
    (opens : Opens asked opening.bytes opening) (given : (held : List ℕ) → start.stock.keeper.held ≡ Some held → opening.bytes ≡ held)
    (log : Log) (mid : Stock S) (status : ℕ)
    → (served : Served kind handed opening status start new) × (served.log ≡ log) × (served.mid ≡ mid)
    → RunSpares kind handed status log mid.shelf start new → SameFrom opening.settings.servers start.stock.shelf new.stock.shelf
    → IsOpened kind handed asked status start new
opened_by {S = S} kind handed asked opening start new opens given log mid status (served, log_is, mid_is) spares past = record {
  opening = opening;
  opens = opens;
  given = given;
  served = served;
  spares = subst (λ (m : Stock S). RunSpares kind handed status served.log m.shelf start new) (sym mid_is)
      (subst (λ (l : Log). RunSpares kind handed status l mid.shelf start new) (sym log_is) spares);
  past = past;
}

-- ---- A run on its way

-- a run so far, with what opened it, and what its lines left alone
pub record Serving {S State : Type 0} (engine : Engine S State) (handed : List (List ℕ) → Type 0) (asked : Settings) (start : Devices S)
    (now : Hand S State) (bad : Bool) : Type 0 where
  pub run : Underway engine asked start now bad
  pub spared : Spared engine.kind handed run.going.log start.stock.shelf now.stock.shelf
  pub past : SameFrom (engine.settings now.state).servers start.stock.shelf now.stock.shelf

-- A run that was opened, at its first line: the text of it went to a sink that was as it had been before.
module _ {S State : Type 0} (engine : Engine S State) (laws : KindLaws engine.kind) (handed : List (List ℕ) → Type 0) (asked : Settings) (start : Devices S)
    (keeper' : KeeperView) (state : State) (sink' : SinkView) (text : List ℕ) (o : IsOpenedFrom engine asked start.stock.keeper start.stock.shelf state)
    (kept : IsKeeperKept handed start.stock.keeper keeper') (keeper : KeeperGoesOn start.stock.keeper keeper')
    (text_is : text ≡ settings_line (engine.settings state) (engine.number state)) where
  pub serving_first : ((old : List ℕ) → start.sink.taken ≡ Some old → sink'.taken ≡ Some (old ++ text)) → sink'.faults ≡ start.sink.faults
      → Serving engine handed asked start (hand (input start.source (record { bytes = []; count = 0; ended = false })) sink'
      (stock start.stock.shelf keeper') state) false
  serving_first wrote still = record {
    run = underway_first engine laws handed asked start keeper' state sink' text o kept keeper text_is wrote still;
    spared = subst (λ (l : Log). Spared engine.kind handed l start.stock.shelf start.stock.shelf)
        (sym (underway_first_log engine laws handed asked start keeper' state sink' text o kept keeper text_is wrote still))
        (spared_none engine.kind handed start.stock.shelf kept.nothing);
    past = λ k d there. refl;
  }

  pub unwritten_first : ((old : List ℕ) → start.sink.taken ≡ Some old → WroteFront old text sink'.taken) → Rose start.sink.faults sink'.faults
      → start.sink.faults ≤ sink'.faults
      → IsRunWith engine.kind handed asked 4 start (record { source = start.source; sink = sink'; stock = stock start.stock.shelf keeper' })
  unwritten_first cut cause faults =
      let line : text ≡ first_line o.opening = first_is engine laws handed asked start keeper' state sink' text o kept keeper text_is in
      let front : (old : List ℕ) → start.sink.taken ≡ Some old → WroteFront old (first_line o.opening) sink'.taken
      = λ old e. let (front, back, all, new) = cut old e in (front, back, sym line ∙ all, new) in
      inr (opened_by engine.kind handed asked o.opening start (record { source = start.source; sink = sink'; stock = stock start.stock.shelf keeper' })
      o.opens o.given (record { lines = []; answers = [] }) (stock start.stock.shelf keeper') 4 (
        unwritten engine.kind laws handed o.opening start keeper' kept keeper sink' o.ready.enough o.ready.taken front cause faults,
        unwritten_log engine.kind laws handed o.opening start keeper' kept keeper sink' o.ready.enough o.ready.taken front cause faults,
        unwritten_mid engine.kind laws handed o.opening start keeper' kept keeper sink' o.ready.enough o.ready.taken front cause faults,
      )
      (spares_still engine.kind handed (record { lines = []; answers = [] }) start.stock.shelf start
      (record { source = start.source; sink = sink'; stock = stock start.stock.shelf keeper' })
      (spared_none engine.kind handed start.stock.shelf kept.nothing) 4 (inr (inr (inl refl))) refl) (λ k d there. refl))

-- How it goes on and ends
module _ {S State : Type 0} (engine : Engine S State) (laws : KindLaws engine.kind) (handed more both : List (List ℕ) → Type 0)
    (join : (xs ys : List (List ℕ)) → handed xs → more ys → both (xs ++ ys)) (asked : Settings) (start : Devices S) (now next : Hand S State)
    (bad : Bool) (v : Serving engine handed asked start now bad) where
  abbrev log : Log
  log = v.run.going.log

  -- the servers that are down before the line are those that the lines so far took down
  as_downs : (P : (ℕ → Bool) → Type 0) → P (engine.down now.state) → P (last_downs log)
  as_downs P here = subst P v.run.going.so_far.downs here

  abbrev servers : ℕ
  servers = (engine.settings now.state).servers

  line_spared : (line : List ℕ) (a : Answer) → ReadSpares engine more now next line a
      → Spared engine.kind both (longer log line a) start.stock.shelf next.stock.shelf
  line_spared line a here =
      spared_more engine.kind handed more both join log start.stock.shelf now.stock.shelf next.stock.shelf v.spared servers line a
      (as_downs (λ down. LineSpares engine.kind more servers (span down now.stock.shelf next.stock.shelf) (line_of line) (Some a)) here)

  -- the stores that the settings do not have are as they were, where they stay so
  all_past : (stores : List S) → SameFrom servers now.stock.shelf stores → SameFrom v.run.opening.settings.servers start.stock.shelf stores
  all_past stores here =
      subst (λ (s : Settings). SameFrom s.servers start.stock.shelf stores) v.run.going.so_far.settings
      (past_on servers start.stock.shelf now.stock.shelf stores v.past here)

  pub serving_on : (extra : Bool) → PassDoes engine more now next (Ok (Some extra)) → Serving engine both asked start next (bad || extra)
  serving_on extra did = record {
    run = underway_on engine laws asked start now next bad v.run extra did.is;
    spared = subst (λ (l : Log). Spared engine.kind both l start.stock.shelf next.stock.shelf)
        (sym (underway_on_log engine laws asked start now next bad v.run extra did.is))
        (line_spared did.is.came.line did.is.came.done.answer did.spares);
    past = subst (λ (s : Settings). SameFrom s.servers start.stock.shelf next.stock.shelf) (sym did.is.came.done.is.goes_on.settings)
        (past_on servers start.stock.shelf now.stock.shelf next.stock.shelf v.past did.spares.past);
  }

  -- ---- it ends before the end of its script
  abbrev left : Devices S
  left = record { source = next.input.source; sink = next.sink; stock = next.stock }

  -- with these lines
  abbrev StopsBy : ℕ → Log → Stock S → Type 0
  StopsBy status lines mid = (served : Served engine.kind both v.run.opening status start left) × (served.log ≡ lines) × (served.mid ≡ mid)

  ends_by : (status : ℕ) (lines : Log) (mid : Stock S) → StopsBy status lines mid → RunSpares engine.kind both status lines mid.shelf start left
      → SameFrom servers now.stock.shelf next.stock.shelf → IsRunWith engine.kind both asked status start left
  ends_by status lines mid served spares past =
      inr (opened_by engine.kind both asked v.run.opening start left v.run.opens v.run.given lines mid status served spares
      (all_past next.stock.shelf past))

  still_past : next.stock ≡ now.stock → SameFrom servers now.stock.shelf next.stock.shelf
  still_past same k d there = ap (λ (s : Stock S). slice_index_or s.shelf k d) same

  still_spares : (status : ℕ) → IsEarlyStatus status → more [] → next.stock ≡ now.stock → RunSpares engine.kind both status log now.stock.shelf start left
  still_spares status early nothing same =
      spares_still engine.kind both log now.stock.shelf start left
      (spared_on engine.kind handed more both join log now.stock.shelf start left v.spared nothing) status early (ap (λ (s : Stock S). s.shelf) same)

  memory_spares : KeepsWithin engine → (kept : IsLeftAlone engine (step_of now next) ⊎ IsLeftOut engine now next) → ShortSpares engine more now next kept
      → RunSpares engine.kind both 7 log now.stock.shelf start left
  memory_spares keeps (inl alone) (stores, past, nothing) =
      spares_short engine.kind handed more both join log now.stock.shelf start left v.spared
      (as_downs (λ down. SparesStores engine.kind (span down now.stock.shelf next.stock.shelf) false) stores) nothing
  memory_spares keeps (inr out) here =
      spares_out engine.kind handed more both join log now.stock.shelf start left v.spared servers out.line
      (out_line engine laws keeps both v.run.opening start now next bad v.run.going out) out.out.answer
      (as_downs (λ down. LineSpares engine.kind more servers (span down now.stock.shelf next.stock.shelf) (line_of out.line) (Some out.out.answer)) here)

  memory_past : (kept : IsLeftAlone engine (step_of now next) ⊎ IsLeftOut engine now next) → ShortSpares engine more now next kept
      → SameFrom servers now.stock.shelf next.stock.shelf
  memory_past (inl alone) (stores, past, nothing) = past
  memory_past (inr out) here = here.past

  pub serving_stop : KeepsWithin engine → (why : Stop) → PassDoes engine more now next (Err why)
      → IsRunWith engine.kind both asked (stop_status why) start left
  serving_stop keeps stop.Unread did = ends_by 3 log now.stock (
    finish_stop engine laws keeps both v.run.opening start now next bad v.run.going stop.Unread did.is,
    stop_log engine laws keeps both v.run.opening start now next bad v.run.going stop.Unread did.is,
    stop_mid engine laws keeps both v.run.opening start now next bad v.run.going stop.Unread did.is,
  ) (still_spares 3 (inr (inl refl)) did.spares did.is.came.1.stock) (still_past did.is.came.1.stock)
  serving_stop keeps stop.TooMuch did = ends_by 9 log now.stock (
    finish_stop engine laws keeps both v.run.opening start now next bad v.run.going stop.TooMuch did.is,
    stop_log engine laws keeps both v.run.opening start now next bad v.run.going stop.TooMuch did.is,
    stop_mid engine laws keeps both v.run.opening start now next bad v.run.going stop.TooMuch did.is,
  ) (still_spares 9 (inr (inr (inr refl))) did.spares did.is.came.1.stock) (still_past did.is.came.1.stock)
  serving_stop keeps stop.Memory did = ends_by 7 log now.stock (
    finish_stop engine laws keeps both v.run.opening start now next bad v.run.going stop.Memory did.is,
    stop_log engine laws keeps both v.run.opening start now next bad v.run.going stop.Memory did.is,
    stop_mid engine laws keeps both v.run.opening start now next bad v.run.going stop.Memory did.is,
  ) (memory_spares keeps did.is.came.kept did.spares) (memory_past did.is.came.kept did.spares)
  serving_stop keeps stop.Unwritten did =
      let lines = longer log did.is.came.line did.is.came.cut.answer in
      ends_by 4 lines next.stock (
        finish_stop engine laws keeps both v.run.opening start now next bad v.run.going stop.Unwritten did.is,
        stop_log engine laws keeps both v.run.opening start now next bad v.run.going stop.Unwritten did.is,
        stop_mid engine laws keeps both v.run.opening start now next bad v.run.going stop.Unwritten did.is,
      )
      (spares_still engine.kind both lines next.stock.shelf start left (line_spared did.is.came.line did.is.came.cut.answer did.spares) 4
      (inr (inr (inl refl))) refl) did.spares.past

  -- ---- it ends at the end of its script, behind which some images more may be handed over
  pub serving_end : KeepsWithin engine → (last whole : List (List ℕ) → Type 0) → ((xs ys : List (List ℕ)) → both xs → last ys → whole (xs ++ ys))
      → (status : ℕ) (sink' : SinkView) (final : Stock S) (state' : State) → PassDoes engine more now next (Ok None)
      → EachFollows engine.kind next.stock.shelf final.shelf [] → KeeperGoesOn next.stock.keeper final.keeper
      → Ends engine (step next.stock final next.state state') next.sink sink' bad status
      → EndSpares engine.kind last (engine.settings next.state).servers (span_of engine (step next.stock final next.state state')) status
      → IsRunWith engine.kind whole asked status start (record { source = next.input.source; sink = sink'; stock = final })
  serving_end keeps last whole joins status sink' final state' did follows keeper ends spares =
      let quiet = did.is.came.1 in
      let end : Devices S = record { source = next.input.source; sink = sink'; stock = final } in
      let at_state : EndSpares engine.kind last servers (span (engine.down now.state) next.stock.shelf final.shelf) status
      = subst (λ (x : State). EndSpares engine.kind last (engine.settings x).servers (span (engine.down x) next.stock.shelf final.shelf) status) quiet.state
      spares in
      let here : EndSpares engine.kind last servers (span (last_downs log) now.stock.shelf final.shelf) status
      = as_downs (λ down. EndSpares engine.kind last servers (span down now.stock.shelf final.shelf) status)
      (subst (λ (s : Stock S). EndSpares engine.kind last servers (span (engine.down now.state) s.shelf final.shelf) status) quiet.stock at_state) in
      inr (opened_by engine.kind whole asked v.run.opening start end v.run.opens v.run.given log now.stock status
      (finish_end engine laws keeps whole v.run.opening start now next bad v.run.going status sink' final state' did.is follows keeper ends)
      (spares_end engine.kind both last whole joins log now.stock.shelf start end
      (spared_on engine.kind handed more both join log now.stock.shelf start end v.spared did.spares) servers status here)
      (all_past final.shelf here.past))

-- ---- what a run has handed to its keeper
pub run_handed : {S : Type 0} (kind : StoreKind S) (handed : List (List ℕ) → Type 0) (asked : Settings) (status : ℕ) (old new : Devices S)
    → IsRunWith kind handed asked status old new → HandsOver handed
run_handed kind handed asked status old new (inl unopened) = ([], unopened.kept.nothing)
run_handed kind handed asked status old new (inr opened) = (opened.spares.images ++ opened.spares.last, opened.spares.handed_are)
