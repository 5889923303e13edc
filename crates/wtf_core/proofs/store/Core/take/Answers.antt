use Rattle.wtf_core.proofs.Common.{Settings, AreSettings, Rose, EachFollows, byte_at, is_down, size_in, Span, span, byte_at-kept, Answer, Event, Machine, after}
use Rattle.wtf_core.proofs.Common.{any_slice, TellsOn, CacheInside, is_inside, KeeperSpan, KeeperTurn, keeper_span, TablesBytes, any_byte, no_slice, has_copies}
use Rattle.wtf_core.proofs.Common.{LeavesAlone, AddsBytes, load_of, LieIn, ServesEvent, AreSound, BesideView, now_bytes, Scene, scene, CoreGoesOn, Obeys}
use Rattle.wtf_core.proofs.Common.{KeepsImage, GoesOnTold, LeavesNamed, AreFreed, CountsAs, CorePunches, Saved, HasCollected, KeepsPunched, StoreKind, KindLaws}
use Rattle.wtf_core.proofs.Common.{LineMade, StandsFor, TellsCore, IsToldLine, LineTurn, IsLine, CoreView, lent_of, ◌≡◌, ◌≢◌, ◌≤◌, ◌∙◌, ℕ, true, [], refl, sym}
use Rattle.wtf_core.proofs.Common.{ap, subst, arith}
use Rattle.wtf_core.proofs.{Answering.line_downs, Holding.KeeperLaws, Holding.tidied_held, Holding.keeper_on, Holding.line_held, Marked.line_lie, Moves.Moves}
use Rattle.wtf_core.proofs.{Moves.line_moves, Naming.tidied_bytes, Picturing.line_tree, Pointing.sizes_grow, Quieted.tidied_stage, Quieting.quiet_on}
use Rattle.wtf_core.proofs.{Quieting.rests_saved, Quieting.left_named, SaveLaws.line_lengths, Taking.numbers_on, Taking.line_taken, Taking.line_leaves}
use Rattle.wtf_core.proofs.{Telling.tidied_told, Tidying.core_tidied, ToldLines.line_told, ToldLines.none_ranges, Watching.line_watched, Whole.line_stands}
use Rattle.wtf_core.proofs.store.Core.take.Given.{Over}
use Rattle.wtf_core.proofs.store.Core.take.Goals as goal
use Rattle.wtf_core.proofs.store.Core.take.Goals.{After-tidy}

pub answer-requires-clause-sound : goal.answer-requires-clause-sound
answer-requires-clause-sound g c = subst (λ (core : CoreView). AreSound core.tables) c.self.view_is c.self.invariant.tables_are

pub invariant_of-self : goal.invariant_of-self
invariant_of-self g c =
    let was = c.self-2.invariant in
    record {
      settings_are = was.settings_are;
      replicas_are = was.replicas_are;
      ring_is = was.ring_is;
      points_are = was.points_are;
      cache_is = was.cache_is;
      tables_are = c.tidy.ensures.sound;
    }

-- ---- a line that was answered
module _ (g : Over) (c : After-tidy g) where
  abbrev kind : StoreKind g.row.S.Denot
  kind = g.S.SliceStore.kind

  abbrev laws : KindLaws kind
  laws = g.met.S.SliceStore.laws

  abbrev event : Event
  event = c.args.event

  abbrev answer : Answer
  answer = c.in-Ok.answer

  -- the core before it
  abbrev old : CoreView
  old = c.args.self.now

  -- behind the answer, before versions are dropped
  abbrev answered : CoreView
  answered =
      let at = c.self-2.inside in
      record { settings = at.settings; tables = at.tables; replicas = at.replicas; closed = at.closed; lists = at.cache.lists }

  -- and as it is left
  abbrev left : CoreView
  left = record answered { tables = c.tidy.new.self }

  -- the stores over the line, and the keeper
  abbrev t : Span g.row.S.Denot
  t = span (is_down old.replicas) c.args.shelf.now c.answer.new.shelf

  abbrev keeping : KeeperSpan
  keeping = keeper_span g.K.Keeper.view g.K.Keeper.follows g.K.Keeper.refused c.args.keeper.now c.answer.new.keeper

  -- what is seen before the line, and behind it
  abbrev first : Scene g.row.S.Denot
  first = scene t.before (g.K.Keeper.view c.args.keeper.now) old

  abbrev last : Scene g.row.S.Denot
  last = scene t.after (g.K.Keeper.view c.answer.new.keeper) left

  -- what the answer says of the core: its line, what it tells, what was punched, and the lists that are remembered
  made : LineMade kind t old answered event answer
  made = subst (λ (core : CoreView). LineMade kind t old core event answer) (sym c.self-2.view_is) c.in-Ok.ensures.ends.made

  sound : AreSound old.tables
  sound = subst (λ (core : CoreView). AreSound core.tables) c.self.view_is c.self.invariant.tables_are

  moves : Moves old.tables answered.tables event answer
  moves = line_moves kind t old answered sound answer event made.turn

  same_settings : answered.settings ≡ old.settings
  same_settings = ap (λ (core : CoreView). core.settings) c.self-2.view_is ∙ c.answer.ensures.ends.settings

  serves : ServesEvent kind t (lent_of old answered) (Rose (g.K.Keeper.view c.args.keeper.now).faults (g.K.Keeper.view c.answer.new.keeper).faults)
      (old.tables, answered.tables) event answer
  serves =
      subst (λ (core : CoreView). ServesEvent kind t (lent_of old core)
      (Rose (g.K.Keeper.view c.args.keeper.now).faults (g.K.Keeper.view c.answer.new.keeper).faults) (old.tables, core.tables) event answer)
      (sym c.self-2.view_is) c.in-Ok.ensures.serves

  marks : LieIn answered.tables.beside.gc (size_in kind t.after)
  marks =
      let did = made.punched.punches in
      line_lie laws t old answered sound answer did.ranges did.follows c.requires.inside.scans event made.turn

  keeper_laws : KeeperLaws keeping
  keeper_laws = record { kept = λ images handed. g.met.K.Keeper.keeps c.args.keeper.now c.answer.new.keeper images handed; same = λ is. ap g.K.Keeper.view is }

  keeper_turn : KeeperTurn kind t keeping old.settings old.tables answered.tables event answer
  keeper_turn =
      subst (λ (core : CoreView). KeeperTurn kind t keeping old.settings old.tables core.tables event answer) (sym c.self-2.view_is) c.in-Ok.ensures.keeper

  limited : AreSettings old.settings.servers old.settings.replicas old.settings.region
  limited =
      subst (λ (core : CoreView). AreSettings core.settings.servers core.settings.replicas core.settings.region) c.self.view_is c.self.invariant.settings_are

  -- the stores tell what they told, where nothing was collected
  tells_on : ((k : ℕ) → event ≢ Event.Collect k) → TellsOn (byte_at kind t.before) (byte_at kind t.after)
  tells_on other p byte there =
      let did = made.punched.punches in
      let still : EachFollows kind t.before t.after [] =
      subst (EachFollows kind t.before t.after) (none_ranges old.tables.beside.gc event answer did.ranges other did.are) did.follows in
      byte_at-kept laws still p byte tt there

  -- the line over stores that tell, before versions are dropped
  told_line : TellsCore kind t.before old → (m : Machine) → StandsFor (byte_at kind t.before) old m → IsToldLine kind t old answered event answer
  told_line tells m stands =
      line_told laws t old answered answer sound c.self-2.invariant.tables_are c.requires.shelf c.requires.inside tells stands.scans.kinds event same_settings
      made.punched made.told made.turn (quiet_on laws t old answered event answer sound tells made.punched.punches serves.adds made.turn)

  -- dropping versions leaves the scans, and so what counts as freed
  punched : KeepsPunched kind t.before t.after old left event answer
  punched =
      let p = made.punched in
      let same = sym c.tidy.ensures.tidied.beside in
      record {
        punches = record {
          ranges = p.punches.ranges;
          are = p.punches.are;
          counts = subst (λ (b : BesideView). CountsAs old.tables.beside.gc b.gc answer p.punches.ranges) same p.punches.counts;
          follows = p.punches.follows;
        };
        freed = subst (λ (b : BesideView). AreFreed kind (is_down old.replicas) t.before t.after old.tables.beside.gc b.gc) same p.freed;
        lists = record { inside = p.lists.inside; true_still = p.lists.true_still };
      }

  line : IsLine kind t old left event answer
  line = record { answered = answered; turn = made.turn; tidied = c.tidy.ensures.tidied; rest = refl }

  -- a save, behind a quiet ending
  named : (m : Machine) → StandsFor (byte_at kind t.before) old m → (k n : ℕ) → HasCollected kind t.before old k → event ≡ Event.Save
      → answer ≡ Answer.Saved n → (g.K.Keeper.view c.args.keeper.now).tells ≡ true → LeavesNamed kind last k
  named m stands k n collected is said tells =
      left_named laws t keeping old left m k n sound stands collected
      (subst (λ (b : Answer). KeeperTurn kind t keeping old.settings old.tables answered.tables Event.Save b) said
      (subst (λ (e : Event). KeeperTurn kind t keeping old.settings old.tables answered.tables e answer) is keeper_turn)) tells
      (subst (λ (b : Answer). CorePunches kind t.before t.after old.tables.beside.gc left.tables.beside.gc Event.Save b) said
      (subst (λ (e : Event). CorePunches kind t.before t.after old.tables.beside.gc left.tables.beside.gc e answer) is punched.punches))
      (line_lengths kind t old.settings old left answer (subst (λ (e : Event). IsLine kind t old left e answer) is line)
      (subst (λ (e : Event). AddsBytes kind t old.settings (load_of e) answer) is serves.adds))

  goes_on : CoreGoesOn kind first last event answer
  goes_on =
      let same = sym same_settings in
      let up = moves.rises in
      let tidy = c.tidy.ensures.tidied in
      record {
        not_closed = ap (λ (core : CoreView). core.closed) c.self-2.view_is ∙ c.answer.ensures.ends.closed ∙ c.requires.open;
        inside = record {
          tables = subst (λ (s : Settings). TablesBytes (is_inside kind t.after s) any_slice left.tables) same
              (tidied_bytes (is_inside kind t.after old.settings) any_slice answered.tables left.tables c.self-2.invariant.tables_are tidy serves.inside);
          lists = subst (λ (s : Settings). CacheInside (is_inside kind t.after s) answered.lists) same made.punched.lists.inside;
          scans = subst (λ (b : BesideView). LieIn b.gc (size_in kind t.after)) (sym tidy.beside) marks;
        };
        bare = λ free h. tidied_bytes any_byte no_slice answered.tables left.tables c.self-2.invariant.tables_are tidy (serves.bare free h);
        full = λ free h. subst (λ (s : Settings). TablesBytes (has_copies s.replicas) no_slice left.tables) same
            (tidied_bytes (has_copies old.settings.replicas) no_slice answered.tables left.tables c.self-2.invariant.tables_are tidy (serves.full free h));
        down = λ k. line_downs kind t old answered answer event made.turn k;
        number = omega (arith, up.no_fewer, tidy.number);
        next_tx = omega (arith, up.no_earlier, tidy.next_tx);
        same_number = λ is. tidy.number ∙ (moves.numbers is).0;
        same_next_tx = λ is. tidy.next_tx ∙ (moves.numbers is).1;
      }

  lawful : Obeys kind first last event answer
  lawful = λ telling m small stands.
      let told = byte_at kind t.before in
      let later = byte_at kind t.after in
      let done = line_stands laws t old answered m answer sound stands telling c.requires.inside.tables event small tells_on made.turn in
      let grows : (k f : ℕ) → size_in kind t.before k f ≤ size_in kind t.after k f = sizes_grow laws made.punched.punches.follows in
      let now = now_bytes (is_inside kind t.before old.settings) any_slice old.tables c.requires.inside.tables in
      record {
        event = record {
          may = done.may;
          stands = core_tidied later answered left (after m event answer) c.self-2.invariant.tables_are c.tidy.ensures.tidied refl done.stands;
        };
        trees = λ tells room kept held. line_tree kind t keeping keeper_laws old answered m limited sound room.0 room.1 stands.tables
            (told_line telling m stands).images answer event tells_on made.turn keeper_turn tells kept held;
        taken = λ tells room held. numbers_on (g.K.Keeper.view c.answer.new.keeper) (size_in kind t.after) old.settings
            answered.tables.kv.number answered.tables.next_tx left.tables.kv.number left.tables.next_tx
            c.tidy.ensures.tidied.number c.tidy.ensures.tidied.next_tx
            (line_taken kind t grows keeping keeper_laws told old answered m limited sound room.0 room.1 stands.tables now
            moves.rises answer event made.turn keeper_turn tells held);
        saved = λ tells room. line_leaves kind t grows keeping keeper_laws told old answered m limited sound room.0 room.1
            stands.tables now moves.rises answer event answer keeper_turn tells;
        rests = λ idle unwatched n is said. tidied_stage kind t.after answered left.tables c.tidy.ensures.tidied Saved
            (rests_saved kind t told old answered m n stands idle unwatched (subst (λ (b : Answer). LineTurn kind t old answered Event.Save b) said
            (subst (λ (e : Event). LineTurn kind t old answered e answer) is made.turn)));
        left = λ k n collected is said tells. named m stands k n collected is said tells;
      }

  kept : KeepsImage kind keeping first last event answer
  kept = record {
    turn = keeper_on kind t keeping old.settings old.tables answered.tables left.tables c.tidy.ensures.tidied.beside event answer keeper_turn;
    held = λ tells held.
        let on = line_held kind t keeping keeper_laws old answered sound answer event made.turn keeper_turn tells held in
        (on.0, on.1, tidied_held answered.tables left.tables old.settings on.0 c.self-2.invariant.tables_are c.tidy.ensures.tidied on.2);
  }

  leaves : LeavesAlone kind t (lent_of old answered) old.tables event
  leaves = subst (λ (core : CoreView). LeavesAlone kind t (lent_of old core) old.tables event) (sym c.self-2.view_is) c.answer.ensures.ends.leaves

  told_on : GoesOnTold kind first last event answer
  told_on = λ tells m stands.
      tidied_told kind t old answered left.tables c.self-2.invariant.tables_are c.tidy.ensures.tidied marks event answer (told_line tells m stands)

pub returns-in-Ok-clause-stays : goal.returns-in-Ok-clause-stays
returns-in-Ok-clause-stays g at =
    let c = (goal.at.returns-in-Ok-clause-stays g at).After-tidy in
    let up = (moves g c).rises in
    record {
      core = record {
        settings = same_settings g c;
        sound = c.tidy.ensures.sound;
        number = omega (arith, up.number, c.tidy.ensures.tidied.number);
        next_tx = omega (arith, up.next_tx, c.tidy.ensures.tidied.next_tx);
        watched = line_watched (kind g c) (t g c) (old g c) (left g c) (sound g c) c.args.event c.in-Ok.answer (line g c);
      };
      leaves = leaves g c;
    }

pub returns-in-Ok-clause-does : goal.returns-in-Ok-clause-does
returns-in-Ok-clause-does g at =
    let c = (goal.at.returns-in-Ok-clause-does g at).After-tidy in
    record {
      goes_on = goes_on g c;
      turn = line g c;
      lawful = lawful g c;
      stored = record { adds = (serves g c).adds; placed = (serves g c).placed };
      caused = record { cause = (serves g c).caused; failed = (serves g c).failed };
      kept = kept g c;
      told = told_on g c;
      punched = punched g c;
    }
