-- What answering a line promises, for one that asks nothing, and for an event by what the core promises.
use Rattle.std.proofs.Common.{◌≡◌, ◌≤◌, ℕ, Bool, true, false, List, [], length, Some, Ok, Err, refl, sym, ◌∙◌, ap, subst, true≢false, arith}
use Rattle.std.proofs.Math.Path.{fun_ext}
use Rattle.wtf_base.specs.declared.settings.Settings.{Settings}
use Rattle.wtf_base.specs.Places.{Place}
use Rattle.wtf_dev.specs.Store.{Range, StoreKind, KindLaws}
use Rattle.wtf_dev.proofs.Each.{each_same}
use Rattle.wtf_model.specs.Lines.{Line}
use Rattle.std.specs.Prelude.{◌&&◌, ◌||◌, not, nat_eq, nat_lt}
use Rattle.std.proofs.lemmas.Bool.{eqb-true}
use Rattle.wtf_model.specs.declared.answer.Answer.{Answer}
use Rattle.wtf_model.specs.declared.answer.Answer.TheVariants as answer
use Rattle.wtf_model.specs.declared.event.Event.{Event}
use Rattle.wtf_model.specs.declared.event.Event.TheVariants as event
use Rattle.wtf_core.specs.Keeping.{HoldsKept}
use Rattle.wtf_core.specs.Promises as promised
use Rattle.wtf_gc.specs.Extents.{extents_cover}
use Rattle.wtf_gc.specs.Frees.{AreGarbage}
use Rattle.wtf_gc.specs.Views.{GcView, mark_of, is_garbage}
use Rattle.wtf_core.specs.Punched.{AreOfGarbage, ArePunchedBy, CountsAs, IsUncollected}
use Rattle.wtf_core.specs.Views.{CoreView}
use Rattle.wtf_serve.specs.Answering.{IsBad}
use Rattle.wtf_serve.specs.Engines.{Step, step, is_save_event, StateGoesOn, LineLeaves, Obeys, EngineTells, LinePunches, IsAnswer}
use Rattle.wtf_serve.specs.Punched.{AreFresh, ArePunchedIn, CountsIn, collected_by}
use Rattle.wtf_serve.specs.Stocks.{Stock}
use Rattle.wtf_serve.specs.Cores.{IsSoundCore, engine}
use Rattle.wtf_serve.proofs.Keeping.{keeper_same}

or_none : (b : Bool) → (b || false) ≡ b
or_none true = refl
or_none false = refl

-- a line that asks nothing leaves the core
module _ {S : Type 0} (kind : StoreKind S) (here : Stock S) (core : CoreView) (bad : Answer) where
  pub bad_obeys : Obeys (engine kind) (step here here core core) (Err bad) bad
  bad_obeys = λ tells m small stands. record {
    stands = stands;
    may = refl;
    number = sym stands.tables.number;
    saved = λ keeps room kept holds. holds;
    taken = λ keeps room holds. holds;
    leaves = λ keeps room. tt;
    rests = λ idle n is. absurd (cc);
    left = λ k n had is. absurd (cc);
  }

-- and punches nothing
pub bad_punches : {S : Type 0} (kind : StoreKind S) → KindLaws kind → (here : Stock S) (core : CoreView) (bad : Answer) → IsBad bad
    → LinePunches (engine kind) (step here here core core) (Err bad) bad
bad_punches kind laws here core (answer.Bad w) is = record {
  ranges = [];
  are = (refl, refl);
  counts = λ p. sym (or_none (extents_cover core.tables.beside.gc.freed p));
  follows = each_same laws here.shelf;
}
bad_punches kind laws here core a is = absurd is

-- so it is an answer, which leaves all as it was
pub bad_is : {S : Type 0} (kind : StoreKind S) → KindLaws kind → (here : Stock S) (core : CoreView) (bad : Answer) → IsSoundCore kind here.shelf core
    → IsBad bad → IsAnswer (engine kind) (step here here core core) (Err bad) bad
bad_is kind laws here core (answer.Bad w) sound is = record {
  goes_on = record {
    sound = sound;
    settings = refl;
    down = refl;
    number = omega arith;
    next_tx = omega arith;
    same_next_tx = λ saves. refl;
    bare = λ unspilled h. h;
    full = λ unspilled h. h;
    own = refl;
    kept = λ tells h. h;
  };
  lawful = bad_obeys kind here core (answer.Bad w);
  stored = λ k d there f. refl;
  caused = tt;
  told = λ tells m stands. record {
    next = tells;
    wide = λ h. h;
    unread = λ h k e. absurd (cc);
    within = λ h. h;
    undamaged = λ h k e. absurd (cc);
    quiet = λ s next e. absurd (cc);
    collected = λ k n e. absurd (cc);
    stays = λ k s next e. absurd (cc);
  };
  punched = bad_punches kind laws here core (answer.Bad w) is;
  kept = keeper_same here.keeper here.keeper refl;
}
bad_is kind laws here core a sound is = absurd is

-- as many servers as the stores had before are there behind it
servers_stay : (old new : Settings) (n m : ℕ) → new ≡ old → old.servers ≤ n → m ≡ n → new.servers ≤ m
servers_stay old new n m same enough length_is = omega (arith, ap (λ (s : Settings). s.servers) same, enough, length_is)

-- what the core promises of an event is what a run is given of it

-- a test tells which event is a save
save_is : (e : Event) → is_save_event e ≡ true → e ≡ event.Save
save_is event.Save is = refl
save_is e is = absurd (true≢false (sym is))

-- the event of a line
event_of : {e f : Event} → ◌≡◌ {A = Line} (Ok e) (Ok f) → e ≡ f
event_of is = cc

none_collected : (a : Answer) → IsUncollected a → collected_by a ≡ 0
none_collected (answer.Collected n) h = absurd h
none_collected a h = refl

-- what is garbage of a server lies there, and was not freed
garbage_parts : (m a b c : Bool) → (m && not (a || (b || c))) ≡ true → c ≡ false
garbage_parts false a b c h = absurd (true≢false (sym h))
garbage_parts true true b c h = absurd (true≢false (sym h))
garbage_parts true false true c h = absurd (true≢false (sym h))
garbage_parts true false false true h = absurd (true≢false (sym h))
garbage_parts true false false false h = refl

both_parts : (a b : Bool) → (a && b) ≡ true → (a ≡ true) × (b ≡ true)
both_parts true b h = (refl, h)
both_parts false b h = absurd (true≢false (sym h))

fresh_at : (gc : GcView) (k : ℕ) (p : Place) → (nat_eq p.server k && is_garbage gc p) ≡ true → (p.server ≡ k) × (extents_cover gc.freed p ≡ false)
fresh_at gc k p h =
    let both = both_parts (nat_eq p.server k) (is_garbage gc p) h in (
      eqb-true p.server k both.0,
      garbage_parts (nat_lt p.at (mark_of gc.older p.server p.file)) (extents_cover gc.older.found p) (extents_cover gc.newer.found p)
          (extents_cover gc.freed p) both.1,
    )

fresh_all : (gc : GcView) (k : ℕ) (ranges : List (ℕ × Range)) → AreGarbage gc k ranges → AreFresh (extents_cover gc.freed) k ranges
fresh_all gc k ranges h = record { apart = h.apart; fresh = λ p here. fresh_at gc k p (sym (h.exact p) ∙ here) }

fresh_some : (gc : GcView) (k : ℕ) (ranges : List (ℕ × Range)) → AreOfGarbage gc k ranges → AreFresh (extents_cover gc.freed) k ranges
fresh_some gc k ranges h = record { apart = h.apart; fresh = λ p here. fresh_at gc k p (h.among p here) }

module _ {S : Type 0} (kind : StoreKind S) (t : Step S CoreView) (e : Event) (a : Answer) where
  abbrev before : promised.Scene S
  before = promised.scene t.before.shelf t.before.keeper t.old

  abbrev behind : promised.Scene S
  behind = promised.scene t.after.shelf t.after.keeper t.new

  pub event_goes_on : IsSoundCore kind t.before.shelf t.old → promised.CoreGoesOn kind before behind e a
      → promised.CoreKeeps t.old t.new → promised.HasPunched kind before behind e a
      → (t.before.keeper.tells ≡ true → HoldsKept t.before.keeper t.old.settings t.old.tables → HoldsKept t.after.keeper t.old.settings t.new.tables)
      → StateGoesOn (engine kind) t (Ok e) a
  event_goes_on was on stays punched held = record {
    sound = record {
      not_closed = on.not_closed;
      tables = stays.sound;
      unwatched = stays.watched ∙ was.unwatched;
      servers = servers_stay t.old.settings t.new.settings (length t.before.shelf) (length t.after.shelf) stays.settings was.servers
          punched.punches.follows.same_length;
      inside = on.inside;
    };
    settings = stays.settings;
    down = fun_ext on.down;
    number = stays.number;
    next_tx = stays.next_tx;
    same_next_tx = λ is. on.same_next_tx (save_is e is);
    bare = on.bare;
    full = on.full;
    own = tt;
    kept = λ tells holds. subst (λ (s : Settings). HoldsKept t.after.keeper s t.new.tables) (sym stays.settings) (held tells holds);
  }

  pub event_told : promised.GoesOnTold kind before behind e a → EngineTells (engine kind) t (Ok e) a
  event_told told = λ tells m stands.
      let is = told tells m stands in
      record {
        next = is.next;
        wide = is.wide;
        unread = is.unread;
        within = is.within;
        undamaged = is.undamaged;
        quiet = is.quiet.on;
        collected = λ k n line. is.quiet.collected k n (event_of line);
        stays = is.quiet.stays;
      }

  -- what the core says of garbage is what a run is given of what was freed
  ranges_by : (f : Event) (b : Answer) (ranges : List (ℕ × Range)) → ArePunchedBy t.old.tables.beside.gc f b ranges
      → ArePunchedIn (extents_cover t.old.tables.beside.gc.freed) (Ok f) b ranges
  ranges_by (event.Collect k) (answer.Collected n) ranges h = (fresh_all t.old.tables.beside.gc k ranges h.0, h.1)
  ranges_by (event.Collect k) (answer.FaultPunch j) ranges h = fresh_some t.old.tables.beside.gc k ranges h
  ranges_by f b ranges h = (h.0, none_collected b h.1)

  counts_by : (b : Answer) (ranges : List (ℕ × Range)) → CountsAs t.old.tables.beside.gc t.new.tables.beside.gc b ranges
      → CountsIn (extents_cover t.old.tables.beside.gc.freed) (extents_cover t.new.tables.beside.gc.freed) b ranges
  counts_by (answer.FaultPunch k) ranges h = h
  counts_by b ranges h = h

  pub event_punches : promised.HasPunched kind before behind e a → LinePunches (engine kind) t (Ok e) a
  event_punches h = record {
    ranges = h.punches.ranges;
    are = ranges_by e a h.punches.ranges h.punches.are;
    counts = counts_by a h.punches.ranges h.punches.counts;
    follows = h.punches.follows;
  }

  pub event_obeys : IsSoundCore kind t.before.shelf t.old → promised.Obeys kind before behind e a → Obeys (engine kind) t (Ok e) a
  event_obeys was obeys = λ tells m small stands.
      let law = obeys tells m small stands in
      record {
        stands = law.event.stands;
        may = law.event.may;
        number = sym law.event.stands.tables.number;
        saved = λ keeps room kept holds. law.trees keeps (room.number, room.next_tx) kept holds;
        taken = λ keeps room holds. law.taken keeps (room.number, room.next_tx) holds;
        leaves = λ keeps room. by e a (law.saved keeps (room.number, room.next_tx));
        rests = λ idle n line. law.rests idle (λ k is. absurd (some_of_none k is)) n (event_of line);
        left = λ k n had line. law.left k n had (event_of line);
      }
    where
      some_of_none : (k : ℕ) → t.old.tables.beside.watched ≡ Some k → ⊥
      some_of_none k is = let none = was.unwatched in cc

      save_by : (b : Answer) → promised.CoreLeaves kind before behind event.Save b → LineLeaves (engine kind) t (Ok event.Save) b
      save_by (answer.Saved n) h = h
      save_by b h = tt

      by : (f : Event) (b : Answer) → promised.CoreLeaves kind before behind f b → LineLeaves (engine kind) t (Ok f) b
      by event.Save b h = save_by b h
      by f b h = tt
