use Rattle.wtf_core.proofs.Common.{Rose, is_down, span, Event, keeper_span, ServesEvent, LineEnds, IsInside, CoreView, lent_of, ◌≤◌, Ok, IfOk, true, false}
use Rattle.wtf_core.proofs.Common.{length, refl, sym, subst}
use Rattle.wtf_core.proofs.Ends.{down_ends, up_ends, server_serves, tree_ends, tree_serves, save_ends}
use Rattle.wtf_core.proofs.Lent.{if_some, line_serves, line_untouched, of_tables}
use Rattle.wtf_core.proofs.store.Core.answer.Goals as goal

pub by_tables-requires-clause-asked : goal.by_tables-requires-clause-asked
by_tables-requires-clause-asked g c =
    of_tables c.args.event (λ k. c.in_default.not-Down k) (λ k. c.in_default.not-Up k) c.in_default.not-Tree c.in_default.not-Save

pub returns-in-Down-clause-ends : goal.returns-in-Down-clause-ends
returns-in-Down-clause-ends g c =
    let old = c.args.self.now in
    let shelf = c.args.shelf.now in
    subst (λ (e : Event). LineEnds g.S.SliceStore.kind (span (is_down old.replicas) shelf shelf) old c.server.new.self e (Ok c.server.result))
    (sym c.in-Down.is)
    (down_ends g.met.S.SliceStore.laws shelf old c.server.new.self c.requires.sound c.requires.inside c.in-Down.k c.server.result (Ok c.server.result) refl
    c.server.ensures)

pub returns-in-Up-clause-ends : goal.returns-in-Up-clause-ends
returns-in-Up-clause-ends g c =
    let old = c.args.self.now in
    let shelf = c.args.shelf.now in
    subst (λ (e : Event). LineEnds g.S.SliceStore.kind (span (is_down old.replicas) shelf shelf) old c.server-in-Up.new.self e (Ok c.server-in-Up.result))
    (sym c.in-Up.is) (up_ends g.met.S.SliceStore.laws shelf old c.server-in-Up.new.self c.requires.sound c.requires.inside c.in-Up.k c.server-in-Up.result
    (Ok c.server-in-Up.result) refl c.server-in-Up.ensures)

pub returns-in-Tree-clause-ends : goal.returns-in-Tree-clause-ends
returns-in-Tree-clause-ends g c =
    let old = c.args.self.now in
    let shelf = c.args.shelf.now in
    subst (λ (e : Event). LineEnds g.S.SliceStore.kind (span (is_down old.replicas) shelf shelf) old old e c.show.result) (sym c.in-Tree.is)
    (tree_ends g.met.S.SliceStore.laws shelf old c.requires.sound c.requires.inside c.show.result c.show.ensures.shows c.show.ensures.tree)

pub returns-in-Down-clause-serves : goal.returns-in-Down-clause-serves
returns-in-Down-clause-serves g c =
    let old = c.args.self.now in
    let shelf = c.args.shelf.now in
    let rose = Rose (g.K.Keeper.view c.args.keeper.now).faults (g.K.Keeper.view c.args.keeper.now).faults in
    subst (λ (e : Event). ServesEvent g.S.SliceStore.kind (span (is_down old.replicas) shelf shelf) (lent_of old c.server.new.self) rose
    (old.tables, c.server.new.self.tables) e c.server.result) (sym c.in-Down.is)
    (server_serves g.met.S.SliceStore.laws shelf old c.server.new.self c.requires.sound c.requires.inside (Event.Down c.in-Down.k) c.in-Down.k true
    c.server.result refl c.server.ensures)

pub returns-in-Up-clause-serves : goal.returns-in-Up-clause-serves
returns-in-Up-clause-serves g c =
    let old = c.args.self.now in
    let shelf = c.args.shelf.now in
    let rose = Rose (g.K.Keeper.view c.args.keeper.now).faults (g.K.Keeper.view c.args.keeper.now).faults in
    subst (λ (e : Event). ServesEvent g.S.SliceStore.kind (span (is_down old.replicas) shelf shelf) (lent_of old c.server-in-Up.new.self) rose
    (old.tables, c.server-in-Up.new.self.tables) e c.server-in-Up.result) (sym c.in-Up.is)
    (server_serves g.met.S.SliceStore.laws shelf old c.server-in-Up.new.self c.requires.sound c.requires.inside (Event.Up c.in-Up.k) c.in-Up.k false
    c.server-in-Up.result refl c.server-in-Up.ensures)

pub returns-in-Tree-clause-serves : goal.returns-in-Tree-clause-serves
returns-in-Tree-clause-serves g c =
    let kind = g.S.SliceStore.kind in
    let old = c.args.self.now in
    let shelf = c.args.shelf.now in
    let rose = Rose (g.K.Keeper.view c.args.keeper.now).faults (g.K.Keeper.view c.args.keeper.now).faults in
    subst (λ (e : Event). IfOk c.show.result (ServesEvent kind (span (is_down old.replicas) shelf shelf) (lent_of old old) rose (old.tables, old.tables) e))
    (sym c.in-Tree.is) (tree_serves g.met.S.SliceStore.laws shelf old c.requires.sound c.requires.inside c.show.result c.show.ensures.tree)

-- ---- a save
pub invariant_of-self : goal.invariant_of-self
invariant_of-self g c =
    let was = c.self.invariant in
    record {
      settings_are = was.settings_are;
      replicas_are = was.replicas_are;
      ring_is = was.ring_is;
      points_are = was.points_are;
      cache_is = was.cache_is;
      tables_are = c.number-number.ensures.sound;
    }

pub returns-in-Save-clause-ends : goal.returns-in-Save-clause-ends
returns-in-Save-clause-ends g c =
    let kind = g.S.SliceStore.kind in
    let at = c.self.inside in
    let shelf = c.args.shelf.now in
    let old : CoreView = record { settings = at.settings; tables = at.tables; replicas = at.replicas; closed = at.closed; lists = at.cache.lists } in
    let new : CoreView = record old { tables = c.save-saved.new.self } in
    subst (λ (e : Event). LineEnds kind (span (is_down c.args.self.now.replicas) shelf c.save-saved.new.shelf) c.args.self.now new e c.save-saved.result)
    (sym c.in-Save.is)
    (subst (λ (core : CoreView). LineEnds kind (span (is_down core.replicas) shelf c.save-saved.new.shelf) core new Event.Save c.save-saved.result)
    c.self.view_is (save_ends g.met.S.SliceStore.laws shelf c.save-saved.new.shelf old c.save-saved.new.self c.self.invariant.tables_are
    (subst (λ (core : CoreView). IsInside kind shelf core) (sym c.self.view_is) c.requires.inside)
    (subst (λ (core : CoreView). core.settings.servers ≤ length shelf) (sym c.self.view_is) c.requires.shelf) c.save-saved.ensures.shelf
    c.save-saved.result c.save-saved.ensures.turn c.save-saved.ensures.err c.save-saved.ensures.unsynced (c.save-saved.ensures.leaves at.cache.lists)))

pub returns-in-Save-clause-serves : goal.returns-in-Save-clause-serves
returns-in-Save-clause-serves g c =
    let kind = g.S.SliceStore.kind in
    let at = c.self.inside in
    let old : CoreView = record { settings = at.settings; tables = at.tables; replicas = at.replicas; closed = at.closed; lists = at.cache.lists } in
    let new : CoreView = record old { tables = c.save-saved.new.self } in
    let rose = Rose (g.K.Keeper.view c.args.keeper.now).faults (g.K.Keeper.view c.save-saved.new.keeper).faults in
    subst (λ (e : Event). IfOk c.save-saved.result (ServesEvent kind (span (is_down c.args.self.now.replicas) c.args.shelf.now c.save-saved.new.shelf)
    (lent_of c.args.self.now new) rose (c.args.self.now.tables, c.save-saved.new.self) e)) (sym c.in-Save.is)
    (subst (λ (core : CoreView). IfOk c.save-saved.result (ServesEvent kind (span (is_down core.replicas) c.args.shelf.now c.save-saved.new.shelf)
    (lent_of core new) rose (core.tables, c.save-saved.new.self) Event.Save)) c.self.view_is
    (if_some c.save-saved.result c.save-saved.ensures.serves (λ a s. s c.self.inside.cache.lists)))

-- ---- a line of the tables
pub returns-in_default-clause-serves : goal.returns-in_default-clause-serves
returns-in_default-clause-serves g c =
    let old = c.args.self.now in
    let rose = Rose (g.K.Keeper.view c.args.keeper.now).faults (g.K.Keeper.view c.args.keeper.now).faults in
    if_some c.by_tables.result c.by_tables.ensures.serves
    (λ a s. line_serves g.S.SliceStore.kind (span (is_down old.replicas) c.args.shelf.now c.by_tables.new.shelf) (lent_of old c.by_tables.new.self)
    rose old.tables c.by_tables.new.self.tables c.args.event a
    (of_tables c.args.event (λ k. c.in_default.not-Down k) (λ k. c.in_default.not-Up k) c.in_default.not-Tree c.in_default.not-Save) s)

pub returns-in_default-clause-keeper : goal.returns-in_default-clause-keeper
returns-in_default-clause-keeper g c =
    let old = c.args.self.now in
    if_some c.by_tables.result c.by_tables.ensures.serves
    (λ a s. line_untouched g.S.SliceStore.kind (span (is_down old.replicas) c.args.shelf.now c.by_tables.new.shelf)
    (keeper_span g.K.Keeper.view g.K.Keeper.follows g.K.Keeper.refused c.args.keeper.now c.args.keeper.now) old.settings old.tables
    c.by_tables.new.self.tables c.args.event a
    (of_tables c.args.event (λ k. c.in_default.not-Down k) (λ k. c.in_default.not-Up k) c.in_default.not-Tree c.in_default.not-Save) refl)
