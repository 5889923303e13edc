use Rattle.wtf_core.proofs.Common.{is_down, span, CacheInside, is_inside, ServesLine, LineEnds, IsInside, CoreView, lent_of, ◌≤◌, List, IfOk, length, sym}
use Rattle.wtf_core.proofs.Common.{subst}
use Rattle.wtf_core.proofs.{Lent.if_some, Lent.lent_goes, Lent.lent_ends, Lent.lent_keeps, Remembering.sound_dev}
use Rattle.wtf_core.proofs.store.Core.by_tables.Given.{Over}
use Rattle.wtf_core.proofs.store.Core.by_tables.Goals as goal
use Rattle.wtf_core.proofs.store.Core.by_tables.Goals.{After-tables_line-result, After-number-number}

pub tables_line-result-requires-clause-dev : goal.tables_line-result-requires-clause-dev
tables_line-result-requires-clause-dev g c =
    let kind = g.S.SliceStore.kind in
    let shelf = c.args.shelf.now in
    sound_dev kind _ c.self.inside.tables c.self.invariant
    (subst (λ (core : CoreView). core.settings.servers ≤ length shelf) (sym c.self.view_is) c.requires.shelf)
    (subst (λ (core : CoreView). IsInside kind shelf core) (sym c.self.view_is) c.requires.inside).lists

-- the core behind the call
abbrev left : (g : Over) → After-number-number g → CoreView
left g c = let at = c.self.inside in record {
  settings = at.settings;
  tables = c.tables_line-result.new.tables;
  replicas = at.replicas;
  closed = at.closed;
  lists = c.tables_line-result.new.dev.cache.now.lists;
}

enough : (g : Over) (c : After-tables_line-result g) → c.self.inside.settings.servers ≤ length c.args.shelf.now
enough g c = subst (λ (core : CoreView). core.settings.servers ≤ length c.args.shelf.now) (sym c.self.view_is) c.requires.shelf

lists : (g : Over) (c : After-tables_line-result g)
    → CacheInside (is_inside g.S.SliceStore.kind c.args.shelf.now c.self.inside.settings) c.self.inside.cache.lists
lists g c = (subst (λ (core : CoreView). IsInside g.S.SliceStore.kind c.args.shelf.now core) (sym c.self.view_is) c.requires.inside).lists

pub invariant_of-self : goal.invariant_of-self
invariant_of-self g c =
    let at = (goal.at.invariant_of-self g c).After-tables_line-result in
    lent_keeps g.met.S.SliceStore.laws c.tables_line-result.ensures c.self.inside.closed c.self.invariant (enough g at) (lists g at)
    c.number-number.ensures.sound

pub shape_of-self-inside : goal.shape_of-self-inside
shape_of-self-inside g c =
    sym (lent_goes g.met.S.SliceStore.laws c.tables_line-result.ensures c.self.inside.closed c.self.invariant (enough g c) (lists g c)).1.cache

pub returns-clause-ends : goal.returns-clause-ends
returns-clause-ends g c =
    let kind = g.S.SliceStore.kind in
    let shelf = c.args.shelf.now in
    let e = c.args.event in
    let r = c.tables_line-result.result in
    let at = (goal.at.returns-clause-ends g c).After-tables_line-result in
    subst (λ (s : List g.row.S.Denot). LineEnds kind (span (is_down c.args.self.now.replicas) shelf s) c.args.self.now (left g c) e r)
    (let same = (lent_goes g.met.S.SliceStore.laws c.tables_line-result.ensures c.self.inside.closed c.self.invariant (enough g at) (lists g at)).1.shelf in
    sym (c.shelf-1.given.1 (sym same)))
    (subst (λ (core : CoreView). LineEnds kind (span (is_down core.replicas) shelf c.tables_line-result.new.dev.shelf.now) core (left g c) e r) c.self.view_is
    (lent_ends g.met.S.SliceStore.laws c.tables_line-result.ensures c.self.inside.closed c.self.invariant (enough g at) (lists g at) c.requires.asked))

pub returns-clause-serves : goal.returns-clause-serves
returns-clause-serves g c =
    let kind = g.S.SliceStore.kind in
    let shelf = c.args.shelf.now in
    let e = c.args.event in
    let r = c.tables_line-result.result in
    let at = (goal.at.returns-clause-serves g c).After-tables_line-result in
    subst (λ (s : List g.row.S.Denot). IfOk r (ServesLine kind (span (is_down c.args.self.now.replicas) shelf s) (lent_of c.args.self.now (left g c))
    c.args.self.now.tables c.tables_line-result.new.tables e))
    (let same = (lent_goes g.met.S.SliceStore.laws c.tables_line-result.ensures c.self.inside.closed c.self.invariant (enough g at) (lists g at)).1.shelf in
    sym (c.shelf-1.given.1 (sym same)))
    (subst (λ (core : CoreView). IfOk r (ServesLine kind (span (is_down core.replicas) shelf c.tables_line-result.new.dev.shelf.now) (lent_of core (left g c))
    core.tables c.tables_line-result.new.tables e)) c.self.view_is (if_some r c.tables_line-result.ensures.line (λ a l. l.serves)))
