use Rattle.wtf_core.proofs.Common.{IsTrue, true≢false, IsFormEvent, Event, KeeperSpan, keeper_span, scene, CoreDoes, CoreFails, CoreStays, takes_no_memory}
use Rattle.wtf_core.proofs.Common.{CoreView, ◌≢◌, ◌<◌, ◌^◌, ◌∙◌, true, IfOk, OnErr, IsOk, refl, sym, subst, KeeperView, StoreKind, KindLaws, each_same, Verb}
use Rattle.wtf_core.proofs.Common.{AreSound, TablesView, holds_memory, IsLeftBy, ◌≡◌, false, List, arith}
use Rattle.wtf_core.proofs.{Ends.left_alone, Lent.same_alike}
use Rattle.wtf_core.proofs.store.Core.event.Goals as goal

-- ---- a line of which no copy could be had: all is as it was, but that the core is closed
left_same : (e : Event) (tables : TablesView) → holds_memory e ≡ true → IsLeftBy e tables tables
left_same (Event.Piece n) tables never = absurd (true≢false (sym never))
left_same e tables memory = same_alike tables tables refl

takes_some : (e : Event) → holds_memory e ≡ true → takes_no_memory e ≡ false
takes_some (Event.Client c (Verb.Call op)) memory = refl
takes_some (Event.Plan j job p r) memory = refl
takes_some (Event.Dump p) memory = refl
takes_some e never = absurd (true≢false (sym never))

module _ {S : Type 0} {kind : StoreKind S} (laws : KindLaws kind) (shelf : List S) (keeper : KeeperView) (core : CoreView) (e : Event) where
  abbrev closed : CoreView
  closed = record core { closed = true }

  copy_fails : (k : KeeperSpan) → holds_memory e ≡ true → k.untouched → CoreFails kind k (scene shelf keeper core) (scene shelf keeper closed) e
  copy_fails k memory untouched = record {
    closes = record { closed = refl; left = left_same e core.tables memory };
    follows = each_same laws shelf;
    unsynced = λ k d there. refl;
    untouched = untouched;
  }

  copy_stays : AreSound core.tables → CoreStays kind (scene shelf keeper core) (scene shelf keeper closed) e
  copy_stays sound = record {
    core = record { settings = refl; sound = sound; number = omega arith; next_tx = omega arith; watched = refl };
    leaves = left_alone kind shelf core closed e refl;
  }

-- ---- what it answers
pub take-requires-clause-form : goal.take-requires-clause-form
take-requires-clause-form g c = subst IsFormEvent (sym c.in-Ok.ensures.copied) c.requires.form

pub take-requires-clause-number : goal.take-requires-clause-number
take-requires-clause-number g c =
    subst (λ (e : Event). e ≢ Event.Save → c.args.self.now.tables.kv.number < 2 ^ 63) (sym c.in-Ok.ensures.copied) c.requires.number

pub take-requires-clause-next_tx : goal.take-requires-clause-next_tx
take-requires-clause-next_tx g c =
    subst (λ (e : Event). e ≢ Event.Save → c.args.self.now.tables.next_tx < 2 ^ 63) (sym c.in-Ok.ensures.copied) c.requires.next_tx

-- the line that was copied is the one that was lent
pub returns-in-Ok-clause-does : goal.returns-in-Ok-clause-does
returns-in-Ok-clause-does g c =
    let view = g.K.Keeper.view in
    subst (λ (e : Event). IfOk c.take.result (CoreDoes g.S.SliceStore.kind
    (keeper_span view g.K.Keeper.follows g.K.Keeper.refused c.args.keeper.now c.take.new.keeper)
    (scene c.args.shelf.now (view c.args.keeper.now) c.args.self.now)
    (scene c.take.new.shelf (view c.take.new.keeper) c.take.new.self) e)) c.in-Ok.ensures.copied c.take.ensures.does

pub returns-in-Ok-clause-fails : goal.returns-in-Ok-clause-fails
returns-in-Ok-clause-fails g c =
    let view = g.K.Keeper.view in
    subst (λ (e : Event). OnErr c.take.result (CoreFails g.S.SliceStore.kind
    (keeper_span view g.K.Keeper.follows g.K.Keeper.refused c.args.keeper.now c.take.new.keeper)
    (scene c.args.shelf.now (view c.args.keeper.now) c.args.self.now)
    (scene c.take.new.shelf (view c.take.new.keeper) c.take.new.self) e)) c.in-Ok.ensures.copied c.take.ensures.fails

pub returns-in-Ok-clause-stays : goal.returns-in-Ok-clause-stays
returns-in-Ok-clause-stays g c =
    let view = g.K.Keeper.view in
    subst (λ (e : Event). CoreStays g.S.SliceStore.kind (scene c.args.shelf.now (view c.args.keeper.now) c.args.self.now)
    (scene c.take.new.shelf (view c.take.new.keeper) c.take.new.self) e) c.in-Ok.ensures.copied c.take.ensures.stays

pub returns-in-Ok-clause-sure : goal.returns-in-Ok-clause-sure
returns-in-Ok-clause-sure g c = subst (λ (e : Event). IsTrue (takes_no_memory e) → IsOk c.take.result) c.in-Ok.ensures.copied c.take.ensures.sure

-- ---- no copy could be had
pub returns-in-Err-clause-fails : goal.returns-in-Err-clause-fails
returns-in-Err-clause-fails g c =
    let shelf = c.args.shelf.now in
    let keeper = c.args.keeper.now in
    let seen = g.K.Keeper.view keeper in
    let k : KeeperSpan = keeper_span g.K.Keeper.view g.K.Keeper.follows g.K.Keeper.refused keeper keeper in
    let at = c.self.inside in
    let old : CoreView = record { settings = at.settings; tables = at.tables; replicas = at.replicas; closed = at.closed; lists = at.cache.lists } in
    subst (λ (core : CoreView). CoreFails g.S.SliceStore.kind k (scene shelf seen core) (scene shelf seen (record old { closed = true })) c.args.event.now)
    c.self.view_is (copy_fails g.met.S.SliceStore.laws shelf seen old c.args.event.now k c.in-Err.ensures.memory refl)

pub returns-in-Err-clause-stays : goal.returns-in-Err-clause-stays
returns-in-Err-clause-stays g c =
    let shelf = c.args.shelf.now in
    let seen = g.K.Keeper.view c.args.keeper.now in
    let at = c.self.inside in
    let old : CoreView = record { settings = at.settings; tables = at.tables; replicas = at.replicas; closed = at.closed; lists = at.cache.lists } in
    subst (λ (core : CoreView). CoreStays g.S.SliceStore.kind (scene shelf seen core) (scene shelf seen (record old { closed = true })) c.args.event.now)
    c.self.view_is (copy_stays g.met.S.SliceStore.laws shelf seen old c.args.event.now c.self.invariant.tables_are)

pub returns-in-Err-clause-sure : goal.returns-in-Err-clause-sure
returns-in-Err-clause-sure g c = λ yes. absurd (true≢false (sym yes ∙ takes_some c.args.event.now c.in-Err.ensures.memory))
