use Rattle.std.proofs.Common.{sym, ◌∙◌}
use Rattle.std.specs.Range.Bound.{bound_map}
use Rattle.wtf_kv.specs.Stores.{Store, listed}
use Rattle.wtf_kv.specs.Recents.{is_among}
use Rattle.wtf_kv.proofs.Changed.{next_from_least, noted_whole, cells_whole}
use Rattle.wtf_kv.proofs.history.History.next_changed.Goals as goal

pub returns-then-has_since : goal.returns-then-has_since
returns-then-has_since g c =
    let R = g.K.Ord.cmp in
    let r = c.self.inside in
    let s : Store g.row.K.Denot g.row.C.Denot = record { number = r.number; pins = c.args.pins.now; cells = listed r.cells.entries } in
    rw (← c.self.view_is) (next_from_least R s c.args.since (λ q. is_among R r.recent.keys.entries q)
    (noted_whole R r.recent (listed r.cells.entries) c.args.pins.now r.number c.args.since (sym c.has_since.ensures ∙ c.if-has_since.true) c.self.invariant.marked)
    (bound_map (λ k. k.now) c.start_past-start.result) _ _ c.start_past-start.ensures c.first_due.ensures)

pub returns : goal.returns
returns g c =
    let R = g.K.Ord.cmp in
    let r = c.self.inside in
    let s : Store g.row.K.Denot g.row.C.Denot = record { number = r.number; pins = c.args.pins.now; cells = listed r.cells.entries } in
    rw (← c.self.view_is) (next_from_least R s c.args.since (λ q. is_among R r.cells.entries q) (cells_whole R r.cells.entries c.args.pins.now r.number c.args.since)
    (bound_map (λ k. k.now) c.start_past-start.result) _ _ c.start_past-start.ensures c.first_due-2.ensures)
