use Rattle.std.proofs.Common.{[]}
use Rattle.std.specs.Range.Bound.{bound_map}
use Rattle.wtf_kv.specs.Stores.{Store, listed}
use Rattle.wtf_kv.proofs.StoreLemmas.{next_from_first}
use Rattle.wtf_kv.proofs.history.History.next_key.Goals as goal

pub returns : goal.returns
returns g c =
    let s : Store g.row.K.Denot g.row.C.Denot = record { number = c.self.inside.number; pins = []; cells = listed c.self.inside.cells.entries } in
    rw (← c.self.view_is) (next_from_first g.K.Ord.cmp s (bound_map (λ k. k.now) c.start_past-start.result) _ _ c.self.invariant.good c.start_past-start.ensures c.first_key.ensures)
