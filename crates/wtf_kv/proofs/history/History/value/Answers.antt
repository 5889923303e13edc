use Rattle.std.proofs.Common.{sym, subst, ◌∙◌, ◌≤◌, []}
use Rattle.wtf_kv.specs.Stores.{Store, listed}
use Rattle.wtf_kv.proofs.StoreLemmas.{read_value}
use Rattle.wtf_kv.proofs.history.History.value.Goals as goal

pub returns : goal.returns
returns g c =
    let s : Store g.row.K.Denot g.row.C.Denot = record { number = c.self.inside.number; pins = []; cells = listed c.self.inside.cells.entries } in
    let le = subst (λ s. c.args.n ≤ s.number) (sym c.self.view_is) c.requires in
    rw (← c.self.view_is) (c.value_in.ensures ∙ read_value g.K.Ord.cmp s c.args.n c.args.key.now le)
