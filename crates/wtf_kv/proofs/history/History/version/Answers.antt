use Rattle.std.proofs.Common.{sym, subst, ◌∙◌, ◌≤◌}
use Rattle.wtf_kv.specs.Stores.{Store, listed}
use Rattle.wtf_kv.proofs.StoreLemmas.{read_version}
use Rattle.wtf_kv.proofs.history.History.version.Goals as goal

pub returns : goal.returns
returns g c =
    let s : Store g.row.K.Denot g.row.C.Denot = record { number = c.self.inside.number; pins = c.args.pins.now; cells = listed c.self.inside.cells.entries } in
    let le = subst (λ s. c.args.n ≤ s.number) (sym c.self.view_is) c.requires in
    rw (← c.self.view_is) (c.version_in.ensures ∙ read_version g.K.Ord.cmp s c.args.n c.args.key.now le)
