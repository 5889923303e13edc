use Rattle.std.proofs.Common.{sym, subst, IsTrue}
use Rattle.wtf_kv.specs.Stores.{Store, is_live}
use Rattle.wtf_kv.proofs.StoreLemmas.{live-le}
use Rattle.wtf_kv.proofs.store.Kv.rows.Goals as goal

pub rows-requires : goal.rows-requires
rows-requires g c =
    let s : Store g.row.K.Denot g.row.C.Denot = record c.self.inside.history { pins = c.self.inside.pins.items } in
    live-le s c.args.n c.self.invariant (subst (λ s. IsTrue (is_live s c.args.n)) (sym c.self.view_is) c.requires)
