use Rattle.std.proofs.Common.{sym, subst, refl}
use Rattle.wtf_kv.specs.Installs.{IsReady}
use Rattle.wtf_kv.specs.Stores.{Store}
use Rattle.wtf_kv.proofs.StoreLemmas.{installed_version, installed_versions, installed_map, installed_maps}
use Rattle.wtf_kv.proofs.store.Kv.install.Goals as goal

pub returns-clause-versions : goal.returns-clause-versions
returns-clause-versions g c =
    let old : Store g.row.K.Denot g.row.C.Denot = record c.self.inside.history { pins = c.self.inside.pins.items } in
    let new : Store g.row.K.Denot g.row.C.Denot = record c.install.new.self { pins = c.self.inside.pins.items } in
    let ready = subst (λ s. IsReady g.K.Ord.cmp g.C.Cell.outcome s c.args.ready) (sym c.self.view_is) c.requires.ready in
    rw (← c.self.view_is) (installed_versions g.K.Ord.cmp g.C.Cell.outcome old new c.args.ready ready c.install.ensures.number c.install.ensures.versions)

pub returns-clause-version : goal.returns-clause-version
returns-clause-version g c =
    let old : Store g.row.K.Denot g.row.C.Denot = record c.self.inside.history { pins = c.self.inside.pins.items } in
    let new : Store g.row.K.Denot g.row.C.Denot = record c.install.new.self { pins = c.self.inside.pins.items } in
    let ready = subst (λ s. IsReady g.K.Ord.cmp g.C.Cell.outcome s c.args.ready) (sym c.self.view_is) c.requires.ready in
    rw (← c.self.view_is) (installed_version g.K.Ord.cmp g.C.Cell.outcome old new c.args.ready ready c.install.ensures.number c.install.ensures.versions refl)

pub returns-clause-map : goal.returns-clause-map
returns-clause-map g c =
    let old : Store g.row.K.Denot g.row.C.Denot = record c.self.inside.history { pins = c.self.inside.pins.items } in
    let new : Store g.row.K.Denot g.row.C.Denot = record c.install.new.self { pins = c.self.inside.pins.items } in
    let ready = subst (λ s. IsReady g.K.Ord.cmp g.C.Cell.outcome s c.args.ready) (sym c.self.view_is) c.requires.ready in
    rw (← c.self.view_is) (installed_map g.K.Ord.cmp g.C.Cell.outcome old new c.args.ready ready c.install.ensures.number c.install.ensures.versions)

pub returns-clause-maps : goal.returns-clause-maps
returns-clause-maps g c =
    let old : Store g.row.K.Denot g.row.C.Denot = record c.self.inside.history { pins = c.self.inside.pins.items } in
    let new : Store g.row.K.Denot g.row.C.Denot = record c.install.new.self { pins = c.self.inside.pins.items } in
    let ready = subst (λ s. IsReady g.K.Ord.cmp g.C.Cell.outcome s c.args.ready) (sym c.self.view_is) c.requires.ready in
    rw (← c.self.view_is) (installed_maps g.K.Ord.cmp g.C.Cell.outcome old new c.args.ready ready c.install.ensures.number c.install.ensures.versions)
