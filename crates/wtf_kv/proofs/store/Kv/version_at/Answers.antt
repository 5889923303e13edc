use Rattle.std.proofs.Common.{sym, ap, subst, ◌∙◌, ◌≡◌, ◌≤◌, IsTrue}
use Rattle.wtf_kv.specs.Stores.{Store, version_of, is_live}
use Rattle.wtf_kv.proofs.StoreLemmas.{live-le}
use Rattle.wtf_kv.proofs.VersionLaws.{unmoved, version-le}
use Rattle.wtf_kv.proofs.store.Kv.version_at.Goals as goal

pub version-requires : goal.version-requires
version-requires g c =
    let s : Store g.row.K.Denot g.row.C.Denot = record c.self.inside.history { pins = c.self.inside.pins.items } in
    live-le s c.args.n c.self.invariant (subst (λ s. IsTrue (is_live s c.args.n)) (sym c.self.view_is) c.requires)

pub returns-clause-version : goal.returns-clause-version
returns-clause-version g c =
    rw (← c.self.view_is) (c.version.ensures ∙ ap (λ pins. version_of g.K.Ord.cmp (record c.self.inside.history { pins = pins }) c.args.n c.args.key.now) c.as_slice.ensures.value)

pub returns-clause-bound : goal.returns-clause-bound
returns-clause-bound g c = subst (λ v. v ≤ c.args.n) (sym c.version.ensures) (version-le g.K.Ord.cmp (record c.self.inside.history { pins = c.as_slice.result.now }) c.args.n c.args.key.now)

pub returns-clause-unmoved : goal.returns-clause-unmoved
returns-clause-unmoved g c =
    let s : Store g.row.K.Denot g.row.C.Denot = record c.self.inside.history { pins = c.self.inside.pins.items } in
    let is : c.version.result ≡ version_of g.K.Ord.cmp s c.args.n c.args.key.now =
    c.version.ensures ∙ ap (λ pins. version_of g.K.Ord.cmp (record c.self.inside.history { pins = pins }) c.args.n c.args.key.now) c.as_slice.ensures.value in
    rw (← c.self.view_is) (λ b pinned before old. unmoved g.K.Ord.cmp s b c.args.n c.args.key.now pinned before (subst (λ v. v ≤ b) is old))
