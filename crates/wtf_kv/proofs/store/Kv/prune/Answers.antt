use Rattle.std.proofs.Common.{refl, ap, sym, subst, ◌∙◌, ◌≡◌}
use Rattle.wtf_kv.specs.Seen.{kept_versions, ascends}
use Rattle.wtf_kv.specs.Stores.{Store, versions_of}
use Rattle.wtf_kv.proofs.Prune.{ascends-kept}
use Rattle.wtf_kv.proofs.StoreLemmas.{pruned_map, pruned_versions}
use Rattle.wtf_kv.proofs.store.Kv.prune.Goals as goal

pub returns-clause-maps : goal.returns-clause-maps
returns-clause-maps g c =
    let old : Store g.row.K.Denot g.row.C.Denot = record c.self.inside.history { pins = c.self.inside.pins.items } in
    let new : Store g.row.K.Denot g.row.C.Denot = record c.prune.new.self { pins = c.self.inside.pins.items } in
    let kept : (q : g.row.K.Denot) → versions_of g.K.Ord.cmp new q ≡ kept_versions old.pins (versions_of g.K.Ord.cmp old q) =
    λ q. c.prune.ensures.kept q ∙ ap (λ pins. kept_versions pins (versions_of g.K.Ord.cmp old q)) c.as_slice.ensures.value in
    rw (← c.self.view_is) (pruned_map g.K.Ord.cmp old new c.self.invariant c.prune.ensures.order refl kept)

pub returns-clause-versions : goal.returns-clause-versions
returns-clause-versions g c =
    let old : Store g.row.K.Denot g.row.C.Denot = record c.self.inside.history { pins = c.self.inside.pins.items } in
    let new : Store g.row.K.Denot g.row.C.Denot = record c.prune.new.self { pins = c.self.inside.pins.items } in
    let kept : (q : g.row.K.Denot) → versions_of g.K.Ord.cmp new q ≡ kept_versions old.pins (versions_of g.K.Ord.cmp old q) =
    λ q. c.prune.ensures.kept q ∙ ap (λ pins. kept_versions pins (versions_of g.K.Ord.cmp old q)) c.as_slice.ensures.value in
    rw (← c.self.view_is) (pruned_versions g.K.Ord.cmp old new c.self.invariant c.prune.ensures.order refl kept)

pub returns-clause-ascends : goal.returns-clause-ascends
returns-clause-ascends g c = λ q. subst ascends (sym (c.prune.ensures.kept q)) (ascends-kept c.as_slice.result.now (versions_of g.K.Ord.cmp c.self.inside.history q) (c.prune.ensures.order q))
