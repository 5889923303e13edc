use Rattle.std.proofs.Common.{rules, refl, sym, ap, ◌∙◌, ◌≡◌, None, not}
use Rattle.std.proofs.lemmas.List.{nil_from_length}
use Rattle.std.specs.Map.{lookup}
use Rattle.std.specs.BTreeMap.{is_at}
use Rattle.wtf_kv.specs.Seen.{kept_versions, is_settled}
use Rattle.wtf_kv.specs.Stores.{versions_in, listed}
use Rattle.wtf_kv.proofs.Updated.{nil_len, versions_some, versions_none, versions_absent, versions_updated, versions_removed}
use Rattle.wtf_kv.proofs.cells.prune_key.Goals as goal

pub returns-in_default-clause-versions : goal.returns-in_default-clause-versions
returns-in_default-clause-versions g c =
    let none : lookup (is_at (g.K.Ord.cmp c.args.key.now)) c.args.cells.now.entries ≡ None = search rules in
    let same : c.get_mut.follows.lender-at-none.entries ≡ c.args.cells.now.entries = search rules in
    λ q. ap (λ es. versions_in g.K.Ord.cmp (listed es) q) same ∙ versions_absent g.K.Ord.cmp g.met.K.StoreKey.exact c.args.cells.now.entries c.args.key.now (kept_versions c.args.pins.now) none refl q

pub returns-in_default-clause-loose : goal.returns-in_default-clause-loose
returns-in_default-clause-loose g c =
    let none : lookup (is_at (g.K.Ord.cmp c.args.key.now)) c.get_mut.follows.lender-at-none.entries ≡ None = search rules in
    sym (ap (λ vs. not (is_settled vs)) (versions_none g.K.Ord.cmp c.get_mut.follows.lender-at-none.entries c.args.key.now none))

pub returns-then-is_empty-clause-versions : goal.returns-then-is_empty-clause-versions
returns-then-is_empty-clause-versions g c =
    let w = c.prune_versions.new.versions in
    let held = c.get_mut.follows.holds w in
    let key = c.args.key.now in
    let old = c.args.cells.now.entries in
    let some = versions_some g.K.Ord.cmp old key c.in-Some.versions.now (sym c.in-Some.ensures.value) in
    let made : w.items ≡ kept_versions c.args.pins.now (versions_in g.K.Ord.cmp (listed old) key) = c.prune_versions.ensures ∙ ap (kept_versions c.args.pins.now) (sym some) in
    versions_removed g.K.Ord.cmp g.met.K.StoreKey.exact old _ c.remove.new.self.entries key (kept_versions c.args.pins.now) c.remove.ensures.updates.0 (sym made ∙ nil_from_length w.items (nil_len w (sym c.if-is_empty.ensures)))
    (versions_updated g.K.Ord.cmp g.met.K.StoreKey.exact old _ key w (kept_versions c.args.pins.now) (held.3 (search rules)).0 made)

pub returns-then-is_empty-clause-loose : goal.returns-then-is_empty-clause-loose
returns-then-is_empty-clause-loose g c = sym (ap (λ vs. not (is_settled vs)) (versions_none g.K.Ord.cmp c.remove.new.self.entries c.args.key.now c.remove.ensures.updates.1))

pub returns-clause-versions : goal.returns-clause-versions
returns-clause-versions g c =
    let w = c.prune_versions.new.versions in
    let held = c.get_mut.follows.holds w in
    let key = c.args.key.now in
    let old = c.args.cells.now.entries in
    let some = versions_some g.K.Ord.cmp old key c.in-Some.versions.now (sym c.in-Some.ensures.value) in
    versions_updated g.K.Ord.cmp g.met.K.StoreKey.exact old _ key w (kept_versions c.args.pins.now) (held.3 (search rules)).0 (c.prune_versions.ensures ∙ ap (kept_versions c.args.pins.now) (sym some))

pub returns-clause-loose : goal.returns-clause-loose
returns-clause-loose g c =
    let w = c.prune_versions.new.versions in
    let held = c.get_mut.follows.holds w in
    ap not (c.settles.ensures ∙ ap is_settled c.as_slice.ensures.value ∙ sym (ap is_settled (versions_some g.K.Ord.cmp _ c.args.key.now w (held.3 (search rules)).1)))
