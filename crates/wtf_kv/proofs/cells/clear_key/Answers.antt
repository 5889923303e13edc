use Rattle.std.proofs.Common.{rules, refl, sym, ap, ◌∙◌, ◌≡◌, None, subst}
use Rattle.std.proofs.lemmas.List.{nil_from_length}
use Rattle.std.specs.Map.{lookup}
use Rattle.std.specs.BTreeMap.{is_at}
use Rattle.wtf_kv.specs.Seen.{upto, ascends}
use Rattle.wtf_kv.specs.Stores.{versions_in, listed}
use Rattle.wtf_kv.proofs.Updated.{nil_len, versions_some, versions_absent, versions_updated, versions_removed}
use Rattle.wtf_kv.proofs.cells.clear_key.Goals as goal

pub returns-in_default : goal.returns-in_default
returns-in_default g c =
    let none : lookup (is_at (g.K.Ord.cmp c.args.key.now)) c.args.cells.now.entries ≡ None = search rules in
    let same : c.get_mut.follows.lender-at-none.entries ≡ c.args.cells.now.entries = search rules in
    λ q. ap (λ es. versions_in g.K.Ord.cmp (listed es) q) same ∙ versions_absent g.K.Ord.cmp g.met.K.StoreKey.exact c.args.cells.now.entries c.args.key.now (upto c.args.number) none refl q

pub keep_upto-requires : goal.keep_upto-requires
keep_upto-requires g c = subst ascends (versions_some g.K.Ord.cmp c.args.cells.now.entries c.args.key.now c.in-Some.versions.now (sym c.in-Some.ensures.value)) (c.requires c.args.key.now).0

pub returns-then-is_empty : goal.returns-then-is_empty
returns-then-is_empty g c =
    let w = c.keep_upto.new.versions in
    let held = c.get_mut.follows.holds w in
    let key = c.args.key.now in
    let old = c.args.cells.now.entries in
    let some = versions_some g.K.Ord.cmp old key c.in-Some.versions.now (sym c.in-Some.ensures.value) in
    let made : w.items ≡ upto c.args.number (versions_in g.K.Ord.cmp (listed old) key) = c.keep_upto.ensures ∙ ap (upto c.args.number) (sym some) in
    versions_removed g.K.Ord.cmp g.met.K.StoreKey.exact old _ c.remove.new.self.entries key (upto c.args.number) c.remove.ensures.updates.0 (sym made ∙ nil_from_length w.items (nil_len w (sym c.if-is_empty.ensures)))
    (versions_updated g.K.Ord.cmp g.met.K.StoreKey.exact old _ key w (upto c.args.number) (held.3 (search rules)).0 made)

pub returns-else-is_empty : goal.returns-else-is_empty
returns-else-is_empty g c =
    let w = c.keep_upto.new.versions in
    let held = c.get_mut.follows.holds w in
    let key = c.args.key.now in
    let old = c.args.cells.now.entries in
    let some = versions_some g.K.Ord.cmp old key c.in-Some.versions.now (sym c.in-Some.ensures.value) in
    versions_updated g.K.Ord.cmp g.met.K.StoreKey.exact old _ key w (upto c.args.number) (held.3 (search rules)).0 (c.keep_upto.ensures ∙ ap (upto c.args.number) (sym some))
