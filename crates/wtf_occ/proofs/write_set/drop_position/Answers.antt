use Rattle.std.proofs.Common.{rules, refl, sym, ap, ◌∙◌, ◌≡◌, ◌-◌, None, take}
use Rattle.std.proofs.lemmas.List.{nil_from_length}
use Rattle.std.specs.Map.{lookup}
use Rattle.std.specs.BTreeMap.{is_at}
use Rattle.wtf_occ.specs.Positions.{positions_of, listed_positions, front}
use Rattle.wtf_occ.proofs.Noted.{nil_len, positions_some, positions_absent, positions_updated, positions_removed}
use Rattle.wtf_occ.proofs.write_set.drop_position.Goals as goal

pub returns-in_default : goal.returns-in_default
returns-in_default g c =
    let none : lookup (is_at (g.K.Ord.cmp c.args.key.now)) c.args.positions.now.entries ≡ None = search rules in
    let same : c.get_mut.follows.lender-at-none.entries ≡ c.args.positions.now.entries = search rules in
    λ q. ap (λ es. positions_of g.K.Ord.cmp (listed_positions es) q) same ∙ positions_absent g.K.Ord.cmp g.met.K.StoreKey.exact c.args.positions.now.entries c.args.key.now front none refl q

pub returns-then-is_empty : goal.returns-then-is_empty
returns-then-is_empty g c =
    let w = c.pop.new.self in
    let held = c.get_mut.follows.holds w in
    let key = c.args.key.now in
    let old = c.args.positions.now.entries in
    let some = positions_some g.K.Ord.cmp old key c.in-Some.known.now (sym c.in-Some.ensures.value) in
    let made : w.items ≡ front (positions_of g.K.Ord.cmp (listed_positions old) key) = c.pop.ensures.rest ∙ ap (λ n. take (n - 1) c.in-Some.known.now.items) c.in-Some.known.now.ok.0 ∙ ap front (sym some) in
    positions_removed g.K.Ord.cmp g.met.K.StoreKey.exact old _ c.remove.new.self.entries key front c.remove.ensures.updates.0 (sym made ∙ nil_from_length w.items (nil_len w (sym c.if-is_empty.ensures)))
    (positions_updated g.K.Ord.cmp g.met.K.StoreKey.exact old _ key w front (held.3 (search rules)).0 made)

pub returns-else-is_empty : goal.returns-else-is_empty
returns-else-is_empty g c =
    let w = c.pop.new.self in
    let held = c.get_mut.follows.holds w in
    let key = c.args.key.now in
    let old = c.args.positions.now.entries in
    let some = positions_some g.K.Ord.cmp old key c.in-Some.known.now (sym c.in-Some.ensures.value) in
    positions_updated g.K.Ord.cmp g.met.K.StoreKey.exact old _ key w front (held.3 (search rules)).0 (c.pop.ensures.rest ∙ ap (λ n. take (n - 1) c.in-Some.known.now.items) c.in-Some.known.now.ok.0 ∙ ap front (sym some))
