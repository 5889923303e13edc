use Rattle.std.proofs.Common.{sym, ap, ◌∙◌, ◌≡◌, true}
use Rattle.std.specs.BTreeMap.{is_at}
use Rattle.std.specs.Cmp.{Equal-is}
use Rattle.std.proofs.lemmas.List.Filters.{dedup_is}
use Rattle.std.proofs.lemmas.List.Sorted.{list_any-IsPermutation}
use Rattle.wtf_kv.specs.Stores.{names}
use Rattle.wtf_kv.proofs.Once.{names-dedup}
use Rattle.wtf_kv.proofs.cells.keep_once.Goals as goal

pub returns : goal.returns
returns g c = λ q.
    let R = g.K.Ord.cmp in
    let exact : (x y : g.row.K.Denot) → g.K.PartialEq.eq x y ≡ true → x ≡ y = λ x y same. g.met.K.StoreKey.exact x y ((Equal-is (R x y)).0 (sym (g.met.K.Ord.matches_eq x y) ∙ same)) in
    ap (λ ks. names R ks q) (dedup_is g.K.PartialEq.eq c.sort_unstable.new.self.items c.dedup.new.self.items c.dedup.ensures.filtered)
    ∙ names-dedup R g.K.PartialEq.eq exact c.sort_unstable.new.self.items q
    ∙ sym (list_any-IsPermutation (λ k. is_at (R k) q) c.args.keys.now.items c.sort_unstable.new.self.items c.sort_unstable.ensures.permutation)
