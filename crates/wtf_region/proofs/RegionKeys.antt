-- Keys that are equal are the same.
use Rattle.std.proofs.Common.{◌≡◌, ℕ, Bool, true, false, ap, refl, ◌∙◌}
use Rattle.std.proofs.lemmas.Bool.{eqb-true}
use Rattle.std.specs.Prelude.{◌&&◌}
use Rattle.wtf_region.specs.declared.cache.RegionKey.{RegionKey}
use Rattle.wtf_region.specs.contracts.cache.RegionKeyPartialEq.TheImpl as region_key

both : (a b : Bool) → (a && b) ≡ true → (a ≡ true) × (b ≡ true)
both true b h = (refl, h)
both false b h = cc

pub same_key : (x y : RegionKey) → region_key.eq-value.it x y ≡ true → x ≡ y
same_key x y h =
    let p = both _ _ h in
    let q = both _ _ p.0 in
    let tx : x.inode.tx.0 ≡ y.inode.tx.0 = eqb-true _ _ q.0 in
    let index : x.inode.index ≡ y.inode.index = eqb-true _ _ q.1 in
    let region : x.region ≡ y.region = eqb-true _ _ p.1 in
    let key : ℕ → ℕ → ℕ → RegionKey = λ t i r. record { inode = record { tx = record { 0 = t }; index = i }; region = r } in
    ap (λ t. key t x.inode.index x.region) tx ∙ ap (λ i. key y.inode.tx.0 i x.region) index ∙ ap (λ r. key y.inode.tx.0 y.inode.index r) region
