use Rattle.std.proofs.Common.{◌≡◌, ◌+◌, ℕ, List, [], ◌∷◌, ◌++◌, Option, length, take, sym, ap, ◌∙◌, subst, arith}
use Rattle.std.proofs.lemmas.List.{take_more, take_all, length-take-le}
use Rattle.wtf_occ.specs.Attempts.{GrowsBy}
use Rattle.wtf_occ.proofs.AttemptLaws.{GrowsBy-append, Grows-by, Grows-on}
use Rattle.wtf_values.specs.declared.region.RegionValue.{RegionValue}
use Rattle.wtf_meta.specs.Maps.{Edits}
use Rattle.wtf_slicing.specs.Copies.{put_region, put_regions}
use Rattle.wtf_slicing.proofs.Loops.{puts-more}
use Rattle.wtf_slicing.proofs.copies.put_regions.Goals as goal

-- the number of the next region
numbered : (n r len : ℕ) → r ≡ n → len ≡ n → 0 + len ≡ r
numbered n r len is count = omega (arith, is, count)

pub loop-value-preserved : goal.loop-value-preserved
loop-value-preserved c =
    let i = c.args.inode in
    let vs : List (Option RegionValue) = c.args.regions.now in
    let n = c.loop-value.value-index in
    let v : Option RegionValue = c.value-item.result in
    let at = c.args.at.now in
    let mid = c.loop-value.at in
    let new = c.put_region.new.at in
    let inv = c.loop-value.invariant in
    let next : take (n + 1) vs ≡ take n vs ++ v ∷ [] = take_more vs n v c.loop-value-test.true
    ∙ ap (λ (q : Option RegionValue). take n vs ++ q ∷ []) (sym c.value-item.is) in
    let count : length (take n vs) ≡ n = length-take-le n vs (omega (arith, c.loop-value-test.true)) in
    let edits : put_regions i 0 (take (n + 1) vs) ≡ put_regions i 0 (take n vs) ++ put_region i c.loop-value.r v =
    ap (put_regions i 0) next ∙ puts-more i 0 (take n vs) v ∙ ap (λ (r : ℕ). put_regions i 0 (take n vs) ++ put_region i r v)
    (numbered n c.loop-value.r (length (take n vs)) inv.count count) in
    record {
      count = ap (λ (k : ℕ). k + 1) inv.count;
      went = subst (λ (es : Edits). GrowsBy at new [] es) (sym edits) (GrowsBy-append at mid new [] [] (put_regions i 0 (take n vs))
          (put_region i c.loop-value.r v) inv.went c.in_ok-put_region.ensures.went);
    }

pub returns-in_err-put_region-clause-grows : goal.returns-in_err-put_region-clause-grows
returns-in_err-put_region-clause-grows c =
    let at = c.args.at.now in
    let mid = c.loop-value.at in
    let edits = put_regions c.args.inode 0 (take c.loop-value.value-index c.args.regions.now) in
    Grows-on at mid c.put_region.new.at (Grows-by at mid [] edits c.loop-value.invariant.went) c.in_err-put_region.ensures.grows

pub returns-clause-went : goal.returns-clause-went
returns-clause-went c =
    let vs : List (Option RegionValue) = c.args.regions.now in
    subst (λ (l : List (Option RegionValue)). GrowsBy c.args.at.now c.loop-value.at [] (put_regions c.args.inode 0 l))
    (take_all c.loop-value.value-index vs c.loop-value-test.false) c.loop-value.invariant.went
