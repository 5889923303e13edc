-- A range of a file that is read region by region.
use Rattle.std.proofs.Common.{◌≡◌, ℕ, ◌+◌, ◌*◌, ◌≤◌, ◌++◌, List, refl, ap, sym, ◌∙◌, arith}
use Rattle.wtf_overlay.specs.declared.part.Piece.{Piece}
use Rattle.wtf_overlay.specs.Origin.{Plans}
use Rattle.wtf_overlay.proofs.Pieces.{Plans-append}
use Rattle.wtf_meta.specs.Lists.{Lists}
use Rattle.wtf_meta.specs.Files.{FileView, region_origin, file_origin}
use Rattle.wtf_meta.proofs.Places.{at_place}

-- the pieces of a part that lies in region r come after those of the parts before it
pub Plans-part : (b off done r s n : ℕ) (lists : Lists) (v : FileView) (out more : List Piece) → r * b + s ≡ off + done → s + n ≤ b
    → Plans out done (λ i. file_origin b lists v (off + i))
    → Plans more n (λ i. region_origin lists (v.region r) (s + i)) → Plans (out ++ more) (done + n) (λ i. file_origin b lists v (off + i))
Plans-part b off done r s n lists v out more at within plans here =
    Plans-append out more done n (done + n) (λ i. file_origin b lists v (off + i)) (λ i. region_origin lists (v.region r) (s + i)) refl plans here
    (λ i h. sym (at_place b lists v r (s + i) (omega arith)) ∙ ap (file_origin b lists v) (let d : r * b + (s + i) ≡ off + (done + i) = omega arith in d))
