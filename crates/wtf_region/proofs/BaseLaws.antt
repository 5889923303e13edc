-- Which lists are read of a file: those of the bases of the regions of a range, in order.
use Rattle.std.proofs.Common.{◌≡◌, ◌⊎◌, ℕ, ◌+◌, ◌*◌, ◌<◌, ◌≤◌, ◌++◌, List, [], ◌∷◌, Option, None, Some, refl, sym, ap, ◌∙◌, append_assoc, append-nil}
use Rattle.std.proofs.lemmas.List.{map-append}
use Rattle.wtf_base.specs.declared.slice.Slice.{Slice}
use Rattle.wtf_overlay.specs.declared.part.Entry.{Entry}
use Rattle.wtf_values.specs.declared.region.Spill.{Spill}
use Rattle.wtf_meta.specs.Appends.{touched}
use Rattle.wtf_meta.specs.Files.{FileView}
use Rattle.wtf_meta.specs.Lists.{ListFact, base_facts}
use Rattle.wtf_meta.proofs.Touching.{touched-more}
use Rattle.wtf_region.specs.Bases.{slices_of, base_slices, region_slices, bases_of, bases_in}

-- what is read of a base is its slice
pub base_wants : (o : Option Spill) (es : List Entry) → slices_of (base_facts o es) ≡ base_slices o
base_wants None es = refl
base_wants (Some base) es = refl

pub slices_more : (fs gs : List ListFact) → slices_of (fs ++ gs) ≡ slices_of fs ++ slices_of gs
slices_more fs gs = map-append (λ (f : ListFact). f.slice) fs gs

-- one region more
pub bases_push : (file : FileView) (rs : List ℕ) (r : ℕ) → bases_of file (rs ++ r ∷ []) ≡ bases_of file rs ++ region_slices (file.region r)
bases_push file [] r = append-nil (region_slices (file.region r))
bases_push file (q ∷ rs) r =
    ap (λ (l : List Slice). region_slices (file.region q) ++ l) (bases_push file rs r)
    ∙ sym (append_assoc (region_slices (file.region q)) (bases_of file rs) (region_slices (file.region r)))

-- one part more of a range, which begins it or a region
pub wants_more : (b off done n r y : ℕ) (file : FileView) (fs gs : List ListFact) → 0 < b → 0 < n → r * b + y ≡ off + done → y + n ≤ b
    → (done ≡ 0) ⊎ (y ≡ 0) → slices_of fs ≡ bases_in b file off done → slices_of gs ≡ region_slices (file.region r)
    → slices_of (fs ++ gs) ≡ bases_in b file off (done + n)
wants_more b off done n r y file fs gs size some at within start first next =
    slices_more fs gs ∙ ap (λ (l : List Slice). l ++ slices_of gs) first ∙ ap (λ (l : List Slice). bases_in b file off done ++ l) next
    ∙ sym (bases_push file (touched b off done) r)
    ∙ ap (bases_of file) (sym (touched-more b off done r y n size at within some start))
