-- Entries laid over a region one by one.
use Rattle.std.proofs.Common.{◌≡◌, ◌++◌, ◌∙◌, List, [], ◌∷◌, Some, refl, sym, append_assoc}
use Rattle.std.proofs.lemmas.List.{append-nil}
use Rattle.wtf_overlay.specs.declared.part.Entry.{Entry}
use Rattle.wtf_values.specs.declared.region.RegionValue.{RegionValue}
use Rattle.wtf_values.specs.Regions.{pushed, pushed_all}

pub pushed_all-more : (v : RegionValue) (es : List Entry) (e : Entry) → pushed_all v (es ++ e ∷ []) ≡ pushed (Some (pushed_all v es)) e
pushed_all-more v [] e = refl
pushed_all-more v (x ∷ es) e = pushed_all-more (pushed (Some v) x) es e

pub laid_base : (v : RegionValue) (es : List Entry) → (pushed_all v es).base ≡ v.base
laid_base v [] = refl
laid_base v (e ∷ es) = laid_base (pushed (Some v) e) es

pub laid_list : (v : RegionValue) (es : List Entry) → v.list ++ es ≡ (pushed_all v es).list
laid_list v [] = append-nil v.list
laid_list v (e ∷ es) = sym (append_assoc v.list (e ∷ []) es) ∙ laid_list (pushed (Some v) e) es
