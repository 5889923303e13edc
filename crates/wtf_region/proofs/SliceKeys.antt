-- Slices that are equal are the same, and what is remembered of them.
use Rattle.std.proofs.Common.{◌≡◌, true, List, Some, sym, subst}
use Rattle.std.specs.List.{Contains}
use Rattle.lru.proofs.CallerLemmas.{Contains-lookup}
use Rattle.wtf_base.specs.declared.slice.Slice.{Slice}
use Rattle.wtf_base.specs.contracts.slice.SlicePartialEq.TheImpl as slice_eq
use Rattle.wtf_overlay.specs.declared.part.Entry.{Entry}
use Rattle.wtf_overlay.proofs.SameEntries.{slice_exact}
use Rattle.wtf_region.specs.Cached.{Remembered, cached}

pub same_slice : (x y : Slice) → slice_eq.eq-value.it x y ≡ true → x ≡ y
same_slice x y h = slice_exact x y h

-- the list that is remembered of a slice is one of those in the cache
pub cached_entry : (es : Remembered) (s : Slice) (list : List Entry) → cached es s ≡ Some list → Contains es (s, list)
cached_entry es s list h =
    let at = Contains-lookup (slice_eq.eq-value.it s) es list h in
    subst (λ (k : Slice). Contains es (k, list)) (sym (same_slice s at.0 at.2)) at.1
