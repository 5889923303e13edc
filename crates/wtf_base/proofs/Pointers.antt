-- The pointers of a slice.
use Rattle.std.proofs.Common.{◌≡◌, ℕ, [], ◌∷◌, refl}
use Rattle.std.specs.List.{All}
use Rattle.std.proofs.lemmas.List.Elements.{All-nil, All-cons}
use Rattle.wtf_base.specs.declared.pointer.Pointer.{Pointer}
use Rattle.wtf_base.specs.declared.slice.Slice.{Slice}
use Rattle.wtf_base.specs.declared.slice.Extents.{Extents}
use Rattle.wtf_base.specs.declared.slice.Extents.TheVariants.{One, Two, Three}
use Rattle.wtf_base.specs.Extents.{pointers_to, pointer_to}
use Rattle.wtf_base.specs.Slices.{pointers_of, len_of}

abbrev HasLen : ℕ → Pointer → Type 0
HasLen n p = p.len ≡ n

lens_to : (n : ℕ) (e : Extents) → All (HasLen n) (pointers_to n e)
lens_to n (One a) = All-cons (HasLen n) (pointer_to n a) [] refl (All-nil (HasLen n))
lens_to n (Two a b) = All-cons (HasLen n) (pointer_to n a) (pointer_to n b ∷ []) refl (All-cons (HasLen n) (pointer_to n b) [] refl (All-nil (HasLen n)))
lens_to n (Three a b c) =
    All-cons (HasLen n) (pointer_to n a) (pointer_to n b ∷ pointer_to n c ∷ []) refl
    (All-cons (HasLen n) (pointer_to n b) (pointer_to n c ∷ []) refl (All-cons (HasLen n) (pointer_to n c) [] refl (All-nil (HasLen n))))

-- all pointers of a slice have its length
pub pointers-len : (s : Slice) → All (λ (p : Pointer). p.len ≡ len_of s) (pointers_of s)
pointers-len s = lens_to s.len s.extents
