-- Laws of what calls keep of a store and of a keeper.
use Rattle.std.specs.Prelude.{◌≡◌, ◌⊎◌, ℕ, zero, suc, ◌≤◌, List, [], ◌∷◌, Some}
use Rattle.std.specs.List.{Contains}
use Rattle.std.proofs.Common.{arith, ap, sym, ◌∙◌, inl, inr}
use Rattle.wtf_dev.specs.Counts.{Rose}
use Rattle.wtf_dev.specs.Keep.{KeeperView, KeeperKept}

-- a rise in a part of a span is one in the whole of it
pub rose_in : (start before after end : ℕ) → start ≤ before → Rose before after → after ≤ end → Rose start end
rose_in start before after end early rose late = λ below. omega (arith, early, late, rose (omega (arith, late, below)))

only_one : (x y : List ℕ) → Contains (x ∷ []) y → x ≡ y
only_one x y (zero, below, is) = is
only_one x y (suc n, below, is) = absurd (omega (arith, below))

-- a keeper that was handed nothing holds what it held
pub keeper_kept-none : (old new : KeeperView) (b : List ℕ) → KeeperKept old new [] → old.held ≡ Some b → new.held ≡ Some b
keeper_kept-none old new b kept held = elim (kept.bytes b held) [ inl same ↦ same | inr image ↦ absurd (omega (arith, image.1.1)) ]

-- one that was handed an image holds it, or what it held, and fails no less often
pub keeper_kept-one : (old new : KeeperView) (b image : List ℕ) → KeeperKept old new (image ∷ []) → old.held ≡ Some b
    → ((new.held ≡ Some b) ⊎ (new.held ≡ Some image)) × (old.faults ≤ new.faults) × (new.tells ≡ old.tells)
keeper_kept-one old new b image kept held = (
  elim (kept.bytes b held) [
    | inl same ↦ inl same
    | inr found ↦ inr (found.2 ∙ ap Some (sym (only_one image found.0 found.1)))
  ],
  kept.faults,
  kept.tells,
)
