-- Why entries are not taken for a compact list.
use Rattle.std.specs.Prelude.{◌≡◌, ℕ, ◌+◌, ◌<◌, ◌≤◌, true, false, List, [], ◌∷◌, ⊤}
use Rattle.wtf_overlay.specs.declared.part.Entry.{Entry}
use Rattle.wtf_overlay.specs.declared.error.NotCompact.{NotCompact}
use Rattle.wtf_overlay.specs.declared.error.NotCompact.TheVariants as cause
use Rattle.wtf_overlay.specs.Clips.{Within}
use Rattle.wtf_overlay.specs.Compact.{AreSlices, AreSorted, AreApart, is_held, could_be_one}

-- what of a compact list within `end` is not so
abbrev pub IsCause : ℕ → List Entry → NotCompact → Type 0
IsCause end es cause.Zeros = AreSlices es → ⊥
IsCause end es cause.Order = AreSorted es → ⊥
IsCause end es cause.Joins = AreApart es → ⊥
IsCause end es cause.Past = Within end es → ⊥
IsCause end es cause.Memory = ⊤

-- R holds of an entry and the first one after it
abbrev pub WithNext : (Entry → Entry → Type 0) → Entry → List Entry → Type 0
WithNext R e [] = ⊤
WithNext R e (f ∷ es) = R e f

-- an entry may stand before these in a compact list within `end`
pub record MayStand (end : ℕ) (e : Entry) (after : List Entry) : Type 0 where
  pub slice : is_held e.part ≡ true
  pub within : e.off + e.len ≤ end
  pub sorted : WithNext (λ e f. e.off + e.len ≤ f.off) e after
  pub apart : WithNext (λ e f. could_be_one e f ≡ false) e after

-- why it may not
abbrev pub IsCauseAt : ℕ → Entry → List Entry → NotCompact → Type 0
IsCauseAt end e after cause.Zeros = is_held e.part ≡ false
IsCauseAt end e after cause.Order = WithNext (λ e f. e.off + e.len ≤ f.off) e after → ⊥
IsCauseAt end e after cause.Joins = WithNext (λ e f. could_be_one e f ≡ false) e after → ⊥
IsCauseAt end e after cause.Past = end < e.off + e.len
IsCauseAt end e after cause.Memory = ⊥
