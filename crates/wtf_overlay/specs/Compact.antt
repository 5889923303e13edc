-- Compact lists: the shortest form that a region's list is brought to.
use Rattle.std.specs.Prelude.{◌≡◌, ⊤, ◌+◌, ◌≤◌, ◌&&◌, nat_eq, nat_le, not, Bool, true, false, List, [], ◌∷◌}
use Rattle.std.specs.List.{All}
use Rattle.wtf_base.specs.Slices.{pointers_of}
use Rattle.wtf_base.specs.Pointers.{all_follow_on}
use Rattle.wtf_overlay.specs.declared.part.Part.{Part}
use Rattle.wtf_overlay.specs.declared.part.Part.TheVariants.{Zero, Held}
use Rattle.wtf_overlay.specs.declared.part.Entry.{Entry}

-- the part is a slice
abbrev pub is_held : Part → Bool
is_held Zero = false
is_held (Held s) = true

-- each copy of the second slice begins where that of the first one ends, on the same server and in the same file
abbrev pub follows_part : Part → Part → Bool
follows_part (Held s) (Held t) = all_follow_on (pointers_of s) (pointers_of t)
follows_part (Held s) Zero = false
follows_part Zero q = false

-- two entries that could be one: f begins at e's end, and so does its slice in each copy. The sum of their
-- lengths is that of an entry, since f ends below 2^32
abbrev pub could_be_one : Entry → Entry → Bool
could_be_one e f = nat_eq (e.off + e.len) f.off && follows_part e.part f.part

-- R holds of each two neighbours
abbrev pub Neighbours : (Entry → Entry → Type 0) → List Entry → Type 0
Neighbours R [] = ⊤
Neighbours R (e ∷ []) = ⊤
Neighbours R (e ∷ f ∷ es) = R e f × Neighbours R (f ∷ es)

-- each entry is a slice
abbrev pub AreSlices : List Entry → Type 0
AreSlices es = All (λ e. is_held e.part ≡ true) es

-- each entry begins at the end of the one before it or later
abbrev pub AreSorted : List Entry → Type 0
AreSorted es = Neighbours (λ e f. e.off + e.len ≤ f.off) es

-- no two neighbours could be one
abbrev pub AreApart : List Entry → Type 0
AreApart es = Neighbours (λ e f. could_be_one e f ≡ false) es

-- slices alone, sorted by offset and disjoint, and no two neighbours could be one
pub record IsCompact (es : List Entry) : Type 0 where
  pub slices : AreSlices es
  pub disjoint : AreSorted es
  pub joined : AreApart es

-- the same as a test: of an entry with the one after it, and of a list
abbrev pub may_follow : Entry → Entry → Bool
may_follow e f = nat_le (e.off + e.len) f.off && not (could_be_one e f)

abbrev pub is_compact : List Entry → Bool
is_compact [] = true
is_compact (e ∷ []) = is_held e.part
is_compact (e ∷ f ∷ es) = is_held e.part && (may_follow e f && is_compact (f ∷ es))
