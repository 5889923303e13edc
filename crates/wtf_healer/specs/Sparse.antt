-- Which slices a pass stores anew: those that have too few copies on the servers that are left.
use Rattle.std.specs.Prelude.{ℕ, ◌+◌, Bool, false, ◌||◌, nat_lt, if◌then◌else◌, List, [], ◌∷◌, length, Option, None, Some}
use Rattle.std.specs.List.{list_any}
use Rattle.wtf_base.specs.declared.pointer.Pointer.{Pointer}
use Rattle.wtf_base.specs.declared.slice.Slice.{Slice}
use Rattle.wtf_base.specs.Slices.{pointers_of}
use Rattle.wtf_overlay.specs.declared.part.Part.{Part}
use Rattle.wtf_overlay.specs.declared.part.Part.TheVariants.{Zero, Held}
use Rattle.wtf_overlay.specs.declared.part.Entry.{Entry}
use Rattle.wtf_values.specs.declared.region.RegionValue.{RegionValue}
use Rattle.wtf_values.specs.declared.region.Spill.{Spill}

-- some copy lies on a lost server
abbrev pub has_lost : (ℕ → Bool) → List Pointer → Bool
has_lost lost ps = list_any (λ (p : Pointer). lost p.server.0) ps

-- a slice has a copy on a lost server, or fewer copies than n
abbrev pub is_sparse : (ℕ → Bool) → ℕ → Slice → Bool
is_sparse lost n s = nat_lt (length (pointers_of s)) n || has_lost lost (pointers_of s)

-- zeros are in no slice, and have no copies to lose
abbrev pub is_sparse_part : (ℕ → Bool) → ℕ → Part → Bool
is_sparse_part lost n Zero = false
is_sparse_part lost n (Held s) = is_sparse lost n s

-- some entry of a list, also one that later entries hide
abbrev pub has_sparse : (ℕ → Bool) → ℕ → List Entry → Bool
has_sparse lost n es = list_any (λ (e : Entry). is_sparse_part lost n e.part) es

abbrev pub is_sparse_base : (ℕ → Bool) → ℕ → Option Spill → Bool
is_sparse_base lost n None = false
is_sparse_base lost n (Some s) = is_sparse lost n s.slice

-- A region is to be healed where a slice of it is sparse: that of its base, one of the list in it, which is `under`, or one of its
-- entries.
abbrev pub is_to_heal : (ℕ → Bool) → ℕ → List Entry → RegionValue → Bool
is_to_heal lost n under v = is_sparse_base lost n v.base || has_sparse lost n under || has_sparse lost n v.list

-- how many bytes the sparse entries of a list have together
abbrev pub sparse_bytes : (ℕ → Bool) → ℕ → List Entry → ℕ
sparse_bytes lost n [] = 0
sparse_bytes lost n (e ∷ es) = (if is_sparse_part lost n e.part then e.len else 0) + sparse_bytes lost n es
