-- Lists of entries cut at an end. A file is truncated by arithmetic on its pointers (NSDI 2016, section 2.1).
use Rattle.std.specs.Prelude.{ℕ, ◌+◌, ◌-◌, ◌<◌, ◌≤◌, ◌^◌, ◌⊎◌, ◌++◌, min, List, [], ◌∷◌, refl}
use Rattle.std.specs.List.{All}
use Rattle.std.proofs.Common.{arith, inl, inr}
use Rattle.std.proofs.lemmas.Bool.{cases_lt}
use Rattle.wtf_base.specs.declared.slice.Slice.{Slice}
use Rattle.wtf_base.specs.declared.slice.Extents.{Extents}
use Rattle.wtf_base.specs.declared.slice.Extents.TheVariants.{One, Two, Three}
use Rattle.wtf_base.specs.Extents.{IsSound}
use Rattle.wtf_overlay.specs.declared.part.Part.{Part}
use Rattle.wtf_overlay.specs.declared.part.Part.TheVariants.{Zero, Held}
use Rattle.wtf_overlay.specs.declared.part.Entry.{Entry}
use Rattle.wtf_overlay.specs.Lengths.{HasLength}

-- no entry ends past `end`
abbrev pub Within : ℕ → List Entry → Type 0
Within end es = All (λ e. e.off + e.len ≤ end) es

pub sound_front : (n m : ℕ) (e : Extents) → 0 < n → n ≤ m → IsSound m e → IsSound n e
sound_front n m (One a) some le h = (some, omega arith)
sound_front n m (Two a b) some le h = (some, omega arith, omega arith, h.3)
sound_front n m (Three a b c) some le h = (some, omega arith, omega arith, omega arith, h.4, h.5)

-- the first n bytes of a slice
abbrev pub slice_front : (n : ℕ) (s : Slice) → 0 < n → n ≤ s.len → Slice
slice_front n s some le = record { len = n; extents = s.extents; sound = sound_front n s.len s.extents some le s.sound }

pub in_slice : (n m : ℕ) (s : Slice) → HasLength m (Held s) → n ≤ m → n ≤ s.len
in_slice n m s len le = omega arith

-- the first n bytes of a part of m
abbrev pub part_front : (n m : ℕ) (p : Part) → HasLength m p → 0 < n → n ≤ m → Part
part_front n m Zero len some le = Zero
part_front n m (Held s) len some le = Held (slice_front n s some (in_slice n m s len le))

pub part_front_held : (n m : ℕ) (p : Part) (len : HasLength m p) (some : 0 < n) (le : n ≤ m)
    → HasLength n (part_front n m p len some le)
part_front_held n m Zero len some le = tt
part_front_held n m (Held s) len some le = refl

pub front_fits : (n : ℕ) (e : Entry) → n ≤ e.len → e.off + n < 2 ^ 32
front_fits n e le = omega (arith, e.fits)

-- the first n bytes of an entry
abbrev pub front : (n : ℕ) (e : Entry) → 0 < n → n ≤ e.len → Entry
front n e some le = record {
  off = e.off;
  len = n;
  part = part_front n e.len e.part e.held some le;
  positive = some;
  fits = front_fits n e le;
  held = part_front_held n e.len e.part e.held some le;
}

-- how many bytes of an entry lie below an end
abbrev pub below_end : ℕ → Entry → ℕ
below_end end e = min e.len (end - e.off)

pub below_end_some : (end : ℕ) (e : Entry) → e.off < end → 0 < below_end end e
below_end_some end e below = omega (arith, e.positive)

pub below_end_within : (end : ℕ) (e : Entry) → below_end end e ≤ e.len
below_end_within end e = omega arith

abbrev pub clip_case : (end : ℕ) (e : Entry) → (e.off < end) ⊎ (end ≤ e.off) → List Entry
clip_case end e (inl below) = front (below_end end e) e (below_end_some end e below) (below_end_within end e) ∷ []
clip_case end e (inr past) = []

-- what is left of an entry below an end: its first bytes, or nothing
abbrev pub clip_entry : ℕ → Entry → List Entry
clip_entry end e = clip_case end e (cases_lt e.off end)

-- a list with all bytes at an end and above taken off
abbrev pub clip_list : ℕ → List Entry → List Entry
clip_list end [] = []
clip_list end (e ∷ es) = clip_entry end e ++ clip_list end es
