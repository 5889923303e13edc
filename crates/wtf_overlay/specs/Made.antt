-- Slices and entries made of their numbers, where they keep the rules of slices and of entries.
use Rattle.std.specs.Prelude.{◌≡◌, ℕ, ◌+◌, ◌-◌, ◌<◌, ◌≤◌, ◌^◌, ◌⊎◌, true, false, nat_eq, nat_lt, nat_le, ◌&&◌, List, [], ◌∷◌, Option, None, Some}
use Rattle.std.proofs.Common.{arith, inl, inr}
use Rattle.std.proofs.lemmas.Bool.{cases_lt, cases_eq, cases_Bool, and_parts, eqb-true, ltb-true, leb-true}
use Rattle.wtf_base.specs.declared.pointer.Pointer.{Pointer}
use Rattle.wtf_base.specs.declared.slice.Slice.{Slice}
use Rattle.wtf_base.specs.declared.slice.Extents.TheVariants.{One, Two, Three}
use Rattle.wtf_base.specs.Extents.{IsSound, extent_of}
use Rattle.wtf_base.specs.Pointers.{is_slice, is_sound_pointer, may_follow}
use Rattle.wtf_overlay.specs.declared.part.Part.{Part}
use Rattle.wtf_overlay.specs.declared.part.Part.TheVariants.{Zero, Held}
use Rattle.wtf_overlay.specs.declared.part.Entry.{Entry}
use Rattle.wtf_overlay.specs.Lengths.{HasLength}
use Rattle.wtf_overlay.specs.Rows.{EntryRow}
use Rattle.wtf_overlay.specs.Reading.{◌>>=◌}

pub sound_pointer : (a : Pointer) → is_sound_pointer a ≡ true → (0 < a.len) × (a.at + a.len ≤ 2 ^ 63 - 1)
sound_pointer a h = let both = and_parts (nat_lt 0 a.len) (nat_le (a.at + a.len) (2 ^ 63 - 1)) h in (ltb-true _ _ both.0, leb-true _ _ both.1)

pub follows_pointer : (a b : Pointer) → may_follow a b ≡ true → (a.server.0 < b.server.0) × (a.len ≡ b.len)
follows_pointer a b h = let both = and_parts (nat_lt a.server.0 b.server.0) (nat_eq a.len b.len) h in (ltb-true _ _ both.0, eqb-true _ _ both.1)

pub sound_one : (a : Pointer) → is_slice (a ∷ []) ≡ true → IsSound a.len (One (extent_of a))
sound_one a h = sound_pointer a h

pub sound_two : (a b : Pointer) → is_slice (a ∷ b ∷ []) ≡ true → IsSound a.len (Two (extent_of a) (extent_of b))
sound_two a b h =
    let all = and_parts (is_sound_pointer a && is_sound_pointer b) (may_follow a b) h in
    let each = and_parts (is_sound_pointer a) (is_sound_pointer b) all.0 in
    let first = sound_pointer a each.0 in
    let second = sound_pointer b each.1 in
    let next = follows_pointer a b all.1 in
    (first.0, first.1, omega (arith, second.1, next.1), next.0)

pub sound_three : (a b c : Pointer) → is_slice (a ∷ b ∷ c ∷ []) ≡ true → IsSound a.len (Three (extent_of a) (extent_of b) (extent_of c))
sound_three a b c h =
    let last = and_parts (is_sound_pointer a && is_sound_pointer b && is_sound_pointer c && may_follow a b) (may_follow b c) h in
    let all = and_parts (is_sound_pointer a && is_sound_pointer b && is_sound_pointer c) (may_follow a b) last.0 in
    let two = and_parts (is_sound_pointer a && is_sound_pointer b) (is_sound_pointer c) all.0 in
    let each = and_parts (is_sound_pointer a) (is_sound_pointer b) two.0 in
    let first = sound_pointer a each.0 in
    let second = sound_pointer b each.1 in
    let third = sound_pointer c two.1 in
    let next = follows_pointer a b all.1 in
    let over = follows_pointer b c last.1 in
    (first.0, first.1, omega (arith, second.1, next.1), omega (arith, third.1, next.1, over.1), next.0, over.0)

abbrev pub slice_one : (a : Pointer) → (is_slice (a ∷ []) ≡ true) ⊎ (is_slice (a ∷ []) ≡ false) → Option Slice
slice_one a (inl is) = Some (record { len = a.len; extents = One (extent_of a); sound = sound_one a is })
slice_one a (inr not) = None

abbrev pub slice_two : (a b : Pointer) → (is_slice (a ∷ b ∷ []) ≡ true) ⊎ (is_slice (a ∷ b ∷ []) ≡ false) → Option Slice
slice_two a b (inl is) = Some (record { len = a.len; extents = Two (extent_of a) (extent_of b); sound = sound_two a b is })
slice_two a b (inr not) = None

abbrev pub slice_three : (a b c : Pointer) → (is_slice (a ∷ b ∷ c ∷ []) ≡ true) ⊎ (is_slice (a ∷ b ∷ c ∷ []) ≡ false) → Option Slice
slice_three a b c (inl is) = Some (record { len = a.len; extents = Three (extent_of a) (extent_of b) (extent_of c); sound = sound_three a b c is })
slice_three a b c (inr not) = None

-- the slice of these pointers, if they are those of one
abbrev pub slice_by : List Pointer → Option Slice
slice_by [] = None
slice_by (a ∷ []) = slice_one a (cases_Bool (is_slice (a ∷ [])))
slice_by (a ∷ b ∷ []) = slice_two a b (cases_Bool (is_slice (a ∷ b ∷ [])))
slice_by (a ∷ b ∷ c ∷ []) = slice_three a b c (cases_Bool (is_slice (a ∷ b ∷ c ∷ [])))
slice_by (a ∷ b ∷ c ∷ d ∷ ps) = None

abbrev pub part_made : Option (List Pointer) → Option Part
part_made None = Some Zero
part_made (Some ps) = slice_by ps >>= λ s. Some (Held s)

-- whether a part has so many bytes
abbrev pub fits_part : (n : ℕ) (p : Part) → (HasLength n p) ⊎ (HasLength n p → ⊥)
fits_part n Zero = inl tt
fits_part n (Held s) = cases_eq s.len n

-- the entry of these numbers, if it has a byte, ends below 2^32 and is as long as its slice
abbrev pub entry_case : (off len : ℕ) (p : Part) → (0 < len) ⊎ (len ≤ 0) → (off + len < 2 ^ 32) ⊎ (2 ^ 32 ≤ off + len)
    → (HasLength len p) ⊎ (HasLength len p → ⊥) → Option Entry
entry_case off len p (inl some) (inl fits) (inl held) = Some (record { off = off; len = len; part = p; positive = some; fits = fits; held = held })
entry_case off len p (inr none) b c = None
entry_case off len p (inl some) (inr past) c = None
entry_case off len p (inl some) (inl fits) (inr other) = None

abbrev pub entry_with : ℕ → ℕ → Part → Option Entry
entry_with off len p = entry_case off len p (cases_lt 0 len) (cases_lt (off + len) (2 ^ 32)) (fits_part len p)

-- the entry of a row, and the entries of rows
abbrev pub entry_by : EntryRow → Option Entry
entry_by row = part_made row.part >>= λ p. entry_with row.off row.len p

abbrev pub entries_by : List EntryRow → Option (List Entry)
entries_by [] = Some []
entries_by (row ∷ rows) = entry_by row >>= λ e. entries_by rows >>= λ es. Some (e ∷ es)
