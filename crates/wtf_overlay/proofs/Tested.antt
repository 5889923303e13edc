-- The test for compact lists, and entries made of their own numbers.
use Rattle.std.proofs.Common.{◌≡◌, ℕ, ◌+◌, ◌-◌, ◌<◌, ◌≤◌, ◌^◌, ◌⊎◌, ◌&&◌, true, false, Bool, not, List, [], ◌∷◌, Option, Some, None, refl, sym, ap, ◌∙◌, arith, inl, inr, nat_le}
use Rattle.std.proofs.lemmas.Bool.{cases_lt, cases_Bool, and_parts, and_from, eq-eqb, leb-true, le-leb, lt-ltb}
use Rattle.std.proofs.lemmas.List.Elements.{All-nil, All-cons, All-head, All-tail}
use Rattle.wtf_base.specs.declared.pointer.Pointer.{Pointer}
use Rattle.wtf_base.specs.declared.slice.Slice.{Slice}
use Rattle.wtf_base.specs.declared.slice.Extent.{Extent}
use Rattle.wtf_base.specs.declared.slice.Extents.{Extents}
use Rattle.wtf_base.specs.declared.slice.Extents.TheVariants.{One, Two, Three}
use Rattle.wtf_base.specs.Extents.{pointer_to, pointers_to, extent_of, IsSound}
use Rattle.wtf_base.specs.Pointers.{is_slice, is_sound_pointer}
use Rattle.wtf_base.specs.Pointers as pointers
use Rattle.wtf_base.specs.Slices.{pointers_of}
use Rattle.wtf_overlay.specs.declared.part.Part.{Part}
use Rattle.wtf_overlay.specs.declared.part.Part.TheVariants.{Zero, Held}
use Rattle.wtf_overlay.specs.declared.part.Entry.{Entry}
use Rattle.wtf_overlay.specs.Lengths.{HasLength}
use Rattle.wtf_overlay.specs.Rows.{EntryRow, part_row, entry_row, entry_rows}
use Rattle.wtf_overlay.specs.Reading.{◌>>=◌}
use Rattle.wtf_overlay.specs.Made.{follows_pointer, slice_one, slice_two, slice_three, slice_by, part_made, fits_part, entry_case, entry_with, entry_by, entries_by}
use Rattle.wtf_overlay.specs.Compact.{IsCompact, is_held, could_be_one, may_follow, is_compact}
use Rattle.wtf_overlay.proofs.Clipping.{slice_eq, entry_eq}

-- ---- the test

not_one : (b : Bool) → not b ≡ true → b ≡ false
not_one true h = absurd (cc)
not_one false h = refl

one_not : (b : Bool) → b ≡ false → not b ≡ true
one_not b h = ap not h

pub test_compact : (es : List Entry) → is_compact es ≡ true → IsCompact es
test_compact [] h = record { slices = All-nil (λ (e : Entry). is_held e.part ≡ true); disjoint = tt; joined = tt }
test_compact (e ∷ []) h = record {
  slices = All-cons (λ (e : Entry). is_held e.part ≡ true) e [] h (All-nil (λ (e : Entry). is_held e.part ≡ true));
  disjoint = tt;
  joined = tt;
}
test_compact (e ∷ f ∷ es) h =
    let first = and_parts (is_held e.part) (may_follow e f && is_compact (f ∷ es)) h in
    let rest = and_parts (may_follow e f) (is_compact (f ∷ es)) first.1 in
    let next = and_parts (nat_le (e.off + e.len) f.off) (not (could_be_one e f)) rest.0 in
    let c = test_compact (f ∷ es) rest.1 in
    record {
      slices = All-cons (λ (e : Entry). is_held e.part ≡ true) e (f ∷ es) first.0 c.slices;
      disjoint = (leb-true (e.off + e.len) f.off next.0, c.disjoint);
      joined = (not_one (could_be_one e f) next.1, c.joined);
    }

pub compact_test : (es : List Entry) → IsCompact es → is_compact es ≡ true
compact_test [] c = refl
compact_test (e ∷ []) c = All-head (λ (e : Entry). is_held e.part ≡ true) e [] c.slices
compact_test (e ∷ f ∷ es) c =
    and_from (is_held e.part) (may_follow e f && is_compact (f ∷ es))
    (All-head (λ (e : Entry). is_held e.part ≡ true) e (f ∷ es) c.slices)
    (and_from (may_follow e f) (is_compact (f ∷ es))
    (and_from _ _ (le-leb (e.off + e.len) f.off c.disjoint.0) (one_not (could_be_one e f) c.joined.0))
    (compact_test (f ∷ es) (record {
      slices = All-tail (λ (e : Entry). is_held e.part ≡ true) e (f ∷ es) c.slices;
      disjoint = c.disjoint.1;
      joined = c.joined.1;
    })))

-- ---- slices and entries of their own numbers

sound_true : (n : ℕ) (a : Extent) → 0 < n → a.at + n ≤ 2 ^ 63 - 1 → is_sound_pointer (pointer_to n a) ≡ true
sound_true n a some fits = and_from _ _ (lt-ltb 0 n some) (le-leb (a.at + n) (2 ^ 63 - 1) fits)

follow_true : (n : ℕ) (a b : Extent) → a.server.0 < b.server.0 → pointers.may_follow (pointer_to n a) (pointer_to n b) ≡ true
follow_true n a b before = and_from _ _ (lt-ltb a.server.0 b.server.0 before) (eq-eqb n n refl)

-- the pointers of a slice are those of one
pub sound_pointers : (n : ℕ) (e : Extents) → IsSound n e → is_slice (pointers_to n e) ≡ true
sound_pointers n (One a) h = sound_true n a h.0 h.1
sound_pointers n (Two a b) h = and_from _ _ (and_from _ _ (sound_true n a h.0 h.1) (sound_true n b h.0 h.2)) (follow_true n a b h.3)
sound_pointers n (Three a b c) h =
    and_from _ _ (and_from _ _ (and_from _ _ (and_from _ _ (sound_true n a h.0 h.1) (sound_true n b h.0 h.2)) (sound_true n c h.0 h.3)) (follow_true n a b h.4)) (follow_true n b c h.5)

case_one : (s : Slice) (a : Extent) → s.extents ≡ One a → is_slice (pointer_to s.len a ∷ []) ≡ true
    → (c : (is_slice (pointer_to s.len a ∷ []) ≡ true) ⊎ (is_slice (pointer_to s.len a ∷ []) ≡ false)) → slice_one (pointer_to s.len a) c ≡ Some s
case_one s a is sound (inl h) = ap Some (slice_eq _ s refl (sym is))
case_one s a is sound (inr h) = absurd (cc)

case_two : (s : Slice) (a b : Extent) → s.extents ≡ Two a b → is_slice (pointer_to s.len a ∷ pointer_to s.len b ∷ []) ≡ true
    → (c : (is_slice (pointer_to s.len a ∷ pointer_to s.len b ∷ []) ≡ true) ⊎ (is_slice (pointer_to s.len a ∷ pointer_to s.len b ∷ []) ≡ false))
    → slice_two (pointer_to s.len a) (pointer_to s.len b) c ≡ Some s
case_two s a b is sound (inl h) = ap Some (slice_eq _ s refl (sym is))
case_two s a b is sound (inr h) = absurd (cc)

case_three : (s : Slice) (a b d : Extent) → s.extents ≡ Three a b d → is_slice (pointer_to s.len a ∷ pointer_to s.len b ∷ pointer_to s.len d ∷ []) ≡ true
    → (c : (is_slice (pointer_to s.len a ∷ pointer_to s.len b ∷ pointer_to s.len d ∷ []) ≡ true) ⊎ (is_slice (pointer_to s.len a ∷ pointer_to s.len b ∷ pointer_to s.len d ∷ []) ≡ false))
    → slice_three (pointer_to s.len a) (pointer_to s.len b) (pointer_to s.len d) c ≡ Some s
case_three s a b d is sound (inl h) = ap Some (slice_eq _ s refl (sym is))
case_three s a b d is sound (inr h) = absurd (cc)

slice_of_extents : (s : Slice) (e : Extents) → s.extents ≡ e → is_slice (pointers_to s.len e) ≡ true → slice_by (pointers_to s.len e) ≡ Some s
slice_of_extents s (One a) is sound = case_one s a is sound (cases_Bool (is_slice (pointer_to s.len a ∷ [])))
slice_of_extents s (Two a b) is sound = case_two s a b is sound (cases_Bool (is_slice (pointer_to s.len a ∷ pointer_to s.len b ∷ [])))
slice_of_extents s (Three a b c) is sound = case_three s a b c is sound
    (cases_Bool (is_slice (pointer_to s.len a ∷ pointer_to s.len b ∷ pointer_to s.len c ∷ [])))

pub slice_again : (s : Slice) → slice_by (pointers_of s) ≡ Some s
slice_again s = slice_of_extents s s.extents refl (sound_pointers s.len s.extents s.sound)

part_again : (p : Part) → part_made (part_row p) ≡ Some p
part_again Zero = refl
part_again (Held s) = ap (λ o. o >>= λ s. Some (Held s)) (slice_again s)

case_again : (e : Entry) (a : (0 < e.len) ⊎ (e.len ≤ 0)) (b : (e.off + e.len < 2 ^ 32) ⊎ (2 ^ 32 ≤ e.off + e.len)) (c : HasLength e.len e.part ⊎ (HasLength e.len e.part → ⊥))
    → entry_case e.off e.len e.part a b c ≡ Some e
case_again e (inl some) (inl fits) (inl held) = ap Some (entry_eq _ e refl refl refl)
case_again e (inr none) b c = absurd (omega (arith, e.positive))
case_again e (inl some) (inr past) c = absurd (omega (arith, e.fits))
case_again e (inl some) (inl fits) (inr other) = absurd (other e.held)

pub entry_again : (e : Entry) → entry_by (entry_row e) ≡ Some e
entry_again e =
    ap (λ o. o >>= λ p. entry_with e.off e.len p) (part_again e.part)
    ∙ case_again e (cases_lt 0 e.len) (cases_lt (e.off + e.len) (2 ^ 32)) (fits_part e.len e.part)

-- entries are made again of their rows
pub entries_again : (es : List Entry) → entries_by (entry_rows es) ≡ Some es
entries_again [] = refl
entries_again (e ∷ es) =
    ap (λ o. o >>= λ e. entries_by (entry_rows es) >>= λ es. Some (e ∷ es)) (entry_again e)
    ∙ ap (λ o. o >>= λ es. Some (e ∷ es)) (entries_again es)

-- ---- and of rows, they have these for their own

bound : {A B : Type 0} (o : Option A) (f : A → Option B) (y : B) → (o >>= f) ≡ Some y → (x : A) × (o ≡ Some x) × (f x ≡ Some y)
bound (Some x) f y e = (x, refl, e)
bound None f y e = absurd (cc)

some_same : {A : Type 0} (x y : A) → Some x ≡ Some y → x ≡ y
some_same x y e = cc

made_one : (a : Pointer) (s : Slice) (c : (is_slice (a ∷ []) ≡ true) ⊎ (is_slice (a ∷ []) ≡ false)) → slice_one a c ≡ Some s → pointers_of s ≡ a ∷ []
made_one a s (inl h) e = sym (ap pointers_of (some_same _ s e))
made_one a s (inr h) e = absurd (cc)

-- the pointers of a slice have one length
sound_len_two : (a b : Pointer) → is_slice (a ∷ b ∷ []) ≡ true → a.len ≡ b.len
sound_len_two a b h =
    let all = and_parts (is_sound_pointer a && is_sound_pointer b) (pointers.may_follow a b) h in
    (follows_pointer a b all.1).1

sound_len_three : (a b d : Pointer) → is_slice (a ∷ b ∷ d ∷ []) ≡ true → (a.len ≡ b.len) × (a.len ≡ d.len)
sound_len_three a b d h =
    let last = and_parts (is_sound_pointer a && is_sound_pointer b && is_sound_pointer d && pointers.may_follow a b) (pointers.may_follow b d) h in
    let all = and_parts (is_sound_pointer a && is_sound_pointer b && is_sound_pointer d) (pointers.may_follow a b) last.0 in
    let first = (follows_pointer a b all.1).1 in
    let second = (follows_pointer b d last.1).1 in
    (first, first ∙ second)

two_own : (a b : Pointer) → is_slice (a ∷ b ∷ []) ≡ true → a ∷ pointer_to a.len (extent_of b) ∷ [] ≡ a ∷ b ∷ []
two_own a b h = let same = (sound_len_two a b h) in ap (λ (n : ℕ). a ∷ pointer_to n (extent_of b) ∷ []) same

three_own : (a b d : Pointer) → is_slice (a ∷ b ∷ d ∷ []) ≡ true → a ∷ pointer_to a.len (extent_of b) ∷ pointer_to a.len (extent_of d) ∷ [] ≡ a ∷ b ∷ d ∷ []
three_own a b d h =
    let same = sound_len_three a b d h in
    let first = same.0 in
    let second = same.1 in
    λ i. a ∷ pointer_to (first i) (extent_of b) ∷ pointer_to (second i) (extent_of d) ∷ []

made_two : (a b : Pointer) (s : Slice) (c : (is_slice (a ∷ b ∷ []) ≡ true) ⊎ (is_slice (a ∷ b ∷ []) ≡ false)) → slice_two a b c ≡ Some s → pointers_of s ≡ a ∷ b ∷ []
made_two a b s (inl h) e = sym (ap pointers_of (some_same _ s e)) ∙ two_own a b h
made_two a b s (inr h) e = absurd (cc)

made_three : (a b d : Pointer) (s : Slice) (c : (is_slice (a ∷ b ∷ d ∷ []) ≡ true) ⊎ (is_slice (a ∷ b ∷ d ∷ []) ≡ false)) → slice_three a b d c ≡ Some s → pointers_of s ≡ a ∷ b ∷ d ∷ []
made_three a b d s (inl h) e = sym (ap pointers_of (some_same _ s e)) ∙ three_own a b d h
made_three a b d s (inr h) e = absurd (cc)

slice_made : (ps : List Pointer) (s : Slice) → slice_by ps ≡ Some s → pointers_of s ≡ ps
slice_made [] s e = absurd (cc)
slice_made (a ∷ []) s e = made_one a s (cases_Bool (is_slice (a ∷ []))) e
slice_made (a ∷ b ∷ []) s e = made_two a b s (cases_Bool (is_slice (a ∷ b ∷ []))) e
slice_made (a ∷ b ∷ c ∷ []) s e = made_three a b c s (cases_Bool (is_slice (a ∷ b ∷ c ∷ []))) e
slice_made (a ∷ b ∷ c ∷ d ∷ ps) s e = absurd (cc)

part_own : (row : Option (List Pointer)) (p : Part) → part_made row ≡ Some p → part_row p ≡ row
part_own None p e = sym (ap part_row (some_same Zero p e))
part_own (Some ps) p e =
    let b = bound (slice_by ps) (λ s. Some (Held s)) p e in
    sym (ap part_row (some_same (Held b.0) p b.2)) ∙ ap Some (slice_made ps b.0 b.1)

case_own : (off len : ℕ) (p : Part) (a : (0 < len) ⊎ (len ≤ 0)) (b : (off + len < 2 ^ 32) ⊎ (2 ^ 32 ≤ off + len)) (c : HasLength len p ⊎ (HasLength len p → ⊥)) (e : Entry)
    → entry_case off len p a b c ≡ Some e → (e.off ≡ off) × (e.len ≡ len) × (e.part ≡ p)
case_own off len p (inl some) (inl fits) (inl held) e h =
    let is = some_same _ e h in
    (sym (ap (λ (e : Entry). e.off) is), sym (ap (λ (e : Entry). e.len) is), sym (ap (λ (e : Entry). e.part) is))
case_own off len p (inr none) b c e h = absurd (cc)
case_own off len p (inl some) (inr past) c e h = absurd (cc)
case_own off len p (inl some) (inl fits) (inr other) e h = absurd (cc)

pub entry_made : (row : EntryRow) (e : Entry) → entry_by row ≡ Some e → entry_row e ≡ row
entry_made row e h =
    let b = bound (part_made row.part) (λ p. entry_with row.off row.len p) e h in
    let own = case_own row.off row.len b.0 (cases_lt 0 row.len) (cases_lt (row.off + row.len) (2 ^ 32)) (fits_part row.len b.0) e b.2 in
    let part : part_row e.part ≡ row.part = ap part_row own.2 ∙ part_own row.part b.0 b.1 in
    λ i. record { off = own.0 i; len = own.1 i; part = part i }

-- entries that were made of rows have them for their own
pub entries_made : (rows : List EntryRow) (es : List Entry) → entries_by rows ≡ Some es → entry_rows es ≡ rows
entries_made [] es h = sym (ap entry_rows (some_same [] es h))
entries_made (row ∷ rows) es h =
    let a = bound (entry_by row) (λ e. entries_by rows >>= λ es. Some (e ∷ es)) es h in
    let b = bound (entries_by rows) (λ es. Some (a.0 ∷ es)) es a.2 in
    let first = entry_made row a.0 a.1 in
    let others = entries_made rows b.0 b.1 in
    sym (ap entry_rows (some_same (a.0 ∷ b.0) es b.2)) ∙ (λ i. first i ∷ others i)
