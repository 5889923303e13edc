-- What is left of lists while servers are lost, and what their bytes mean by the copies that are left.
use Rattle.std.proofs.Common.{◌≡◌, ℕ, ◌+◌, ◌-◌, ◌<◌, ◌&&◌, ◌++◌, Bool, true, false, nat_le, nat_lt, cond, List, [], ◌∷◌, length, map, Option, Some, None}
use Rattle.std.proofs.Common.{is_some, refl, sym, ap, ◌∙◌, subst, arith, inl, inr}
use Rattle.std.specs.Prelude.{not}
use Rattle.std.specs.List.{All, filter}
use Rattle.std.proofs.lemmas.Bool.{cases_lt, and_parts, leb-true, ltb-true}
use Rattle.std.proofs.lemmas.List.{length-map}
use Rattle.std.proofs.lemmas.List.Elements.{All-nil, All-cons, All-head, All-tail}
use Rattle.wtf_base.specs.declared.pointer.Pointer.{Pointer}
use Rattle.wtf_base.specs.declared.slice.Slice.{Slice}
use Rattle.wtf_base.specs.Slices.{pointers_of}
use Rattle.wtf_base.specs.Places.{Place, place_in, places_of}
use Rattle.wtf_overlay.specs.declared.part.Part.{Part}
use Rattle.wtf_overlay.specs.declared.part.Part.TheVariants.{Zero, Held}
use Rattle.wtf_overlay.specs.declared.part.Entry.{Entry}
use Rattle.wtf_overlay.specs.Clips.{clip_list}
use Rattle.wtf_overlay.specs.Meaning.{meaning}
use Rattle.wtf_overlay.specs.Origin.{part_origin, covers, over, origin, origin_from}
use Rattle.wtf_overlay.proofs.Clipping.{clip_below, clip_past}
use Rattle.wtf_overlay.proofs.Origins.{origin_from-append}
use Rattle.wtf_meta.specs.Bytes.{EntryBytes}
use Rattle.wtf_meta.specs.Contents.{Told, is_told}
use Rattle.wtf_meta.proofs.Telling.{told_byte, told_from}
use Rattle.wtf_region.specs.Showing.{meaning_up, told_by_some}
use Rattle.wtf_healer.specs.Live.{is_left, HasCopiesLeft, IsLeftPart, IsLeftEntry, AreLeft}
use Rattle.wtf_healer.specs.Restored.{KeepsToldBytes, AreKept}
use Rattle.wtf_healer.proofs.Restoring.{copies_of}

-- ---- places

module _ (lost : ℕ → Bool) where
  abbrev pub is_up : Place → Bool
  is_up q = not (lost q.server)

  abbrev pub left : List Place → List Place
  left qs = filter is_up qs

  -- where there are places some of them are left
  abbrev pub Lasts : List Place → Type 0
  Lasts qs = left qs ≡ [] → qs ≡ []

  filter_places : (i : ℕ) (ps : List Pointer) → map (place_in i) (filter (is_left lost) ps) ≡ left (map (place_in i) ps)
  filter_places i [] = refl
  filter_places i (p ∷ ps) =
      elim (not (lost p.server.0)) as (λ b. map (place_in i) (cond b (p ∷ filter (is_left lost) ps) (filter (is_left lost) ps))
      ≡ cond b (place_in i p ∷ left (map (place_in i) ps)) (left (map (place_in i) ps)))
      [ true ↦ ap (λ (qs : List Place). place_in i p ∷ qs) (filter_places i ps) | false ↦ filter_places i ps ]

  pub left_slice : (s u : Slice) → HasCopiesLeft lost s u → (i : ℕ) → places_of u i ≡ left (places_of s i)
  left_slice s u h i = ap (map (place_in i)) h.copies ∙ filter_places i (pointers_of s)

  some_places : (u : Slice) (i : ℕ) → places_of u i ≡ [] → ⊥
  some_places u i e = let n = copies_of u.len u.extents in absurd (omega (arith, n, sym (length-map (pointers_of u) (place_in i)) ∙ ap length e))

  pub left_part : (p q : Part) → IsLeftPart lost p q → (i : ℕ) → part_origin q i ≡ left (part_origin p i)
  left_part Zero Zero h i = refl
  left_part (Held s) (Held u) h i = left_slice s u h i
  left_part Zero (Held u) h i = absurd h
  left_part (Held s) Zero h i = absurd h

  part_lasts : (p q : Part) → IsLeftPart lost p q → (i : ℕ) → Lasts (part_origin p i)
  part_lasts Zero Zero h i e = refl
  part_lasts (Held s) (Held u) h i e = absurd (some_places u i (left_slice s u h i ∙ e))
  part_lasts Zero (Held u) h i e = absurd h
  part_lasts (Held s) Zero h i e = absurd h

  pub covers_same : (e f : Entry) → IsLeftEntry lost e f → (x : ℕ) → covers f x ≡ covers e x
  covers_same e f h x = ap (λ n. nat_le n x && nat_lt x (n + f.len)) h.off ∙ ap (λ n. nat_le e.off x && nat_lt x (e.off + n)) h.len

  over_left : (e f : Entry) → IsLeftEntry lost e f → (below below' : List Place) → below' ≡ left below → (x : ℕ) → over f x below' ≡ left (over e x below)
  over_left e f h below below' is x =
      ap (λ b. cond b (part_origin f.part (x - f.off)) below') (covers_same e f h x)
      ∙ elim (covers e x) as (λ b. cond b (part_origin f.part (x - f.off)) below' ≡ left (cond b (part_origin e.part (x - e.off)) below))
      [ true ↦ ap (λ n. part_origin f.part (x - n)) h.off ∙ left_part e.part f.part h.part (x - e.off) | false ↦ is ]

  over_lasts : (e f : Entry) → IsLeftEntry lost e f → (below : List Place) → Lasts below → (x : ℕ) → Lasts (over e x below)
  over_lasts e f h below lasts x =
      elim (covers e x) as (λ b. Lasts (cond b (part_origin e.part (x - e.off)) below)) [ true ↦ part_lasts e.part f.part h.part (x - e.off) | false ↦ lasts ]

  -- the places of a byte of a list of which some copies are left
  origin_left : (es fs : List Entry) → AreLeft lost es fs → (below below' : List Place) → below' ≡ left below → (x : ℕ)
      → origin_from below' fs x ≡ left (origin_from below es x)
  origin_left [] [] h below below' is x = is
  origin_left (e ∷ es) (f ∷ fs) h below below' is x = origin_left es fs h.1 (over e x below) (over f x below') (over_left e f h.0 below below' is x) x
  origin_left [] (f ∷ fs) h below below' is x = absurd h
  origin_left (e ∷ es) [] h below below' is x = absurd h

  origin_lasts : (es fs : List Entry) → AreLeft lost es fs → (below : List Place) → Lasts below → (x : ℕ) → Lasts (origin_from below es x)
  origin_lasts [] [] h below lasts x = lasts
  origin_lasts (e ∷ es) (f ∷ fs) h below lasts x = origin_lasts es fs h.1 (over e x below) (over_lasts e f h.0 below lasts x) x
  origin_lasts [] (f ∷ fs) h below lasts x = absurd h
  origin_lasts (e ∷ es) [] h below lasts x = absurd h

  nothing_left : left [] ≡ []
  nothing_left = refl

  -- the same of what is seen of a list, under another
  pub seen_left : (n : ℕ) (us ws es fs : List Entry) → AreLeft lost us ws → AreLeft lost es fs → (x : ℕ)
      → (origin (clip_list n ws ++ fs) x ≡ left (origin (clip_list n us ++ es) x)) × Lasts (origin (clip_list n us ++ es) x)
  seen_left n us ws es fs under top x =
      let one = origin_from-append [] (clip_list n ws) fs x in
      let two = origin_from-append [] (clip_list n us) es x in
      elim (cases_lt x n) [
        | inl below ↦
            let a = ap (λ (q : List Place). origin_from q fs x) (clip_below [] n ws x below) in
            let b = ap (λ (q : List Place). origin_from q es x) (clip_below [] n us x below) in
            let q : List Place = origin_from [] us x in
            let here = origin_left us ws under [] [] nothing_left x in
            let lasts = origin_lasts us ws under [] (λ e. refl) x in (
              one ∙ a ∙ origin_left es fs top q (origin_from [] ws x) here x ∙ sym (ap left (two ∙ b)),
              subst Lasts (sym (two ∙ b)) (origin_lasts es fs top q lasts x),
            )
        | inr past ↦
            let a = ap (λ (q : List Place). origin_from q fs x) (clip_past [] n ws x past) in
            let b = ap (λ (q : List Place). origin_from q es x) (clip_past [] n us x past) in (
              one ∙ a ∙ origin_left es fs top [] [] nothing_left x ∙ sym (ap left (two ∙ b)),
              subst Lasts (sym (two ∙ b)) (origin_lasts es fs top [] (λ e. refl) x),
            )
      ]

  pub list_left : (es fs : List Entry) → AreLeft lost es fs → (x : ℕ) → (origin fs x ≡ left (origin es x)) × Lasts (origin es x)
  list_left es fs h x = (origin_left es fs h [] [] nothing_left x, origin_lasts es fs h [] (λ e. refl) x)

  -- ---- bytes

  up_some : (told : Told) (q : Place) (qs ws : List Place) (byte : ℕ) → left (q ∷ qs) ≡ ws → (ws ≡ [] → ⊥) → meaning told ws ≡ Some byte
      → told_by_some told (left (q ∷ qs)) ≡ Some byte
  up_some told q qs [] byte is some h = absurd (some refl)
  up_some told q qs (w ∷ ws) byte is some h = ap (told_by_some told) is ∙ h

  nonempty : (q : Place) (qs : List Place) → q ∷ qs ≡ [] → ⊥
  nonempty q qs e = absurd (cc)

  -- what the places that are left tell is what a read of the copies that are left gives
  pub means_up : (told : Told) (qs : List Place) (byte : ℕ) → Lasts qs → meaning told (left qs) ≡ Some byte → meaning_up lost told qs ≡ Some byte
  means_up told [] byte lasts h = h
  means_up told (q ∷ qs) byte lasts h = up_some told q qs (left (q ∷ qs)) byte refl (λ none. nonempty q qs (lasts none)) h

  -- so each byte of what is left that is told is one that a read of the whole gives
  abbrev pub is_up_told : Told → List Place → Bool
  is_up_told told qs = is_some (meaning_up lost told qs)

  entry_up : (told : Told) (e f : Entry) → IsLeftEntry lost e f → EntryBytes (is_told told) f → EntryBytes (is_up_told told) e
  entry_up told e f h bytes i below =
      let tells = told_byte told (part_origin f.part i) (bytes i (omega (arith, below, h.len))) in
      ap is_some (means_up told (part_origin e.part i) tells.0 (part_lasts e.part f.part h.part i)
      (ap (meaning told) (sym (left_part e.part f.part h.part i)) ∙ tells.1))

  pub entries_up : (told : Told) (es fs : List Entry) → AreLeft lost es fs → All (EntryBytes (is_told told)) fs → All (EntryBytes (is_up_told told)) es
  entries_up told [] [] h bytes = All-nil (EntryBytes (is_up_told told))
  entries_up told (e ∷ es) (f ∷ fs) h bytes =
      All-cons (EntryBytes (is_up_told told)) e es (entry_up told e f h.0 (All-head (EntryBytes (is_told told)) f fs bytes))
      (entries_up told es fs h.1 (All-tail (EntryBytes (is_told told)) f fs bytes))
  entries_up told [] (f ∷ fs) h bytes = absurd h
  entries_up told (e ∷ es) [] h bytes = absurd h

  -- ---- lists that were restored

  kept_covers : (told now : Told) (e f : Entry) → KeepsToldBytes lost told now e f → (x : ℕ) → covers f x ≡ covers e x
  kept_covers told now e f h x =
      ap (λ n. nat_le n x && nat_lt x (n + f.len)) h.placed.off ∙ ap (λ n. nat_le e.off x && nat_lt x (e.off + n)) h.placed.len

  abbrev Tells : Told → Told → List Place → List Place → Type 0
  Tells told now qs ws = (byte : ℕ) → meaning_up lost told qs ≡ Some byte → meaning now ws ≡ Some byte

  kept_over : (told now : Told) (e f : Entry) → KeepsToldBytes lost told now e f → (below below' : List Place) → Tells told now below below' → (x : ℕ)
      → Tells told now (over e x below) (over f x below')
  kept_over told now e f h below below' tells x byte up =
      let same : over f x below' ≡ cond (covers e x) (part_origin f.part (x - e.off)) below' =
      ap (λ b. cond b (part_origin f.part (x - f.off)) below') (kept_covers told now e f h x)
      ∙ ap (λ n. cond (covers e x) (part_origin f.part (x - n)) below') h.placed.off in
      ap (meaning now) same ∙ inner (covers e x) refl up
    where
      covered : (d : Entry) (y : ℕ) → covers d y ≡ true → y - d.off < d.len
      covered d y is = let both = and_parts (nat_le d.off y) (nat_lt y (d.off + d.len)) is in
          let a = leb-true d.off y both.0 in let b = ltb-true y (d.off + d.len) both.1 in omega (arith, a, b)

      inner : (b : Bool) → covers e x ≡ b → meaning_up lost told (cond b (part_origin e.part (x - e.off)) below) ≡ Some byte
          → meaning now (cond b (part_origin f.part (x - e.off)) below') ≡ Some byte
      inner true is up = h.bytes (x - e.off) byte (covered e x is) up
      inner false is up = tells byte up

  kept_from : (told now : Told) (es fs : List Entry) → AreKept lost told now es fs → (below below' : List Place) → Tells told now below below' → (x : ℕ)
      → Tells told now (origin_from below es x) (origin_from below' fs x)
  kept_from told now [] [] h below below' tells x = tells
  kept_from told now (e ∷ es) (f ∷ fs) h below below' tells x =
      kept_from told now es fs h.1 (over e x below) (over f x below') (kept_over told now e f h.0 below below' tells x) x
  kept_from told now [] (f ∷ fs) h below below' tells x = absurd h
  kept_from told now (e ∷ es) [] h below below' tells x = absurd h

  -- a byte that a read of the copies that are left gives is told by the list that was restored
  pub kept_origin : (told now : Told) (es fs : List Entry) → AreKept lost told now es fs → (x byte : ℕ) → meaning_up lost told (origin es x) ≡ Some byte
      → meaning now (origin fs x) ≡ Some byte
  kept_origin told now es fs h x byte up = kept_from told now es fs h [] [] (λ n is. is) x byte up

  kept_entry : (told now : Told) (e f : Entry) → KeepsToldBytes lost told now e f → EntryBytes (is_up_told told) e → EntryBytes (is_told now) f
  kept_entry told now e f h bytes i below =
      let within : i < e.len = omega (arith, below, h.placed.len) in
      some_of (meaning_up lost told (part_origin e.part i)) refl (bytes i within)
    where
      some_of : (o : Option ℕ) → meaning_up lost told (part_origin e.part i) ≡ o → is_some o ≡ true → is_told now (part_origin f.part i) ≡ true
      some_of None is some = absurd (cc)
      some_of (Some byte) is some = told_from now (part_origin f.part i) byte (h.bytes i byte (omega (arith, below, h.placed.len)) is)

  pub kept_entries : (told now : Told) (es fs : List Entry) → AreKept lost told now es fs → All (EntryBytes (is_up_told told)) es
      → All (EntryBytes (is_told now)) fs
  kept_entries told now [] [] h bytes = All-nil (EntryBytes (is_told now))
  kept_entries told now (e ∷ es) (f ∷ fs) h bytes =
      All-cons (EntryBytes (is_told now)) f fs (kept_entry told now e f h.0 (All-head (EntryBytes (is_up_told told)) e es bytes))
      (kept_entries told now es fs h.1 (All-tail (EntryBytes (is_up_told told)) e es bytes))
  kept_entries told now [] (f ∷ fs) h bytes = absurd h
  kept_entries told now (e ∷ es) [] h bytes = absurd h
