-- What is left of slices and lists of which no copy is lost: all of them.
use Rattle.std.proofs.Common.{◌≡◌, ℕ, ◌-◌, ◌<◌, ◌++◌, Bool, true, false, nat_lt, cond, List, [], ◌∷◌, length, map, Some, refl, sym, ap, ◌∙◌, subst, arith, inl}
use Rattle.std.proofs.Common.{inr}
use Rattle.std.specs.Prelude.{not}
use Rattle.std.specs.List.{All, filter, list_all}
use Rattle.std.proofs.lemmas.Bool.{and_parts, or_parts, cases_lt, cond-true, ltb-true, not_from_false}
use Rattle.std.proofs.lemmas.List.Elements.{All-nil, All-cons, All-head, All-tail, All-filter}
use Rattle.wtf_base.specs.declared.pointer.Pointer.{Pointer}
use Rattle.wtf_base.specs.declared.slice.Slice.{Slice}
use Rattle.wtf_base.specs.Slices.{pointers_of, len_of}
use Rattle.wtf_base.specs.Places.{Place, place_in, places_of}
use Rattle.wtf_base.proofs.Elements.{element}
use Rattle.wtf_base.proofs.Pointers.{pointers-len}
use Rattle.wtf_overlay.specs.declared.part.Part.{Part}
use Rattle.wtf_overlay.specs.declared.part.Part.TheVariants.{Zero, Held}
use Rattle.wtf_overlay.specs.declared.part.Entry.{Entry}
use Rattle.wtf_overlay.specs.Clips.{clip_list}
use Rattle.wtf_overlay.specs.Meaning.{meaning}
use Rattle.wtf_overlay.specs.Origin.{part_origin, covers, over, origin, origin_from}
use Rattle.wtf_overlay.proofs.Clipping.{clip_below, clip_past}
use Rattle.wtf_overlay.proofs.Origins.{origin_from-append}
use Rattle.wtf_meta.specs.Bytes.{EntryBytes}
use Rattle.wtf_meta.specs.Contents.{Told, SliceTells, lists_in}
use Rattle.wtf_meta.proofs.Telling.{lists_in-from, lists_in-is}
use Rattle.wtf_healer.specs.Live.{is_left, HasCopiesLeft, IsLeftPart, IsLeftEntry, AreLeft}
use Rattle.wtf_healer.specs.Sparse.{has_lost, is_sparse, is_sparse_part, has_sparse}
use Rattle.wtf_healer.proofs.Leaving.{covers_same}
use Rattle.wtf_healer.proofs.Restoring.{copies_of}

-- each of these places lies in one of the eight files
abbrev pub are_filed : List Place → Bool
are_filed qs = list_all (λ (q : Place). nat_lt q.file 8) qs

module _ (lost : ℕ → Bool) where
  -- what is left of a slice is as long as it
  pub len_left : (s u : Slice) → HasCopiesLeft lost s u → len_of u ≡ len_of s
  len_left s u h =
      let some = copies_of u.len u.extents in
      let d = element (pointers_of u) 0 some in
      let all : All (λ (p : Pointer). p.len ≡ len_of s) (pointers_of u) =
      subst (All (λ (p : Pointer). p.len ≡ len_of s)) (sym h.copies)
      (All-filter (is_left lost) (λ (p : Pointer). p.len ≡ len_of s) (pointers_of s) (pointers-len s)) in
      sym (pointers-len u 0 d some) ∙ all 0 d some

  copies_all : (ps : List Pointer) → has_lost lost ps ≡ false → filter (is_left lost) ps ≡ ps
  copies_all [] h = refl
  copies_all (p ∷ ps) h =
      let both = or_parts (lost p.server.0) (has_lost lost ps) h in
      cond-true (not (lost p.server.0)) (p ∷ filter (is_left lost) ps) (filter (is_left lost) ps) (not_from_false (lost p.server.0) both.0)
      ∙ ap (λ (qs : List Pointer). p ∷ qs) (copies_all ps both.1)

module _ (lost : ℕ → Bool) (n : ℕ) where
  none_of : (s : Slice) → is_sparse lost n s ≡ false → has_lost lost (pointers_of s) ≡ false
  none_of s h = (or_parts (nat_lt (length (pointers_of s)) n) (has_lost lost (pointers_of s)) h).1

  -- ---- slices

  all_left : (s u : Slice) → is_sparse lost n s ≡ false → HasCopiesLeft lost s u → pointers_of u ≡ pointers_of s
  all_left s u h l = l.copies ∙ copies_all lost (pointers_of s) (none_of s h)

  places_same : (s u : Slice) → is_sparse lost n s ≡ false → HasCopiesLeft lost s u → (i : ℕ) → places_of u i ≡ places_of s i
  places_same s u h l i = ap (map (place_in i)) (all_left s u h l)

  -- the bytes that are told of what is left are told of the slice
  pub tells_same : (told : Told) (s u : Slice) → is_sparse lost n s ≡ false → HasCopiesLeft lost s u → (bytes : List ℕ) → SliceTells told u bytes
      → SliceTells told s bytes
  tells_same told s u h l bytes t = record {
    len = sym (len_left lost s u l) ∙ t.len;
    tells = λ i below. ap (meaning told) (sym (places_same s u h l i)) ∙ t.tells i (subst (λ m. i < m) (sym (len_left lost s u l)) below);
  }

  -- so is the list
  pub lists_same : (b : ℕ) (told : Told) (s u : Slice) (es : List Entry) → is_sparse lost n s ≡ false → HasCopiesLeft lost s u → lists_in b told u ≡ Some es
      → lists_in b told s ≡ Some es
  lists_same b told s u es h l is =
      let was = lists_in-from b told u es is in lists_in-is b told s was.0 (tells_same told s u h l was.0 was.1) ∙ was.2

  -- ---- lists

  part_same : (p q : Part) → is_sparse_part lost n p ≡ false → IsLeftPart lost p q → (i : ℕ) → part_origin q i ≡ part_origin p i
  part_same Zero Zero h l i = refl
  part_same (Held s) (Held u) h l i = ap (map (place_in i)) (all_left s u h l)
  part_same Zero (Held u) h l i = absurd l
  part_same (Held s) Zero h l i = absurd l

  entry_same : (P : List Place → Bool) (e f : Entry) → is_sparse_part lost n e.part ≡ false → IsLeftEntry lost e f → EntryBytes P f → EntryBytes P e
  entry_same P e f h l bytes i below = ap P (sym (part_same e.part f.part h l.part i)) ∙ bytes i (omega (arith, below, l.len))

  sparse_parts : (e : Entry) (es : List Entry) → has_sparse lost n (e ∷ es) ≡ false → (is_sparse_part lost n e.part ≡ false) × (has_sparse lost n es ≡ false)
  sparse_parts e es h = let both = or_parts (is_sparse_part lost n e.part) (has_sparse lost n es) h in (both.0, both.1)

  -- what holds of each byte of what is left of a list holds of each byte of the list
  pub entries_same : (P : List Place → Bool) (es fs : List Entry) → has_sparse lost n es ≡ false → AreLeft lost es fs → All (EntryBytes P) fs
      → All (EntryBytes P) es
  entries_same P [] [] h l bytes = All-nil (EntryBytes P)
  entries_same P (e ∷ es) (f ∷ fs) h l bytes =
      let both = sparse_parts e es h in
      All-cons (EntryBytes P) e es (entry_same P e f both.0 l.0 (All-head (EntryBytes P) f fs bytes))
      (entries_same P es fs both.1 l.1 (All-tail (EntryBytes P) f fs bytes))
  entries_same P [] (f ∷ fs) h l bytes = absurd l
  entries_same P (e ∷ es) [] h l bytes = absurd l

  over_same : (e f : Entry) → is_sparse_part lost n e.part ≡ false → IsLeftEntry lost e f → (below : List Place) (x : ℕ) → over f x below ≡ over e x below
  over_same e f h l below x =
      ap (λ c. cond c (part_origin f.part (x - f.off)) below) (covers_same lost e f l x)
      ∙ ap (λ m. cond (covers e x) (part_origin f.part (x - m)) below) l.off
      ∙ ap (λ (qs : List Place). cond (covers e x) qs below) (part_same e.part f.part h l.part (x - e.off))

  from_same : (es fs : List Entry) → has_sparse lost n es ≡ false → AreLeft lost es fs → (below : List Place) (x : ℕ)
      → origin_from below fs x ≡ origin_from below es x
  from_same [] [] h l below x = refl
  from_same (e ∷ es) (f ∷ fs) h l below x =
      let both = sparse_parts e es h in
      ap (λ (q : List Place). origin_from q fs x) (over_same e f both.0 l.0 below x) ∙ from_same es fs both.1 l.1 (over e x below) x
  from_same [] (f ∷ fs) h l below x = absurd l
  from_same (e ∷ es) [] h l below x = absurd l

  -- and each byte lies where it lay
  pub list_same : (es fs : List Entry) → has_sparse lost n es ≡ false → AreLeft lost es fs → (x : ℕ) → origin fs x ≡ origin es x
  list_same es fs h l x = from_same es fs h l [] x

  pub seen_same : (m : ℕ) (us ws es fs : List Entry) → has_sparse lost n us ≡ false → AreLeft lost us ws → has_sparse lost n es ≡ false → AreLeft lost es fs
      → (x : ℕ) → origin (clip_list m ws ++ fs) x ≡ origin (clip_list m us ++ es) x
  seen_same m us ws es fs u under h top x =
      let one = origin_from-append [] (clip_list m ws) fs x in
      let two = origin_from-append [] (clip_list m us) es x in
      elim (cases_lt x m) [
        | inl below ↦
            let a = ap (λ (q : List Place). origin_from q fs x) (clip_below [] m ws x below) in
            let b = ap (λ (q : List Place). origin_from q es x) (clip_below [] m us x below) in
            let here = ap (λ (q : List Place). origin_from q fs x) (list_same us ws u under x) in
            one ∙ a ∙ here ∙ from_same es fs h top (origin us x) x ∙ sym (two ∙ b)
        | inr past ↦
            let a = ap (λ (q : List Place). origin_from q fs x) (clip_past [] m ws x past) in
            let b = ap (λ (q : List Place). origin_from q es x) (clip_past [] m us x past) in
            one ∙ a ∙ from_same es fs h top [] x ∙ sym (two ∙ b)
      ]

  -- ---- a list of which no copy is lost is what is left of it

  files_of : (ps : List Pointer) → are_filed (map (place_in 0) ps) ≡ true → All (λ (p : Pointer). p.file < 8) ps
  files_of [] h = All-nil (λ (p : Pointer). p.file < 8)
  files_of (p ∷ ps) h =
      let both = and_parts (nat_lt p.file 8) (are_filed (map (place_in 0) ps)) h in
      All-cons (λ (p : Pointer). p.file < 8) p ps (ltb-true p.file 8 both.0) (files_of ps both.1)

  pub slice_itself : (s : Slice) → is_sparse lost n s ≡ false → are_filed (places_of s 0) ≡ true → HasCopiesLeft lost s s
  slice_itself s h filed = record { copies = sym (copies_all lost (pointers_of s) (none_of s h)); files = files_of (pointers_of s) filed }

  part_itself : (p : Part) → is_sparse_part lost n p ≡ false → are_filed (part_origin p 0) ≡ true → IsLeftPart lost p p
  part_itself Zero h filed = tt
  part_itself (Held s) h filed = slice_itself s h filed

  pub left_itself : (es : List Entry) → has_sparse lost n es ≡ false → All (EntryBytes are_filed) es → AreLeft lost es es
  left_itself [] h filed = tt
  left_itself (e ∷ es) h filed =
      let both = sparse_parts e es h in (
        record { off = refl; len = refl; part = part_itself e.part both.0 (All-head (EntryBytes are_filed) e es filed 0 e.positive) },
        left_itself es both.1 (All-tail (EntryBytes are_filed) e es filed),
      )
