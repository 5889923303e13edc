-- The bytes of a list: how many there are, and the list that a slice of them decodes to.
use Rattle.std.proofs.Common.{◌≡◌, ℕ, ◌+◌, ◌*◌, ◌<◌, ◌≤◌, ◌^◌, List, [], ◌∷◌, ◌++◌, length, flat_map, get_or, map, Some, refl, sym, ◌∙◌, subst, arith}
use Rattle.std.proofs.Common.{length-append}
use Rattle.std.specs.Int.{w32, to_be_bytes}
use Rattle.std.specs.List.{All}
use Rattle.wtf_base.specs.declared.pointer.Pointer.{Pointer}
use Rattle.wtf_base.specs.declared.slice.Slice.{Slice}
use Rattle.wtf_base.specs.declared.slice.Extents.{Extents}
use Rattle.wtf_base.specs.declared.slice.Extents.TheVariants.{One, Two, Three}
use Rattle.wtf_base.specs.Extents.{pointer_to, pointers_to}
use Rattle.wtf_base.specs.Places.{HasByte, places_of, place_in}
use Rattle.wtf_base.specs.Slices.{len_of}
use Rattle.wtf_overlay.specs.declared.part.Entry.{Entry}
use Rattle.wtf_overlay.specs.declared.part.Part.{Part}
use Rattle.wtf_overlay.specs.declared.part.Part.TheVariants.{Zero, Held}
use Rattle.wtf_overlay.specs.Clips.{Within}
use Rattle.wtf_overlay.specs.Compact.{IsCompact}
use Rattle.wtf_overlay.specs.Meaning.{meaning}
use Rattle.wtf_overlay.specs.Rows.{part_row, entry_row, entry_rows}
use Rattle.wtf_overlay.specs.Spilled.{list_magic, encoded, decoded}
use Rattle.wtf_overlay.specs.Texts.{pointer_text, slice_text, part_text, entry_text, entries_text}
use Rattle.wtf_overlay.proofs.Meanings.{meaning-All}
use Rattle.wtf_overlay.proofs.Shown.{compact_count}
use Rattle.wtf_replica.specs.Bytes.{HoldsSlice}
use Rattle.wtf_meta.specs.Contents.{Told, lists_in}
use Rattle.wtf_meta.proofs.Telling.{lists_in-is}

slice_len : (n : ℕ) (e : Extents) → length (slice_text (pointers_to n e)) ≤ 31
unfolding slice_text pointer_text
slice_len n (One a) = omega arith
slice_len n (Two a b) = omega arith
slice_len n (Three a b c) = omega arith

part_len : (p : Part) → length (part_text (part_row p)) ≤ 32
unfolding part_text
part_len Zero = omega arith
part_len (Held s) = omega (arith, slice_len s.len s.extents)

entry_len : (e : Entry) → length (entry_text (entry_row e)) ≤ 40
unfolding entry_text
entry_len e =
    let off : length (to_be_bytes w32 e.off) ≡ 4 = refl in
    let len : length (to_be_bytes w32 e.len) ≡ 4 = refl in
    omega (
      arith,
      off,
      len,
      part_len e.part,
      length-append (to_be_bytes w32 e.off) (to_be_bytes w32 e.len ++ part_text (part_row e.part)),
      length-append (to_be_bytes w32 e.len) (part_text (part_row e.part)),
    )

entries_len : (es : List Entry) → length (flat_map entry_text (entry_rows es)) ≤ 40 * length es
entries_len [] = omega arith
entries_len (e ∷ es) = omega (arith, entry_len e, entries_len es, length-append (entry_text (entry_row e)) (flat_map entry_text (entry_rows es)))

encoded_len : (es : List Entry) → length (encoded es) ≤ 8 + 40 * length es
unfolding encoded entries_text
encoded_len es =
    let magic : length list_magic ≡ 4 = refl in
    let count : length (to_be_bytes w32 (length (entry_rows es))) ≡ 4 = refl in
    omega (
      arith,
      magic,
      count,
      entries_len es,
      length-append list_magic (to_be_bytes w32 (length (entry_rows es)) ++ flat_map entry_text (entry_rows es)),
      length-append (to_be_bytes w32 (length (entry_rows es))) (flat_map entry_text (entry_rows es)),
    )

-- the bytes of the compact list of a region are those of a slice
pub few_bytes : (b : ℕ) (es : List Entry) → b ≤ 1048576 → IsCompact es → Within b es → length (encoded es) < 2 ^ 32
few_bytes b es small compact within = omega (arith, small, compact_count b es compact within, encoded_len es)

some_pointer : (n : ℕ) (e : Extents) → (p : Pointer) × (ps : List Pointer) × (pointers_to n e ≡ p ∷ ps)
some_pointer n (One a) = (pointer_to n a, [], refl)
some_pointer n (Two a b) = (pointer_to n a, pointer_to n b ∷ [], refl)
some_pointer n (Three a b c) = (pointer_to n a, pointer_to n b ∷ pointer_to n c ∷ [], refl)

-- a byte that every copy of a slice holds
held_meaning : (told : Told) (s : Slice) (i b : ℕ) → HasByte told s i b → meaning told (places_of s i) ≡ Some b
held_meaning told s i b all =
    let (p, ps, is) = some_pointer s.len s.extents in
    subst (λ (l : List Pointer). meaning told (map (place_in i) l) ≡ Some b) (sym is)
    (meaning-All told (place_in i p) (map (place_in i) ps) b (subst (λ (l : List Pointer). All (λ q. told q ≡ Some b) (map (place_in i) l)) is all))

-- a slice each copy of which holds the bytes of a list decodes to it
pub told_list : (told : Told) (b : ℕ) (s : Slice) (bytes : List ℕ) (es : List Entry) → len_of s ≡ length bytes → HoldsSlice told s bytes
    → decoded b bytes ≡ Some es → lists_in b told s ≡ Some es
told_list told b s bytes es len holds is =
    lists_in-is b told s bytes (record { len = len; tells = λ i below. held_meaning told s i (get_or bytes i 0) (holds i (omega (arith, below, len))) }) ∙ is
