-- Bytes that the stores tell, and go on to tell when they tell more; so do the lists that slices decode to.
use Rattle.std.proofs.Common.{◌≡◌, ℕ, zero, suc, ◌+◌, ◌<◌, ◌/◌, ◌%◌, ◌++◌, true, List, [], ◌∷◌, length, get_or, Option, None, Some, is_some, refl, sym, ap, ◌∙◌}
use Rattle.std.proofs.Common.{subst, arith}
use Rattle.std.proofs.lemmas.List.Elements.{All-weaker}
use Rattle.wtf_base.specs.declared.slice.Slice.{Slice}
use Rattle.wtf_base.specs.Slices.{len_of}
use Rattle.wtf_base.specs.Places.{places_of}
use Rattle.wtf_overlay.specs.declared.part.Entry.{Entry}
use Rattle.wtf_overlay.specs.declared.part.Piece.{Piece}
use Rattle.wtf_overlay.specs.Origin.{Place, part_origin, pieces_origin, origin}
use Rattle.wtf_overlay.specs.Meaning.{meaning}
use Rattle.wtf_overlay.specs.Clips.{clip_list}
use Rattle.wtf_overlay.specs.Spilled.{decoded}
use Rattle.wtf_overlay.proofs.Meanings.{All-meaning, meaning-All}
use Rattle.wtf_values.specs.declared.region.RegionValue.{RegionValue}
use Rattle.wtf_values.specs.declared.region.Spill.{Spill}
use Rattle.wtf_meta.specs.Lists.{ListFact, TellLists, or_none, seen_list}
use Rattle.wtf_meta.specs.Bytes.{EntryBytes, PiecesBytes, BaseBytes, MaybeBytes, FileBytes, ListSlices, ListsBytes}
use Rattle.wtf_meta.specs.Contents.{Told, is_told, TellBytes, PiecesTell, SliceTells, HasBytes, cons_told, collect, slice_bytes, decode_told, lists_in}
use Rattle.wtf_meta.specs.Contents.{list_has, is_listed}
use Rattle.wtf_meta.specs.Files.{FileView, region_origin, file_origin}
use Rattle.wtf_meta.proofs.ListTests.{entries_from, has_list, list_has-true}
use Rattle.wtf_meta.proofs.Named.{pieces_bytes}

-- the later stores tell what the earlier ones told
abbrev pub TellsOn : Told → Told → Type 0
TellsOn told later = (p : Place) (byte : ℕ) → told p ≡ Some byte → later p ≡ Some byte

-- a byte that was told is told still
pub meaning_later : (told later : Told) (places : List Place) (byte : ℕ) → TellsOn told later → meaning told places ≡ Some byte
    → meaning later places ≡ Some byte
meaning_later told later [] byte on h = h
meaning_later told later (p ∷ ps) byte on h =
    meaning-All later p ps byte (All-weaker (λ q. told q ≡ Some byte) (λ q. later q ≡ Some byte) (λ q k. on q byte k) (p ∷ ps)
    (All-meaning told (p ∷ ps) byte h))

-- places tell later what they told
pub TellBytes-later : (told later : Told) (n : ℕ) (f : ℕ → List Place) (bytes : List ℕ) → TellsOn told later → TellBytes told n f bytes
    → TellBytes later n f bytes
TellBytes-later told later n f bytes on tell = record { len = tell.len; tells = λ i h. meaning_later told later (f i) (get_or bytes i 0) on (tell.tells i h) }

-- a byte is told where it means one
pub told_from : (told : Told) (places : List Place) (byte : ℕ) → meaning told places ≡ Some byte → is_told told places ≡ true
told_from told places byte h = ap is_some h

some_of : {A : Type 0} (o : Option A) → is_some o ≡ true → (a : A) × (o ≡ Some a)
some_of (Some a) h = (a, refl)
some_of None h = absurd (cc)

-- and means one where it is told
pub told_byte : (told : Told) (places : List Place) → is_told told places ≡ true → (byte : ℕ) × (meaning told places ≡ Some byte)
told_byte told places h = some_of (meaning told places) h

-- and stays told
pub is_told-later : (told later : Told) (places : List Place) → TellsOn told later → is_told told places ≡ true → is_told later places ≡ true
is_told-later told later places on h =
    let byte = told_byte told places h in
    told_from later places byte.0 (meaning_later told later places byte.0 on byte.1)

-- places that are all told have bytes
pub tell_all : (told : Told) (n : ℕ) (f : ℕ → List Place) → ((i : ℕ) → i < n → is_told told (f i) ≡ true) → (bytes : List ℕ) × TellBytes told n f bytes
tell_all told zero f h = ([], record { len = refl; tells = λ i below. absurd (omega arith) })
tell_all told (suc n) f h =
    let first = told_byte told (f 0) (h 0 (omega arith)) in
    let others = tell_all told n (λ i. f (i + 1)) (λ i below. h (i + 1) (omega arith)) in
    (first.0 ∷ others.0, record { len = ap suc others.1.len; tells = one_more told n f first.0 others.0 first.1 others.1 })
  where
    one_more : (told : Told) (n : ℕ) (f : ℕ → List Place) (byte : ℕ) (bytes : List ℕ) → meaning told (f 0) ≡ Some byte → TellBytes told n (λ i. f (i + 1)) bytes
        → (i : ℕ) → i < suc n → meaning told (f i) ≡ Some (get_or (byte ∷ bytes) i 0)
    one_more told n f byte bytes here tell zero below = here
    one_more told n f byte bytes here tell (suc i) below = ap (λ k. meaning told (f k)) (let e : suc i ≡ i + 1 = omega arith in e) ∙ tell.tells i (omega arith)

-- pieces that tell bytes have only bytes that are told
pub told_pieces : (told : Told) (ps : List Piece) (bytes : List ℕ) → PiecesTell told ps bytes → PiecesBytes (is_told told) ps
told_pieces told ps bytes tell = pieces_bytes (is_told told) ps (λ i h. told_from told (pieces_origin ps i) (get_or bytes i 0) (tell.tells i h))

collect_is : (f : ℕ → Option ℕ) (bytes : List ℕ) → ((i : ℕ) → i < length bytes → f i ≡ Some (get_or bytes i 0)) → collect f (length bytes) ≡ Some bytes
collect_is f [] h = refl
collect_is f (b ∷ bs) h = rw (h 0 (omega arith), collect_is (λ i. f (suc i)) bs (λ i below. h (suc i) (omega (arith, below)))) refl

-- what was collected, by its first byte and the others
cons_parts : (o : Option ℕ) (rest : Option (List ℕ)) (bytes : List ℕ) → cons_told o rest ≡ Some bytes
    → (b : ℕ) × (bs : List ℕ) × (o ≡ Some b) × (rest ≡ Some bs) × (b ∷ bs ≡ bytes)
cons_parts (Some b) (Some bs) bytes h = let is : b ∷ bs ≡ bytes = cc in (b, bs, refl, refl, is)
cons_parts (Some b) None bytes h = absurd (cc)
cons_parts None rest bytes h = absurd (cc)

one_first : (f : ℕ → Option ℕ) (n b : ℕ) (bs : List ℕ) → f 0 ≡ Some b → ((i : ℕ) → i < n → f (suc i) ≡ Some (get_or bs i 0)) → (i : ℕ) → i < suc n
    → f i ≡ Some (get_or (b ∷ bs) i 0)
one_first f n b bs first rest zero below = first
one_first f n b bs first rest (suc i) below = rest i (omega (arith, below))

collect_tells : (f : ℕ → Option ℕ) (n : ℕ) (bytes : List ℕ) → collect f n ≡ Some bytes → (n ≡ length bytes) × ((i : ℕ) → i < n → f i ≡ Some (get_or bytes i 0))
collect_tells f zero bytes h = let is : [] ≡ bytes = cc in (ap length is, λ i below. absurd (omega (arith, below)))
collect_tells f (suc n) bytes h =
    let parts = cons_parts (f 0) (collect (λ i. f (suc i)) n) bytes h in
    let rest = collect_tells (λ i. f (suc i)) n parts.1 parts.3 in (
      subst (λ (l : List ℕ). suc n ≡ length l) parts.4 (ap suc rest.0),
      subst (λ (l : List ℕ). (i : ℕ) → i < suc n → f i ≡ Some (get_or l i 0)) parts.4 (one_first f n parts.0 parts.1 parts.2 rest.1),
    )

-- a slice tells the bytes that were collected of it
pub SliceTells-from : (told : Told) (s : Slice) (bytes : List ℕ) → slice_bytes told s ≡ Some bytes → SliceTells told s bytes
SliceTells-from told s bytes h =
    let both = collect_tells (λ i. meaning told (places_of s i)) (len_of s) bytes h in
    record { len = both.0; tells = both.1 }

-- and those that it tells are collected of it
pub slice_bytes-is : (told : Told) (s : Slice) (bytes : List ℕ) → SliceTells told s bytes → slice_bytes told s ≡ Some bytes
slice_bytes-is told s bytes h =
    ap (collect (λ i. meaning told (places_of s i))) h.len
    ∙ collect_is (λ i. meaning told (places_of s i)) bytes (λ i below. h.tells i (omega (arith, below, h.len)))

-- a slice decodes to what the bytes decode to that it tells
pub lists_in-is : (b : ℕ) (told : Told) (s : Slice) (bytes : List ℕ) → SliceTells told s bytes → lists_in b told s ≡ decoded b bytes
lists_in-is b told s bytes h = ap (decode_told b) (slice_bytes-is told s bytes h)

decode_parts : (b : ℕ) (o : Option (List ℕ)) (es : List Entry) → decode_told b o ≡ Some es → (bytes : List ℕ) × (o ≡ Some bytes) × (decoded b bytes ≡ Some es)
decode_parts b None es h = absurd (cc)
decode_parts b (Some bytes) es h = (bytes, refl, h)

-- a slice that decodes to a list tells bytes which do
pub lists_in-from : (b : ℕ) (told : Told) (s : Slice) (es : List Entry) → lists_in b told s ≡ Some es
    → (bytes : List ℕ) × SliceTells told s bytes × (decoded b bytes ≡ Some es)
lists_in-from b told s es h =
    let was = decode_parts b (slice_bytes told s) es h in
    (was.0, SliceTells-from told s was.0 was.1, was.2)

-- the list that the stores told they tell still
pub lists_in-later : (told later : Told) (b : ℕ) (s : Slice) (es : List Entry) → TellsOn told later → lists_in b told s ≡ Some es → lists_in b later s ≡ Some es
lists_in-later told later b s es on h =
    let was = lists_in-from b told s es h in
    lists_in-is b later s was.0 (TellBytes-later told later (len_of s) (places_of s) was.0 on was.1) ∙ was.2

-- and so each fact on lists
pub TellLists-later : (told later : Told) (b : ℕ) (fs : List ListFact) → TellsOn told later → TellLists (lists_in b told) fs → TellLists (lists_in b later) fs
TellLists-later told later b [] on tell = tt
TellLists-later told later b (f ∷ fs) on tell = (lists_in-later told later b f.slice f.list on tell.0, TellLists-later told later b fs on tell.1)

-- a list each byte of which was told is told still
pub is_listed-later : (told later : Told) (b : ℕ) (s : Slice) → TellsOn told later → is_listed b told s ≡ true → is_listed b later s ≡ true
is_listed-later told later b s on h =
    let was = has_list (is_told told) (lists_in b told s) h in
    list_has-true (is_told later) (lists_in b later s) was.0 (lists_in-later told later b s was.0 on was.1)
    (All-weaker (EntryBytes (is_told told)) (EntryBytes (is_told later))
    (λ (e : Entry) k i below. is_told-later told later (part_origin e.part i) on (k i below)) was.0 was.2)

-- lists that are told now, of slices whose lists were told before, are those that they had then
pub TellLists-before : (told later : Told) (b : ℕ) (fs : List ListFact) → TellsOn told later → ListSlices (is_told told) (is_listed b told) fs
    → TellLists (lists_in b later) fs → TellLists (lists_in b told) fs
TellLists-before told later b [] on slices tell = tt
TellLists-before told later b (f ∷ fs) on slices tell =
    let was = has_list (is_told told) (lists_in b told f.slice) slices.0.1 in
    let both : Some was.0 ≡ Some f.list = sym (lists_in-later told later b f.slice was.0 on was.1) ∙ tell.0 in
    (was.1 ∙ both, TellLists-before told later b fs on slices.1 tell.1)

-- of the lists that the stores tell each byte is told, where the slice passes the test of that
pub told_lists : (b : ℕ) (told : Told) (fs : List ListFact) → TellLists (lists_in b told) fs → ListsBytes (is_told told) (is_listed b told) fs
told_lists b told [] tell = tt
told_lists b told (f ∷ fs) tell =
    (λ listed. entries_from (is_told told) f.list (ap (list_has (is_told told)) (sym tell.0) ∙ listed), told_lists b told fs tell.1)

module _ (told later : Told) (b : ℕ) (on : TellsOn told later) where
  base_later : (base : Option Spill) → BaseBytes (is_told told) (is_listed b told) base → seen_list (lists_in b later) base ≡ seen_list (lists_in b told) base
  base_later None h = refl
  base_later (Some s) h =
      let was = has_list (is_told told) (lists_in b told s.slice) h.1 in
      ap (λ (o : Option (List Entry)). clip_list s.visible (or_none o)) (lists_in-later told later b s.slice was.0 on was.1 ∙ sym was.1)

  -- a region whose base was told lies where it lay
  pub region_later : (now : Option RegionValue) (y : ℕ) → MaybeBytes (is_told told) (is_listed b told) now
      → region_origin (lists_in b later) now y ≡ region_origin (lists_in b told) now y
  region_later None y h = refl
  region_later (Some v) y h = ap (λ (l : List Entry). origin (l ++ v.list) y) (base_later v.base h.base)

  -- a file whose bases were told has later the bytes that it had
  pub HasBytes-later : (v : FileView) (bytes : List ℕ) → FileBytes (is_told told) (is_listed b told) v → HasBytes told b v bytes → HasBytes later b v bytes
  HasBytes-later v bytes named has = record {
    len = has.len;
    tells = λ x. ap (meaning later) (region_later (v.region (x / b)) (x % b) (named (x / b)))
        ∙ meaning_later told later (file_origin b (lists_in b told) v x) (get_or bytes x 0) on (has.tells x);
  }
