-- What stores tell at the places of a set they go on telling where only bytes elsewhere are gone: bytes, slices, lists, and what values name.
use Rattle.wtf_clients.proofs.Common.{All, AllPass-from_list_all, Slice, len_of, places_of, Place, part_origin, pieces_len, pieces_origin, origin, meaning}
use Rattle.wtf_clients.proofs.Common.{clip_list, Entry, Part, Held, Piece, All-meaning, meaning-All, Change, RegionValue, Spill, Value, Delta, ListFact}
use Rattle.wtf_clients.proofs.Common.{TellLists, base_facts, or_none, seen_list, FileView, region_origin, Map, Edits, PartBytes, EntryBytes, PiecesBytes}
use Rattle.wtf_clients.proofs.Common.{BaseBytes, MaybeBytes, FileBytes, ValueBytes, MapBytes, DeltaBytes, EditsBytes, RegionBytes, ListSlices, ListsBytes}
use Rattle.wtf_clients.proofs.Common.{are_in, Told, is_told, is_listed, TellBytes, PiecesTell, SliceTells, list_has, lists_in, HasBytes, SessionView}
use Rattle.wtf_clients.proofs.Common.{SessionBytes, Fact, TellFacts, FactsBytes, entries_from, has_list, list_has-true, pieces_named, region_origin_bytes}
use Rattle.wtf_clients.proofs.Common.{told_from, told_byte, lists_in-from, lists_in-is, lists_have, TellsWhere, ◌≡◌, ℕ, ◌<◌, ◌++◌, ◌/◌, ◌%◌, Bool, true, List}
use Rattle.wtf_clients.proofs.Common.{[], ◌∷◌, Option, None, Some, refl, sym, ap, ◌∙◌, get_or}
use Rattle.wtf_meta.specs.Bytes.{SliceBytes}

-- a test of the places of a byte, and one of slices
abbrev pub Tests : Type 0
Tests = (List Place → Bool) × (Slice → Bool)

-- ---- what is told elsewhere may be lost

-- of the bytes of a region, also of those that the list of its base names, is each that it shows
module _ (b : ℕ) (told : Told) (P : List Place → Bool) (hole : P [] ≡ true) where
  -- the list that the slice of a base decodes to
  under_of : (base : Option Spill) → BaseBytes P (lists_have b told P) base
      → (under : List Entry) × TellLists (lists_in b told) (base_facts base under) × ListsBytes P (lists_have b told P) (base_facts base under)
  under_of None h = ([], tt, tt)
  under_of (Some s) h = let was = has_list P (lists_in b told s.slice) h.1 in (was.0, (was.1, tt), ((λ has. was.2), tt))

  pub region_origin_has : (now : Option RegionValue) (y : ℕ) → MaybeBytes P (lists_have b told P) now → P (region_origin (lists_in b told) now y) ≡ true
  region_origin_has None y h = hole
  region_origin_has (Some v) y h =
      let u = under_of v.base h.base in
      region_origin_bytes P (lists_have b told P) hole (lists_in b told) (Some v) u.0 y u.1 h u.2

all_of_two : {X : Type 0} (P Q R : X → Type 0) → ((x : X) → P x → Q x → R x) → (xs : List X) → All P xs → All Q xs → All R xs
all_of_two P Q R step xs p q = λ k d below. step (get_or xs k d) (p k d below) (q k d below)

-- One test of bytes and one of slices pass what two others pass, of bytes that lie in the set, and of slices of such bytes whose lists are of such bytes.
pub record Passes (set : Place → Bool) (b : ℕ) (told : Told) (F G : Tests) : Type 0 where
  pub places : (qs : List Place) → F.0 qs ≡ true → are_in set qs ≡ true → G.0 qs ≡ true
  pub slices : (s : Slice) → SliceBytes (are_in set) s → lists_have b told (are_in set) s ≡ true → F.1 s ≡ true → G.1 s ≡ true

-- So do values, where all that these name lies in the set, also what the lists of bases name.
module _ (set : Place → Bool) (b : ℕ) (told : Told) (F G : Tests) (pass : Passes set b told F G) where
  part_passes : (n : ℕ) (p : Part) → PartBytes F.0 n p → PartBytes (are_in set) n p → PartBytes G.0 n p
  part_passes n p h here = λ i below. pass.places (part_origin p i) (h i below) (here i below)

  pub slice_passes : (s : Slice) → SliceBytes F.0 s → SliceBytes (are_in set) s → SliceBytes G.0 s
  slice_passes s h here = part_passes (len_of s) (Held s) h here

  pub entries_pass : (es : List Entry) → All (EntryBytes F.0) es → All (EntryBytes (are_in set)) es → All (EntryBytes G.0) es
  entries_pass es h here =
      all_of_two (EntryBytes F.0) (EntryBytes (are_in set)) (EntryBytes G.0) (λ (e : Entry) was is. part_passes e.len e.part was is) es h here

  pub pieces_pass : (ps : List Piece) → PiecesBytes F.0 ps → PiecesBytes (are_in set) ps → PiecesBytes G.0 ps
  pieces_pass ps h here = all_of_two (λ (p : Piece). PartBytes F.0 p.len p.part) (λ (p : Piece). PartBytes (are_in set) p.len p.part)
      (λ (p : Piece). PartBytes G.0 p.len p.part) (λ (p : Piece) was is. part_passes p.len p.part was is) ps h here

  pub session_passes : (s : SessionView) → SessionBytes F.0 s → SessionBytes (are_in set) s → SessionBytes G.0 s
  session_passes s h here = λ label ps is. pieces_pass ps (h label ps is) (here label ps is)

  pub base_passes : (base : Option Spill) → BaseBytes F.0 F.1 base → BaseBytes (are_in set) (lists_have b told (are_in set)) base → BaseBytes G.0 G.1 base
  base_passes None h here = tt
  base_passes (Some s) h here = (slice_passes s.slice h.0 here.0, pass.slices s.slice here.0 here.1 h.1)

  pub region_passes : (v : RegionValue) → RegionBytes F.0 F.1 v → RegionBytes (are_in set) (lists_have b told (are_in set)) v → RegionBytes G.0 G.1 v
  region_passes v h here = record { base = base_passes v.base h.base here.base; entries = entries_pass v.list h.entries here.entries }

  pub maybe_passes : (now : Option RegionValue) → MaybeBytes F.0 F.1 now → MaybeBytes (are_in set) (lists_have b told (are_in set)) now → MaybeBytes G.0 G.1 now
  maybe_passes None h here = tt
  maybe_passes (Some v) h here = region_passes v h here

  value_passes : (v : Option Value) → ValueBytes F.0 F.1 v → ValueBytes (are_in set) (lists_have b told (are_in set)) v → ValueBytes G.0 G.1 v
  value_passes None h here = tt
  value_passes (Some (Value.Node n)) h here = tt
  value_passes (Some (Value.Names ns)) h here = tt
  value_passes (Some (Value.Count n)) h here = tt
  value_passes (Some (Value.Last r)) h here = tt
  value_passes (Some (Value.Region v)) h here = region_passes v h here

  pub map_passes : (w : Map) → MapBytes F.0 F.1 w → MapBytes (are_in set) (lists_have b told (are_in set)) w → MapBytes G.0 G.1 w
  map_passes w h here = λ q. value_passes (w q) (h q) (here q)

  delta_passes : (d : Delta) → DeltaBytes F.0 F.1 d → DeltaBytes (are_in set) (lists_have b told (are_in set)) d → DeltaBytes G.0 G.1 d
  delta_passes (Delta.Push e) h here = part_passes e.len e.part h here
  delta_passes (Delta.PushRel ps n) h here = pieces_pass ps h here
  delta_passes (Delta.Put v) h here = value_passes (Some v) h here
  delta_passes d h here = tt

  pub edits_pass : (cs : Edits) → EditsBytes F.0 F.1 cs → EditsBytes (are_in set) (lists_have b told (are_in set)) cs → EditsBytes G.0 G.1 cs
  edits_pass [] h here = tt
  edits_pass (Change.Delta key d ∷ cs) h here = (delta_passes d h.0 here.0, edits_pass cs h.1 here.1)
  edits_pass (Change.Cut from to ∷ cs) h here = (tt, edits_pass cs h.1 here.1)

module _ (set : Place → Bool) (told later : Told) (on : TellsWhere set told later) where
  -- a byte that was told at such places is told still
  pub meaning_where : (places : List Place) (byte : ℕ) → are_in set places ≡ true → meaning told places ≡ Some byte → meaning later places ≡ Some byte
  meaning_where [] byte here h = h
  meaning_where (p ∷ ps) byte here h =
      meaning-All later p ps byte (all_of_two (λ q. told q ≡ Some byte) (λ q. set q ≡ true) (λ q. later q ≡ Some byte)
      (λ q is in_it. on q byte in_it is) (p ∷ ps)
      (All-meaning told (p ∷ ps) byte h) (AllPass-from_list_all set (p ∷ ps) here))

  pub is_told_where : (places : List Place) → is_told told places ≡ true → are_in set places ≡ true → is_told later places ≡ true
  is_told_where places h here = let byte = told_byte told places h in told_from later places byte.0 (meaning_where places byte.0 here byte.1)

  pub tell_where : (n : ℕ) (f : ℕ → List Place) (bytes : List ℕ) → ((i : ℕ) → i < n → are_in set (f i) ≡ true) → TellBytes told n f bytes
      → TellBytes later n f bytes
  tell_where n f bytes here h = record { len = h.len; tells = λ i below. meaning_where (f i) (get_or bytes i 0) (here i below) (h.tells i below) }

  pub slice_tells_where : (s : Slice) (bytes : List ℕ) → SliceBytes (are_in set) s → SliceTells told s bytes → SliceTells later s bytes
  slice_tells_where s bytes here h = tell_where (len_of s) (places_of s) bytes here h

  pub pieces_tell_where : (ps : List Piece) (bytes : List ℕ) → PiecesBytes (are_in set) ps → PiecesTell told ps bytes → PiecesTell later ps bytes
  pieces_tell_where ps bytes here h = tell_where (pieces_len ps) (pieces_origin ps) bytes (λ i below. pieces_named (are_in set) ps i here below) h

  pub facts_where : (fs : List Fact) → FactsBytes (are_in set) fs → TellFacts told fs → TellFacts later fs
  facts_where [] here h = tt
  facts_where (f ∷ fs) here h = (pieces_tell_where f.pieces f.bytes here.0 h.0, facts_where fs here.1 h.1)

  module _ (b : ℕ) where
    -- the list of a slice whose bytes lie there is what it was
    pub lists_in_where : (s : Slice) (es : List Entry) → SliceBytes (are_in set) s → lists_in b told s ≡ Some es → lists_in b later s ≡ Some es
    lists_in_where s es here h =
        let was = lists_in-from b told s es h in
        lists_in-is b later s was.0 (slice_tells_where s was.0 here was.1) ∙ was.2

    pub tell_lists_where : (Q : Slice → Bool) (fs : List ListFact) → ListSlices (are_in set) Q fs → TellLists (lists_in b told) fs
        → TellLists (lists_in b later) fs
    tell_lists_where Q [] here h = tt
    tell_lists_where Q (f ∷ fs) here h = (lists_in_where f.slice f.list here.0.0 h.0, tell_lists_where Q fs here.1 h.1)

    -- the list of a slice is just what it was, where each byte of it lies there too
    pub lists_in_same : (s : Slice) → SliceBytes (are_in set) s → lists_have b told (are_in set) s ≡ true → lists_in b later s ≡ lists_in b told s
    lists_in_same s slice here =
        let was = has_list (are_in set) (lists_in b told s) here in
        lists_in_where s was.0 slice was.1 ∙ sym was.1

    -- so of the bytes that lie there R holds over the later stores, where P did
    pub passes_on : (P R : List Place → Bool) → ((qs : List Place) → P qs ≡ true → are_in set qs ≡ true → R qs ≡ true)
        → Passes set b told (P, lists_have b told P) (R, lists_have b later R)
    passes_on P R stays = record {
      places = stays;
      slices = λ s slice here h.
          let was = has_list P (lists_in b told s) h in
          let is : All (EntryBytes (are_in set)) was.0 = entries_from (are_in set) was.0 (ap (list_has (are_in set)) (sym was.1) ∙ here) in
          list_has-true R (lists_in b later s) was.0 (lists_in_where s was.0 slice was.1) (all_of_two (EntryBytes P) (EntryBytes (are_in set)) (EntryBytes R)
          (λ (e : Entry) one two i below. stays (part_origin e.part i) (one i below) (two i below)) was.0 was.2 is);
    }

    -- and P did, where it holds of them over the later stores
    pub passes_back : (P : List Place → Bool) → Passes set b told (P, lists_have b later P) (P, lists_have b told P)
    passes_back P = record { places = λ qs h here. h; slices = λ s slice here h. ap (list_has P) (sym (lists_in_same s slice here)) ∙ h }

    -- what is told at places of the set is told later
    pub passes_told : Passes set b told (is_told told, is_listed b told) (is_told later, is_listed b later)
    passes_told = passes_on (is_told told) (is_told later) is_told_where

    -- ---- regions and files all of whose bytes lie in the set, also those that the lists of their bases name

    base_seen_where : (base : Option Spill) → BaseBytes (are_in set) (lists_have b told (are_in set)) base
        → seen_list (lists_in b later) base ≡ seen_list (lists_in b told) base
    base_seen_where None here = refl
    base_seen_where (Some s) here = ap (λ (o : Option (List Entry)). clip_list s.visible (or_none o)) (lists_in_same s.slice here.0 here.1)

    -- such a region lies where it lay
    pub region_origin_where : (now : Option RegionValue) (y : ℕ) → MaybeBytes (are_in set) (lists_have b told (are_in set)) now
        → region_origin (lists_in b later) now y ≡ region_origin (lists_in b told) now y
    region_origin_where None y here = refl
    region_origin_where (Some v) y here = ap (λ (l : List Entry). origin (l ++ v.list) y) (base_seen_where v.base here.base)

    -- and each byte of it lies in the set
    pub region_origin_in : (now : Option RegionValue) (y : ℕ) → MaybeBytes (are_in set) (lists_have b told (are_in set)) now
        → are_in set (region_origin (lists_in b told) now y) ≡ true
    region_origin_in now y here = region_origin_has b told (are_in set) refl now y here

    pub region_means_where : (now : Option RegionValue) (y byte : ℕ) → MaybeBytes (are_in set) (lists_have b told (are_in set)) now
        → meaning told (region_origin (lists_in b told) now y) ≡ Some byte → meaning later (region_origin (lists_in b later) now y) ≡ Some byte
    region_means_where now y byte here h =
        ap (meaning later) (region_origin_where now y here)
        ∙ meaning_where (region_origin (lists_in b told) now y) byte (region_origin_in now y here) h

    -- a file of such regions has the bytes that it had
    pub has_bytes_where : (v : FileView) (bytes : List ℕ) → FileBytes (are_in set) (lists_have b told (are_in set)) v → HasBytes told b v bytes
        → HasBytes later b v bytes
    has_bytes_where v bytes here h =
        record { len = h.len; tells = λ x. region_means_where (v.region (x / b)) (x % b) (get_or bytes x 0) (here (x / b)) (h.tells x) }
