-- The bytes that pieces, regions and files show are bytes that they name.
use Rattle.std.proofs.Common.{◌≡◌, ℕ, ◌+◌, ◌-◌, ◌<◌, ◌≤◌, ◌++◌, Bool, true, nat_lt, List, [], ◌∷◌, Option, None, Some, ap, sym, ◌∙◌, subst, arith, inl, inr}
use Rattle.std.specs.List.{All}
use Rattle.std.proofs.lemmas.Bool.{cases_lt, cond-true, cond-false, lt-ltb, le-ltb}
use Rattle.std.proofs.lemmas.List.Elements.{All-nil, All-cons, All-append, All-push, All-head, All-tail}
use Rattle.wtf_base.specs.declared.ids.InodeId.{InodeId}
use Rattle.wtf_base.specs.declared.slice.Slice.{Slice}
use Rattle.wtf_overlay.specs.Origin.{Place, part_origin, over, origin_from, origin, pieces_len, pieces_origin, Plans}
use Rattle.wtf_overlay.specs.declared.part.Entry.{Entry}
use Rattle.wtf_overlay.specs.declared.part.Piece.{Piece}
use Rattle.wtf_overlay.specs.Clips.{clip_list}
use Rattle.wtf_overlay.proofs.Origins.{over_before, over_after, over_within, origin_from-append}
use Rattle.wtf_overlay.proofs.Clipping.{clip_below, clip_past}
use Rattle.wtf_values.specs.declared.key.Key.TheVariants.{Region}
use Rattle.wtf_values.specs.declared.region.RegionValue.{RegionValue}
use Rattle.wtf_values.specs.declared.region.Spill.{Spill}
use Rattle.wtf_values.specs.declared.value.Value.{Value}
use Rattle.wtf_values.specs.declared.value.Value.TheVariants as value
use Rattle.wtf_meta.specs.Maps.{Map, Edits}
use Rattle.wtf_meta.specs.Lists.{Lists, TellLists, or_none, seen_list, base_facts, region_facts}
use Rattle.wtf_meta.specs.Bytes.{PartBytes, EntryBytes, PiecesBytes, BaseBytes, MaybeBytes, FileBytes, ValueBytes, MapBytes, EditsBytes, ListSlices, ListsBytes}
use Rattle.wtf_meta.specs.Files.{region_origin}
use Rattle.wtf_meta.specs.FileEdits.{FileEdit, region_of, file_of, edits_of}
use Rattle.wtf_meta.proofs.Edits.{edits_of-append}

module _ (P : List Place → Bool) where
  -- P holds of the bytes of one piece
  abbrev PieceBytes : Piece → Type 0
  PieceBytes p = PartBytes P p.len p.part

  -- pieces whose bytes all satisfy P
  pub pieces_bytes : (ps : List Piece) → ((i : ℕ) → i < pieces_len ps → P (pieces_origin ps i) ≡ true) → PiecesBytes P ps
  pieces_bytes [] h = All-nil PieceBytes
  pieces_bytes (p ∷ ps) h =
      All-cons PieceBytes p ps
      (λ i below. ap P (sym (cond-true (nat_lt i p.len) (part_origin p.part i) (pieces_origin ps (i - p.len)) (lt-ltb i p.len below))) ∙ h i (omega arith))
      (pieces_bytes ps (λ i below. ap P (ap (pieces_origin ps) (let e : i ≡ p.len + i - p.len = omega arith in e)
      ∙ sym (cond-false (nat_lt (p.len + i) p.len) (part_origin p.part (p.len + i)) (pieces_origin ps (p.len + i - p.len))
      (le-ltb (p.len + i) p.len (omega arith)))) ∙ h (p.len + i) (omega arith)))

  -- and the other way round
  pub pieces_named : (ps : List Piece) (i : ℕ) → PiecesBytes P ps → i < pieces_len ps → P (pieces_origin ps i) ≡ true
  pieces_named [] i h below = absurd (omega arith)
  pieces_named (p ∷ ps) i h below = elim (cases_lt i p.len) [
    | inl l ↦ ap P (cond-true (nat_lt i p.len) (part_origin p.part i) (pieces_origin ps (i - p.len)) (lt-ltb i p.len l)) ∙ All-head PieceBytes p ps h i l
    | inr g ↦ ap P (cond-false (nat_lt i p.len) (part_origin p.part i) (pieces_origin ps (i - p.len)) (le-ltb i p.len g))
        ∙ pieces_named ps (i - p.len) (All-tail PieceBytes p ps h) (omega arith)
  ]

  -- pieces that show only bytes that satisfy P
  pub plans_bytes : (ps : List Piece) (n : ℕ) (f : ℕ → List Place) → Plans ps n f → ((i : ℕ) → i < n → P (f i) ≡ true) → PiecesBytes P ps
  plans_bytes ps n f plans h = pieces_bytes ps (λ i below. let here : i < n = omega (arith, plans.len) in ap P (plans.origin i here) ∙ h i here)

  -- no piece
  pub PiecesBytes-none : PiecesBytes P []
  PiecesBytes-none = All-nil PieceBytes

  -- pieces after others
  pub PiecesBytes-append : (ps qs : List Piece) → PiecesBytes P ps → PiecesBytes P qs → PiecesBytes P (ps ++ qs)
  PiecesBytes-append ps qs first next = All-append PieceBytes ps qs first next

  -- one piece more
  pub PiecesBytes-push : (ps : List Piece) (p : Piece) → PiecesBytes P ps → PartBytes P p.len p.part → PiecesBytes P (ps ++ p ∷ [])
  PiecesBytes-push ps p first here = All-push PieceBytes ps p first here

  -- and of pieces after others, both
  pub PiecesBytes-parts : (ps qs : List Piece) → PiecesBytes P (ps ++ qs) → PiecesBytes P ps × PiecesBytes P qs
  PiecesBytes-parts [] qs h = (All-nil PieceBytes, h)
  PiecesBytes-parts (p ∷ ps) qs h =
      let rest = PiecesBytes-parts ps qs (All-tail PieceBytes p (ps ++ qs) h) in
      (All-cons PieceBytes p ps (All-head PieceBytes p (ps ++ qs) h) rest.0, rest.1)

  -- pieces that were cut from others
  pub PiecesBytes-cut : (ps out : List Piece) (off n : ℕ) → PiecesBytes P ps → off + n ≤ pieces_len ps → Plans out n (λ i. pieces_origin ps (off + i))
      → PiecesBytes P out
  PiecesBytes-cut ps out off n h within plans = plans_bytes out n (λ i. pieces_origin ps (off + i)) plans (λ i below. pieces_named ps (off + i) h (omega arith))

  over_bytes : (e : Entry) (x : ℕ) (below : List Place) → EntryBytes P e → P below ≡ true → P (over e x below) ≡ true
  over_bytes e x below h under = elim (cases_lt x e.off) [
    | inl before ↦ ap P (over_before e x below before) ∙ under
    | inr from ↦ elim (cases_lt x (e.off + e.len)) [
      | inl to ↦ ap P (over_within e x below from to) ∙ h (x - e.off) (omega arith)
      | inr past ↦ ap P (over_after e x below past) ∙ under
    ]
  ]

  pub list_bytes : (es : List Entry) (below : List Place) (x : ℕ) → All (EntryBytes P) es → P below ≡ true → P (origin_from below es x) ≡ true
  list_bytes [] below x h under = under
  list_bytes (e ∷ es) below x h under = list_bytes es (over e x below) x (All-tail (EntryBytes P) e es h)
      (over_bytes e x below (All-head (EntryBytes P) e es h) under)

module _ (P : List Place → Bool) (Q : Slice → Bool) where
  -- changes, one list after another
  pub EditsBytes-append : (cs ds : Edits) → EditsBytes P Q cs → EditsBytes P Q ds → EditsBytes P Q (cs ++ ds)
  EditsBytes-append [] ds first next = next
  EditsBytes-append (c ∷ cs) ds first next = (first.0, EditsBytes-append cs ds first.1 next)

  -- changes of a file, one list after another
  pub EditsBytes-edits : (i : InodeId) (ds es : List FileEdit) → EditsBytes P Q (edits_of i ds) → EditsBytes P Q (edits_of i es)
      → EditsBytes P Q (edits_of i (ds ++ es))
  EditsBytes-edits i ds es first next = subst (EditsBytes P Q) (sym (edits_of-append i ds es)) (EditsBytes-append (edits_of i ds) (edits_of i es) first next)

  -- what a map shows of a region, and of a file, are values of it
  pub region_of_bytes : (now : Option Value) → ValueBytes P Q now → MaybeBytes P Q (region_of now)
  region_of_bytes None h = tt
  region_of_bytes (Some (value.Node n)) h = tt
  region_of_bytes (Some (value.Names ns)) h = tt
  region_of_bytes (Some (value.Last r)) h = tt
  region_of_bytes (Some (value.Count n)) h = tt
  region_of_bytes (Some (value.Region v)) h = h

  pub file_bytes : (i : InodeId) (w : Map) → MapBytes P Q w → FileBytes P Q (file_of i w)
  file_bytes i w h = λ r. region_of_bytes (w (Region i r)) (h (Region i r))

  -- the slice of a base whose list was read
  base_slices : (base : Option Spill) (under : List Entry) → BaseBytes P Q base → ListSlices P Q (base_facts base under)
  base_slices None under h = tt
  base_slices (Some s) under h = (h, tt)

  pub region_slices : (now : Option RegionValue) (under : List Entry) → MaybeBytes P Q now → ListSlices P Q (region_facts now under)
  region_slices None under h = tt
  region_slices (Some v) under h = base_slices v.base under h.base

  module _ (hole : P [] ≡ true) where
    -- each byte of a list of entries
    pub origin_bytes : (es : List Entry) (x : ℕ) → All (EntryBytes P) es → P (origin es x) ≡ true
    origin_bytes es x h = list_bytes P es [] x h hole

    -- of the list of a base, by what was read of it
    base_origin_bytes : (lists : Lists) (base : Option Spill) (under : List Entry) (y : ℕ) → TellLists lists (base_facts base under) → BaseBytes P Q base
        → ListsBytes P Q (base_facts base under)
        → P (origin (seen_list lists base) y) ≡ true
    base_origin_bytes lists None under y tell own known = hole
    base_origin_bytes lists (Some s) under y tell own known =
        ap (λ (o : Option (List Entry)). P (origin (clip_list s.visible (or_none o)) y)) tell.0
        ∙ elim (cases_lt y s.visible) [
          | inl low ↦ ap P (clip_below [] s.visible under y low) ∙ origin_bytes under y (known.0 own.1)
          | inr high ↦ ap P (clip_past [] s.visible under y high) ∙ hole
        ]

    -- and of a region, which may be missing: what is read of a region names what the region and the list of its base name
    pub region_origin_bytes : (lists : Lists) (now : Option RegionValue) (under : List Entry) (y : ℕ) → TellLists lists (region_facts now under)
        → MaybeBytes P Q now
        → ListsBytes P Q (region_facts now under) → P (region_origin lists now y) ≡ true
    region_origin_bytes lists None under y tell h known = hole
    region_origin_bytes lists (Some v) under y tell h known =
        ap P (origin_from-append [] (seen_list lists v.base) v.list y)
        ∙ list_bytes P v.list (origin (seen_list lists v.base) y) y h.entries (base_origin_bytes lists v.base under y tell h.base known)
