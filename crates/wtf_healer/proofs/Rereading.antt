-- The list of a base: what a read of the copies that are left gives is the list that is defined.
use Rattle.std.proofs.Common.{◌≡◌, ◌⊎◌, ℕ, ◌<◌, ◌++◌, Bool, true, false, cond, List, [], ◌∷◌, get_or, Option, None, Some, refl, sym, ap, ◌∙◌, subst, inl, inr}
use Rattle.std.specs.Prelude.{not}
use Rattle.std.specs.List.{All}
use Rattle.std.proofs.lemmas.List.Elements.{All-nil, All-cons, All-head, All-tail, All-weaker}
use Rattle.wtf_base.specs.declared.slice.Slice.{Slice}
use Rattle.wtf_base.specs.Places.{Place, places_of}
use Rattle.wtf_overlay.specs.declared.part.Entry.{Entry}
use Rattle.wtf_overlay.specs.Clips.{clip_list}
use Rattle.wtf_overlay.specs.Origin.{origin, part_origin}
use Rattle.wtf_overlay.specs.Spilled.{decoded}
use Rattle.wtf_overlay.proofs.Meanings.{All-meaning}
use Rattle.wtf_values.specs.declared.region.Spill.{Spill}
use Rattle.wtf_values.specs.declared.region.RegionValue.{RegionValue}
use Rattle.wtf_meta.specs.Bytes.{EntryBytes}
use Rattle.wtf_meta.specs.Contents.{Told, SliceTells, is_told}
use Rattle.wtf_meta.proofs.Telling.{TellsOn, lists_in-from, lists_in-later, is_told-later}
use Rattle.wtf_healer.specs.Bases.{UpTells}
use Rattle.wtf_healer.specs.Live.{HasCopiesLeft, AreLeft, IsLeftList, IsLeftBase, IsLiveRegion}
use Rattle.wtf_healer.specs.Regions.{list_over}
use Rattle.wtf_healer.specs.Runs.{IsUnder}
use Rattle.wtf_healer.proofs.Leaving.{left, Lasts, left_slice, list_left, seen_left}
use Rattle.wtf_healer.proofs.Unlost.{len_left}

module _ (b : ℕ) (told : Told) (lost : ℕ → Bool) where
  -- what was read of a base: all bytes that the copies that are left tell decode to this list
  abbrev pub IsReadAs : Option Spill → List Entry → Type 0
  IsReadAs None es = es ≡ []
  IsReadAs (Some s) es = (bytes : List ℕ) → UpTells lost told s.slice bytes → decoded b bytes ≡ Some es

  abbrev TellsUp : ℕ → Place → Type 0
  TellsUp byte q = (lost q.server ≡ true) ⊎ (told q ≡ Some byte)

  abbrev Tells : ℕ → Place → Type 0
  Tells byte q = told q ≡ Some byte

  up_one : (q : Place) (qs : List Place) (byte : ℕ) (d : Bool) → lost q.server ≡ d → (All (Tells byte) (left lost qs) → All (TellsUp byte) qs)
      → All (Tells byte) (cond (not d) (q ∷ left lost qs) (left lost qs)) → All (TellsUp byte) (q ∷ qs)
  up_one q qs byte true is rest h = All-cons (TellsUp byte) q qs (inl is) (rest h)
  up_one q qs byte false is rest h =
      All-cons (TellsUp byte) q qs (inr (All-head (Tells byte) q (left lost qs) h)) (rest (All-tail (Tells byte) q (left lost qs) h))

  up_each : (qs : List Place) (byte : ℕ) → All (Tells byte) (left lost qs) → All (TellsUp byte) qs
  up_each [] byte h = All-nil (TellsUp byte)
  up_each (q ∷ qs) byte h = up_one q qs byte (lost q.server) refl (up_each qs byte) h

  -- the bytes of what is left of a slice are those that its copies that are left tell
  pub up_tells : (s u : Slice) → HasCopiesLeft lost s u → (bytes : List ℕ) → SliceTells told u bytes → UpTells lost told s bytes
  up_tells s u l bytes t = record {
    len = sym (len_left lost s u l) ∙ t.len;
    tells = λ i below. up_each (places_of s i) (get_or bytes i 0)
        (subst (All (Tells (get_or bytes i 0))) (left_slice lost s u l i)
        (All-meaning told (places_of u i) (get_or bytes i 0) (t.tells i (subst (λ m. i < m) (sym (len_left lost s u l)) below))));
  }

  -- these decode to the list
  pub read_under : (s : Slice) (whole : List Entry) (r : IsLeftList b told lost s whole)
      → (bytes : List ℕ) × UpTells lost told s bytes × (decoded b bytes ≡ Some r.list)
  read_under s whole r =
      let was = lists_in-from b told r.slice r.list r.decodes in (was.0, up_tells s r.slice r.left was.0 was.1, was.2)

  -- so what was read is the list
  pub read_same : (s : Spill) (whole : List Entry) (r : IsLeftList b told lost s.slice whole) (es : List Entry) → IsReadAs (Some s) es → es ≡ r.list
  read_same s whole r es read =
      let was = read_under s.slice whole r in
      let both : Some es ≡ Some r.list = sym (read was.0 was.1) ∙ was.2 in cc

  -- and it is what a pass looks at
  pub under_is : (base : Option Spill) (under es : List Entry) → IsLeftBase b told lost base under → IsReadAs base es → IsUnder b told lost base es
  under_is None under es h read = read
  under_is (Some s) under es h read =
      let was = read_under s.slice h.0 h.1 in
      (was.0, was.1, was.2 ∙ sym (ap (λ (l : List Entry). Some l) (read_same s h.0 h.1 es read)))

  -- the bytes of what is left of a region lie where those of the region do that lie on servers that are left
  pub over_left : (base : Option Spill) (list under top es : List Entry) → IsLeftBase b told lost base under → AreLeft lost list top → IsReadAs base es
      → (y : ℕ)
      → (origin (under ++ top) y ≡ left lost (origin (list_over base es list) y)) × Lasts lost (origin (list_over base es list) y)
  over_left None list under top es h t read y =
      let here = list_left lost list top t y in (ap (λ (u : List Entry). origin (u ++ top) y) h ∙ here.0, here.1)
  over_left (Some s) list under top es h t read y =
      let whole = h.0 in
      let r : IsLeftList b told lost s.slice whole = h.1 in
      let same = read_same s whole r es read in
      let seen = seen_left lost s.visible r.list whole list top r.entries t y in (
        ap (λ (u : List Entry). origin (u ++ top) y) h.2 ∙ seen.0 ∙ ap (λ (l : List Entry). left lost (origin (clip_list s.visible l ++ list) y)) (sym same),
        subst (λ (l : List Entry). Lasts lost (origin (clip_list s.visible l ++ list) y)) (sym same) seen.1,
      )

-- ---- over stores that tell more

module _ (b : ℕ) (told now : Told) (lost : ℕ → Bool) (on : TellsOn told now) where
  pub entries_on : (es : List Entry) → All (EntryBytes (is_told told)) es → All (EntryBytes (is_told now)) es
  entries_on es h = All-weaker (EntryBytes (is_told told)) (EntryBytes (is_told now))
      (λ (e : Entry) k i below. is_told-later told now (part_origin e.part i) on (k i below)) es h

  abbrev pub left_later : (s : Slice) (whole : List Entry) → IsLeftList b told lost s whole → IsLeftList b now lost s whole
  left_later s whole r = record {
    slice = r.slice;
    left = r.left;
    list = r.list;
    decodes = lists_in-later told now b r.slice r.list on r.decodes;
    entries = r.entries;
    bytes = entries_on whole r.bytes;
  }

  pub base_later : (base : Option Spill) (under : List Entry) → IsLeftBase b told lost base under → IsLeftBase b now lost base under
  base_later None under h = h
  base_later (Some s) under h = (h.0, left_later s.slice h.0 h.1, h.2)

  -- what is left of a region is left of it
  pub live_later : (v u : RegionValue) → IsLiveRegion b told lost v u → IsLiveRegion b now lost v u
  live_later v u h = record {
    end = h.end;
    base = h.base;
    under = h.under;
    base_is = base_later v.base h.under h.base_is;
    top = h.top;
    top_is = h.top_is;
    list = h.list;
  }

  -- and the list of its base stays the one that was read
  pub under_later : (base : Option Spill) (under es : List Entry) → IsLeftBase b told lost base under → IsReadAs b told lost base es
      → IsUnder b now lost base es
  under_later None under es h read = read
  under_later (Some s) under es h read =
      let r = left_later s.slice h.0 h.1 in
      let was = read_under b now lost s.slice h.0 r in
      (was.0, was.1, was.2 ∙ sym (ap (λ (l : List Entry). Some l) (read_same b told lost s h.0 h.1 es read)))
