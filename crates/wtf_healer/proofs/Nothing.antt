-- Where no server is lost the tree that is left of an image is the image's tree.
use Rattle.std.proofs.Common.{◌≡◌, ℕ, ◌<◌, ◌++◌, List, [], ◌∷◌, get_or, Option, Some, None, refl, sym, ap, ◌∙◌, subst, arith}
use Rattle.std.specs.Prelude.{IsSome}
use Rattle.std.specs.List.{All, filter}
use Rattle.std.proofs.lemmas.List.Elements.{All-nil, All-cons, All-head, All-tail}
use Rattle.wtf_base.specs.declared.ids.InodeId.{InodeId}
use Rattle.wtf_base.specs.declared.pointer.Pointer.{Pointer}
use Rattle.wtf_base.specs.declared.slice.Slice.{Slice}
use Rattle.wtf_base.specs.Slices.{pointers_of, len_of}
use Rattle.wtf_base.specs.Places.{Place, places_of}
use Rattle.wtf_base.proofs.Elements.{element}
use Rattle.wtf_base.proofs.Pointers.{pointers-len}
use Rattle.wtf_model.specs.Tree.{Tree}
use Rattle.wtf_overlay.specs.declared.part.Entry.{Entry}
use Rattle.wtf_overlay.specs.Clips.{clip_list}
use Rattle.wtf_overlay.specs.Meaning.{meaning}
use Rattle.wtf_overlay.specs.Origin.{part_origin, origin}
use Rattle.wtf_values.specs.declared.key.Key.TheVariants.{Path, Dir, Inode, Region, Links}
use Rattle.wtf_values.specs.declared.region.RegionValue.{RegionValue}
use Rattle.wtf_values.specs.declared.region.Spill.{Spill}
use Rattle.wtf_values.specs.declared.value.Value.{Value}
use Rattle.wtf_values.specs.declared.value.Value.TheVariants as value
use Rattle.wtf_meta.specs.Bytes.{EntryBytes, BaseBytes, RegionBytes, ValueBytes, MapBytes}
use Rattle.wtf_meta.specs.Contents.{Told, SliceTells, is_told, is_listed, lists_in}
use Rattle.wtf_meta.specs.Files.{end_of, region_origin}
use Rattle.wtf_meta.specs.FileEdits.{IsRegion, region_of}
use Rattle.wtf_meta.specs.Lists.{seen_list, or_none}
use Rattle.wtf_meta.specs.Maps.{Map}
use Rattle.wtf_meta.proofs.ListTests.{list_has-true}
use Rattle.wtf_meta.proofs.Telling.{told_from, lists_in-from, lists_in-is}
use Rattle.wtf_image.specs.Pictured.{IsImageOfTree}
use Rattle.wtf_image.specs.Rules.{none_lost}
use Rattle.wtf_healer.specs.Live.{is_left, HasCopiesLeft, IsLeftEntry, AreLeft, IsLeftList, IsLeftBase, IsLiveRegion, IsLiveValue, IsLiveMap, IsLiveTree}
use Rattle.wtf_healer.proofs.Frame.{SameBodies, stands_bodies}
use Rattle.wtf_healer.proofs.Leaving.{left, left_slice, left_part, seen_left, list_left}
use Rattle.wtf_healer.proofs.Restoring.{copies_of, All-append_parts}

-- no place is lost
left_none : (qs : List Place) → left none_lost qs ≡ qs
left_none [] = refl
left_none (q ∷ qs) = ap (λ (x : List Place). q ∷ x) (left_none qs)

copies_none : (ps : List Pointer) → filter (is_left none_lost) ps ≡ ps
copies_none [] = refl
copies_none (p ∷ ps) = ap (λ (x : List Pointer). p ∷ x) (copies_none ps)

-- a slice that is left is as long as it was, and has its places
len_same : (s u : Slice) → HasCopiesLeft none_lost s u → len_of u ≡ len_of s
len_same s u h =
    let same : pointers_of u ≡ pointers_of s = h.copies ∙ copies_none (pointers_of s) in
    let some = copies_of s.len s.extents in
    let more = copies_of u.len u.extents in
    let d = element (pointers_of s) 0 some in
    sym (pointers-len u 0 d more) ∙ ap (λ (ps : List Pointer). (get_or ps 0 d).len) same ∙ pointers-len s 0 d some

places_same : (s u : Slice) → HasCopiesLeft none_lost s u → (i : ℕ) → places_of u i ≡ places_of s i
places_same s u h i = left_slice none_lost s u h i ∙ left_none (places_of s i)

tells_same : (told : Told) (s u : Slice) → HasCopiesLeft none_lost s u → (bytes : List ℕ) → SliceTells told u bytes → SliceTells told s bytes
tells_same told s u h bytes t = record {
  len = sym (len_same s u h) ∙ t.len;
  tells = λ i below. ap (meaning told) (sym (places_same s u h i)) ∙ t.tells i (subst (λ n. i < n) (sym (len_same s u h)) below);
}

-- the list in it is the one that was in the slice
lists_same : (b : ℕ) (told : Told) (s u : Slice) (es : List Entry) → HasCopiesLeft none_lost s u → lists_in b told u ≡ Some es → lists_in b told s ≡ Some es
lists_same b told s u es h is =
    let was = lists_in-from b told u es is in lists_in-is b told s was.0 (tells_same told s u h was.0 was.1) ∙ was.2

entry_same : (told : Told) (e f : Entry) → IsLeftEntry none_lost e f → EntryBytes (is_told told) f → EntryBytes (is_told told) e
entry_same told e f h bytes i below =
    ap (is_told told) (sym (left_part none_lost e.part f.part h.part i ∙ left_none (part_origin e.part i))) ∙ bytes i (omega (arith, below, h.len))

entries_same : (told : Told) (es fs : List Entry) → AreLeft none_lost es fs → All (EntryBytes (is_told told)) fs → All (EntryBytes (is_told told)) es
entries_same told [] [] h bytes = All-nil (EntryBytes (is_told told))
entries_same told (e ∷ es) (f ∷ fs) h bytes =
    All-cons (EntryBytes (is_told told)) e es (entry_same told e f h.0 (All-head (EntryBytes (is_told told)) f fs bytes))
    (entries_same told es fs h.1 (All-tail (EntryBytes (is_told told)) f fs bytes))
entries_same told [] (f ∷ fs) h bytes = absurd h
entries_same told (e ∷ es) [] h bytes = absurd h

module _ (b : ℕ) (told : Told) where
  -- the places of a byte of a region are those of the region that is left
  origin_same : (base : Option Spill) (list under top : List Entry) → IsLeftBase b told none_lost base under → AreLeft none_lost list top → (y : ℕ)
      → origin (under ++ top) y ≡ origin (seen_list (lists_in b told) base ++ list) y
  origin_same None list under top h t y =
      ap (λ (u : List Entry). origin (u ++ top) y) h ∙ (list_left none_lost list top t y).0 ∙ left_none (origin list y)
  origin_same (Some s) list under top h t y =
      let whole = h.0 in
      let read : IsLeftList b told none_lost s.slice whole = h.1 in
      let is = lists_same b told s.slice read.slice read.list read.left read.decodes in
      ap (λ (u : List Entry). origin (u ++ top) y) h.2
      ∙ (seen_left none_lost s.visible read.list whole list top read.entries t y).0
      ∙ left_none (origin (clip_list s.visible read.list ++ list) y)
      ∙ ap (λ o. origin (clip_list s.visible (or_none o) ++ list) y) (sym is)

  region_same : (v u : RegionValue) → IsLiveRegion b told none_lost v u → (y : ℕ)
      → region_origin (lists_in b told) (Some u) y ≡ region_origin (lists_in b told) (Some v) y
  region_same v u h y =
      ap (λ (base : Option Spill). origin (seen_list (lists_in b told) base ++ u.list) y) h.base
      ∙ ap (λ (l : List Entry). origin l y) h.list
      ∙ origin_same v.base v.list h.under h.top h.base_is h.top_is y

  base_bytes : (base : Option Spill) (under : List Entry) → IsLeftBase b told none_lost base under → BaseBytes (is_told told) (is_listed b told) base
  base_bytes None under h = tt
  base_bytes (Some s) under h =
      let whole = h.0 in
      let read : IsLeftList b told none_lost s.slice whole = h.1 in
      let was = lists_in-from b told read.slice read.list read.decodes in
      let tells = tells_same told s.slice read.slice read.left was.0 was.1 in
      let is = lists_same b told s.slice read.slice read.list read.left read.decodes in (
        λ i below. told_from told (places_of s.slice i) (get_or was.0 i 0) (tells.tells i below),
        list_has-true (is_told told) (lists_in b told s.slice) read.list is (entries_same told read.list whole read.entries read.bytes),
      )

  region_bytes : (v u : RegionValue) → IsLiveRegion b told none_lost v u → RegionBytes (is_told told) (is_listed b told) u
      → RegionBytes (is_told told) (is_listed b told) v
  region_bytes v u h bytes = record {
    base = base_bytes v.base h.under h.base_is;
    entries = entries_same told v.list h.top h.top_is
        (All-append_parts (EntryBytes (is_told told)) h.under h.top (subst (All (EntryBytes (is_told told))) h.list bytes.entries)).1;
  }

  -- what holds of each region and what is left of it, and of each other value and itself, holds of a value and what is left of it
  live_case : (P : Option Value → Option Value → Type 0)
      → ((v u : RegionValue) → IsLiveRegion b told none_lost v u → P (Some (value.Region v)) (Some (value.Region u)))
      → ((x : Option Value) → P x x) → (x l : Option Value) → IsLiveValue b told none_lost x l → P x l
  live_case P region other None l h = subst (P None) (sym h) (other None)
  live_case P region other (Some (value.Node n)) l h = subst (P (Some (value.Node n))) (sym h) (other (Some (value.Node n)))
  live_case P region other (Some (value.Names ns)) l h = subst (P (Some (value.Names ns))) (sym h) (other (Some (value.Names ns)))
  live_case P region other (Some (value.Count n)) l h = subst (P (Some (value.Count n))) (sym h) (other (Some (value.Count n)))
  live_case P region other (Some (value.Last n)) l h = subst (P (Some (value.Last n))) (sym h) (other (Some (value.Last n)))
  live_case P region other (Some (value.Region v)) None h = absurd h
  live_case P region other (Some (value.Region v)) (Some (value.Node n)) h = absurd h
  live_case P region other (Some (value.Region v)) (Some (value.Names ns)) h = absurd h
  live_case P region other (Some (value.Region v)) (Some (value.Count n)) h = absurd h
  live_case P region other (Some (value.Region v)) (Some (value.Last n)) h = absurd h
  live_case P region other (Some (value.Region v)) (Some (value.Region u)) h = region v u h

  module _ (w live : Map) (h : IsLiveMap b told none_lost w live) where
    at : (P : Option Value → Option Value → Type 0) → ((v u : RegionValue) → IsLiveRegion b told none_lost v u
        → P (Some (value.Region v)) (Some (value.Region u)))
        → ((x : Option Value) → P x x) → (i : InodeId) (r : ℕ) → P (w (Region i r)) (live (Region i r))
    at P region other i r = live_case P region other (w (Region i r)) (live (Region i r)) (h.regions i r)

    bodies : SameBodies b told told live w
    bodies = record {
      paths = λ p. sym (h.paths p);
      dirs = λ p. sym (h.dirs p);
      inodes = λ i. sym (h.inodes i);
      counts = λ i. sym (h.counts i);
      kinds = λ i r. at (λ x l. IsRegion l → IsRegion x) (λ v u is k. tt) (λ x k. k) i r;
      none = λ i r. at (λ x l. region_of l ≡ None → region_of x ≡ None) (λ v u is none. absurd (cc)) (λ x none. none) i r;
      there = λ i r. at (λ x l. IsSome x → IsSome l) (λ v u is some. refl) (λ x some. some) i r;
      ends = λ i r. at (λ x l. end_of (region_of x) ≡ end_of (region_of l)) (λ v u is. sym is.end) (λ x. refl) i r;
      bytes = λ i r y byte. at (λ x l. meaning told (region_origin (lists_in b told) (region_of l) y) ≡ Some byte
          → meaning told (region_origin (lists_in b told) (region_of x) y) ≡ Some byte)
          (λ v u is tells. ap (meaning told) (sym (region_same v u is y)) ∙ tells) (λ x tells. tells) i r;
    }

    map_bytes : MapBytes (is_told told) (is_listed b told) live → MapBytes (is_told told) (is_listed b told) w
    map_bytes bytes (Path p) = subst (ValueBytes (is_told told) (is_listed b told)) (h.paths p) (bytes (Path p))
    map_bytes bytes (Dir p) = subst (ValueBytes (is_told told) (is_listed b told)) (h.dirs p) (bytes (Dir p))
    map_bytes bytes (Inode i) = subst (ValueBytes (is_told told) (is_listed b told)) (h.inodes i) (bytes (Inode i))
    map_bytes bytes (Links i) = subst (ValueBytes (is_told told) (is_listed b told)) (h.counts i) (bytes (Links i))
    map_bytes bytes (Region i r) = at (λ x l. ValueBytes (is_told told) (is_listed b told) l → ValueBytes (is_told told) (is_listed b told) x)
        (λ v u is bytes. region_bytes v u is bytes) (λ x bytes. bytes) i r (bytes (Region i r))

pub live_none : (told : Told) (bytes : List ℕ) (t : Tree) → IsLiveTree told none_lost bytes t → IsImageOfTree told bytes t
live_none told bytes t h = record {
  rows = h.rows;
  map = h.map;
  text = h.text;
  says = h.says;
  stands = λ tx after.
      let st = h.stands tx after in
      stands_bodies h.rows.header.region told told h.live h.map (bodies h.rows.header.region told h.map h.live h.is_live) tx 0 t
      (map_bytes h.rows.header.region told h.map h.live h.is_live st.bytes) st;
}
