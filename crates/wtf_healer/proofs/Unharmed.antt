-- Where no server is lost the tree of an image is what is left of it.
use Rattle.std.proofs.Common.{◌≡◌, ℕ, ◌<◌, true, false, nat_lt, List, [], ◌∷◌, length, Option, None, Some, refl, sym, ap, subst, arith}
use Rattle.std.specs.Prelude.{IsSome}
use Rattle.std.specs.List.{All}
use Rattle.std.proofs.lemmas.Bool.{and_from, or_from, le-ltb, lt-ltb}
use Rattle.std.proofs.lemmas.List.Elements.{All-nil, All-head, All-tail, All-weaker, All-append}
use Rattle.wtf_base.specs.declared.pointer.Pointer.{Pointer}
use Rattle.wtf_base.specs.Slices.{pointers_of}
use Rattle.wtf_base.specs.Places.{Place, places_of}
use Rattle.wtf_model.specs.Tree.{Tree}
use Rattle.wtf_overlay.specs.declared.part.Entry.{Entry}
use Rattle.wtf_overlay.specs.declared.part.Part.{Part}
use Rattle.wtf_overlay.specs.declared.part.Part.TheVariants.{Zero, Held}
use Rattle.wtf_overlay.specs.Clips.{clip_list}
use Rattle.wtf_overlay.specs.Meaning.{meaning}
use Rattle.wtf_overlay.specs.Origin.{part_origin}
use Rattle.wtf_overlay.proofs.Meanings.{All-meaning}
use Rattle.wtf_values.specs.declared.key.Key.TheVariants.{Path, Dir, Inode, Region, Links}
use Rattle.wtf_values.specs.declared.region.RegionValue.{RegionValue}
use Rattle.wtf_values.specs.declared.region.Spill.{Spill}
use Rattle.wtf_values.specs.declared.value.Value.{Value}
use Rattle.wtf_values.specs.declared.value.Value.TheVariants as value
use Rattle.wtf_values.specs.Bases.{IsBelow-none}
use Rattle.wtf_meta.specs.Bytes.{EntryBytes, BaseBytes, RegionBytes, ValueBytes, MapBytes}
use Rattle.wtf_meta.specs.Contents.{Told, is_told, is_listed, lists_in}
use Rattle.wtf_meta.specs.Files.{end_of, region_origin}
use Rattle.wtf_meta.specs.FileEdits.{IsRegion, region_of}
use Rattle.wtf_meta.specs.Lists.{seen_list, list_of, or_none}
use Rattle.wtf_meta.specs.Maps.{Map}
use Rattle.wtf_meta.proofs.BaseLists.{list_within}
use Rattle.wtf_meta.proofs.ListTests.{has_list}
use Rattle.wtf_meta.proofs.Telling.{told_byte}
use Rattle.wtf_image.specs.Pictured.{IsImageOfTree}
use Rattle.wtf_image.specs.Rules.{none_lost}
use Rattle.wtf_region.proofs.ListReads.{some_bytes}
use Rattle.wtf_healer.specs.Live.{AreLeft, IsLeftBase, IsLiveRegion, IsLiveValue, IsLiveMap, IsLiveTree}
use Rattle.wtf_healer.specs.Sparse.{has_lost, is_sparse_part, has_sparse}
use Rattle.wtf_healer.proofs.Frame.{SameBodies, stands_bodies}
use Rattle.wtf_healer.proofs.Shortening.{clipped}
use Rattle.wtf_healer.proofs.Unlost.{are_filed, left_itself, slice_itself}

-- ---- nothing is sparse

none_has : (ps : List Pointer) → has_lost none_lost ps ≡ false
none_has [] = refl
none_has (p ∷ ps) = none_has ps

part_clear : (p : Part) → is_sparse_part none_lost 0 p ≡ false
part_clear Zero = refl
part_clear (Held s) =
    or_from (nat_lt (length (pointers_of s)) 0) (has_lost none_lost (pointers_of s)) (le-ltb (length (pointers_of s)) 0 (omega arith))
    (none_has (pointers_of s))

list_clear : (es : List Entry) → has_sparse none_lost 0 es ≡ false
list_clear [] = refl
list_clear (e ∷ es) = or_from (is_sparse_part none_lost 0 e.part) (has_sparse none_lost 0 es) (part_clear e.part) (list_clear es)

-- the stores tell no byte of a file that is none of the eight
module _ (b : ℕ) (told : Told) (within : (p : Place) (byte : ℕ) → told p ≡ Some byte → p.file < 8) where
  all_filed : (qs : List Place) → All (λ (q : Place). q.file < 8) qs → are_filed qs ≡ true
  all_filed [] h = refl
  all_filed (q ∷ qs) h =
      and_from (nat_lt q.file 8) (are_filed qs) (lt-ltb q.file 8 (All-head (λ (q : Place). q.file < 8) q qs h))
      (all_filed qs (All-tail (λ (q : Place). q.file < 8) q qs h))

  told_filed : (qs : List Place) → is_told told qs ≡ true → are_filed qs ≡ true
  told_filed qs h =
      let tells = told_byte told qs h in
      all_filed qs (All-weaker (λ (q : Place). told q ≡ Some tells.0) (λ (q : Place). q.file < 8) (λ q. within q tells.0) qs
      (All-meaning told qs tells.0 tells.1))

  list_itself : (es : List Entry) → All (EntryBytes (is_told told)) es → AreLeft none_lost es es
  list_itself es h = left_itself none_lost 0 es (list_clear es)
      (All-weaker (EntryBytes (is_told told)) (EntryBytes are_filed) (λ (e : Entry) k i below. told_filed (part_origin e.part i) (k i below)) es h)

  -- a region with the list of its base among its entries
  abbrev read : RegionValue → RegionValue
  read v = record { end = v.end; base = None; list = list_of (lists_in b told) v; within = list_within (lists_in b told) v; below = IsBelow-none v.end }

  base_itself : (base : Option Spill) → BaseBytes (is_told told) (is_listed b told) base → IsLeftBase b told none_lost base (seen_list (lists_in b told) base)
  base_itself None h = refl
  base_itself (Some s) h =
      let list = has_list (is_told told) (lists_in b told s.slice) h.1 in (
        list.0,
        record {
          slice = s.slice;
          left = slice_itself none_lost 0 s.slice (part_clear (Held s.slice)) (told_filed (places_of s.slice 0) (h.0 0 (some_bytes s.slice)));
          list = list.0;
          decodes = list.1;
          entries = list_itself list.0 list.2;
          bytes = list.2;
        },
        ap (λ o. clip_list s.visible (or_none o)) list.1,
      )

  region_itself : (v : RegionValue) → RegionBytes (is_told told) (is_listed b told) v → IsLiveRegion b told none_lost v (read v)
  region_itself v h = record {
    end = refl;
    base = refl;
    under = seen_list (lists_in b told) v.base;
    base_is = base_itself v.base h.base;
    top = v.list;
    top_is = list_itself v.list h.entries;
    list = refl;
  }

  seen_bytes : (base : Option Spill) → BaseBytes (is_told told) (is_listed b told) base → All (EntryBytes (is_told told)) (seen_list (lists_in b told) base)
  seen_bytes None h = All-nil (EntryBytes (is_told told))
  seen_bytes (Some s) h =
      let list = has_list (is_told told) (lists_in b told s.slice) h.1 in
      subst (λ o. All (EntryBytes (is_told told)) (clip_list s.visible (or_none o))) (sym list.1) (clipped (is_told told) s.visible list.0 list.2)

  read_bytes : (v : RegionValue) → RegionBytes (is_told told) (is_listed b told) v → RegionBytes (is_told told) (is_listed b told) (read v)
  read_bytes v h = record {
    base = tt;
    entries = All-append (EntryBytes (is_told told)) (seen_list (lists_in b told) v.base) v.list (seen_bytes v.base h.base) h.entries;
  }

  -- ---- values

  abbrev read_value : Option Value → Option Value
  read_value None = None
  read_value (Some (value.Node n)) = Some (value.Node n)
  read_value (Some (value.Names ns)) = Some (value.Names ns)
  read_value (Some (value.Count n)) = Some (value.Count n)
  read_value (Some (value.Last n)) = Some (value.Last n)
  read_value (Some (value.Region v)) = Some (value.Region (read v))

  abbrev Bytes : Option Value → Type 0
  Bytes o = ValueBytes (is_told told) (is_listed b told) o

  value_left : (o : Option Value) → Bytes o → IsLiveValue b told none_lost o (read_value o)
  value_left None h = refl
  value_left (Some (value.Node n)) h = refl
  value_left (Some (value.Names ns)) h = refl
  value_left (Some (value.Count n)) h = refl
  value_left (Some (value.Last n)) h = refl
  value_left (Some (value.Region v)) h = region_itself v h

  value_bytes : (o : Option Value) → Bytes o → Bytes (read_value o)
  value_bytes None h = h
  value_bytes (Some (value.Node n)) h = h
  value_bytes (Some (value.Names ns)) h = h
  value_bytes (Some (value.Count n)) h = h
  value_bytes (Some (value.Last n)) h = h
  value_bytes (Some (value.Region v)) h = read_bytes v h

  -- what holds of a region and itself once it is read, and of each other value and itself, holds of each value
  cases : (P : Option Value → Option Value → Type 0) → ((v : RegionValue) → P (Some (value.Region v)) (Some (value.Region (read v))))
      → ((o : Option Value) → P o o)
      → (o : Option Value) → P o (read_value o)
  cases P region other None = other None
  cases P region other (Some (value.Node n)) = other (Some (value.Node n))
  cases P region other (Some (value.Names ns)) = other (Some (value.Names ns))
  cases P region other (Some (value.Count n)) = other (Some (value.Count n))
  cases P region other (Some (value.Last n)) = other (Some (value.Last n))
  cases P region other (Some (value.Region v)) = region v

  -- ---- a map

  module _ (w : Map) where
    abbrev live : Map
    live (Path p) = w (Path p)
    live (Dir p) = w (Dir p)
    live (Inode i) = w (Inode i)
    live (Links i) = w (Links i)
    live (Region i r) = read_value (w (Region i r))

    map_left : MapBytes (is_told told) (is_listed b told) w → IsLiveMap b told none_lost w live
    map_left h = record {
      paths = λ p. refl;
      dirs = λ p. refl;
      inodes = λ i. refl;
      counts = λ i. refl;
      regions = λ i r. value_left (w (Region i r)) (h (Region i r));
    }

    bodies : SameBodies b told told w live
    bodies = record {
      paths = λ p. refl;
      dirs = λ p. refl;
      inodes = λ i. refl;
      counts = λ i. refl;
      kinds = λ i r. cases (λ x l. IsRegion x → IsRegion l) (λ v k. tt) (λ o k. k) (w (Region i r));
      none = λ i r. cases (λ x l. region_of x ≡ None → region_of l ≡ None) (λ v no. absurd (cc)) (λ o no. no) (w (Region i r));
      there = λ i r. cases (λ x l. IsSome l → IsSome x) (λ v some. refl) (λ o some. some) (w (Region i r));
      ends = λ i r. cases (λ x l. end_of (region_of l) ≡ end_of (region_of x)) (λ v. refl) (λ o. refl) (w (Region i r));
      bytes = λ i r y byte. cases (λ x l. meaning told (region_origin (lists_in b told) (region_of x) y) ≡ Some byte
          → meaning told (region_origin (lists_in b told) (region_of l) y) ≡ Some byte) (λ v tells. tells) (λ o tells. tells) (w (Region i r));
    }

    map_bytes : MapBytes (is_told told) (is_listed b told) w → MapBytes (is_told told) (is_listed b told) live
    map_bytes h (Path p) = h (Path p)
    map_bytes h (Dir p) = h (Dir p)
    map_bytes h (Inode i) = h (Inode i)
    map_bytes h (Links i) = h (Links i)
    map_bytes h (Region i r) = value_bytes (w (Region i r)) (h (Region i r))

pub all_live : (told : Told) (bytes : List ℕ) (t : Tree) → ((p : Place) (byte : ℕ) → told p ≡ Some byte → p.file < 8) → IsImageOfTree told bytes t
    → IsLiveTree told none_lost bytes t
all_live told bytes t within h =
    let b : ℕ = h.rows.header.region in
    record {
      rows = h.rows;
      map = h.map;
      live = live b told within h.map;
      text = h.text;
      says = h.says;
      is_live = map_left b told within h.map (h.stands h.rows.header.next_tx (omega arith)).bytes;
      stands = λ tx after.
          let st = h.stands tx after in
          stands_bodies b told told h.map (live b told within h.map) (bodies b told within h.map) tx 0 t (map_bytes b told within h.map st.bytes) st;
    }
