-- Values that are the same without where they lie are the same.
use Rattle.std.proofs.Common.{◌≡◌, ℕ, List, [], ◌∷◌, get_or, Option, None, Some, refl, ap}
use Rattle.std.specs.Option.{option_map}
use mathlib.Core.HLevel.{is_prop→PathP}
use Rattle.wtf_base.specs.declared.pointer.Pointer.{Pointer}
use Rattle.wtf_base.specs.declared.slice.Slice.{Slice}
use Rattle.wtf_base.specs.declared.slice.Extents.{Extents}
use Rattle.wtf_base.specs.declared.slice.Extents.TheVariants.{One, Two, Three}
use Rattle.wtf_base.specs.Extents.{IsSound, IsSound_prop, pointer_to, pointers_to, extent_of}
use Rattle.wtf_base.specs.Slices.{pointers_of}
use Rattle.wtf_overlay.specs.declared.part.Part.{Part}
use Rattle.wtf_overlay.specs.declared.part.Part.TheVariants.{Zero, Held}
use Rattle.wtf_overlay.specs.declared.part.Entry.{Entry}
use Rattle.wtf_overlay.proofs.Clipping.{entry_eq}
use Rattle.wtf_values.specs.declared.region.RegionValue.{RegionValue}
use Rattle.wtf_values.specs.declared.region.Spill.{Spill}
use Rattle.wtf_values.specs.declared.value.Value.{Value}
use Rattle.wtf_values.specs.declared.value.Value.TheVariants as value
use Rattle.wtf_values.proofs.RegionLaws.{region_eq}
use Rattle.wtf_spillfmt.proofs.Codecs.{some_is}
use Rattle.wtf_imagefmt.specs.Rows.{BaseRow, EntryRow, part_row, entry_row, spill_row, base_row, entry_rows}
use Rattle.wtf_imagefmt.specs.Lookups.{plain}

slice_eq : (s t : Slice) → s.len ≡ t.len → s.extents ≡ t.extents → s ≡ t
slice_eq s t l e = λ i. record {
  len = l i;
  extents = e i;
  sound = is_prop→PathP (λ j. IsSound (l j) (e j)) (λ j. IsSound_prop (l j) (e j)) s.sound t.sound i;
}

-- a length and extents, by their pointers
same_extents : (m n : ℕ) (x y : Extents) → pointers_to m x ≡ pointers_to n y → (m ≡ n) × (x ≡ y)
same_extents m n (One a) (One d) h =
    let p = ap (λ (ps : List Pointer). get_or ps 0 (pointer_to m a)) h in
    (ap (λ (q : Pointer). q.len) p, ap One (ap extent_of p))
same_extents m n (Two a b) (Two d e) h =
    let p = ap (λ (ps : List Pointer). get_or ps 0 (pointer_to m a)) h in
    let q = ap (λ (ps : List Pointer). get_or ps 1 (pointer_to m a)) h in
    let first : a ≡ d = ap extent_of p in
    let second : b ≡ e = ap extent_of q in
    (ap (λ (q : Pointer). q.len) p, λ i. Two (first i) (second i))
same_extents m n (Three a b c) (Three d e f) h =
    let p = ap (λ (ps : List Pointer). get_or ps 0 (pointer_to m a)) h in
    let q = ap (λ (ps : List Pointer). get_or ps 1 (pointer_to m a)) h in
    let r = ap (λ (ps : List Pointer). get_or ps 2 (pointer_to m a)) h in
    let first : a ≡ d = ap extent_of p in
    let second : b ≡ e = ap extent_of q in
    let third : c ≡ f = ap extent_of r in
    (ap (λ (q : Pointer). q.len) p, λ i. Three (first i) (second i) (third i))
same_extents m n (One a) (Two d e) h = absurd (cc)
same_extents m n (One a) (Three d e f) h = absurd (cc)
same_extents m n (Two a b) (One d) h = absurd (cc)
same_extents m n (Two a b) (Three d e f) h = absurd (cc)
same_extents m n (Three a b c) (One d) h = absurd (cc)
same_extents m n (Three a b c) (Two d e) h = absurd (cc)

same_slice : (s t : Slice) → pointers_of s ≡ pointers_of t → s ≡ t
same_slice s t h = let both = same_extents s.len t.len s.extents t.extents h in slice_eq s t both.0 both.1

same_part : (p q : Part) → part_row p ≡ part_row q → p ≡ q
same_part Zero Zero h = refl
same_part Zero (Held t) h = absurd (cc)
same_part (Held s) Zero h = absurd (cc)
same_part (Held s) (Held t) h = ap Held (same_slice s t (some_is (pointers_of s) (pointers_of t) h))

same_entry : (e f : Entry) → entry_row e ≡ entry_row f → e ≡ f
same_entry e f h = entry_eq e f (ap (λ (r : EntryRow). r.off) h) (ap (λ (r : EntryRow). r.len) h) (same_part e.part f.part (ap (λ (r : EntryRow). r.part) h))

same_entries : (es fs : List Entry) → entry_rows es ≡ entry_rows fs → es ≡ fs
same_entries [] [] h = refl
same_entries [] (f ∷ fs) h = absurd (cc)
same_entries (e ∷ es) [] h = absurd (cc)
same_entries (e ∷ es) (f ∷ fs) h =
    let first : entry_row e ≡ entry_row f = cc in
    let others : entry_rows es ≡ entry_rows fs = cc in
    let head = same_entry e f first in
    let tail = same_entries es fs others in
    λ i. head i ∷ tail i

same_base : (a b : Option Spill) → base_row a ≡ base_row b → a ≡ b
same_base None None h = refl
same_base None (Some t) h = absurd (cc)
same_base (Some s) None h = absurd (cc)
same_base (Some s) (Some t) h =
    let row : spill_row s ≡ spill_row t = some_is (spill_row s) (spill_row t) h in
    let slice = same_slice s.slice t.slice (ap (λ (r : BaseRow). r.pointers) row) in
    let visible : s.visible ≡ t.visible = ap (λ (r : BaseRow). r.visible) row in
    λ i. Some (record { slice = slice i; visible = visible i })

same_region : (v w : RegionValue) → plain (value.Region v) ≡ plain (value.Region w) → v ≡ w
same_region v w h =
    let end : v.end ≡ w.end = cc in
    let base : base_row v.base ≡ base_row w.base = cc in
    let list : entry_rows v.list ≡ entry_rows w.list = cc in
    region_eq v w end (same_base v.base w.base base) (same_entries v.list w.list list)

pub same_value : (v w : Value) → plain v ≡ plain w → v ≡ w
same_value (value.Node n) (value.Node k) h = let is : n ≡ k = cc in ap value.Node is
same_value (value.Node n) (value.Names s) h = absurd (cc)
same_value (value.Node n) (value.Last r) h = absurd (cc)
same_value (value.Node n) (value.Region g) h = absurd (cc)
same_value (value.Node n) (value.Count c) h = absurd (cc)
same_value (value.Names s) (value.Node n) h = absurd (cc)
same_value (value.Names s) (value.Names t) h = let is : s ≡ t = cc in ap value.Names is
same_value (value.Names s) (value.Last r) h = absurd (cc)
same_value (value.Names s) (value.Region g) h = absurd (cc)
same_value (value.Names s) (value.Count c) h = absurd (cc)
same_value (value.Last r) (value.Node n) h = absurd (cc)
same_value (value.Last r) (value.Names s) h = absurd (cc)
same_value (value.Last r) (value.Last q) h = let is : r ≡ q = cc in ap value.Last is
same_value (value.Last r) (value.Region g) h = absurd (cc)
same_value (value.Last r) (value.Count c) h = absurd (cc)
same_value (value.Region v) (value.Node n) h = absurd (cc)
same_value (value.Region v) (value.Names s) h = absurd (cc)
same_value (value.Region v) (value.Last r) h = absurd (cc)
same_value (value.Region v) (value.Region w) h = ap value.Region (same_region v w h)
same_value (value.Region v) (value.Count c) h = absurd (cc)
same_value (value.Count c) (value.Node n) h = absurd (cc)
same_value (value.Count c) (value.Names s) h = absurd (cc)
same_value (value.Count c) (value.Last r) h = absurd (cc)
same_value (value.Count c) (value.Region g) h = absurd (cc)
same_value (value.Count c) (value.Count d) h = let is : c ≡ d = cc in ap value.Count is

pub same_optional : (v w : Option Value) → option_map plain v ≡ option_map plain w → v ≡ w
same_optional None None h = refl
same_optional None (Some w) h = absurd (cc)
same_optional (Some v) None h = absurd (cc)
same_optional (Some v) (Some w) h = ap (λ (x : Value). Some x) (same_value v w (some_is (plain v) (plain w) h))
