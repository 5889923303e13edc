-- The image that a stop leaves breaks no rule over the stores as they are left.
use Rattle.std.proofs.Common.{◌≡◌, ◌<◌, ◌≤◌, ◌^◌, ◌-◌, ◌&&◌, ◌∙◌, ℕ, Bool, true, cond, nat_lt, List, [], ◌∷◌, length, Option, None, Some, refl, sym}
use Rattle.std.proofs.Common.{arith, false, slice_get, ⊎_elim}
use Rattle.std.proofs.lemmas.Bool.{and_from, and_parts, lt-ltb, ltb-true}
use Rattle.std.proofs.lemmas.List.Elements.{All-cons, All-head, All-nil, All-tail}
use Rattle.std.proofs.lemmas.Option.{slice_get_cases}
use Rattle.std.specs.List.{All, list_all}
use Rattle.std.specs.Option.{option_map}
use Rattle.wtf_base.specs.declared.settings.Settings.{Settings}
use Rattle.wtf_base.specs.Slices.{len_of}
use Rattle.wtf_base.specs.declared.slice.Slice.{Slice}
use Rattle.wtf_dev.specs.Disk.{DiskContent, DiskKind}
use Rattle.wtf_journal.specs.Follows.{SyncedState, synced_kind}
use Rattle.wtf_imagefmt.specs.Lookups.{plain}
use Rattle.wtf_imagefmt.specs.Rows.{ImageRows}
use Rattle.wtf_imagefmt.specs.Saving.{Says}
use Rattle.wtf_imagefmt.specs.Shapes.{IsImage}
use Rattle.wtf_image.specs.Rules.{are_inside}
use Rattle.wtf_image.proofs.Pointing.{are_in, is_place_in, rows_inside}
use Rattle.wtf_overlay.specs.Origin.{Place, part_origin}
use Rattle.wtf_overlay.proofs.Meanings.{All-meaning}
use Rattle.wtf_overlay.specs.declared.part.Entry.{Entry}
use Rattle.wtf_overlay.specs.declared.part.Part.{Part}
use Rattle.wtf_overlay.specs.declared.part.Part.TheVariants.{Held}
use Rattle.wtf_values.specs.declared.key.Key.TheVariants.{Region}
use Rattle.wtf_values.specs.declared.region.Spill.{Spill}
use Rattle.wtf_values.specs.declared.value.Value.{Value}
use Rattle.wtf_values.specs.declared.value.Value.TheVariants as value
use Rattle.wtf_meta.specs.Bytes.{BaseBytes, EntryBytes, MapBytes, PartBytes, ValueBytes, any_slice}
use Rattle.wtf_meta.specs.Contents.{is_told}
use Rattle.wtf_meta.specs.Maps.{Map}
use Rattle.wtf_meta.proofs.Telling.{told_byte}
use Rattle.wtf_region.specs.Inside.{is_inside, is_place_inside, size_in}
use Rattle.wtf_durable.specs.Stops.{left_at, left_size}

-- ---- what follows of the places of a byte by two tests does so of all bytes
module _ (P R T : List Place → Bool) (both : (ps : List Place) → P ps ≡ true → R ps ≡ true → T ps ≡ true) (Q O : Slice → Bool) where
  part_both : (n : ℕ) (p : Part) → PartBytes P n p → PartBytes R n p → PartBytes T n p
  part_both n p one two = λ i below. both (part_origin p i) (one i below) (two i below)

  entries_both : (es : List Entry) → All (EntryBytes P) es → All (EntryBytes R) es → All (EntryBytes T) es
  entries_both [] one two = All-nil (EntryBytes T)
  entries_both (e ∷ es) one two =
      All-cons (EntryBytes T) e es (part_both e.len e.part (All-head (EntryBytes P) e es one) (All-head (EntryBytes R) e es two))
      (entries_both es (All-tail (EntryBytes P) e es one) (All-tail (EntryBytes R) e es two))

  base_both : (base : Option Spill) → BaseBytes P Q base → BaseBytes R O base → BaseBytes T any_slice base
  base_both None one two = tt
  base_both (Some s) one two = (part_both (len_of s.slice) (Held s.slice) one.0 two.0, refl)

  value_both : (v : Option Value) → ValueBytes P Q v → ValueBytes R O v → ValueBytes T any_slice v
  value_both None one two = tt
  value_both (Some (value.Node n)) one two = tt
  value_both (Some (value.Names ns)) one two = tt
  value_both (Some (value.Last r)) one two = tt
  value_both (Some (value.Count n)) one two = tt
  value_both (Some (value.Region v)) one two =
      record { base = base_both v.base one.base two.base; entries = entries_both v.list one.entries two.entries }

below_of : {X : Type 0} (xs : List X) (i : ℕ) (x : X) → slice_get xs i ≡ Some x → i < length xs
below_of xs i x e =
    ⊎_elim (λ some. some.1) (λ none. absurd (let never : Some x ≡ None = sym e ∙ none.1 in cc)) (slice_get_cases xs i).1

-- ---- a byte that lay inside the stores, and is told by those that were left, lies inside these
module _ {S : Type 0} (stores : DiskKind S) (shelf : List (SyncedState S)) (settings : Settings) (left : ℕ → DiskContent) where
  some_below : (file : ℕ) (bytes : List ℕ) (at b : ℕ) → cond (nat_lt file 8) (slice_get bytes at) None ≡ Some b → at < length bytes
  some_below file bytes at b is = below_of bytes at b (get_is (nat_lt file 8) is)
    where
      get_is : (t : Bool) → cond t (slice_get bytes at) None ≡ Some b → slice_get bytes at ≡ Some b
      get_is true e = e
      get_is false e = absurd (cc)

  shown_size : (o : Option (SyncedState S)) (f : ℕ) → size_in (synced_kind stores) o f ≤ 2 ^ 61 - 1
  shown_size None f = omega arith
  shown_size (Some s) f = omega arith

  place_left : (p : Place) (b : ℕ) → is_place_inside (synced_kind stores) shelf settings p ≡ true → left_at left p ≡ Some b
      → is_place_in settings.servers (left_size left) p ≡ true
  place_left p b inside told =
      let size : ℕ = size_in (synced_kind stores) (slice_get shelf p.server) p.file in
      let outer = and_parts (nat_lt p.server settings.servers) (nat_lt p.file 8 && nat_lt p.at size) inside in
      let inner = and_parts (nat_lt p.file 8) (nat_lt p.at size) outer.1 in
      let most = shown_size (slice_get shelf p.server) p.file in
      let here : p.at < size = ltb-true p.at size inner.1 in
      let below : p.at < length (left p.server p.file) = some_below p.file (left p.server p.file) p.at b told in
      and_from (nat_lt p.server settings.servers) (nat_lt p.file 8 && nat_lt p.at (left_size left p.server p.file)) outer.0
      (and_from (nat_lt p.file 8) (nat_lt p.at (left_size left p.server p.file)) inner.0
      (lt-ltb p.at (left_size left p.server p.file) (omega (arith, most, here, below))))

  places_left : (ps : List Place) (b : ℕ) → list_all (is_place_inside (synced_kind stores) shelf settings) ps ≡ true
      → All (λ (q : Place). left_at left q ≡ Some b) ps → are_in settings.servers (left_size left) ps ≡ true
  places_left [] b inside told = refl
  places_left (p ∷ ps) b inside told =
      let both = and_parts (is_place_inside (synced_kind stores) shelf settings p) (list_all (is_place_inside (synced_kind stores) shelf settings) ps) inside in
      and_from (is_place_in settings.servers (left_size left) p) (are_in settings.servers (left_size left) ps)
      (place_left p b both.0 (All-head (λ (q : Place). left_at left q ≡ Some b) p ps told))
      (places_left ps b both.1 (All-tail (λ (q : Place). left_at left q ≡ Some b) p ps told))

  byte_left : (ps : List Place) → is_inside (synced_kind stores) shelf settings ps ≡ true → is_told (left_at left) ps ≡ true
      → are_in settings.servers (left_size left) ps ≡ true
  byte_left ps inside told =
      let byte = told_byte (left_at left) ps told in
      places_left ps byte.0 inside (All-meaning (left_at left) ps byte.0 byte.1)

  pub image_left : (w : Map) (listed : Slice → Bool) → MapBytes (is_inside (synced_kind stores) shelf settings) any_slice w
      → MapBytes (is_told (left_at left)) listed w → (x : ImageRows) → IsImage x → Says (λ q. option_map plain (w q)) x
      → x.header.servers ≡ settings.servers → are_inside (left_size left) x ≡ true
  image_left w listed inside told =
      rows_inside settings.servers (left_size left) w
      (λ i r. value_both (is_inside (synced_kind stores) shelf settings) (is_told (left_at left)) (are_in settings.servers (left_size left)) byte_left
      any_slice listed (w (Region i r)) (inside (Region i r)) (told (Region i r)))
