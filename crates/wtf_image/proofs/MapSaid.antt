-- What holds of each region that an image says holds of all of the map.
use Rattle.std.proofs.Common.{◌≡◌, ℕ, Bool, true, false, cond, nat_le, List, Option, None, Some, refl, sym, subst}
use Rattle.std.specs.Prelude.{⊤}
use Rattle.std.specs.Option.{option_map}
use Rattle.wtf_base.specs.declared.ids.InodeId.{InodeId}
use Rattle.wtf_base.specs.declared.slice.Slice.{Slice}
use Rattle.wtf_overlay.specs.Origin.{Place}
use Rattle.wtf_values.specs.declared.region.RegionValue.{RegionValue}
use Rattle.wtf_values.specs.Names.{NamesOf}
use Rattle.wtf_values.specs.declared.key.Key.{Key}
use Rattle.wtf_values.specs.declared.key.Key.TheVariants.{Path, Dir, Inode, Region, Links}
use Rattle.wtf_values.specs.declared.value.Node.{Node}
use Rattle.wtf_values.specs.declared.value.Node.TheVariants.{Folder, File}
use Rattle.wtf_values.specs.declared.value.Value.{Value}
use Rattle.wtf_values.specs.declared.value.Value.TheVariants as value
use Rattle.wtf_meta.specs.Maps.{Map}
use Rattle.wtf_meta.specs.Bytes.{RegionBytes, ValueBytes, MapBytes}
use Rattle.wtf_image.specs.Rows.{RegionRow, ImageRows}
use Rattle.wtf_image.specs.Lookups.{Plain, NodeIs, NamesAre, LastIs, RegionIs, CountIs, plain, plain_region, names_of_node, names_under, node_at, last_at}
use Rattle.wtf_image.specs.Lookups.{region_at, times_named, count_row, row_at}

-- ---- what an image says of a key that is no region's
abbrev NoRegion : Option Plain → Type 0
NoRegion None = ⊤
NoRegion (Some (NodeIs n)) = ⊤
NoRegion (Some (NamesAre names)) = ⊤
NoRegion (Some (CountIs n)) = ⊤
NoRegion (Some (LastIs n)) = ⊤
NoRegion (Some (RegionIs end base entries)) = ⊥

node_none : (o : Option Node) → NoRegion (option_map NodeIs o)
node_none None = tt
node_none (Some n) = tt

names_none : (names : NamesOf) (o : Option Node) → NoRegion (names_of_node names o)
names_none names None = tt
names_none names (Some Folder) = tt
names_none names (Some (File i)) = tt

last_none : (o : Option ℕ) → NoRegion (option_map LastIs o)
last_none None = tt
last_none (Some n) = tt

count_none : (n : ℕ) → NoRegion (count_row n)
count_none n = elim (nat_le 2 n) as (λ b. NoRegion (cond b (Some (CountIs n)) None)) [ true ↦ tt | false ↦ tt ]

-- P and Q hold of all of a map that an image says, where they do of each region
module _ (P : List Place → Bool) (Q : Slice → Bool) where
  no_region : (v : Option Value) (o : Option Plain) → option_map plain v ≡ o → NoRegion o → ValueBytes P Q v
  no_region None o e h = tt
  no_region (Some (value.Node n)) o e h = tt
  no_region (Some (value.Names s)) o e h = tt
  no_region (Some (value.Count n)) o e h = tt
  no_region (Some (value.Last n)) o e h = tt
  no_region (Some (value.Region v)) o e h = absurd (subst NoRegion (sym e) h)

  region_value : (v : Option Value) (o : Option RegionRow) → option_map plain v ≡ option_map plain_region o →
      ((g : RegionValue) (row : RegionRow) → o ≡ Some row → plain (value.Region g) ≡ plain_region row → RegionBytes P Q g) → ValueBytes P Q v
  region_value None o e each = tt
  region_value (Some v) None e each = absurd (cc)
  region_value (Some (value.Region v)) (Some row) e each = let same : plain (value.Region v) ≡ plain_region row = cc in each v row refl same
  region_value (Some (value.Node n)) (Some row) e each = tt
  region_value (Some (value.Names s)) (Some row) e each = tt
  region_value (Some (value.Count n)) (Some row) e each = tt
  region_value (Some (value.Last n)) (Some row) e each = tt

  pub map_said : (x : ImageRows) (w : Map) → ((q : Key) → option_map plain (w q) ≡ row_at x q)
      → ((i : InodeId) (r : ℕ) (v : RegionValue) (row : RegionRow) → region_at x.files i r ≡ Some row → plain (value.Region v) ≡ plain_region row →
      RegionBytes P Q v) → MapBytes P Q w
  map_said x w is each (Path p) = no_region (w (Path p)) (row_at x (Path p)) (is (Path p)) (node_none (node_at x.paths p))
  map_said x w is each (Dir p) = no_region (w (Dir p)) (row_at x (Dir p)) (is (Dir p)) (names_none (names_under p x.paths) (node_at x.paths p))
  map_said x w is each (Inode i) = no_region (w (Inode i)) (row_at x (Inode i)) (is (Inode i)) (last_none (last_at x.files i))
  map_said x w is each (Links i) = no_region (w (Links i)) (row_at x (Links i)) (is (Links i)) (count_none (times_named x.paths i))
  map_said x w is each (Region i r) = region_value (w (Region i r)) (region_at x.files i r) (is (Region i r)) (λ v row at same. each i r v row at same)
