-- Files of many regions: where their bytes come from. Bytes are stated as functions from offsets to places, over any lists
-- that the regions' bases decode to.
-- NSDI 2016, section 2.3 (files are cut into regions of one size, each with its own list).
use Rattle.std.specs.Prelude.{◌≡◌, ℕ, ◌+◌, ◌-◌, ◌*◌, ◌/◌, ◌%◌, ◌<◌, ◌≤◌, ◌&&◌, nat_le, nat_lt, Bool, max, min, if◌then◌else◌, List, [], Option, None}
use Rattle.wtf_overlay.specs.Origin.{Place, origin}
use Rattle.wtf_model.specs.declared.limits.TheConstants.{MAX_REGIONS}
use Rattle.wtf_values.specs.declared.region.RegionValue.{RegionValue}
use Rattle.wtf_values.specs.Regions.{or_empty}
use Rattle.wtf_meta.specs.Lists.{Lists, list_of}

-- a file: its last region, and the values of its regions
pub record FileView : Type 0 where
  pub last : ℕ
  pub region : ℕ → Option RegionValue

-- where a region ends: 0 where it is missing
abbrev pub end_of : Option RegionValue → ℕ
end_of now = (or_empty now).end

-- the places of the byte at y of a region
abbrev pub region_origin : Lists → Option RegionValue → ℕ → List Place
region_origin lists now y = origin (list_of lists (or_empty now)) y

-- the number of bytes, where a region has b
abbrev pub file_len : ℕ → FileView → ℕ
file_len b v = v.last * b + end_of (v.region v.last)

-- the places of the byte at x of a file
abbrev pub file_origin : ℕ → Lists → FileView → ℕ → List Place
file_origin b lists v x = region_origin lists (v.region (x / b)) (x % b)

-- what holds of every file: no region ends past its size, none lies above the last one, and that one has bytes unless
-- it is the first
pub record IsFile (b : ℕ) (v : FileView) : Type 0 where
  pub ends : (r : ℕ) → end_of (v.region r) ≤ b
  pub above : (r : ℕ) → v.last < r → v.region r ≡ None
  pub some : 0 < v.last → 0 < end_of (v.region v.last)
  pub few : v.last < MAX_REGIONS

-- the file without a byte
abbrev pub no_bytes : FileView
no_bytes = record { last = 0; region = λ r. None }

-- a range of n bytes from off on holds x
abbrev pub holds : ℕ → ℕ → ℕ → Bool
holds off n x = nat_le off x && nat_lt x (off + n)

-- f in a range, and g outside of it
abbrev pub laid : {A : Type 0} → ℕ → ℕ → (ℕ → A) → (ℕ → A) → ℕ → A
laid off n f g x = if holds off n x then f (x - off) else g x

-- n values of f, and then those of g
abbrev pub joined : {A : Type 0} → ℕ → (ℕ → A) → (ℕ → A) → ℕ → A
joined n f g i = if nat_lt i n then f i else g (i - n)

-- what lies below n, and holes from there on
abbrev pub cut_at : ℕ → (ℕ → List Place) → ℕ → List Place
cut_at n f x = if nat_lt x n then f x else []

-- a length, once n bytes from off on are there too; no bytes change nothing
abbrev pub grown : ℕ → ℕ → ℕ → ℕ
grown len off n = if nat_lt 0 n then max len (off + n) else len

-- where a range of n bytes from off on ends in the region that begins at t, 0 where it has no byte there
abbrev pub reach : ℕ → ℕ → ℕ → ℕ → ℕ
reach b off n t = if nat_lt (max off t) (min (off + n) (t + b)) then min (off + n) (t + b) - t else 0
