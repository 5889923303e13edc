-- Adding bytes at the end of a file.
-- NSDI 2016, section 2.3 (an append adds an entry at the region's end, where it fits).
use Rattle.std.specs.Prelude.{◌≡◌, ℕ, zero, suc, ◌+◌, ◌-◌, ◌*◌, ◌/◌, ◌<◌, nat_le, nat_lt, nat_eq, if◌then◌else◌, true, List, [], ◌∷◌, map, ⊤}
use Rattle.wtf_base.specs.declared.ids.InodeId.{InodeId}
use Rattle.wtf_overlay.specs.Origin.{Place}
use Rattle.wtf_model.specs.declared.limits.TheConstants.{MAX_REGIONS}
use Rattle.wtf_values.specs.declared.key.Key.{Key}
use Rattle.wtf_values.specs.declared.key.Key.TheVariants as key
use Rattle.wtf_meta.specs.Lists.{Lists}
use Rattle.wtf_meta.specs.Files.{FileView, IsFile, end_of, file_len, file_origin, laid}
use Rattle.wtf_meta.specs.FileEdits.{FileEdit, after, all_fit}

-- what is recorded of a file: its last region's number, or a region's value
pub data FileKey : Type 0 where
  OfLast : FileKey
  OfRegion : (r : ℕ) → FileKey

abbrev pub key_of : InodeId → FileKey → Key
key_of i OfLast = key.Inode i
key_of i (OfRegion r) = key.Region i r

abbrev pub keys_of : InodeId → List FileKey → List Key
keys_of i ks = map (key_of i) ks

-- two files have the same there
abbrev pub AgreeAt : FileKey → FileView → FileView → Type 0
AgreeAt OfLast v w = v.last ≡ w.last
AgreeAt (OfRegion r) v w = v.region r ≡ w.region r

abbrev pub AgreeOn : List FileKey → FileView → FileView → Type 0
AgreeOn [] v w = ⊤
AgreeOn (k ∷ ks) v w = AgreeAt k v w × AgreeOn ks v w

-- what tells a file's length
abbrev pub length_keys : FileView → List FileKey
length_keys v = OfLast ∷ OfRegion v.last ∷ []

-- what an append of n bytes records: nothing for no bytes, and the last region only where they do not fit there
abbrev pub append_keys : ℕ → FileView → ℕ → List FileKey
append_keys b v n =
    if nat_eq n 0 then []
    else (if nat_le (end_of (v.region v.last) + n) b then OfLast ∷ [] else length_keys v)

-- n numbers from a on
abbrev pub count_from : ℕ → ℕ → List ℕ
count_from a zero = []
count_from a (suc n) = a ∷ count_from (a + 1) n

-- the regions, of b bytes each, in which n bytes from off on lie
abbrev pub touched : ℕ → ℕ → ℕ → List ℕ
touched b off n = if nat_lt 0 n then count_from (off / b) ((off + n - 1) / b + 1 - off / b) else []

abbrev pub region_keys : List ℕ → List FileKey
region_keys rs = map (λ r. OfRegion r) rs

-- n bytes, whose places f tells, were added at a file's end
pub record AddedTo (b : ℕ) (ds : List FileEdit) (n : ℕ) (f : ℕ → List Place) (v : FileView) : Type 0 where
  pub keeps : IsFile b (after ds v)
  pub len : file_len b (after ds v) ≡ file_len b v + n
  pub origin : (lists : Lists) (x : ℕ) → file_origin b lists (after ds v) x ≡ laid (file_len b v) n f (file_origin b lists v) x

-- whatever file the changes meet that agrees with the one that was read on the recorded keys, and on which they fit,
-- they add these bytes at its own end
pub record Appends (b : ℕ) (read : FileView) (keys : List FileKey) (ds : List FileEdit) (n : ℕ) (f : ℕ → List Place) : Type 0 where
  pub fit : all_fit ds read ≡ true
  pub each : (v : FileView) → IsFile b v → AgreeOn keys read v → all_fit ds v ≡ true → AddedTo b ds n f v

-- no file that agrees has room for n bytes more
pub record HasNoRoom (b : ℕ) (read : FileView) (keys : List FileKey) (n : ℕ) : Type 0 where
  pub each : (v : FileView) → IsFile b v → AgreeOn keys read v → MAX_REGIONS * b < file_len b v + n
