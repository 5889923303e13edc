-- The points of the ring, and where it places a region. Slices are placed by consistent hashing (NSDI 2016, section 2,
-- locality-aware slice placement); SHA-256 is that of FIPS 180-4.
use Rattle.std.specs.Prelude.{ℕ, ◌+◌, ◌%◌, ◌==◌, ◌++◌, nat_lt, if◌then◌else◌, List, [], ◌∷◌, map, take, drop, slice_index, codes, decimal, IsPermutation, IsSorted}
use Rattle.std.specs.List.{flat_map, list_any, range_with_len}
use Rattle.std.specs.Int.{w64, from_be_bytes}
use Rattle.std.specs.Ordering.{nat_cmp, ordering_then}
use Rattle.std.specs.declared.cmp.Ordering.{Ordering}
use Rattle.sha2.specs.Sha256.{sha256}
use Rattle.wtf_base.specs.declared.ids.InodeId.{InodeId}
use Rattle.wtf_ring.specs.declared.point.Point.{Point}

-- the first 8 bytes of a digest, as a big-endian number
abbrev pub head_of : List ℕ → ℕ
head_of digest = from_be_bytes w64 (take 8 digest)

-- virtual node v of server k stands at the head of the digest of the text `k/v`
abbrev pub point_of : ℕ → ℕ → Point
point_of k v = record { at = head_of (sha256 (decimal k ++ codes "/" ++ decimal v)); server = k; node = v }

-- the 16 points of each of n servers
abbrev pub points_of : ℕ → List Point
points_of n = flat_map (λ k. map (point_of k) (range_with_len 0 16)) (range_with_len 0 n)

-- points are ordered by number, then by server, then by virtual node
abbrev pub point_cmp : Point → Point → Ordering
point_cmp p q = ordering_then (nat_cmp p.at q.at) (ordering_then (nat_cmp p.server q.server) (nat_cmp p.node q.node))

-- the points of n servers in the order of the ring
pub record IsRing (n : ℕ) (points : List Point) : Type 0 where
  pub all : IsPermutation (points_of n) points
  pub sorted : IsSorted point_cmp points

-- a ring: how many servers it has, and their points in order
pub record RingView : Type 0 where
  pub servers : ℕ
  pub points : List Point

-- how many points lie below a position
abbrev pub below : ℕ → List Point → ℕ
below position [] = 0
below position (p ∷ ps) = (if nat_lt p.at position then 1 else 0) + below position ps

-- the points round the ring, from the first one at the position or above it; where there is none, from the first of all
abbrev pub around : ℕ → List Point → List Point
around position points = drop (below position points) points ++ take (below position points) points

-- each server where it is first met, behind those that were met before
abbrev pub met_after : List ℕ → List ℕ → List ℕ
met_after met [] = met
met_after met (k ∷ ks) = met_after (if list_any (λ j. j == k) met then met else met ++ k ∷ []) ks

-- the servers round the ring from a position, each once
abbrev pub order_from : ℕ → List Point → List ℕ
order_from position points = met_after [] (map (λ (p : Point). p.server) (around position points))

-- a region of a file has the digest of the text `T.I/R`: its inode's transaction and index, and its number
abbrev pub region_digest : InodeId → ℕ → List ℕ
region_digest inode region = sha256 (decimal inode.tx.0 ++ codes "." ++ decimal inode.index ++ codes "/" ++ decimal region)

-- where slices go: the servers in the order in which they are tried, and the backing file on each of them
pub record PlaceView : Type 0 where
  pub servers : List ℕ
  pub file : ℕ

-- the place of a region: from the head of its digest on, and in the file that its ninth byte names
abbrev pub place_of : List Point → InodeId → ℕ → PlaceView
place_of points inode region = record {
  servers = order_from (head_of (region_digest inode region)) points;
  file = slice_index (region_digest inode region) 8 % 8;
}
