-- What a job is, and what it does to the map of files.
-- NSDI 2016, section 2.8 (lists of regions are compacted, and written into slices of their own, beside the calls of clients).
use Rattle.std.specs.Prelude.{ℕ, ◌≤◌, ◌<◌, ◌≡◌, List, [], ◌∷◌, Option, None, Some}
use Rattle.wtf_base.specs.declared.ids.InodeId.{InodeId}
use Rattle.wtf_occ.specs.Attempts.{Attempted}
use Rattle.wtf_model.specs.declared.limits.TheConstants.{MAX_REGIONS}
use Rattle.wtf_model.specs.declared.op.JobKind.{JobKind}
use Rattle.wtf_values.specs.declared.key.Key.{Key}
use Rattle.wtf_values.specs.declared.key.Key.TheVariants.{Path, Region}
use Rattle.wtf_values.specs.declared.value.Delta.{Delta}
use Rattle.wtf_values.specs.declared.region.RegionValue.{RegionValue}
use Rattle.wtf_meta.specs.Maps.{Map, Edits}
use Rattle.wtf_meta.specs.Files.{end_of}
use Rattle.wtf_meta.specs.FileEdits.{FileEdit, Put, edits_of, region_of}
use Rattle.wtf_meta.specs.Trees.{LeadsTo}
use Rattle.wtf_compact.specs.declared.target.Target.{Target}

-- the target of a job of a region of a file
abbrev pub job_target : InodeId → ℕ → JobKind → Target
job_target i r kind = record { inode = i; region = r; kind = kind }

-- the path by which it was asked for, the region that it is of, the number of installs when it was planned, and what it puts in the
-- region's place: nothing where the region had no value
pub record JobView : Type 0 where
  pub path : List ℕ
  pub target : Target
  pub base : ℕ
  pub value : Option RegionValue

-- a path leads to a file
abbrev pub IsFileAt : Map → List ℕ → Type 0
IsFileAt w p = (i : InodeId) × LeadsTo w p i

-- what a map has of a region, if anything
abbrev pub region_in_map : Map → InodeId → ℕ → Option RegionValue
region_in_map w i r = region_of (w (Region i r))

-- to a file that may have a region of this number, which ends at b at most
pub record HasRegion (b : ℕ) (w : Map) (p : List ℕ) (r : ℕ) : Type 0 where
  pub inode : InodeId
  pub leads : LeadsTo w p inode
  pub few : r < MAX_REGIONS
  pub size : end_of (region_in_map w inode r) ≤ b

abbrev pub target_region : Map → Target → Option RegionValue
target_region w t = region_in_map w t.inode t.region

-- the job is of this path, whose file it names, of this region and of this kind
pub record IsJobOf (w : Map) (p : List ℕ) (r : ℕ) (kind : JobKind) (job : JobView) : Type 0 where
  pub path : job.path ≡ p
  pub leads : LeadsTo w p job.target.inode
  pub region : job.target.region ≡ r
  pub kind_is : job.target.kind ≡ kind

abbrev pub puts : ℕ → Option RegionValue → List FileEdit
puts r None = []
puts r (Some x) = Put r x ∷ []

-- its one change: the region's value is set; none where it puts nothing
abbrev pub job_edits : JobView → Edits
job_edits job = edits_of job.target.inode (puts job.target.region job.value)

-- the keys that may not move before it is put
abbrev pub job_keys : JobView → List Key
job_keys job = Path job.path ∷ Region job.target.inode job.target.region ∷ []

-- the attempt by which it is put
abbrev pub attempt_of : JobView → Attempted Key Delta
attempt_of job = record { base = job.base; reads = job_keys job; changes = job_edits job }
