-- What comes of putting a job's value in its region's place.
use Rattle.std.specs.Prelude.{◌≡◌, ◌⊎◌, ℕ, ◌+◌, ◌<◌, ◌≤◌}
use Rattle.wtf_kv.specs.Edits.{Agree, versions_with}
use Rattle.wtf_kv.specs.Stores.{Store, versions_of, version_of}
use Rattle.wtf_model.specs.declared.answer.Answer.{Answer}
use Rattle.wtf_model.specs.declared.answer.Answer.TheVariants as answer
use Rattle.wtf_values.specs.declared.key.Key.{Key}
use Rattle.wtf_values.specs.declared.key.Key.TheVariants.{Path, Region}
use Rattle.wtf_values.specs.declared.value.Value.{Value}
use Rattle.wtf_values.specs.Keys.{key_cmp}
use Rattle.wtf_values.specs.Outcomes.{outcome_of}
use Rattle.wtf_meta.specs.Maps.{metadata_at, with}
use Rattle.wtf_compact.specs.Jobs.{JobView, job_edits, job_keys}

-- the version now of the path of a job, and of its region
abbrev pub path_version : Store Key Value → JobView → ℕ
path_version kv job = version_of key_cmp kv kv.number (Path job.path)

abbrev pub region_version : Store Key Value → JobView → ℕ
region_version kv job = version_of key_cmp kv kv.number (Region job.target.inode job.target.region)

-- neither has moved since the base, so both are now what they were there; the next install has the job's change alone
pub record IsInPlace (job : JobView) (old new : Store Key Value) (n : ℕ) : Type 0 where
  pub path : path_version old job ≤ job.base
  pub region : region_version old job ≤ job.base
  pub agree : Agree (job_keys job) (metadata_at old job.base) (metadata_at old old.number)
  pub next : n ≡ old.number + 1
  pub number : new.number ≡ n
  pub map : metadata_at new n ≡ with (job_edits job) (metadata_at old old.number)
  pub versions : (q : Key)
      → versions_of key_cmp new q ≡ versions_with key_cmp outcome_of (job_edits job) n q (metadata_at old old.number q) (versions_of key_cmp old q)

-- one of them has moved, and nothing is installed
pub record IsStale (job : JobView) (old new : Store Key Value) (b n : ℕ) : Type 0 where
  pub moved : (job.base < path_version old job) ⊎ (job.base < region_version old job)
  pub base : b ≡ job.base
  pub now : n ≡ old.number
  pub later : b < n
  pub number : new.number ≡ old.number
  pub versions : (q : Key) → versions_of key_cmp new q ≡ versions_of key_cmp old q

abbrev pub IsJobPut : JobView → Store Key Value → Store Key Value → Answer → Type 0
IsJobPut job old new (answer.Installed n) = IsInPlace job old new n
IsJobPut job old new (answer.Stale b n) = IsStale job old new b n
IsJobPut job old new a = ⊥
