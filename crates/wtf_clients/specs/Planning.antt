-- Whether a job may be of a region, by the map alone.
use Rattle.std.specs.Prelude.{ℕ, ◌&&◌, nat_le, nat_lt, Bool, List, if◌then◌else◌, Option, None, Some}
use Rattle.wtf_base.specs.declared.ids.InodeId.{InodeId}
use Rattle.wtf_model.specs.declared.limits.TheConstants.{MAX_REGIONS}
use Rattle.wtf_model.specs.declared.answer.Answer.{Answer}
use Rattle.wtf_model.specs.declared.answer.Answer.TheVariants.{Planned, Refused}
use Rattle.wtf_model.specs.declared.answer.Word.{Word}
use Rattle.wtf_model.specs.declared.answer.Word.TheVariants.{NoEnt, IsDir, NoRegion}
use Rattle.wtf_values.specs.declared.value.Node.{Node}
use Rattle.wtf_values.specs.declared.value.Node.TheVariants.{Folder, File}
use Rattle.wtf_meta.specs.FileEdits.{file_of}
use Rattle.wtf_meta.specs.Files.{end_of}
use Rattle.wtf_meta.specs.Maps.{Map}
use Rattle.wtf_index.specs.Checks.{stands_at}
use Rattle.wtf_compact.specs.Jobs.{region_in_map}

-- Region r is one of the file, where a region has `size` bytes. Of a file of a tree that is said by its last region alone.
abbrev pub has_region : ℕ → Map → InodeId → ℕ → Bool
has_region size w i r = nat_le r (file_of i w).last && (nat_lt r MAX_REGIONS && nat_le (end_of (region_in_map w i r)) size)

-- why no job may be of region r, by what stands at the path
abbrev pub refusal_at : ℕ → Map → ℕ → Option Node → Option Word
refusal_at size w r None = Some NoEnt
refusal_at size w r (Some Folder) = Some IsDir
refusal_at size w r (Some (File i)) = if has_region size w i r then None else Some NoRegion

-- and of the file at path p
abbrev pub refusal_of : ℕ → Map → List ℕ → ℕ → Option Word
refusal_of size w p r = refusal_at size w r (stands_at w p)

-- and so it is answered
abbrev pub plan_answer : Option Word → Answer
plan_answer None = Planned
plan_answer (Some w) = Refused w
