use Rattle.std.proofs.Common.{take}
use Rattle.std.specs.List.{flat_map}
use Rattle.wtf_image.specs.Seeds.{Adds, path_seed}
use Rattle.wtf_image.proofs.seeding.seed_paths.Given as goal

abbrev pub invariant-loop-record : goal.invariant-loop-record
invariant-loop-record l = Adds l.initial.kv l.kv (flat_map path_seed (take l.record-index l.paths))
