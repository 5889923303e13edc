use Rattle.std.proofs.Common.{take}
use Rattle.std.specs.List.{flat_map}
use Rattle.wtf_image.specs.Seeds.{Adds, dir_seed}
use Rattle.wtf_image.proofs.names.seed_dirs.Given as goal

abbrev pub invariant-loop-entry : goal.invariant-loop-entry
invariant-loop-entry l = Adds l.initial.kv l.kv (flat_map (dir_seed l.paths) (take l.entry-index l.paths))
