use Rattle.std.proofs.Common.{take}
use Rattle.std.specs.List.{flat_map}
use Rattle.wtf_imagefmt.specs.Rows.{file_rows}
use Rattle.wtf_image.specs.Seeds.{Adds, file_seeds}
use Rattle.wtf_image.proofs.seeding.seed_files.Given as goal

abbrev pub invariant-loop-file : goal.invariant-loop-file
invariant-loop-file l = Adds l.initial.kv l.kv (flat_map file_seeds (take l.file-index (file_rows l.files)))
