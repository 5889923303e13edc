use Rattle.std.proofs.Common.{take}
use Rattle.std.specs.List.{flat_map}
use Rattle.wtf_imagefmt.specs.Rows.{file_rows}
use Rattle.wtf_image.specs.Seeds.{Adds, count_seed}
use Rattle.wtf_image.specs.Tables.{count_in}
use Rattle.wtf_image.proofs.counts.seed_counts.Given as goal

abbrev pub invariant-loop-file : goal.invariant-loop-file
invariant-loop-file l = Adds l.initial.kv l.kv (flat_map (count_seed (count_in l.counts.entries)) (take l.file-index (file_rows l.files)))
