use Rattle.std.proofs.Common.{◌≡◌, ℕ, List, take}
use Rattle.wtf_imagefmt.specs.Lookups.{names_under}
use Rattle.wtf_image.specs.Tables.{table_names}
use Rattle.wtf_image.proofs.names.directories.Given as goal

abbrev pub invariant-loop-record : goal.invariant-loop-record
invariant-loop-record l = (d : List ℕ) → table_names l.dirs.entries d ≡ names_under d (take l.record-index l.paths)
