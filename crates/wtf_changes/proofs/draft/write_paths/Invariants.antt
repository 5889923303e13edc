use Rattle.std.proofs.Common.{◌≡◌, ◌++◌, length, map}
use Rattle.wtf_changes.specs.Drafts.{path_written}
use Rattle.wtf_changes.proofs.draft.write_paths.Given as goal

-- the rows so far and those of what is left are those of the map
abbrev pub invariant-loop-path : goal.invariant-loop-path
invariant-loop-path l = l.made.items ++ map path_written l.rest ≡ map path_written l.paths.entries

abbrev pub decreases-loop-path : goal.decreases-loop-path
decreases-loop-path l = length l.rest
