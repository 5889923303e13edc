use Rattle.std.proofs.Common.{◌≡◌, ℕ, List, ◌++◌, length}
use Rattle.wtf_machine.specs.Entries.{set_of}
use Rattle.wtf_machine.proofs.file_paths.FilePaths.copy.Given as goal

-- what was taken from the back is copied already
abbrev pub invariant-loop-path : goal.invariant-loop-path
invariant-loop-path l = (done : List (List ℕ × Unit {0})) × (l.self-inside.paths.entries ≡ l.rest ++ done) × (l.copied ≡ set_of done)

abbrev pub decreases-loop-path : goal.decreases-loop-path
decreases-loop-path l = length l.rest
