use Rattle.std.proofs.Common.{◌≡◌, ◌++◌, drop, Ok}
use Rattle.wtf_model.specs.Tree.{◌>>=◌, sources}
use Rattle.wtf_machine.proofs.workspace.Workspace.gather.Given as goal

-- what was joined, and the files that are left, are all of them
abbrev pub invariant-loop-path : goal.invariant-loop-path
invariant-loop-path l = sources l.self.tree l.paths ≡ (sources l.self.tree (drop l.path-index l.paths) >>= (λ rest. Ok (l.joined.items ++ rest)))
