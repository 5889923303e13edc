use Rattle.std.proofs.Common.{◌≡◌, take}
use Rattle.wtf_model.proofs.copies.copy_paths.Given as goal

-- the paths so far are copied
abbrev pub invariant-loop-path : goal.invariant-loop-path
invariant-loop-path l = l.copied.items ≡ take l.path-index l.paths
