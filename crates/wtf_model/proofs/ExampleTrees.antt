-- The entries of the trees of the worked examples.
use Rattle.std.proofs.Common.{◌≡◌, [], ◌∷◌, codes}
use Rattle.std.specs.FinMap.{entries, entries-from_sorted}
use Rattle.std.specs.Cmp.Lexicographic.{slice_cmp}
use Rattle.std.specs.Ordering.{nat_cmp}
use Rattle.wtf_model.specs.Tree.{only_path, Dir, File}
use Rattle.wtf_model.specs.Examples.{logs_tree}

pub entries-logs : entries logs_tree ≡ (codes "/", Dir) ∷ (codes "/a", File (only_path (codes "/a")) (codes "ab")) ∷ (codes "/logs", Dir) ∷ (codes "/logs/mon", File (only_path (codes "/logs/mon")) (codes "m1m2")) ∷ (codes "/logs/tue", File (only_path (codes "/logs/tue")) (codes "t1")) ∷ []
entries-logs = entries-from_sorted (slice_cmp nat_cmp) _ tt
