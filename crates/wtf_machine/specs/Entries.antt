-- Maps and sets of paths, by the entries that the machine keeps of them.
use Rattle.std.specs.Prelude.{ℕ, List, map}
use Rattle.std.specs.declared.cmp.Ordering.{Ordering}
use Rattle.std.specs.FinMap.{FinMap, from_entries}
use Rattle.std.specs.Ordering.{nat_cmp}
use Rattle.std.specs.Cmp.Lexicographic.{slice_cmp}
use Rattle.wtf_model.specs.Tree.{PathSet}

-- entries of a map, each value of which is seen as f tells
abbrev pub map_of : {K X Y : Type 0} (R : K → K → Ordering) → (X → Y) → List (K × X) → FinMap R Y
map_of R f es = from_entries (map (λ e. (e.0, f e.1)) es)

-- paths of a set, each an entry
abbrev pub set_of : List (List ℕ × Unit {0}) → PathSet
set_of es = map_of (slice_cmp nat_cmp) (λ u. u) es
