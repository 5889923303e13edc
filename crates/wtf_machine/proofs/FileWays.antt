-- Laws of a file that the machine keeps by its paths.
use Rattle.std.proofs.Common.{◌≡◌, ℕ, List, [], map, Some, sym, ap, ◌∙◌}
use Rattle.std.proofs.lemmas.List.{nil_from_length}
use Rattle.std.specs.FinMap.{get, entries, len-entries, len-empty}
use Rattle.std.specs.Ordering.{nat_cmp}
use Rattle.std.specs.Cmp.Lexicographic.{slice_cmp}
use Rattle.wtf_model.specs.declared.item.Item.{Item}
use Rattle.wtf_model.specs.Tree.{PathSet, no_paths, path_list, paths_at, paths_of, File, Tree}
use Rattle.wtf_model.specs.Done.{take_all, put_all, refiled}

-- nothing at the paths that a file had, and the file at those that it has: it has these paths and these bytes
pub refiled-by : (t mid new : Tree) (old paths seen : PathSet) (bytes : List ℕ) → mid ≡ take_all t (path_list old) → seen ≡ paths
    → new ≡ put_all (File paths bytes) mid (path_list seen) → new ≡ refiled t old paths bytes
unfolding refiled
refiled-by t mid new old paths seen bytes taken same put =
    put ∙ ap (λ (x : PathSet). put_all (File paths bytes) mid (path_list x)) same ∙ ap (λ (x : Tree). put_all (File paths bytes) x (path_list paths)) taken

no_list : path_list no_paths ≡ []
no_list = ap (map (λ e. e.0)) (nil_from_length (entries no_paths) (sym (len-entries no_paths) ∙ len-empty (slice_cmp nat_cmp) (Unit {0})))

-- an item of a file by each of its paths, and by none of what is no file
pub items-kept : (item : List ℕ → Item) (t : Tree) (p : List ℕ) (own paths : PathSet) (bytes : List ℕ) → paths ≡ own → get t p ≡ Some (File own bytes)
    → map item (path_list paths) ≡ map item (path_list (paths_at t p))
items-kept item t p own paths bytes same at = ap (λ (x : PathSet). map item (path_list x)) (same ∙ ap paths_of (sym at))

pub items-none : (item : List ℕ → Item) (t : Tree) (p : List ℕ) → paths_at t p ≡ no_paths → [] ≡ map item (path_list (paths_at t p))
items-none item t p none = sym (ap (λ (x : PathSet). map item (path_list x)) none ∙ ap (map item) no_list)
