-- Laws of maps whose entries are kept in the order of their keys: the map has these entries, in that order.
use Rattle.std.proofs.Common.{
  ◌≡◌,
  ℕ,
  Bool,
  true,
  false,
  cond,
  List,
  [],
  ◌∷◌,
  ◌++◌,
  map,
  length,
  Option,
  Some,
  IsTrue,
  ◌↔◌,
  refl,
  sym,
  ap,
  ◌∙◌,
  append_assoc,
  append-nil,
}
use Rattle.std.proofs.lemmas.List.{nil_from_length, length-map}
use Rattle.std.proofs.lemmas.Map.Keys.{sorted_head, sorted_tail}
use Rattle.std.proofs.lemmas.Map.Text.{is_eq-slice_cmp}
use Rattle.std.specs.declared.cmp.Ordering.{Ordering}
use Rattle.std.specs.declared.cmp.Ordering.TheVariants.{Less}
use Rattle.std.specs.Ordering.{nat_cmp, eq_by_cmp}
use Rattle.std.specs.Cmp.{IsTotalOrder, eq_by_cmp_equiv}
use Rattle.std.specs.Cmp.Lexicographic.{slice_cmp, nat_list_cmp_total}
use Rattle.std.specs.Str.{bytes_eq}
use Rattle.std.specs.List.{AllByRecursion, filter}
use Rattle.std.specs.List.Sorted.{IsStrictlySortedBy}
use Rattle.std.specs.Map.{keys_of}
use Rattle.std.specs.FinMap.{entries, empty, values, keys, get, len-empty, len-entries, entries-insert, get-from_entries}
use Rattle.std.specs.FinMap.Entries.{put, by_order, find}
use Rattle.wtf_path.specs.Parts.{name_of}
use Rattle.wtf_model.specs.declared.lists.Row.{Row}
use Rattle.wtf_model.specs.declared.item.Item.{Item}
use Rattle.wtf_machine.specs.declared.path_map.PathNode.{PathNode}
use Rattle.wtf_machine.specs.Entries.{map_of, set_of}
use Rattle.wtf_machine.specs.Maps.{node_of, tree_of}
use Rattle.wtf_model.specs.Tree.{PathSet, path_list, path_count, Tree, TreeNode, Dir, is_in, paths_in, names_in, rows_of, shown_row}

-- entries with each value as f tells
abbrev pub seen : {K X Y : Type 0} → (X → Y) → List (K × X) → List (K × Y)
seen f es = map (λ e. (e.0, f e.1)) es

module _ {K X Y : Type 0} {R : K → K → Ordering} (o : IsTotalOrder R) (f : X → Y) where
  -- a key below the first one goes in front
  put_front : (k : K) (v : Y) (es : List (K × X)) → AllByRecursion (λ y. R k y ≡ Less) (keys_of es) → put R k v (seen f es) ≡ (k, v) ∷ seen f es
  put_front k v [] below = refl
  put_front k v (e ∷ es) below = ap (λ r. by_order r ((k, v) ∷ seen f (e ∷ es)) ((e.0, v) ∷ seen f es) ((e.0, f e.1) ∷ put R k v (seen f es))) below.0

  no_entries : entries (empty {X = Y} {R = R}) ≡ []
  no_entries = nil_from_length _ (sym (len-entries (empty {X = Y} {R = R})) ∙ len-empty R Y)

  pub entries-map_of : (es : List (K × X)) → IsStrictlySortedBy R (keys_of es) → entries (map_of R f es) ≡ seen f es
  entries-map_of [] ordered = no_entries
  entries-map_of (e ∷ es) ordered =
      entries-insert o (map_of R f es) e.0 (f e.1)
      ∙ ap (put R e.0 (f e.1)) (entries-map_of es (sorted_tail R e.0 (keys_of es) ordered))
      ∙ put_front e.0 (f e.1) es (sorted_head R e.0 (keys_of es) ordered)

  map_values : (es : List (K × X)) → map (λ e. e.1) (seen f es) ≡ map (λ e. f e.1) es
  map_values [] = refl
  map_values (e ∷ es) = ap (λ vs. f e.1 ∷ vs) (map_values es)

  -- the values of such a map, in the order of its keys
  pub values-map_of : (es : List (K × X)) → IsStrictlySortedBy R (keys_of es) → values (map_of R f es) ≡ map (λ e. f e.1) es
  values-map_of es ordered = ap (map (λ e. e.1)) (entries-map_of es ordered) ∙ map_values es

  map_keys : (es : List (K × X)) → map (λ e. e.0) (seen f es) ≡ map (λ e. e.0) es
  map_keys [] = refl
  map_keys (e ∷ es) = ap (λ ks. e.0 ∷ ks) (map_keys es)

  -- its keys, in their order
  pub keys-map_of : (es : List (K × X)) → IsStrictlySortedBy R (keys_of es) → keys (map_of R f es) ≡ map (λ e. e.0) es
  keys-map_of es ordered = ap (map (λ e. e.0)) (entries-map_of es ordered) ∙ map_keys es

-- of sets of paths

-- the paths that are left, and those that were reached from the back, are those of a set
pub paths-set : (rest es : List (List ℕ × Unit {0})) (s : PathSet) → rest ≡ es → set_of es ≡ s → IsStrictlySortedBy (slice_cmp nat_cmp) (keys_of es)
    → path_list s ≡ map (λ e. e.0) rest
paths-set rest es s all is ordered =
    ap (λ (x : PathSet). path_list x) (sym is) ∙ keys-map_of nat_list_cmp_total (λ u. u) es ordered ∙ ap (map (λ e. e.0)) (sym all)

pub all-left : (ps : List (List ℕ)) (rest es : List (List ℕ × Unit {0})) (s : PathSet) → rest ≡ es → set_of es ≡ s
    → IsStrictlySortedBy (slice_cmp nat_cmp) (keys_of es) → ps ≡ path_list s
    → ps ≡ map (λ e. e.0) rest ++ []
all-left ps rest es s all is ordered same = same ∙ paths-set rest es s all is ordered ∙ sym (append-nil (map (λ e. e.0) rest))

module _ (item : List ℕ → Item) where
  -- an item of each of them, behind none
  pub items-set : (rest es : List (List ℕ × Unit {0})) (s : PathSet) (items : List Item) → rest ≡ es → set_of es ≡ s
      → IsStrictlySortedBy (slice_cmp nat_cmp) (keys_of es) → items ≡ []
      → items ++ map (λ e. item e.0) rest ≡ map item (path_list s)
  items-set rest es s items all is ordered none =
      ap (λ l. l ++ map (λ e. item e.0) rest) none ∙ sym (map_twice rest) ∙ ap (map item) (sym (paths-set rest es s all is ordered))
    where
      map_twice : (es : List (List ℕ × Unit {0})) → map item (map (λ e. e.0) es) ≡ map (λ e. item e.0) es
      map_twice [] = refl
      map_twice (e ∷ es) = ap (λ l. item e.0 ∷ l) (map_twice es)

  -- one more item is behind those so far
  pub items-more : (made next : List Item) (left rest : List (List ℕ × Unit {0})) (p : List ℕ) (u : Unit {0}) (q : List ℕ) (all : List Item)
      → left ≡ (p, u) ∷ rest → q ≡ p → next ≡ made ++ item q ∷ []
      → made ++ map (λ e. item e.0) left ≡ all → next ++ map (λ e. item e.0) rest ≡ all
  items-more made next left rest p u q all front same end so_far =
      ap (λ l. l ++ map (λ e. item e.0) rest) end ∙ append_assoc made (item q ∷ []) (map (λ e. item e.0) rest)
      ∙ ap (λ r. made ++ item r ∷ map (λ e. item e.0) rest) same ∙ ap (λ es. made ++ map (λ e. item e.0) es) (sym front) ∙ so_far

-- how many they are
pub count-set : (es : List (List ℕ × Unit {0})) (s : PathSet) → set_of es ≡ s → IsStrictlySortedBy (slice_cmp nat_cmp) (keys_of es) → length es ≡ path_count s
count-set es s is ordered =
    sym (length-map es (λ e. (e.0, e.1))) ∙ ap length (sym (entries-map_of nat_list_cmp_total (λ u. u) es ordered)) ∙ sym (len-entries (set_of es))
    ∙ ap (λ (x : PathSet). path_count x) is

-- the last one that is left is reached
pub last-left : (ps : List (List ℕ)) (rest left : List (List ℕ × Unit {0})) (p : List ℕ) (u : Unit {0}) (done : List (List ℕ))
    → ps ≡ map (λ e. e.0) rest ++ done → rest ≡ left ++ (p, u) ∷ []
    → ps ≡ map (λ e. e.0) left ++ p ∷ done
last-left ps rest left p u done is more =
    is ∙ ap (λ es. map (λ e. e.0) es ++ done) more
    ∙ ap (λ x. x ++ done) (map_pairs left) ∙ append_assoc (map (λ e. e.0) left) (p ∷ []) done
  where
    map_pairs : (es : List (List ℕ × Unit {0})) → map (λ e. e.0) (es ++ (p, u) ∷ []) ≡ map (λ e. e.0) es ++ p ∷ []
    map_pairs [] = refl
    map_pairs (e ∷ es) = ap (λ x. e.0 ∷ x) (map_pairs es)

-- of trees, whose entries were all left when a walk began

module _ (rest es : List (List ℕ × PathNode)) (t : Tree) (all : rest ≡ es) (is : tree_of es ≡ t) where
  -- a search through them finds what stands at a path
  pub find-tree : (p : List ℕ) → find (slice_cmp nat_cmp) p (seen node_of rest) ≡ get t p
  find-tree p = ap (λ es. find (slice_cmp nat_cmp) p (seen node_of es)) all ∙ sym (get-from_entries nat_list_cmp_total (seen node_of es) p)
      ∙ ap (λ (t : Tree). get t p) is

  module _ (ordered : IsStrictlySortedBy (slice_cmp nat_cmp) (keys_of es)) where
    -- their paths are those of the tree, in order
    pub paths-tree : (dir : List ℕ) → filter (is_in dir) (map (λ e. e.0) rest) ≡ paths_in t dir
    paths-tree dir = ap (filter (is_in dir)) (ap (map (λ e. e.0)) all ∙ sym (keys-map_of nat_list_cmp_total node_of es ordered) ∙ ap (λ (t : Tree). keys t) is)

    pub names-tree : (dir : List ℕ) (names : List (List ℕ)) → names ≡ [] → names ++ map name_of (filter (is_in dir) (map (λ e. e.0) rest)) ≡ names_in t dir
    names-tree dir names none = ap (λ names. names ++ map name_of (filter (is_in dir) (map (λ e. e.0) rest))) none ∙ ap (map name_of) (paths-tree dir)

    pub rows-tree : (rows : List Row) → rows ≡ [] → rows ++ map shown_row (seen node_of rest) ≡ rows_of t
    rows-tree rows none =
        ap (λ rows. rows ++ map shown_row (seen node_of rest)) none
        ∙ ap (map shown_row) (ap (seen node_of) all ∙ sym (entries-map_of nat_list_cmp_total node_of es ordered) ∙ ap (λ (t : Tree). entries t) is)

same_path : (at p : List ℕ) → eq_by_cmp (slice_cmp nat_cmp) p at ≡ bytes_eq at p
same_path at p = (eq_by_cmp_equiv nat_list_cmp_total).symm p at ∙ is_eq-slice_cmp at p

-- the first entry that is left is at the path, or is not
pub find-here : (at p : List ℕ) (n : PathNode) (es : List (List ℕ × PathNode)) (o : Option TreeNode)
    → find (slice_cmp nat_cmp) p (seen node_of ((at, n) ∷ es)) ≡ o → bytes_eq at p ≡ true → o ≡ Some (node_of n)
find-here at p n es o is here = sym is ∙ ap (λ b. cond b (Some (node_of n)) (find (slice_cmp nat_cmp) p (seen node_of es))) (same_path at p ∙ here)

pub find-later : (at p : List ℕ) (n : PathNode) (es : List (List ℕ × PathNode)) (o : Option TreeNode)
    → find (slice_cmp nat_cmp) p (seen node_of ((at, n) ∷ es)) ≡ o → bytes_eq at p ≡ false → find (slice_cmp nat_cmp) p (seen node_of es) ≡ o
find-later at p n es o is other = sym (ap (λ b. cond b (Some (node_of n)) (find (slice_cmp nat_cmp) p (seen node_of es))) (same_path at p ∙ other)) ∙ is

-- and what is asked there is whether it is a directory
pub folder-here : (o : Option TreeNode) (n : PathNode) (is : Bool) → o ≡ Some (node_of n) → (IsTrue is ↔ (node_of n ≡ Dir)) → IsTrue is ↔ (o ≡ Some Dir)
folder-here o n is here asked = (λ yes. here ∙ ap (λ n. Some n) (asked.0 yes), λ dir. asked.1 cc)
