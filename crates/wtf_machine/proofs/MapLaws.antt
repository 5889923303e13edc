-- Laws of maps that are kept by their entries.
use Rattle.std.proofs.Common.{◌≡◌, ℕ, Bool, true, false, cond, List, [], ◌∷◌, map, Option, Some, None, refl, sym, ap, ◌∙◌}
use Rattle.std.specs.Option.{option_map}
use Rattle.std.specs.declared.cmp.Ordering.{Ordering}
use Rattle.std.specs.Ordering.{nat_cmp, eq_by_cmp}
use Rattle.std.specs.Cmp.{IsTotalOrder, eq_by_cmp_equiv}
use Rattle.std.specs.Cmp.Lexicographic.{slice_cmp, nat_list_cmp_total}
use Rattle.std.specs.Map.{lookup}
use Rattle.std.specs.BTreeMap.{is_at}
use Rattle.std.specs.FinMap.{
  IsAntisymmetric,
  slice_cmp-IsAntisymmetric,
  nat_cmp-IsAntisymmetric,
  get,
  insert,
  remove,
  get-from_entries,
  get-insert,
  get-remove,
  same_map,
}
use Rattle.std.specs.FinMap.Entries.{find}
use Rattle.wtf_machine.specs.declared.path_map.PathNode.{PathNode}
use Rattle.wtf_machine.specs.Entries.{map_of, set_of}
use Rattle.wtf_machine.specs.Maps.{node_of, tree_of}
use Rattle.wtf_model.specs.Tree.{with_path, without_path}

module _ {K X Y : Type 0} {R : K → K → Ordering} (o : IsTotalOrder R) (f : X → Y) where
  found : (b : Bool) (x : X) (l : Option X) (r : Option Y) → r ≡ option_map f l → cond b (Some (f x)) r ≡ option_map f (cond b (Some x) l)
  found true x l r e = refl
  found false x l r e = e

  find_seen : (es : List (K × X)) (q : K) → find R q (map (λ e. (e.0, f e.1)) es) ≡ option_map f (lookup (is_at (R q)) es)
  find_seen [] q = refl
  find_seen (e ∷ es) q = found (eq_by_cmp R q e.0) e.1 (lookup (is_at (R q)) es) (find R q (map (λ e. (e.0, f e.1)) es)) (find_seen es q)

  -- a look-up finds what the map has
  pub get-map_of : (es : List (K × X)) (q : K) → get (map_of R f es) q ≡ option_map f (lookup (is_at (R q)) es)
  get-map_of es q = get-from_entries o (map (λ e. (e.0, f e.1)) es) q ∙ find_seen es q

  put_seen : (b : Bool) (v : X) (l : Option X) → option_map f (cond b (Some v) l) ≡ cond b (Some (f v)) (option_map f l)
  put_seen true v l = refl
  put_seen false v l = refl

  gone_seen : (b : Bool) (l : Option X) → option_map f (cond b None l) ≡ cond b None (option_map f l)
  gone_seen true l = refl
  gone_seen false l = refl

  -- entries that have one more key, or another value there, and entries that have one less
  pub map_of-put : IsAntisymmetric R → (old new : List (K × X)) (k : K) (v : X)
      → ((q : K) → lookup (is_at (R q)) new ≡ cond (is_at (R k) q) (Some v) (lookup (is_at (R q)) old))
      → map_of R f new ≡ insert (map_of R f old) k (f v)
  map_of-put same old new k v is =
      same_map o same _ _ (λ q.
      get-map_of new q ∙ ap (option_map f) (is q) ∙ put_seen (is_at (R k) q) v (lookup (is_at (R q)) old)
      ∙ ap (cond (is_at (R k) q) (Some (f v))) (sym (get-map_of old q)) ∙ ap (λ b. cond b (Some (f v)) (get (map_of R f old) q)) ((eq_by_cmp_equiv o).symm k q)
      ∙ sym (get-insert o (map_of R f old) k (f v) q))

  pub map_of-take : IsAntisymmetric R → (old new : List (K × X)) (k : K)
      → ((q : K) → lookup (is_at (R q)) new ≡ cond (is_at (R k) q) None (lookup (is_at (R q)) old))
      → map_of R f new ≡ remove (map_of R f old) k
  map_of-take same old new k is =
      same_map o same _ _ (λ q.
      get-map_of new q ∙ ap (option_map f) (is q) ∙ gone_seen (is_at (R k) q) (lookup (is_at (R q)) old)
      ∙ ap (cond (is_at (R k) q) None) (sym (get-map_of old q)) ∙ ap (λ b. cond b None (get (map_of R f old) q)) ((eq_by_cmp_equiv o).symm k q)
      ∙ sym (get-remove o (map_of R f old) k q))

-- of trees

pub get-tree_of : (es : List (List ℕ × PathNode)) (p : List ℕ) → get (tree_of es) p ≡ option_map node_of (lookup (is_at (slice_cmp nat_cmp p)) es)
get-tree_of es p = get-map_of nat_list_cmp_total node_of es p

pub tree_of-put : (old new : List (List ℕ × PathNode)) (p : List ℕ) (n : PathNode)
    → ((q : List ℕ) → lookup (is_at (slice_cmp nat_cmp q)) new ≡ cond (is_at (slice_cmp nat_cmp p) q) (Some n) (lookup (is_at (slice_cmp nat_cmp q)) old))
    → tree_of new ≡ insert (tree_of old) p (node_of n)
tree_of-put old new p n is = map_of-put nat_list_cmp_total node_of (slice_cmp-IsAntisymmetric nat_cmp-IsAntisymmetric) old new p n is

pub tree_of-take : (old new : List (List ℕ × PathNode)) (p : List ℕ)
    → ((q : List ℕ) → lookup (is_at (slice_cmp nat_cmp q)) new ≡ cond (is_at (slice_cmp nat_cmp p) q) None (lookup (is_at (slice_cmp nat_cmp q)) old))
    → tree_of new ≡ remove (tree_of old) p
tree_of-take old new p is = map_of-take nat_list_cmp_total node_of (slice_cmp-IsAntisymmetric nat_cmp-IsAntisymmetric) old new p is

-- of sets of paths

pub set_of-put : (old new : List (List ℕ × Unit {0})) (p : List ℕ)
    → ((q : List ℕ) → lookup (is_at (slice_cmp nat_cmp q)) new ≡ cond (is_at (slice_cmp nat_cmp p) q) (Some tt) (lookup (is_at (slice_cmp nat_cmp q)) old))
    → set_of new ≡ with_path (set_of old) p
set_of-put old new p is = map_of-put nat_list_cmp_total (λ u. u) (slice_cmp-IsAntisymmetric nat_cmp-IsAntisymmetric) old new p tt is

pub set_of-take : (old new : List (List ℕ × Unit {0})) (p : List ℕ)
    → ((q : List ℕ) → lookup (is_at (slice_cmp nat_cmp q)) new ≡ cond (is_at (slice_cmp nat_cmp p) q) None (lookup (is_at (slice_cmp nat_cmp q)) old))
    → set_of new ≡ without_path (set_of old) p
set_of-take old new p is = map_of-take nat_list_cmp_total (λ u. u) (slice_cmp-IsAntisymmetric nat_cmp-IsAntisymmetric) old new p is
