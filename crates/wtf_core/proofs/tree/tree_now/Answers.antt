use Rattle.wtf_core.proofs.Common.{Answer, map_now, ap, ◌∙◌, option_map, nat_list_cmp_total, get, entries, entries_sorted, get-entries}
use Rattle.wtf_core.proofs.Common.{slice_cmp-IsAntisymmetric, nat_cmp-IsAntisymmetric, find, is_sorted, same_entries, Row, Tree, TreeNode, File, shown_len}
use Rattle.wtf_core.proofs.Common.{shown_row, rows_of, Folder, Value, Path, Map, Told, Stands, NodeAt, path_cmp, shown_value, shown_at, entries_of, IsShown}
use Rattle.wtf_core.proofs.Common.{◌≡◌, ℕ, T, List, [], ◌∷◌, map, Option, None, Some, refl, sym, subst}
use Rattle.wtf_model.specs.Tree.{Dir}
use Rattle.wtf_values.specs.declared.value.Node.TheVariants.{File as FileNode}
use Rattle.wtf_core.proofs.RowsSorted.{is_sorted-mapped, find-mapped}
use Rattle.wtf_core.proofs.tree.tree_now.Goals as goal

-- ---- the rows of a map are those of the tree for which it stands
node_shown : (b : ℕ) (told : Told) (w : Map) (v : Option Value) (o : Option TreeNode) → NodeAt b told w v o → shown_value b w v ≡ option_map shown_len o
node_shown b told w None None h = refl
node_shown b told w None (Some n) h = absurd h
node_shown b told w (Some (Value.Node Folder)) None h = absurd h
node_shown b told w (Some (Value.Node Folder)) (Some Dir) h = refl
node_shown b told w (Some (Value.Node Folder)) (Some (File paths bytes)) h = absurd h
node_shown b told w (Some (Value.Node (FileNode i))) None h = absurd h
node_shown b told w (Some (Value.Node (FileNode i))) (Some Dir) h = absurd h
node_shown b told w (Some (Value.Node (FileNode i))) (Some (File paths bytes)) h = ap (λ (n : ℕ). Some (Some n)) h.body.bytes_are.len
node_shown b told w (Some (Value.Names ns)) o h = absurd h
node_shown b told w (Some (Value.Count n)) o h = absurd h
node_shown b told w (Some (Value.Last r)) o h = absurd h
node_shown b told w (Some (Value.Region r)) o h = absurd h

-- the row of an entry
abbrev row_of : List ℕ × Option ℕ → Row
row_of e = record { path = e.0; len = e.1 }

rows_again : (rows : List Row) → map row_of (entries_of rows) ≡ rows
rows_again [] = refl
rows_again (r ∷ rows) = ap (λ l. r ∷ l) (rows_again rows)

-- rows with the same entries are the same
same_rows : (xs ys : List Row) → entries_of xs ≡ entries_of ys → xs ≡ ys
same_rows xs ys e = sym (rows_again xs) ∙ ap (map row_of) e ∙ rows_again ys

shown_entries : (es : List (List ℕ × TreeNode)) → entries_of (map shown_row es) ≡ map (λ e. (e.0, shown_len e.1)) es
shown_entries [] = refl
shown_entries (e ∷ es) = ap (λ l. (e.0, shown_len e.1) ∷ l) (shown_entries es)

rows_rise : (t : Tree) → T (is_sorted path_cmp (entries_of (rows_of t)))
rows_rise t = subst (λ es. T (is_sorted path_cmp es)) (sym (shown_entries (entries t))) (is_sorted-mapped path_cmp shown_len (entries t) (entries_sorted t))

found : (t : Tree) (p : List ℕ) → find path_cmp p (entries_of (rows_of t)) ≡ option_map shown_len (get t p)
found t p = ap (find path_cmp p) (shown_entries (entries t)) ∙ find-mapped path_cmp shown_len p (entries t) ∙ ap (option_map shown_len) (sym (get-entries t p))

rows_are : (b : ℕ) (told : Told) (tx k : ℕ) (w : Map) (t : Tree) (rows : List Row) → Stands b told tx k w t → IsShown (shown_at b w) rows → rows ≡ rows_of t
rows_are b told tx k w t rows stands is =
    same_rows rows (rows_of t)
    (same_entries path_cmp nat_list_cmp_total (slice_cmp-IsAntisymmetric nat_cmp-IsAntisymmetric) (entries_of rows) (entries_of (rows_of t)) is.sorted
    (rows_rise t)
    (λ p. is.each p ∙ node_shown b told w (w (Path p)) (get t p) (stands.nodes p) ∙ sym (found t p)))

-- ---- what it answers
pub returns-clause-rows : goal.returns-clause-rows
returns-clause-rows c = λ told tx k t stands. ap Answer.Tree
    (c.of.ensures ∙ rows_are c.args.settings.region told tx k (map_now c.args.kv.now) t c.in_ok-rows.rows.items stands c.in_ok-rows.ensures)
