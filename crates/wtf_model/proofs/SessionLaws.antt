-- Sessions keep trees: each call leaves one, and an open label is always that of a file that is there.
use Rattle.std.proofs.Common.{◌≡◌, ◌≢◌, ◌⊎◌, ℕ, ◌+◌, ◌||◌, Bool, true, false, cond, if◌then◌else◌, List, [], ◌∷◌, map, length, Option, Some, None, Result, Ok, Err, refl, sym, ap, subst, ◌∙◌, inl, inr, ⊎_elim}
use Rattle.std.proofs.lemmas.Bool.{cases_Bool, cases_eq, true≢false}
use Rattle.std.proofs.lemmas.List.Elements.{All-head, All-tail}
use Rattle.std.proofs.lemmas.Slice.Eq.{bytes_eq-Decides}
use Rattle.std.specs.Prelude.{bytes_eq}
use Rattle.std.specs.List.{All, list_any}
use Rattle.std.specs.FinMap.{get, insert, remove, find, entries, get-empty, get-remove, get-entries}
use Rattle.std.specs.Cmp.{nat_cmp_total}
use Rattle.std.specs.Ordering.{nat_cmp, eq_by_cmp}
use Rattle.wtf_path.specs.Grammar.{IsPath}
use Rattle.wtf_model.specs.declared.answer.Word.{Word}
use Rattle.wtf_model.specs.declared.answer.Word.TheVariants.{Root, Busy}
use Rattle.wtf_model.specs.declared.op.Op.{Op}
use Rattle.wtf_model.specs.declared.op.Op.TheVariants as op
use Rattle.wtf_model.specs.declared.op.Seek.{Seek}
use Rattle.wtf_model.specs.declared.op.Seek.TheVariants as to
use Rattle.wtf_model.specs.Form.{IsData, IsFormOp}
use Rattle.wtf_model.specs.Tree.{PathSet, only_path, has_path, with_path, without_path, Tree, TreeNode, Dir, File, root, IsTree, ◌>>=◌, bytes_of, paths_of, target, source, sources, is_directory, is_empty}
use Rattle.wtf_model.specs.Session.{Session, Handle, fresh}
use Rattle.wtf_model.specs.Done.{Done, open_handle, handle_at, is_unused, slice_at, is_on, is_closed, fits, in_range, refiled, moved, put_node, set_bytes, add_file, take_out, drop_path, move_file, add_path, put_slice}
use Rattle.wtf_model.specs.NameCalls.{mkdir, create, is_not_root, rmdir, unlink, rename, link, list, shown_node, stat}
use Rattle.wtf_model.specs.HandleCalls.{open_file, close, seek, tell}
use Rattle.wtf_model.specs.ByteCalls.{read, write, append, truncate, punch}
use Rattle.wtf_model.specs.SliceCalls.{yank, peek, cut, paste, glue, concat, copy}
use Rattle.wtf_model.specs.Call.{call, or_refused}
use Rattle.wtf_model.specs.Transaction.{session_from, session_after}
use Rattle.wtf_model.proofs.Laws.{get-node_same, get-node_other, get-handle_same, get-handle_other}
use Rattle.wtf_model.proofs.PathLaws.{get-refiled_in, get-refiled_out, has-with_other, has-without_other, has-added, has-still}
use Rattle.wtf_model.proofs.TreeLaws.{IsFree, IsFree-target, IsTree-new, IsTree-taken, get-taken_other, nothing_in, same_or_other}
use Rattle.wtf_model.proofs.RefileLaws.{MayRefile, IsTree-refiled, may-bytes, may-drop, may-add, may-move}

-- a test that refuses where it holds
abbrev other_way : Bool → Word → Result (Unit {0}) Word
other_way b w = if b then Err w else Ok tt

-- a file stands there
pub record IsFile (t : Tree) (p : List ℕ) : Type 0 where
  pub paths : PathSet
  pub bytes : List ℕ
  pub there : get t p ≡ Some (File paths bytes)

-- the session has a tree, and each of its handles is on a file
pub record IsSession (s : Session) : Type 0 where
  pub tree_is : IsTree s.tree
  pub files : (f : ℕ) (h : Handle) → get s.handles f ≡ Some h → IsFile s.tree h.path

pub IsSession-fresh : (t : Tree) → IsTree t → IsSession (fresh t)
IsSession-fresh t tree = record {
  tree_is = tree;
  files = λ f h there. absurd (let none : None ≡ Some h = sym (get-empty nat_cmp f) ∙ there in cc);
}

-- the next of a list of entries
found_in : (es : List (ℕ × Handle)) (p : List ℕ) (f : ℕ) (h : Handle) → find nat_cmp f es ≡ Some h → list_any (is_on p) (map (λ e. e.1) es) ≡ false → h.path ≢ p
found_in [] p f h found none = absurd (cc)
found_in (e ∷ es) p f h found none =
    elim (eq_by_cmp nat_cmp f e.0) as (λ b. cond b (Some e.1) (find nat_cmp f es) ≡ Some h → h.path ≢ p) [
      | true ↦ λ is same.
          let one : e.1 ≡ h = cc in
          let on : is_on p e.1 ≡ true = subst (λ k. is_on p k ≡ true) (sym one) ((bytes_eq-Decides h.path p).1 same) in
          true≢false (sym (ap (λ b. b || list_any (is_on p) (map (λ e. e.1) es)) on) ∙ none)
      | false ↦ λ is. found_in es p f h is (behind (is_on p e.1) none)
    ] found
  where
    behind : (b : Bool) → (b || list_any (is_on p) (map (λ e. e.1) es)) ≡ false → list_any (is_on p) (map (λ e. e.1) es) ≡ false
    behind true none = cc
    behind false none = none

-- no handle is on a path that is closed
closed_by : (b : Bool) → other_way b Busy ≡ Ok tt → b ≡ false
closed_by true e = absurd (cc)
closed_by false e = refl

off_path : (s : Session) (p : List ℕ) (f : ℕ) (h : Handle) → is_closed s p ≡ Ok tt → get s.handles f ≡ Some h → h.path ≢ p
off_path s p f h closed there = found_in (entries s.handles) p f h (sym (get-entries s.handles f) ∙ there) (closed_by _ closed)

pub file_from : (t : Tree) (p bytes : List ℕ) (o : Option TreeNode) → get t p ≡ o → bytes_of o ≡ Ok bytes → IsFile t p
file_from t p bytes (Some (File ps b)) is e = record { paths = ps; bytes = b; there = is }
file_from t p bytes (Some Dir) is e = absurd (cc)
file_from t p bytes None is e = absurd (cc)

pub handle_from : (o : Option Handle) (h : Handle) → open_handle o ≡ Ok h → o ≡ Some h
handle_from (Some k) h e = let same : k ≡ h = cc in ap (λ x. Some x) same
handle_from None h e = absurd (cc)

-- one more file
file_behind : (t : Tree) (p q bytes : List ℕ) → (q ≡ p) ⊎ (q ≢ p) → IsFile t q → IsFile (insert t p (File (only_path p) bytes)) q
file_behind t p q bytes (inl same) file =
    record { paths = only_path p; bytes = bytes; there = subst (λ x. get (insert t p (File (only_path p) bytes)) x ≡ Some (File (only_path p) bytes)) (sym same) (get-node_same t p (File (only_path p) bytes)) }
file_behind t p q bytes (inr other) file = record { paths = file.paths; bytes = file.bytes; there = get-node_other t p (File (only_path p) bytes) q other ∙ file.there }

put : (s : Session) (p bytes : List ℕ) → IsPath p → IsFree s.tree p → IsSession s → IsSession (add_file s p bytes)
put s p bytes path free own = record {
  tree_is = IsTree-new s.tree p (File (only_path p) bytes) path own.tree_is free refl;
  files = λ f h there. file_behind s.tree p h.path bytes (same_or_other h.path p) (own.files f h there);
}

-- a file with other paths or other bytes, which keeps each path that a handle is on
still_file : (t : Tree) (old new : PathSet) (bytes q : List ℕ) → (has_path old q ≡ true → has_path new q ≡ true) → IsFile t q → IsFile (refiled t old new bytes) q
still_file t old new bytes q keeps file = ⊎_elim
    (λ here. record { paths = new; bytes = bytes; there = get-refiled_in t old new bytes q here })
    (λ not.
    let never : has_path old q ≡ false = ⊎_elim (λ was. absurd (true≢false (sym (keeps was) ∙ not))) (λ no. no) (cases_Bool (has_path old q)) in
    record { paths = file.paths; bytes = file.bytes; there = get-refiled_out t old new bytes q not never ∙ file.there })
    (cases_Bool (has_path new q))

refiles : (s : Session) (old new : PathSet) (bytes : List ℕ) → MayRefile s.tree old new
    → ((f : ℕ) (h : Handle) → get s.handles f ≡ Some h → has_path old h.path ≡ true → has_path new h.path ≡ true) → IsSession s
    → IsSession (record s { tree = refiled s.tree old new bytes })
refiles s old new bytes may keeps own = record {
  tree_is = IsTree-refiled s.tree old new bytes own.tree_is may;
  files = λ f h there. still_file s.tree old new bytes h.path (keeps f h there) (own.files f h there);
}

-- a directory at a free path
put_dir : (s : Session) (p : List ℕ) → IsPath p → IsFree s.tree p → IsSession s → IsSession (put_node s p Dir)
put_dir s p path free own = record {
  tree_is = IsTree-new s.tree p Dir path own.tree_is free tt;
  files = λ f h there.
      let file = own.files f h there in
      record {
        paths = file.paths;
        bytes = file.bytes;
        there = get-node_other s.tree p Dir h.path
            (λ same. let both_are : None ≡ Some (File file.paths file.bytes) = sym free.free ∙ subst (λ x. get s.tree x ≡ Some (File file.paths file.bytes)) same file.there in absurd (cc)) ∙ file.there;
      };
}

-- what no handle is on may be taken out
without : (s : Session) (p : List ℕ) → IsTree (remove s.tree p) → ((f : ℕ) (h : Handle) → get s.handles f ≡ Some h → h.path ≢ p) → IsSession s → IsSession (take_out s p)
without s p tree off own = record {
  tree_is = tree;
  files = λ f h there.
      let file = own.files f h there in
      record { paths = file.paths; bytes = file.bytes; there = get-taken_other s.tree p h.path (off f h there) ∙ file.there };
}

-- a directory has no handle
off_directory : (s : Session) (p : List ℕ) (f : ℕ) (h : Handle) → get s.tree p ≡ Some Dir → IsSession s → get s.handles f ≡ Some h → h.path ≢ p
off_directory s p f h dir own there same =
    let file = own.files f h there in
    let both_are : Some Dir ≡ Some (File file.paths file.bytes) = sym dir ∙ subst (λ x. get s.tree x ≡ Some (File file.paths file.bytes)) same file.there in absurd (cc)

-- what is there where a call asks for it
is_dir_at : (o : Option TreeNode) → is_directory o ≡ Ok tt → o ≡ Some Dir
is_dir_at (Some Dir) e = refl
is_dir_at (Some (File paths bytes)) e = absurd (cc)
is_dir_at None e = absurd (cc)

not_root : (p : List ℕ) → is_not_root p ≡ Ok tt → p ≢ root
not_root p e same = let is : bytes_eq p root ≡ true = (bytes_eq-Decides p root).1 same in true≢false (sym is ∙ closed_root (bytes_eq p root) e)
  where
    closed_root : (b : Bool) → other_way b Root ≡ Ok tt → b ≡ false
    closed_root true e = absurd (cc)
    closed_root false e = refl

-- a label that is closed
closed_label : (s : Session) (f : ℕ) → IsSession s → IsSession (record s { handles = remove s.handles f })
closed_label s f own = record {
  tree_is = own.tree_is;
  files = λ g h there. own.files g h (left_by (eq_by_cmp nat_cmp g f) (get s.handles g) h (sym (get-remove nat_cmp_total s.handles f g) ∙ there));
}
  where
    left_by : (b : Bool) (o : Option Handle) (h : Handle) → cond b None o ≡ Some h → o ≡ Some h
    left_by true o h e = absurd (cc)
    left_by false o h e = e

-- slices say nothing of files
with_slice : (s : Session) (label : ℕ) (bytes : List ℕ) → IsSession s → IsSession (put_slice s label bytes)
with_slice s label bytes own = record { tree_is = own.tree_is; files = own.files }

-- the paths of a file are those that the tree says
as_told : (s : Session) (p : List ℕ) (file : IsFile s.tree p) (f : PathSet → PathSet) (bytes : List ℕ) → IsSession (record s { tree = refiled s.tree file.paths (f file.paths) bytes })
    → IsSession (record s { tree = refiled s.tree (paths_of (get s.tree p)) (f (paths_of (get s.tree p))) bytes })
as_told s p file f bytes own = subst (λ o. IsSession (record s { tree = refiled s.tree (paths_of o) (f (paths_of o)) bytes })) (sym file.there) own

put_over : (s : Session) (p bytes : List ℕ) → IsFile s.tree p → IsSession s → IsSession (set_bytes s p bytes)
put_over s p bytes file own = as_told s p file (λ paths. paths) bytes
    (refiles s file.paths file.paths bytes (may-bytes s.tree p file.paths file.bytes own.tree_is file.there) (λ f h there has. has) own)

-- one more path comes
add_keeps : (s : Session) (p q bytes : List ℕ) → IsFile s.tree p → IsFree s.tree q → IsPath q → IsSession s → IsSession (add_path s p q bytes)
add_keeps s p q bytes file free path own = as_told s p file (λ paths. with_path paths q) bytes
    (refiles s file.paths (with_path file.paths q) bytes (may-add s.tree p file.paths file.bytes own.tree_is file.there q free path)
    (λ f h there has. has-still file.paths q h.path has) own)

-- a path that no handle is on goes
drop_keeps : (s : Session) (p bytes : List ℕ) → IsFile s.tree p → is_closed s p ≡ Ok tt → IsSession s → IsSession (drop_path s p bytes)
drop_keeps s p bytes file closed own = as_told s p file (λ paths. without_path paths p) bytes
    (refiles s file.paths (without_path file.paths p) bytes (may-drop s.tree p file.paths file.bytes own.tree_is file.there p)
    (λ f h there has. has-without_other file.paths p h.path (off_path s p f h closed there) ∙ has) own)

-- and becomes another one
move_keeps : (s : Session) (p q bytes : List ℕ) → IsFile s.tree p → is_closed s p ≡ Ok tt → IsFree s.tree q → IsPath q → IsSession s → IsSession (move_file s p q bytes)
move_keeps s p q bytes file closed free path own = as_told s p file (λ paths. with_path (without_path paths p) q) bytes
    (refiles s file.paths (with_path (without_path file.paths p) q) bytes (may-move s.tree p file.paths file.bytes own.tree_is file.there p q free path)
    (λ f h there has. ⊎_elim
    (λ same. subst (λ x. has_path (with_path (without_path file.paths p) q) x ≡ true) (sym same) (has-added (without_path file.paths p) q))
    (λ other. has-with_other (without_path file.paths p) q h.path other ∙ (has-without_other file.paths p h.path (off_path s p f h closed there) ∙ has))
    (same_or_other h.path q)) own)

-- a handle on a file
handle_file : (s : Session) (f g : ℕ) (new h : Handle) → (g ≡ f) ⊎ (g ≢ f) → IsFile s.tree new.path → IsSession s → get (insert s.handles f new) g ≡ Some h → IsFile s.tree h.path
handle_file s f g new h (inl same) file own there =
    let found : Some new ≡ Some h = sym (get-handle_same s.handles f new) ∙ subst (λ x. get (insert s.handles f new) x ≡ Some h) same there in
    let one : new ≡ h = cc in
    subst (λ k. IsFile s.tree k.path) one file
handle_file s f g new h (inr other) file own there = own.files g h (sym (get-handle_other s.handles f new g other) ∙ there)

with_handle : (s : Session) (f : ℕ) (new : Handle) → IsFile s.tree new.path → IsSession s → IsSession (record s { handles = insert s.handles f new })
with_handle s f new file own = record {
  tree_is = own.tree_is;
  files = λ g h there. handle_file s f g new h (cases_eq g f) file own there;
}

-- a refusal leaves the session
kept_by : {A : Type 0} (s : Session) (r : Result A Word) (f : A → Result Done Word) → IsSession s
    → ((x : A) → r ≡ Ok x → IsSession (or_refused s (f x)).session) → IsSession (or_refused s (r >>= f)).session
kept_by s (Ok x) f own h = h x refl
kept_by s (Err w) f own h = own

moved_on : (s : Session) (f off : ℕ) (h : Handle) → handle_at s f ≡ Ok h → IsSession s → IsSession (moved s f h off)
moved_on s f off h e own = with_handle s f (record h { off = off }) (own.files f h (handle_from (get s.handles f) h e)) own

-- other bytes in the file of a handle
over_handle : (s : Session) (f : ℕ) (h : Handle) (bytes : List ℕ) → handle_at s f ≡ Ok h → IsSession s → IsSession (set_bytes s h.path bytes)
over_handle s f h bytes e own = put_over s h.path bytes (own.files f h (handle_from (get s.handles f) h e)) own

write_keeps : (cap : ℕ) (s : Session) (f : ℕ) (bytes : List ℕ) → IsSession s → IsSession (or_refused s (write cap s f bytes)).session
unfolding write
write_keeps cap s f [] own = kept_by s (handle_at s f) _ own (λ h e. own)
write_keeps cap s f (b ∷ bs) own =
    kept_by s (handle_at s f) _ own (λ h e. kept_by s (fits cap (h.off + length (b ∷ bs))) _ own (λ _ _.
    moved_on (set_bytes s h.path _) f (h.off + length (b ∷ bs)) h e (over_handle s f h _ e own)))

append_keeps : (cap : ℕ) (s : Session) (f : ℕ) (bytes : List ℕ) → IsSession s → IsSession (or_refused s (append cap s f bytes)).session
unfolding append
append_keeps cap s f bytes own = kept_by s (handle_at s f) _ own (λ h e. kept_by s (fits cap _) _ own (λ _ _. over_handle s f h _ e own))

seek_keeps : (cap : ℕ) (s : Session) (f : ℕ) (place : Seek) → IsSession s → IsSession (or_refused s (seek cap s f place)).session
unfolding seek
seek_keeps cap s f (to.Set n) own = kept_by s (handle_at s f) _ own (λ h e. kept_by s (in_range cap n) _ own (λ _ _. moved_on s f n h e own))
seek_keeps cap s f (to.Fwd n) own = kept_by s (handle_at s f) _ own (λ h e. kept_by s (in_range cap (h.off + n)) _ own (λ _ _. moved_on s f _ h e own))
seek_keeps cap s f (to.Back n) own = kept_by s (handle_at s f) _ own (λ h e. kept_by s (in_range h.off n) _ own (λ _ _. moved_on s f _ h e own))
seek_keeps cap s f to.End own = kept_by s (handle_at s f) _ own (λ h e. moved_on s f _ h e own)

rename_keeps : (s : Session) (p q : List ℕ) → IsPath q → IsSession s → IsSession (or_refused s (rename s p q)).session
unfolding rename
rename_keeps s p q path own =
    kept_by s (source s.tree p) _ own (λ bytes e. kept_by s (is_closed s p) _ own (λ _ closed. kept_by s (target s.tree q) _ own (λ u free.
    move_keeps s p q bytes (file_from s.tree p bytes (get s.tree p) refl e) closed (IsFree-target s.tree q free) path own)))

pub IsSession-call : (cap : ℕ) (s : Session) (o : Op (List ℕ)) → IsFormOp IsData o → IsSession s → IsSession (call cap s o).session
unfolding mkdir create rmdir unlink link list stat open_file close tell read truncate punch yank peek cut paste glue concat copy
IsSession-call cap s (op.Mkdir p) form own = kept_by s (target s.tree p) _ own (λ u e. put_dir s p form (IsFree-target s.tree p e) own)
IsSession-call cap s (op.Rmdir p) form own =
    kept_by s (is_not_root p) _ own (λ _ inner. kept_by s (is_directory (get s.tree p)) _ own (λ _ dir. kept_by s (is_empty s.tree p) _ own (λ _ none.
    without s p (IsTree-taken s.tree p own.tree_is (not_root p inner) (is_dir_at (get s.tree p) dir) (λ q here up. nothing_in s.tree p q none here up))
    (λ f h there. off_directory s p f h (is_dir_at (get s.tree p) dir) own there) own)))
IsSession-call cap s (op.Create p) form own =
    kept_by s (target s.tree p) _ own (λ u e. put s p [] form (IsFree-target s.tree p e) own)
IsSession-call cap s (op.Unlink p) form own =
    kept_by s (source s.tree p) _ own (λ bytes e. kept_by s (is_closed s p) _ own (λ _ closed.
    drop_keeps s p bytes (file_from s.tree p bytes (get s.tree p) refl e) closed own))
IsSession-call cap s (op.Rename p q) form own = rename_keeps s p q form.1 own
IsSession-call cap s (op.Link p q) form own =
    kept_by s (source s.tree p) _ own (λ bytes e. kept_by s (target s.tree q) _ own (λ u free.
    add_keeps s p q bytes (file_from s.tree p bytes (get s.tree p) refl e) (IsFree-target s.tree q free) form.1 own))
IsSession-call cap s (op.List p) form own = kept_by s (is_directory (get s.tree p)) _ own (λ _ _. own)
IsSession-call cap s (op.Stat p) form own = kept_by s (shown_node (get s.tree p)) _ own (λ _ _. own)
IsSession-call cap s (op.Open f p) form own =
    kept_by s (is_unused (get s.handles f)) _ own (λ _ _. kept_by s (source s.tree p) _ own (λ bytes e.
    with_handle s f (record { path = p; off = 0 }) (file_from s.tree p bytes (get s.tree p) refl e) own))
IsSession-call cap s (op.Close f) form own = kept_by s (handle_at s f) _ own (λ h e. closed_label s f own)
IsSession-call cap s (op.Seek f place) form own = seek_keeps cap s f place own
IsSession-call cap s (op.Tell f) form own = kept_by s (handle_at s f) _ own (λ h e. own)
IsSession-call cap s (op.Read f n) form own = kept_by s (handle_at s f) _ own (λ h e. moved_on s f _ h e own)
IsSession-call cap s (op.Write f bytes) form own = write_keeps cap s f bytes own
IsSession-call cap s (op.Append f bytes) form own = append_keeps cap s f bytes own
IsSession-call cap s (op.Truncate f n) form own = kept_by s (handle_at s f) _ own (λ h e. kept_by s (fits cap n) _ own (λ _ _. over_handle s f h _ e own))
IsSession-call cap s (op.Punch f n) form own = kept_by s (handle_at s f) _ own (λ h e. over_handle s f h _ e own)
IsSession-call cap s (op.Yank f n label) form own = kept_by s (handle_at s f) _ own (λ h e. with_slice _ label _ (moved_on s f _ h e own))
IsSession-call cap s (op.Peek label off n) form own = kept_by s (slice_at s label) _ own (λ bytes _. kept_by s (in_range (length bytes) (off + n)) _ own (λ _ _. own))
IsSession-call cap s (op.Cut label off n made) form own =
    kept_by s (slice_at s label) _ own (λ bytes _. kept_by s (in_range (length bytes) (off + n)) _ own (λ _ _. with_slice s made _ own))
IsSession-call cap s (op.Paste f label) form own = kept_by s (handle_at s f) _ own (λ _ _. kept_by s (slice_at s label) _ own (λ bytes _. write_keeps cap s f bytes own))
IsSession-call cap s (op.Glue f label) form own = kept_by s (handle_at s f) _ own (λ _ _. kept_by s (slice_at s label) _ own (λ bytes _. append_keeps cap s f bytes own))
IsSession-call cap s (op.Concat q paths) form own =
    kept_by s (target s.tree q) _ own (λ u e. kept_by s (sources s.tree paths) _ own (λ bytes _. kept_by s (fits cap (length bytes)) _ own (λ _ _.
    put s q bytes form.0 (IsFree-target s.tree q e) own)))
IsSession-call cap s (op.Copy p q) form own =
    kept_by s (source s.tree p) _ own (λ bytes _. kept_by s (target s.tree q) _ own (λ u e.
    put s q bytes form.1 (IsFree-target s.tree q e) own))

pub IsSession-session_from : (cap : ℕ) (s : Session) (ops : List (Op (List ℕ))) → All (IsFormOp IsData) ops → IsSession s → IsSession (session_from cap s ops)
unfolding session_from
IsSession-session_from cap s [] form own = own
IsSession-session_from cap s (o ∷ ops) form own =
    IsSession-session_from cap (call cap s o).session ops (All-tail (IsFormOp IsData) o ops form)
    (IsSession-call cap s o (All-head (IsFormOp IsData) o ops form) own)

pub IsTree-session_after : (cap : ℕ) (tree : Tree) (ops : List (Op (List ℕ))) → All (IsFormOp IsData) ops → IsTree tree → IsTree (session_after cap tree ops).tree
IsTree-session_after cap tree ops form is = (IsSession-session_from cap (fresh tree) ops form (IsSession-fresh tree is)).tree_is
