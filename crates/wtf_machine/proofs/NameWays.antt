-- What each way out of a call comes to that changes the paths or the bytes of a file that is there.
use Rattle.std.proofs.Common.{◌≡◌, ℕ, false, List, Option, Some, None, Ok, Err, refl, sym, ap, ◌∙◌}
use Rattle.std.specs.FinMap.{get, values}
use Rattle.std.specs.List.{list_any}
use Rattle.wtf_model.specs.declared.answer.Answer.TheVariants as answer
use Rattle.wtf_model.specs.declared.answer.Word.{Word}
use Rattle.wtf_model.specs.declared.op.Op.TheVariants as op
use Rattle.wtf_model.specs.Tree.{PathSet, no_paths, with_path, without_path, TreeNode, Dir, File, Tree, bytes_of, source, target, paths_of}
use Rattle.wtf_model.specs.Session.{Session}
use Rattle.wtf_model.specs.Done.{is_on, refiled, set_bytes}
use Rattle.wtf_model.specs.Call.{call}
use Rattle.wtf_model.proofs.CallLaws.{source-file}
use Rattle.wtf_model.proofs.NameLaws.{unlink-done, rename-done, link-done}
use Rattle.wtf_model.proofs.PathLaws.{has-none, get-refiled_out, same_tree}

-- what is no file has no path, and nothing changes
no_file : (o : Option TreeNode) (w : Word) → bytes_of o ≡ Err w → paths_of o ≡ no_paths
no_file None w e = refl
no_file (Some Dir) w e = refl
no_file (Some (File paths bytes)) w e = absurd (cc)

none_refiled : (t : Tree) (bytes : List ℕ) → refiled t no_paths no_paths bytes ≡ t
none_refiled t bytes = same_tree (refiled t no_paths no_paths bytes) t (λ q. get-refiled_out t no_paths no_paths bytes q (has-none q) (has-none q))

pub bytes_nowhere : (s : Session) (p bytes : List ℕ) (w : Word) → source s.tree p ≡ Err w → s ≡ set_bytes s p bytes
bytes_nowhere s p bytes w e =
    sym (ap (λ paths. record s { tree = refiled s.tree paths paths bytes }) (no_file (get s.tree p) w e)
    ∙ ap (λ (t : Tree). record s { tree = t }) (none_refiled s.tree bytes))

-- other bytes for a file, by each path that its holder tells
pub bytes_there : (s : Session) (p : List ℕ) (own : PathSet) (old : List ℕ) → get s.tree p ≡ Some (File own old)
    → (seen kept : PathSet) (held bytes : List ℕ) (t : Tree) → seen ≡ kept → kept ≡ own → held ≡ bytes
    → t ≡ refiled s.tree seen kept held → record s { tree = t } ≡ set_bytes s p bytes
bytes_there s p own old at seen kept held bytes t same all filled is =
    ap (λ (x : Tree). record s { tree = x })
    (is ∙ ap (λ (x : PathSet). refiled s.tree x kept held) same ∙ ap (λ (x : PathSet). refiled s.tree x x held) (all ∙ ap paths_of (sym at))
    ∙ ap (λ bs. refiled s.tree (paths_of (get s.tree p)) (paths_of (get s.tree p)) bs) filled)

-- a file with other paths, told by those that its holder has
module _ (s : Session) (p : List ℕ) (own kept : PathSet) (old bytes : List ℕ) (at : get s.tree p ≡ Some (File own old))
    (same : File kept bytes ≡ File own old) where
  at_kept : get s.tree p ≡ Some (File kept bytes)
  at_kept = at ∙ ap (λ (n : TreeNode). Some n) (sym same)

  pub file_there : source s.tree p ≡ Ok bytes
  file_there = source-file s.tree p kept bytes at_kept

  told : (f : PathSet → PathSet) (new : Session) → new ≡ record s { tree = refiled s.tree kept (f kept) bytes }
      → new ≡ record s { tree = refiled s.tree (paths_of (get s.tree p)) (f (paths_of (get s.tree p))) bytes }
  told f new is = is ∙ sym (ap (λ (o : Option TreeNode). record s { tree = refiled s.tree (paths_of o) (f (paths_of o)) bytes }) at_kept)

  pub link_in : (cap : ℕ) (new : Session) (q : List ℕ) → Ok tt ≡ target s.tree q → new ≡ record s { tree = refiled s.tree kept (with_path kept q) bytes }
      → call cap s (op.Link p q) ≡ record { session = new; answer = answer.Okay }
  link_in cap new q free is = link-done cap s p q bytes new file_there (sym free) (told (λ paths. with_path paths q) new is)

  module _ (cap : ℕ) (new : Session) (off : false ≡ list_any (is_on p) (values s.handles)) where
    pub unlink_in : new ≡ record s { tree = refiled s.tree kept (without_path kept p) bytes }
        → call cap s (op.Unlink p) ≡ record { session = new; answer = answer.Okay }
    unlink_in is = unlink-done cap s p bytes file_there new (sym off) (told (λ paths. without_path paths p) new is)

    pub rename_in : (q : List ℕ) → Ok tt ≡ target s.tree q
        → new ≡ record s { tree = refiled s.tree kept (with_path (without_path kept p) q) bytes }
        → call cap s (op.Rename p q) ≡ record { session = new; answer = answer.Okay }
    rename_in q free is =
        rename-done cap s p q bytes file_there (sym off) new (sym free) (told (λ paths. with_path (without_path paths p) q) new is)
