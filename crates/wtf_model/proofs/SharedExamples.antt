-- The worked examples of files of several paths.
use Rattle.std.proofs.Common.{◌≡◌, ◌≢◌, ℕ, true, false, List, Some, None, ap, ◌∙◌}
use Rattle.std.specs.FinMap.{get}
use Rattle.wtf_model.specs.Tree.{PathSet, has_path, with_path, without_path, File, Tree, IsTree, paths_of}
use Rattle.wtf_model.specs.Session.{Session}
use Rattle.wtf_model.specs.Done.{refiled, set_bytes, drop_path, move_file, add_path}
use Rattle.wtf_model.proofs.PathLaws.{has-added, has-taken, has-with_other, has-without_other, never-without, has-still}
use Rattle.wtf_model.proofs.PathLaws.{get-refiled_in, get-refiled_gone, get-refiled_out}

-- a file with other paths, which the tree says by one of its own
named : (t : Tree) (p q : List ℕ) (paths : PathSet) (old bytes : List ℕ) (f : PathSet → PathSet) → get t p ≡ Some (File paths old)
    → get (refiled t (paths_of (get t p)) (f (paths_of (get t p))) bytes) q ≡ get (refiled t paths (f paths) bytes) q
named t p q paths old bytes f file = ap (λ o. get (refiled t (paths_of o) (f (paths_of o)) bytes) q) file

pub written_by_all : (s : Session) (p q : List ℕ) (paths : PathSet) (old bytes : List ℕ) → get s.tree p ≡ Some (File paths old) → has_path paths q ≡ true
    → get (set_bytes s p bytes).tree q ≡ Some (File paths bytes)
written_by_all s p q paths old bytes file has = named s.tree p q paths old bytes (λ ps. ps) file ∙ get-refiled_in s.tree paths paths bytes q has

pub written_by_no_other : (s : Session) (p q : List ℕ) (paths : PathSet) (old bytes : List ℕ) → get s.tree p ≡ Some (File paths old) → has_path paths q ≡ false
    → get (set_bytes s p bytes).tree q ≡ get s.tree q
written_by_no_other s p q paths old bytes file never = named s.tree p q paths old bytes (λ ps. ps) file ∙ get-refiled_out s.tree paths paths bytes q never never

pub dropped_is_gone : (s : Session) (p : List ℕ) (paths : PathSet) (bytes : List ℕ) → IsTree s.tree → get s.tree p ≡ Some (File paths bytes)
    → get (drop_path s p bytes).tree p ≡ None
dropped_is_gone s p paths bytes tree file =
    named s.tree p p paths bytes bytes (λ ps. without_path ps p) file
    ∙ get-refiled_gone s.tree paths (without_path paths p) bytes p (has-taken paths p) (tree.shared p paths bytes file).own

pub dropped_is_left : (s : Session) (p q : List ℕ) (paths : PathSet) (bytes : List ℕ) → get s.tree p ≡ Some (File paths bytes) → has_path paths q ≡ true → q ≢ p
    → get (drop_path s p bytes).tree q ≡ Some (File (without_path paths p) bytes)
dropped_is_left s p q paths bytes file has other =
    named s.tree p q paths bytes bytes (λ ps. without_path ps p) file
    ∙ get-refiled_in s.tree paths (without_path paths p) bytes q (has-without_other paths p q other ∙ has)

pub dropped_alone : (s : Session) (p q : List ℕ) (paths : PathSet) (bytes : List ℕ) → get s.tree p ≡ Some (File paths bytes) → has_path paths q ≡ false
    → get (drop_path s p bytes).tree q ≡ get s.tree q
dropped_alone s p q paths bytes file never =
    named s.tree p q paths bytes bytes (λ ps. without_path ps p) file
    ∙ get-refiled_out s.tree paths (without_path paths p) bytes q (never-without paths p q never) never

pub moved_is_gone : (s : Session) (p q : List ℕ) (paths : PathSet) (bytes : List ℕ) → IsTree s.tree → get s.tree p ≡ Some (File paths bytes) → p ≢ q
    → get (move_file s p q bytes).tree p ≡ None
moved_is_gone s p q paths bytes tree file other =
    named s.tree p p paths bytes bytes (λ ps. with_path (without_path ps p) q) file
    ∙ get-refiled_gone s.tree paths (with_path (without_path paths p) q) bytes p (has-with_other (without_path paths p) q p other ∙ has-taken paths p) (tree.shared p paths bytes file).own

pub moved_is_there : (s : Session) (p q : List ℕ) (paths : PathSet) (bytes : List ℕ) → get s.tree p ≡ Some (File paths bytes)
    → get (move_file s p q bytes).tree q ≡ Some (File (with_path (without_path paths p) q) bytes)
moved_is_there s p q paths bytes file =
    named s.tree p q paths bytes bytes (λ ps. with_path (without_path ps p) q) file
    ∙ get-refiled_in s.tree paths (with_path (without_path paths p) q) bytes q (has-added (without_path paths p) q)

pub moved_is_kept : (s : Session) (p q other : List ℕ) (paths : PathSet) (bytes : List ℕ) → get s.tree p ≡ Some (File paths bytes) → has_path paths other ≡ true → other ≢ p
    → get (move_file s p q bytes).tree other ≡ Some (File (with_path (without_path paths p) q) bytes)
moved_is_kept s p q other paths bytes file has apart =
    named s.tree p other paths bytes bytes (λ ps. with_path (without_path ps p) q) file
    ∙ get-refiled_in s.tree paths (with_path (without_path paths p) q) bytes other (has-still (without_path paths p) q other (has-without_other paths p other apart ∙ has))

pub added_is_there : (s : Session) (p q : List ℕ) (paths : PathSet) (bytes : List ℕ) → get s.tree p ≡ Some (File paths bytes)
    → get (add_path s p q bytes).tree q ≡ Some (File (with_path paths q) bytes)
added_is_there s p q paths bytes file =
    named s.tree p q paths bytes bytes (λ ps. with_path ps q) file
    ∙ get-refiled_in s.tree paths (with_path paths q) bytes q (has-added paths q)

pub added_is_kept : (s : Session) (p q other : List ℕ) (paths : PathSet) (bytes : List ℕ) → get s.tree p ≡ Some (File paths bytes) → has_path paths other ≡ true
    → get (add_path s p q bytes).tree other ≡ Some (File (with_path paths q) bytes)
added_is_kept s p q other paths bytes file has =
    named s.tree p other paths bytes bytes (λ ps. with_path ps q) file
    ∙ get-refiled_in s.tree paths (with_path paths q) bytes other (has-still paths q other has)
