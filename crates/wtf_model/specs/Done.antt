-- What a call leaves and answers, and what the calls have in common.
use Rattle.std.specs.Prelude.{ℕ, nat_le, Bool, List, [], ◌∷◌, take, drop, bytes_eq, if◌then◌else◌, Option, Some, None, Result, Ok, Err}
use Rattle.std.specs.List.{list_any}
use Rattle.std.specs.FinMap.{get, insert, remove, values}
use Rattle.wtf_model.specs.declared.answer.Word.{Word}
use Rattle.wtf_model.specs.declared.answer.Word.TheVariants.{NoHandle, InUse, NoSlice, Busy, TooBig, Range}
use Rattle.wtf_model.specs.declared.answer.Answer.{Answer}
use Rattle.wtf_model.specs.Tree.{PathSet, only_path, with_path, without_path, path_list, Tree, TreeNode, File, source, paths_at}
use Rattle.wtf_model.specs.Session.{Session, Handle}

-- a session, and the answer to the call that left it
pub record Done : Type 0 where
  pub session : Session
  pub answer : Answer

abbrev pub done : Session → Answer → Result Done Word
done s a = Ok (record { session = s; answer = a })

abbrev pub open_handle : Option Handle → Result Handle Word
open_handle (Some h) = Ok h
open_handle None = Err NoHandle

-- the handle of a label
abbrev pub handle_at : Session → ℕ → Result Handle Word
handle_at s f = open_handle (get s.handles f)

abbrev pub is_unused : Option Handle → Result (Unit {0}) Word
is_unused None = Ok tt
is_unused (Some h) = Err InUse

abbrev pub known_slice : Option (List ℕ) → Result (List ℕ) Word
known_slice (Some bytes) = Ok bytes
known_slice None = Err NoSlice

-- the bytes of a slice label
abbrev pub slice_at : Session → ℕ → Result (List ℕ) Word
slice_at s label = known_slice (get s.slices label)

abbrev pub bytes_or_none : Result (List ℕ) Word → List ℕ
bytes_or_none (Ok bytes) = bytes
bytes_or_none (Err w) = []

-- a file's bytes; of what is no file, none
abbrev pub bytes_at : Tree → List ℕ → List ℕ
bytes_at t p = bytes_or_none (source t p)

-- the bytes of a handle's file
abbrev pub bytes_of_handle : Session → Handle → List ℕ
bytes_of_handle s h = bytes_at s.tree h.path

-- n of the bytes from an offset on, or those that are left
abbrev pub part : ℕ → ℕ → List ℕ → List ℕ
part off n bytes = take n (drop off bytes)

-- no handle is open on a path
abbrev pub is_on : List ℕ → Handle → Bool
is_on p h = bytes_eq h.path p

abbrev pub is_closed : Session → List ℕ → Result (Unit {0}) Word
is_closed s p = if list_any (is_on p) (values s.handles) then Err Busy else Ok tt

-- a file of n bytes passes no limit
abbrev pub fits : ℕ → ℕ → Result (Unit {0}) Word
fits cap n = if nat_le n cap then Ok tt else Err TooBig

-- a seek may lead to n, or a part end there, where `most` is the last place
abbrev pub in_range : ℕ → ℕ → Result (Unit {0}) Word
in_range most n = if nat_le n most then Ok tt else Err Range

-- the handle of a label at another offset
abbrev pub moved : Session → ℕ → Handle → ℕ → Session
moved s f h off = record s { handles = insert s.handles f (record h { off = off }) }

-- something else at a path
abbrev pub put_node : Session → List ℕ → TreeNode → Session
put_node s p n = record s { tree = insert s.tree p n }

-- nothing at a path
abbrev pub take_out : Session → List ℕ → Session
take_out s p = record s { tree = remove s.tree p }

-- nothing at these paths; and this at each of them
unfoldable pub take_all : Tree → List (List ℕ) → Tree
take_all t [] = t
take_all t (p ∷ ps) = remove (take_all t ps) p

unfoldable pub put_all : TreeNode → Tree → List (List ℕ) → Tree
put_all n t [] = t
put_all n t (p ∷ ps) = insert (put_all n t ps) p n

-- the file with the paths `old` has the paths `new` now, and these bytes
unfoldable pub refiled : Tree → PathSet → PathSet → List ℕ → Tree
refiled t old new bytes = put_all (File new bytes) (take_all t (path_list old)) (path_list new)

-- the file at p, with other paths and bytes
abbrev pub refile : Session → List ℕ → PathSet → List ℕ → Session
refile s p new bytes = record s { tree = refiled s.tree (paths_at s.tree p) new bytes }

-- other bytes in a file that is there, at each of its paths
abbrev pub set_bytes : Session → List ℕ → List ℕ → Session
set_bytes s p bytes = refile s p (paths_at s.tree p) bytes

-- a new file with these bytes, and this path alone
abbrev pub add_file : Session → List ℕ → List ℕ → Session
add_file s p bytes = put_node s p (File (only_path p) bytes)

-- the file at p, which has these bytes, loses this path; without any it is gone
abbrev pub drop_path : Session → List ℕ → List ℕ → Session
drop_path s p bytes = refile s p (without_path (paths_at s.tree p) p) bytes

-- the path p of a file, which has these bytes, becomes q; its other paths stay
abbrev pub move_file : Session → List ℕ → List ℕ → List ℕ → Session
move_file s p q bytes = refile s p (with_path (without_path (paths_at s.tree p) p) q) bytes

-- the file at p, which has these bytes, gets one path more
abbrev pub add_path : Session → List ℕ → List ℕ → List ℕ → Session
add_path s p q bytes = refile s p (with_path (paths_at s.tree p) q) bytes

-- a slice with these bytes
abbrev pub put_slice : Session → ℕ → List ℕ → Session
put_slice s label bytes = record s { slices = insert s.slices label bytes }
