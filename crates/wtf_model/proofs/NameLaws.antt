-- What calls on names leave and answer: one law for each way out of a call.
use Rattle.std.proofs.Common.{◌≡◌, ℕ, Bool, true, false, List, [], ◌∷◌, Some, None, Result, Ok, Err, IsTrue, ◌↔◌, if◌then◌else◌, refl, sym, ap, ◌∙◌}
use Rattle.std.specs.List.{list_any}
use Rattle.std.specs.Str.{bytes_eq}
use Rattle.std.specs.FinMap.{get, insert, remove, values}
use Rattle.wtf_model.specs.declared.answer.Word.{Word}
use Rattle.wtf_model.specs.declared.answer.Word.TheVariants as word
use Rattle.wtf_model.specs.declared.answer.Answer.{Answer}
use Rattle.wtf_model.specs.declared.answer.Answer.TheVariants as answer
use Rattle.wtf_model.specs.declared.op.Op.TheVariants as op
use Rattle.wtf_model.specs.Tree.{Tree, TreeNode, Dir, root, ◌>>=◌, target, source, is_directory, are_none, is_empty, paths_in, names_in}
use Rattle.wtf_model.specs.Session.{Session}
use Rattle.wtf_model.specs.Done.{done, is_on, is_closed, put_node, add_file, take_out, drop_path, move_file, add_path}
use Rattle.wtf_model.specs.NameCalls.{mkdir, create, is_not_root, rmdir, unlink, rename, link, list, shown_node}
use Rattle.wtf_model.specs.Call.{call, or_refused}
use Rattle.wtf_model.specs.Examples.{unchanged}
use Rattle.wtf_model.proofs.CallLaws.{call-create}
use Rattle.wtf_model.proofs.ByteLaws.{stat-at}

-- a call, by what it asks of the tree, one after another

pub mkdir-by : (cap : ℕ) (S : Session) (p : List ℕ) (r : Result (Unit {0}) Word) → target S.tree p ≡ r → call cap S (op.Mkdir p) ≡ or_refused S (r >>= (λ _. done (put_node S p Dir) answer.Okay))
unfolding mkdir
mkdir-by cap S p r e = ap (λ z. or_refused S (z >>= (λ _. done (put_node S p Dir) answer.Okay))) e

pub create-by : (cap : ℕ) (S : Session) (p : List ℕ) (r : Result (Unit {0}) Word) → target S.tree p ≡ r → call cap S (op.Create p) ≡ or_refused S (r >>= (λ _. done (add_file S p []) answer.Okay))
unfolding create
create-by cap S p r e = ap (λ z. or_refused S (z >>= (λ _. done (add_file S p []) answer.Okay))) e

pub rmdir-by : (cap : ℕ) (S : Session) (p : List ℕ) (a c d : Result (Unit {0}) Word) → is_not_root p ≡ a → is_directory (get S.tree p) ≡ c → is_empty S.tree p ≡ d
    → call cap S (op.Rmdir p) ≡ or_refused S (a >>= (λ _. c >>= (λ _. d >>= (λ _. done (take_out S p) answer.Okay))))
unfolding rmdir
rmdir-by cap S p a c d e f g =
    ap (λ z. or_refused S (z >>= (λ _. is_directory (get S.tree p) >>= (λ _. is_empty S.tree p >>= (λ _. done (take_out S p) answer.Okay))))) e
    ∙ ap (λ z. or_refused S (a >>= (λ _. z >>= (λ _. is_empty S.tree p >>= (λ _. done (take_out S p) answer.Okay))))) f
    ∙ ap (λ z. or_refused S (a >>= (λ _. c >>= (λ _. z >>= (λ _. done (take_out S p) answer.Okay))))) g

pub list-by : (cap : ℕ) (S : Session) (p : List ℕ) (r : Result (Unit {0}) Word) → is_directory (get S.tree p) ≡ r → call cap S (op.List p) ≡ or_refused S (r >>= (λ _. done S (answer.Names (names_in S.tree p))))
unfolding list
list-by cap S p r e = ap (λ z. or_refused S (z >>= (λ _. done S (answer.Names (names_in S.tree p))))) e

pub unlink-by : (cap : ℕ) (S : Session) (p : List ℕ) (r : Result (List ℕ) Word) (c : Result (Unit {0}) Word) → source S.tree p ≡ r → is_closed S p ≡ c
    → call cap S (op.Unlink p) ≡ or_refused S (r >>= (λ bytes. c >>= (λ _. done (drop_path S p bytes) answer.Okay)))
unfolding unlink
unlink-by cap S p r c e f =
    ap (λ z. or_refused S (z >>= (λ bytes. is_closed S p >>= (λ _. done (drop_path S p bytes) answer.Okay)))) e
    ∙ ap (λ z. or_refused S (r >>= (λ bytes. z >>= (λ _. done (drop_path S p bytes) answer.Okay)))) f

pub rename-by : (cap : ℕ) (S : Session) (p q : List ℕ) (r : Result (List ℕ) Word) (c d : Result (Unit {0}) Word) → source S.tree p ≡ r → is_closed S p ≡ c → target S.tree q ≡ d
    → call cap S (op.Rename p q) ≡ or_refused S (r >>= (λ bytes. c >>= (λ _. d >>= (λ _. done (move_file S p q bytes) answer.Okay))))
unfolding rename
rename-by cap S p q r c d e f g =
    ap (λ z. or_refused S (z >>= (λ bytes. is_closed S p >>= (λ _. target S.tree q >>= (λ _. done (move_file S p q bytes) answer.Okay))))) e
    ∙ ap (λ z. or_refused S (r >>= (λ bytes. z >>= (λ _. target S.tree q >>= (λ _. done (move_file S p q bytes) answer.Okay))))) f
    ∙ ap (λ z. or_refused S (r >>= (λ bytes. c >>= (λ _. z >>= (λ _. done (move_file S p q bytes) answer.Okay))))) g

pub link-by : (cap : ℕ) (S : Session) (p q : List ℕ) (r : Result (List ℕ) Word) (d : Result (Unit {0}) Word) → source S.tree p ≡ r → target S.tree q ≡ d
    → call cap S (op.Link p q) ≡ or_refused S (r >>= (λ bytes. d >>= (λ _. done (add_path S p q bytes) answer.Okay)))
unfolding link
link-by cap S p q r d e f =
    ap (λ z. or_refused S (z >>= (λ bytes. target S.tree q >>= (λ _. done (add_path S p q bytes) answer.Okay)))) e
    ∙ ap (λ z. or_refused S (r >>= (λ bytes. z >>= (λ _. done (add_path S p q bytes) answer.Okay)))) f

-- each way out of a call

module _ (cap : ℕ) (s : Session) (p : List ℕ) where
  pub mkdir-refused : (w : Word) → target s.tree p ≡ Err w → call cap s (op.Mkdir p) ≡ unchanged s (answer.Refused w)
  unfolding mkdir
  mkdir-refused w e = ap (λ r. or_refused s (r >>= (λ _. done (put_node s p Dir) answer.Okay))) e

  pub mkdir-made : target s.tree p ≡ Ok tt → call cap s (op.Mkdir p) ≡ record { session = put_node s p Dir; answer = answer.Okay }
  unfolding mkdir
  mkdir-made e = ap (λ r. or_refused s (r >>= (λ _. done (put_node s p Dir) answer.Okay))) e

  -- q is a copy of the path
  pub mkdir-done : (q : List ℕ) (t : Tree) → target s.tree p ≡ Ok tt → q ≡ p → t ≡ insert s.tree q Dir
      → call cap s (op.Mkdir p) ≡ record { session = record s { tree = t }; answer = answer.Okay }
  unfolding mkdir
  mkdir-done q t e copy put =
      ap (λ r. or_refused s (r >>= (λ _. done (put_node s p Dir) answer.Okay))) e
      ∙ ap (λ (t : Tree). record { session = record s { tree = t }; answer = answer.Okay }) (sym (put ∙ ap (λ q. insert s.tree q Dir) copy))

  -- q is a copy of the path
  pub create-done : (q bytes : List ℕ) (made : Session) → target s.tree p ≡ Ok tt → q ≡ p → bytes ≡ [] → made ≡ add_file s q bytes
      → call cap s (op.Create p) ≡ record { session = made; answer = answer.Okay }
  create-done q bytes made e copy none put =
      call-create cap s p e
      ∙ ap (λ made. record { session = made; answer = answer.Okay }) (sym (put ∙ ap (λ q. add_file s q bytes) copy ∙ ap (λ bytes. add_file s p bytes) none))

  pub rmdir-root : bytes_eq p root ≡ true → call cap s (op.Rmdir p) ≡ unchanged s (answer.Refused word.Root)
  unfolding rmdir
  rmdir-root is = ap (λ b. or_refused s ((if b then Err word.Root else Ok tt) >>= (λ _. is_directory (get s.tree p) >>= (λ _. is_empty s.tree p >>= (λ _. done (take_out s p) answer.Okay))))) is

  module _ (below : bytes_eq p root ≡ false) where
    rmdir-below : call cap s (op.Rmdir p) ≡ or_refused s (is_directory (get s.tree p) >>= (λ _. is_empty s.tree p >>= (λ _. done (take_out s p) answer.Okay)))
    unfolding rmdir
    rmdir-below = ap (λ b. or_refused s ((if b then Err word.Root else Ok tt) >>= (λ _. is_directory (get s.tree p) >>= (λ _. is_empty s.tree p >>= (λ _. done (take_out s p) answer.Okay))))) below

    pub rmdir-refused : (w : Word) → is_directory (get s.tree p) ≡ Err w → call cap s (op.Rmdir p) ≡ unchanged s (answer.Refused w)
    rmdir-refused w e = rmdir-below ∙ ap (λ r. or_refused s (r >>= (λ _. is_empty s.tree p >>= (λ _. done (take_out s p) answer.Okay)))) e

    rmdir-in : is_directory (get s.tree p) ≡ Ok tt → call cap s (op.Rmdir p) ≡ or_refused s (is_empty s.tree p >>= (λ _. done (take_out s p) answer.Okay))
    rmdir-in e = rmdir-below ∙ ap (λ r. or_refused s (r >>= (λ _. is_empty s.tree p >>= (λ _. done (take_out s p) answer.Okay)))) e

    pub rmdir-not_empty : is_directory (get s.tree p) ≡ Ok tt → is_empty s.tree p ≡ Err word.NotEmpty → call cap s (op.Rmdir p) ≡ unchanged s (answer.Refused word.NotEmpty)
    rmdir-not_empty e some = rmdir-in e ∙ ap (λ r. or_refused s (r >>= (λ _. done (take_out s p) answer.Okay))) some

    pub rmdir-done : (t : Tree) → is_directory (get s.tree p) ≡ Ok tt → is_empty s.tree p ≡ Ok tt → t ≡ remove s.tree p
        → call cap s (op.Rmdir p) ≡ record { session = record s { tree = t }; answer = answer.Okay }
    rmdir-done t e none taken =
        rmdir-in e ∙ ap (λ r. or_refused s (r >>= (λ _. done (take_out s p) answer.Okay))) none
        ∙ ap (λ (t : Tree). record { session = record s { tree = t }; answer = answer.Okay }) (sym taken)

  pub unlink-refused : (w : Word) → source s.tree p ≡ Err w → call cap s (op.Unlink p) ≡ unchanged s (answer.Refused w)
  unfolding unlink
  unlink-refused w e = ap (λ r. or_refused s (r >>= (λ bytes. is_closed s p >>= (λ _. done (drop_path s p bytes) answer.Okay)))) e

  module _ (bytes : List ℕ) (file : source s.tree p ≡ Ok bytes) where
    unlink-file : call cap s (op.Unlink p) ≡ or_refused s (is_closed s p >>= (λ _. done (drop_path s p bytes) answer.Okay))
    unfolding unlink
    unlink-file = ap (λ r. or_refused s (r >>= (λ bytes. is_closed s p >>= (λ _. done (drop_path s p bytes) answer.Okay)))) file

    pub unlink-busy : list_any (is_on p) (values s.handles) ≡ true → call cap s (op.Unlink p) ≡ unchanged s (answer.Refused word.Busy)
    unlink-busy on = unlink-file ∙ ap (λ b. or_refused s ((if b then Err word.Busy else Ok tt) >>= (λ _. done (drop_path s p bytes) answer.Okay))) on

    pub unlink-done : (left : Session) → list_any (is_on p) (values s.handles) ≡ false → left ≡ drop_path s p bytes
        → call cap s (op.Unlink p) ≡ record { session = left; answer = answer.Okay }
    unlink-done left off is =
        unlink-file ∙ ap (λ b. or_refused s ((if b then Err word.Busy else Ok tt) >>= (λ _. done (drop_path s p bytes) answer.Okay))) off
        ∙ ap (λ left. record { session = left; answer = answer.Okay }) (sym is)

  pub list-refused : (w : Word) → is_directory (get s.tree p) ≡ Err w → call cap s (op.List p) ≡ unchanged s (answer.Refused w)
  unfolding list
  list-refused w e = ap (λ r. or_refused s (r >>= (λ _. done s (answer.Names (names_in s.tree p))))) e

  pub list-done : (names : List (List ℕ)) → is_directory (get s.tree p) ≡ Ok tt → names ≡ names_in s.tree p → call cap s (op.List p) ≡ unchanged s (answer.Names names)
  unfolding list
  list-done names e are =
      ap (λ r. or_refused s (r >>= (λ _. done s (answer.Names (names_in s.tree p))))) e
      ∙ ap (λ (names : List (List ℕ)). unchanged s (answer.Names names)) (sym are)

  pub stat-none : get s.tree p ≡ None → call cap s (op.Stat p) ≡ unchanged s (answer.Refused word.NoEnt)
  stat-none e = stat-at cap s p None e

  pub stat-some : (n : TreeNode) (a : Answer) → get s.tree p ≡ Some n → shown_node (Some n) ≡ Ok a → call cap s (op.Stat p) ≡ unchanged s a
  stat-some n a e shown = stat-at cap s p (Some n) e ∙ ap (λ r. or_refused s (r >>= (λ shown. done s shown))) shown

module _ (cap : ℕ) (s : Session) (p q : List ℕ) where
  pub rename-refused : (w : Word) → source s.tree p ≡ Err w → call cap s (op.Rename p q) ≡ unchanged s (answer.Refused w)
  unfolding rename
  rename-refused w e = ap (λ r. or_refused s (r >>= (λ bytes. is_closed s p >>= (λ _. target s.tree q >>= (λ _. done (move_file s p q bytes) answer.Okay))))) e

  module _ (bytes : List ℕ) (file : source s.tree p ≡ Ok bytes) where
    rename-file : call cap s (op.Rename p q) ≡ or_refused s (is_closed s p >>= (λ _. target s.tree q >>= (λ _. done (move_file s p q bytes) answer.Okay)))
    unfolding rename
    rename-file = ap (λ r. or_refused s (r >>= (λ bytes. is_closed s p >>= (λ _. target s.tree q >>= (λ _. done (move_file s p q bytes) answer.Okay))))) file

    pub rename-busy : list_any (is_on p) (values s.handles) ≡ true → call cap s (op.Rename p q) ≡ unchanged s (answer.Refused word.Busy)
    rename-busy on = rename-file ∙ ap (λ b. or_refused s ((if b then Err word.Busy else Ok tt) >>= (λ _. target s.tree q >>= (λ _. done (move_file s p q bytes) answer.Okay)))) on

    module _ (off : list_any (is_on p) (values s.handles) ≡ false) where
      rename-off : call cap s (op.Rename p q) ≡ or_refused s (target s.tree q >>= (λ _. done (move_file s p q bytes) answer.Okay))
      rename-off = rename-file ∙ ap (λ b. or_refused s ((if b then Err word.Busy else Ok tt) >>= (λ _. target s.tree q >>= (λ _. done (move_file s p q bytes) answer.Okay)))) off

      pub rename-no_target : (w : Word) → target s.tree q ≡ Err w → call cap s (op.Rename p q) ≡ unchanged s (answer.Refused w)
      rename-no_target w e = rename-off ∙ ap (λ r. or_refused s (r >>= (λ _. done (move_file s p q bytes) answer.Okay))) e

      pub rename-done : (left : Session) → target s.tree q ≡ Ok tt → left ≡ move_file s p q bytes → call cap s (op.Rename p q) ≡ record { session = left; answer = answer.Okay }
      rename-done left e is =
          rename-off ∙ ap (λ r. or_refused s (r >>= (λ _. done (move_file s p q bytes) answer.Okay))) e
          ∙ ap (λ left. record { session = left; answer = answer.Okay }) (sym is)

  pub link-refused : (w : Word) → source s.tree p ≡ Err w → call cap s (op.Link p q) ≡ unchanged s (answer.Refused w)
  link-refused w e = link-by cap s p q (Err w) (target s.tree q) e refl

  pub link-no_target : (bytes : List ℕ) (w : Word) → source s.tree p ≡ Ok bytes → target s.tree q ≡ Err w → call cap s (op.Link p q) ≡ unchanged s (answer.Refused w)
  link-no_target bytes w file e = link-by cap s p q (Ok bytes) (Err w) file e

  pub link-done : (bytes : List ℕ) (left : Session) → source s.tree p ≡ Ok bytes → target s.tree q ≡ Ok tt → left ≡ add_path s p q bytes
      → call cap s (op.Link p q) ≡ record { session = left; answer = answer.Okay }
  link-done bytes left file e is =
      link-by cap s p q (Ok bytes) (Ok tt) file e
      ∙ ap (λ left. record { session = left; answer = answer.Okay }) (sym is)

-- what a test of a directory says of the paths in it

pub none_left : (t : Tree) (dir : List ℕ) (r : Bool) → (IsTrue r ↔ (paths_in t dir ≡ [])) → r ≡ true → is_empty t dir ≡ Ok tt
none_left t dir r says is = ap are_none (says.0 is)

some_are : (ks : List (List ℕ)) (r : Bool) → (IsTrue r ↔ (ks ≡ [])) → r ≡ false → are_none ks ≡ Err word.NotEmpty
some_are [] r says not = absurd (cc (says.1 refl, not))
some_are (k ∷ ks) r says not = refl

pub some_left : (t : Tree) (dir : List ℕ) (r : Bool) → (IsTrue r ↔ (paths_in t dir ≡ [])) → r ≡ false → is_empty t dir ≡ Err word.NotEmpty
some_left t dir r says not = some_are (paths_in t dir) r says not
