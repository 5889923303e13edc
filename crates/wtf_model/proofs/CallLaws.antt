-- Laws of single calls: what each leaves and answers where its refusals do not come, and each refusal.
use Rattle.std.proofs.Common.{◌≡◌, ℕ, zero, suc, ◌+◌, ◌≤◌, ◌<◌, List, [], ◌∷◌, length, take, drop, Some, None, Ok, Err, if◌then◌else◌, refl, ap, ◌∙◌, add-zero}
use Rattle.std.proofs.lemmas.List.{drop_all}
use Rattle.std.proofs.lemmas.Bool.{le-leb, lt-leb}
use Rattle.std.specs.FinMap.{get, insert}
use Rattle.wtf_model.specs.declared.answer.Word.{Word}
use Rattle.wtf_model.specs.declared.answer.Word.TheVariants.{Exists, NoParent, NoEnt, IsDir, InUse, NoHandle, TooBig, Range}
use Rattle.wtf_model.specs.declared.answer.Answer.TheVariants.{Okay, Shown, Refused}
use Rattle.wtf_model.specs.declared.op.Op.TheVariants as op
use Rattle.wtf_model.specs.declared.op.Seek.TheVariants as to
use Rattle.wtf_model.specs.Tree.{TreeNode}
use Rattle.wtf_model.specs.Tree.{Dir, File}
use Rattle.wtf_path.specs.Parts.{parent_of}
use Rattle.wtf_model.specs.Tree.{PathSet, Tree, root, ◌>>=◌, is_free, is_parent, bytes_of, target_in, target, source}
use Rattle.wtf_model.specs.Session.{Session, Handle}
use Rattle.wtf_model.specs.Done.{done, open_handle, is_unused, fits, in_range, bytes_at, moved, set_bytes, add_file}
use Rattle.wtf_model.specs.NameCalls.{create}
use Rattle.wtf_model.specs.HandleCalls.{open_file, seek}
use Rattle.wtf_model.specs.ByteCalls.{written, read, write}
use Rattle.wtf_model.specs.Call.{call, or_refused}
use Rattle.wtf_model.specs.Examples.{unchanged}
use Rattle.wtf_model.proofs.Laws.{insert-handle_again}

-- targets and sources

pub target-free : (t : Tree) (p dir : List ℕ) → parent_of p ≡ Some dir → get t dir ≡ Some Dir → get t p ≡ None → target t p ≡ Ok tt
target-free t p dir up is free = ap (target_in t p) up ∙ ap (λ o. is_parent o >>= (λ _. is_free (get t p))) is ∙ ap is_free free

pub target-exists : (t : Tree) (p dir : List ℕ) (n : TreeNode) → parent_of p ≡ Some dir → get t dir ≡ Some Dir → get t p ≡ Some n → target t p ≡ Err Exists
target-exists t p dir n up is there = ap (target_in t p) up ∙ ap (λ o. is_parent o >>= (λ _. is_free (get t p))) is ∙ ap is_free there

pub target-root : (t : Tree) → target t root ≡ Err Exists
target-root t = refl

pub target-no_parent : (t : Tree) (p dir : List ℕ) → parent_of p ≡ Some dir → get t dir ≡ None → target t p ≡ Err NoParent
target-no_parent t p dir up gone = ap (target_in t p) up ∙ ap (λ o. is_parent o >>= (λ _. is_free (get t p))) gone

pub target-file_parent : (t : Tree) (p dir : List ℕ) (paths : PathSet) (bytes : List ℕ) → parent_of p ≡ Some dir → get t dir ≡ Some (File paths bytes) → target t p ≡ Err NoParent
target-file_parent t p dir paths bytes up file = ap (target_in t p) up ∙ ap (λ o. is_parent o >>= (λ _. is_free (get t p))) file

pub source-file : (t : Tree) (p : List ℕ) (paths : PathSet) (bytes : List ℕ) → get t p ≡ Some (File paths bytes) → source t p ≡ Ok bytes
source-file t p paths bytes file = ap bytes_of file

pub source-no_entry : (t : Tree) (p : List ℕ) → get t p ≡ None → source t p ≡ Err NoEnt
source-no_entry t p gone = ap bytes_of gone

pub source-directory : (t : Tree) (p : List ℕ) → get t p ≡ Some Dir → source t p ≡ Err IsDir
source-directory t p is = ap bytes_of is

-- create

pub call-create : (cap : ℕ) (s : Session) (p : List ℕ) → target s.tree p ≡ Ok tt → call cap s (op.Create p) ≡ record { session = add_file s p []; answer = Okay }
unfolding create
call-create cap s p h = ap (λ r. or_refused s (r >>= (λ _. done (add_file s p []) Okay))) h

pub call-create_refused : (cap : ℕ) (s : Session) (p : List ℕ) (w : Word) → target s.tree p ≡ Err w → call cap s (op.Create p) ≡ unchanged s (Refused w)
unfolding create
call-create_refused cap s p w h = ap (λ r. or_refused s (r >>= (λ _. done (add_file s p []) Okay))) h

-- open

abbrev pub opened : Session → ℕ → List ℕ → Session
opened s f p = record s { handles = insert s.handles f (record { path = p; off = 0 }) }

pub call-open : (cap : ℕ) (s : Session) (f : ℕ) (p bytes : List ℕ) → get s.handles f ≡ None → source s.tree p ≡ Ok bytes
    → call cap s (op.Open f p) ≡ record { session = opened s f p; answer = Okay }
unfolding open_file
call-open cap s f p bytes unused file =
    ap (λ o. or_refused s (is_unused o >>= (λ _. source s.tree p >>= (λ _. done (opened s f p) Okay)))) unused
    ∙ ap (λ r. or_refused s (r >>= (λ _. done (opened s f p) Okay))) file

pub call-open_refused : (cap : ℕ) (s : Session) (f : ℕ) (p : List ℕ) (w : Word) → get s.handles f ≡ None → source s.tree p ≡ Err w
    → call cap s (op.Open f p) ≡ unchanged s (Refused w)
unfolding open_file
call-open_refused cap s f p w unused file =
    ap (λ o. or_refused s (is_unused o >>= (λ _. source s.tree p >>= (λ _. done (opened s f p) Okay)))) unused
    ∙ ap (λ r. or_refused s (r >>= (λ _. done (opened s f p) Okay))) file

pub call-open_taken : (cap : ℕ) (s : Session) (f : ℕ) (p : List ℕ) (h : Handle) → get s.handles f ≡ Some h → call cap s (op.Open f p) ≡ unchanged s (Refused InUse)
unfolding open_file
call-open_taken cap s f p h taken = ap (λ o. or_refused s (is_unused o >>= (λ _. source s.tree p >>= (λ _. done (opened s f p) Okay)))) taken

-- read

-- the next bytes of a handle, n at most
abbrev pub bytes_from : Session → Handle → ℕ → List ℕ
bytes_from s h n = take n (drop h.off (bytes_at s.tree h.path))

pub call-read : (cap : ℕ) (s : Session) (f n : ℕ) (h : Handle) → get s.handles f ≡ Some h
    → call cap s (op.Read f n) ≡ record { session = moved s f h (h.off + length (bytes_from s h n)); answer = Shown (bytes_from s h n) }
unfolding read
call-read cap s f n h there = ap (λ o. or_refused s (open_handle o >>= (λ h. done (moved s f h (h.off + length (bytes_from s h n))) (Shown (bytes_from s h n))))) there

-- at the end and past it
take_nil : (n : ℕ) → take {A = ℕ} n [] ≡ []
take_nil zero = refl
take_nil (suc n) = refl

pub call-read_past : (cap : ℕ) (s : Session) (f n : ℕ) (h : Handle) → get s.handles f ≡ Some h → length (bytes_at s.tree h.path) ≤ h.off
    → call cap s (op.Read f n) ≡ unchanged s (Shown [])
call-read_past cap s f n h there past =
    let none : bytes_from s h n ≡ [] = ap (take n) (drop_all h.off (bytes_at s.tree h.path) past) ∙ take_nil n in
    let stays : insert s.handles f (record h { off = h.off + 0 }) ≡ s.handles = ap (λ k. insert s.handles f (record h { off = k })) (add-zero h.off) ∙ insert-handle_again s.handles f h there in
    call-read cap s f n h there
    ∙ ap (λ bytes. record { session = moved s f h (h.off + length bytes); answer = Shown bytes }) none
    ∙ ap (λ x. record { session = record s { handles = x }; answer = Shown [] }) stays

-- write

pub call-write : (cap : ℕ) (s : Session) (f b : ℕ) (bs : List ℕ) (h : Handle) → get s.handles f ≡ Some h → h.off + length (b ∷ bs) ≤ cap
    → call cap s (op.Write f (b ∷ bs))
    ≡ record { session = moved (set_bytes s h.path (written (bytes_at s.tree h.path) h.off (b ∷ bs))) f h (h.off + length (b ∷ bs)); answer = Okay }
unfolding write
call-write cap s f b bs h there fit =
    ap (λ o. or_refused s (open_handle o >>= (λ h. fits cap (h.off + length (b ∷ bs)) >>= (λ _. done (moved (set_bytes s h.path (written (bytes_at s.tree h.path) h.off (b ∷ bs))) f h (h.off + length (b ∷ bs))) Okay)))) there
    ∙ ap (λ v. or_refused s ((if v then Ok tt else Err TooBig) >>= (λ _. done (moved (set_bytes s h.path (written (bytes_at s.tree h.path) h.off (b ∷ bs))) f h (h.off + length (b ∷ bs))) Okay))) (le-leb (h.off + length (b ∷ bs)) cap fit)

-- no byte changes nothing
pub call-write_none : (cap : ℕ) (s : Session) (f : ℕ) (h : Handle) → get s.handles f ≡ Some h → call cap s (op.Write f []) ≡ unchanged s Okay
unfolding write
call-write_none cap s f h there = ap (λ o. or_refused s (open_handle o >>= (λ _. done s Okay))) there

pub call-write_too_big : (cap : ℕ) (s : Session) (f b : ℕ) (bs : List ℕ) (h : Handle) → get s.handles f ≡ Some h → cap < h.off + length (b ∷ bs)
    → call cap s (op.Write f (b ∷ bs)) ≡ unchanged s (Refused TooBig)
unfolding write
call-write_too_big cap s f b bs h there past =
    ap (λ o. or_refused s (open_handle o >>= (λ h. fits cap (h.off + length (b ∷ bs)) >>= (λ _. done (moved (set_bytes s h.path (written (bytes_at s.tree h.path) h.off (b ∷ bs))) f h (h.off + length (b ∷ bs))) Okay)))) there
    ∙ ap (λ v. or_refused s ((if v then Ok tt else Err TooBig) >>= (λ _. done (moved (set_bytes s h.path (written (bytes_at s.tree h.path) h.off (b ∷ bs))) f h (h.off + length (b ∷ bs))) Okay))) (lt-leb (h.off + length (b ∷ bs)) cap past)

-- seek

pub call-seek : (cap : ℕ) (s : Session) (f n : ℕ) (h : Handle) → get s.handles f ≡ Some h → n ≤ cap
    → call cap s (op.Seek f (to.Set n)) ≡ record { session = moved s f h n; answer = Okay }
unfolding seek
call-seek cap s f n h there fit = ap (λ o. or_refused s (open_handle o >>= (λ h. in_range cap n >>= (λ _. done (moved s f h n) Okay)))) there ∙ ap (λ v. or_refused s ((if v then Ok tt else Err Range) >>= (λ _. done (moved s f h n) Okay))) (le-leb n cap fit)

-- a label that is not open

pub call-read_no_handle : (cap : ℕ) (s : Session) (f n : ℕ) → get s.handles f ≡ None → call cap s (op.Read f n) ≡ unchanged s (Refused NoHandle)
unfolding read
call-read_no_handle cap s f n none = ap (λ o. or_refused s (open_handle o >>= (λ h. done (moved s f h (h.off + length (bytes_from s h n))) (Shown (bytes_from s h n))))) none

pub call-write_no_handle : (cap : ℕ) (s : Session) (f : ℕ) (bytes : List ℕ) → get s.handles f ≡ None → call cap s (op.Write f bytes) ≡ unchanged s (Refused NoHandle)
unfolding write
call-write_no_handle cap s f [] none = ap (λ o. or_refused s (open_handle o >>= (λ _. done s Okay))) none
call-write_no_handle cap s f (b ∷ bs) none = ap (λ o. or_refused s (open_handle o >>= (λ h. fits cap (h.off + length (b ∷ bs)) >>= (λ _. done (moved (set_bytes s h.path (written (bytes_at s.tree h.path) h.off (b ∷ bs))) f h (h.off + length (b ∷ bs))) Okay)))) none

pub call-seek_no_handle : (cap : ℕ) (s : Session) (f n : ℕ) → get s.handles f ≡ None → call cap s (op.Seek f (to.Set n)) ≡ unchanged s (Refused NoHandle)
unfolding seek
call-seek_no_handle cap s f n none = ap (λ o. or_refused s (open_handle o >>= (λ h. in_range cap n >>= (λ _. done (moved s f h n) Okay)))) none
