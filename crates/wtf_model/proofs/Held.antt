-- Steps of one client alone that has the file `/a` open as 0.
use Rattle.std.proofs.Common.{◌≡◌, ℕ, ◌+◌, ◌<◌, ◌≤◌, List, [], ◌∷◌, length, take, drop, Some, None, refl, sym, ap, subst, ◌∙◌, arith}
use Rattle.std.specs.FinMap.{get, insert, empty, get-empty}
use Rattle.std.specs.Ordering.{nat_cmp}
use Rattle.wtf_base.specs.declared.settings.Settings.{Settings}
use Rattle.wtf_model.specs.declared.answer.Answer.{Answer}
use Rattle.wtf_model.specs.declared.answer.Answer.TheVariants.{Okay, Shown, FaultRead, FaultWrite}
use Rattle.wtf_model.specs.declared.op.Op.TheVariants as op
use Rattle.wtf_model.specs.declared.op.Seek.TheVariants as to
use Rattle.wtf_model.specs.Tree.{Dir, File}
use Rattle.wtf_model.specs.Tree.{only_path, Tree, root}
use Rattle.wtf_model.specs.Session.{Session, Handle, fresh}
use Rattle.wtf_model.specs.Done.{Done}
use Rattle.wtf_model.specs.Call.{call, written, bytes_at}
use Rattle.wtf_model.specs.Steps.{Machine, May, after, due}
use Rattle.wtf_model.proofs.PathLaws.{refiled-alone}
use Rattle.wtf_model.proofs.Laws.{get-node_same, get-handle_same, insert-handle_over, insert-node_over, bytes_at-file_same, source-file_same}
use Rattle.wtf_model.proofs.CallLaws.{call-create, call-open, call-read, call-write, call-seek, target-free}
use Rattle.wtf_model.specs.Examples.{a, calls, ShowsBytes}
use Rattle.wtf_model.proofs.StepLaws.{May-read_fault, May-write_fault, after-FaultRead, after-FaultWrite}
use Rattle.wtf_model.proofs.Runs.{IsOpen, cap_with, step_call, due_is, is_asked}

abbrev pub handle : ℕ → Handle
handle off = record { path = a; off = off }

-- the tree with the file, and the handle at an offset
abbrev pub with_file : Tree → List ℕ → Tree
with_file tree bytes = insert tree a (File (only_path a) bytes)

abbrev pub held : Tree → List ℕ → ℕ → Session
held tree bytes off = record { tree = with_file tree bytes; handles = insert empty 0 (handle off); slices = empty }

-- the file and the handle after others of theirs
merged : (tree : Tree) (old new : List ℕ) (was off : ℕ)
    → let s : Session = record { tree = insert (with_file tree old) a (File (only_path a) new); handles = insert (insert empty 0 (handle was)) 0 (handle off); slices = empty } in
    s ≡ held tree new off
merged tree old new was off =
    ap (λ x. let s : Session = record { tree = x; handles = insert (insert empty 0 (handle was)) 0 (handle off); slices = empty } in s) (insert-node_over tree a (File (only_path a) old) (File (only_path a) new))
    ∙ ap (λ x. let s : Session = record { tree = with_file tree new; handles = x; slices = empty } in s) (insert-handle_over empty 0 (handle was) (handle off))

moved_held : (tree : Tree) (bytes : List ℕ) (was off : ℕ)
    → let s : Session = record { tree = with_file tree bytes; handles = insert (insert empty 0 (handle was)) 0 (handle off); slices = empty } in
    s ≡ held tree bytes off
moved_held tree bytes was off = ap (λ x. let s : Session = record { tree = with_file tree bytes; handles = x; slices = empty } in s) (insert-handle_over empty 0 (handle was) (handle off))

abbrev pub answering : Session → Answer → Done
answering s answer = record { session = s; answer = answer }

pub create_held : (cap : ℕ) (tree : Tree) → get tree root ≡ Some Dir → get tree a ≡ None → call cap (fresh tree) (op.Create a) ≡ answering (fresh (with_file tree [])) Okay
create_held cap tree top free = call-create cap (fresh tree) a (target-free tree a root refl top free)

pub open_held : (cap : ℕ) (tree : Tree) (bytes : List ℕ) → call cap (fresh (with_file tree bytes)) (op.Open 0 a) ≡ answering (held tree bytes 0) Okay
open_held cap tree bytes = call-open cap (fresh (with_file tree bytes)) 0 a bytes (get-empty nat_cmp 0) (source-file_same tree a (only_path a) bytes)

pub write_held : (cap : ℕ) (tree : Tree) (bytes : List ℕ) (off b : ℕ) (bs : List ℕ) → off + length (b ∷ bs) ≤ cap
    → call cap (held tree bytes off) (op.Write 0 (b ∷ bs)) ≡ answering (held tree (written bytes off (b ∷ bs)) (off + length (b ∷ bs))) Okay
write_held cap tree bytes off b bs fit =
    let upto : ℕ = off + length (b ∷ bs) in
    let with_tree : Tree → Done = λ x. answering (record { tree = x; handles = insert (insert empty 0 (handle off)) 0 (handle upto); slices = empty }) Okay in
    let there : get (with_file tree bytes) a ≡ Some (File (only_path a) bytes) = get-node_same tree a (File (only_path a) bytes) in
    call-write cap (held tree bytes off) 0 b bs (handle off) (get-handle_same empty 0 (handle off)) fit
    ∙ ap with_tree (refiled-alone (with_file tree bytes) a bytes (written (bytes_at (with_file tree bytes) a) off (b ∷ bs)) there)
    ∙ ap (λ old. with_tree (insert (with_file tree bytes) a (File (only_path a) (written old off (b ∷ bs))))) (bytes_at-file_same tree a (only_path a) bytes)
    ∙ ap (λ s. answering s Okay) (merged tree bytes (written bytes off (b ∷ bs)) off upto)

pub seek_held : (cap : ℕ) (tree : Tree) (bytes : List ℕ) (off n : ℕ) → n ≤ cap → call cap (held tree bytes off) (op.Seek 0 (to.Set n)) ≡ answering (held tree bytes n) Okay
seek_held cap tree bytes off n fit =
    call-seek cap (held tree bytes off) 0 n (handle off) (get-handle_same empty 0 (handle off)) fit
    ∙ ap (λ s. answering s Okay) (moved_held tree bytes off n)

pub read_held : (cap : ℕ) (tree : Tree) (bytes : List ℕ) (off n : ℕ)
    → call cap (held tree bytes off) (op.Read 0 n) ≡ answering (held tree bytes (off + length (take n (drop off bytes)))) (Shown (take n (drop off bytes)))
read_held cap tree bytes off n =
    call-read cap (held tree bytes off) 0 n (handle off) (get-handle_same empty 0 (handle off))
    ∙ ap (λ old. answering (record { tree = with_file tree bytes; handles = insert (insert empty 0 (handle off)) 0 (handle (off + length (take n (drop off old)))); slices = empty }) (Shown (take n (drop off old)))) (bytes_at-file_same tree a (only_path a) bytes)
    ∙ ap (λ s. answering s (Shown (take n (drop off bytes)))) (moved_held tree bytes off (off + length (take n (drop off bytes))))

pub region_least : (settings : Settings) → 64 ≤ settings.region
region_least settings = settings.limits.5

pub one_server : (settings : Settings) → 0 < settings.servers
one_server settings = settings.limits.0

module _ (settings : Settings) (number : ℕ) (now : Tree) (n : ℕ) (m : Machine) (room : n < 4096) where
  pub step_create : (tree : Tree) → IsOpen settings number now n (fresh tree) m → get tree root ≡ Some Dir → get tree a ≡ None
      → May m (calls (op.Create a)) Okay × IsOpen settings number now (n + 1) (fresh (with_file tree [])) (after m (calls (op.Create a)) Okay)
  step_create tree i top free = step_call settings number now n _ m i (op.Create a) _ Okay room (create_held (cap_with settings) tree top free)

  pub step_open : (tree : Tree) (bytes : List ℕ) → IsOpen settings number now n (fresh (with_file tree bytes)) m
      → May m (calls (op.Open 0 a)) Okay × IsOpen settings number now (n + 1) (held tree bytes 0) (after m (calls (op.Open 0 a)) Okay)
  step_open tree bytes i = step_call settings number now n _ m i (op.Open 0 a) _ Okay room (open_held (cap_with settings) tree bytes)

  pub step_write : (tree : Tree) (bytes : List ℕ) (off b : ℕ) (bs : List ℕ) → IsOpen settings number now n (held tree bytes off) m → off + length (b ∷ bs) ≤ 64
      → May m (calls (op.Write 0 (b ∷ bs))) Okay
      × IsOpen settings number now (n + 1) (held tree (written bytes off (b ∷ bs)) (off + length (b ∷ bs))) (after m (calls (op.Write 0 (b ∷ bs))) Okay)
  step_write tree bytes off b bs i fit =
      let big : 64 ≤ settings.region = region_least settings in
      step_call settings number now n _ m i (op.Write 0 (b ∷ bs)) _ Okay room
      (write_held (cap_with settings) tree bytes off b bs (omega arith))

  pub step_seek : (tree : Tree) (bytes : List ℕ) (off k : ℕ) → IsOpen settings number now n (held tree bytes off) m → k ≤ 64
      → May m (calls (op.Seek 0 (to.Set k))) Okay × IsOpen settings number now (n + 1) (held tree bytes k) (after m (calls (op.Seek 0 (to.Set k))) Okay)
  step_seek tree bytes off k i fit =
      let big : 64 ≤ settings.region = region_least settings in
      step_call settings number now n _ m i (op.Seek 0 (to.Set k)) _ Okay room (seek_held (cap_with settings) tree bytes off k (omega arith))

  pub step_read : (tree : Tree) (bytes : List ℕ) (off k : ℕ) → IsOpen settings number now n (held tree bytes off) m
      → May m (calls (op.Read 0 k)) (Shown (take k (drop off bytes)))
      × IsOpen settings number now (n + 1) (held tree bytes (off + length (take k (drop off bytes)))) (after m (calls (op.Read 0 k)) (Shown (take k (drop off bytes))))
  step_read tree bytes off k i = step_call settings number now n _ m i (op.Read 0 k) _ _ room (read_held (cap_with settings) tree bytes off k)

  -- a store's fault leaves the run where it was
  pub step_write_fault : (tree : Tree) (bytes : List ℕ) (off b : ℕ) (bs : List ℕ) → IsOpen settings number now n (held tree bytes off) m → off + length (b ∷ bs) ≤ 64
      → May m (calls (op.Write 0 (b ∷ bs))) FaultWrite × IsOpen settings number now n (held tree bytes off) (after m (calls (op.Write 0 (b ∷ bs))) FaultWrite)
  step_write_fault tree bytes off b bs i fit =
      let big : 64 ≤ settings.region = region_least settings in (
        May-write_fault m 0 i.t 0 b bs i.here
            (is_asked settings number now n _ m i (op.Write 0 (b ∷ bs)) room)
            (due_is settings number now n _ m i (op.Write 0 (b ∷ bs)) ∙ ap (λ d. d.answer) (write_held (cap_with settings) tree bytes off b bs (omega arith))),
        subst (IsOpen settings number now n (held tree bytes off)) (sym (after-FaultWrite m (calls (op.Write 0 (b ∷ bs))))) i,
      )

  pub step_read_fault : (tree : Tree) (bytes : List ℕ) (off k : ℕ) → IsOpen settings number now n (held tree bytes off) m → ShowsBytes (Shown (take k (drop off bytes)))
      → May m (calls (op.Read 0 k)) (FaultRead 0) × IsOpen settings number now n (held tree bytes off) (after m (calls (op.Read 0 k)) (FaultRead 0))
  step_read_fault tree bytes off k i shows =
      let due_are : due m i.t (op.Read 0 k) ≡ Shown (take k (drop off bytes)) =
      due_is settings number now n _ m i (op.Read 0 k) ∙ ap (λ d. d.answer) (read_held (cap_with settings) tree bytes off k) in
      let some : 0 < settings.servers = one_server settings in (
        May-read_fault m 0 i.t 0 k (FaultRead 0) i.here (is_asked settings number now n _ m i (op.Read 0 k) room)
            (subst ShowsBytes (sym due_are) shows) (subst (λ x. 0 < x.servers) (sym i.settings_are) some),
        subst (IsOpen settings number now n (held tree bytes off)) (sym (after-FaultRead m (calls (op.Read 0 k)) 0)) i,
      )
