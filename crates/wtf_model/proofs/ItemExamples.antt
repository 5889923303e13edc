-- The worked examples of what calls read and change, and of retries and stale jobs that have a cause.
use Rattle.std.proofs.Common.{◌≡◌, ◌≢◌, ◌<◌, ℕ, Bool, true, false, List, [], ◌∷◌, ◌++◌, map, Some, None, codes, refl, sym, ap, ◌∙◌, true≢false}
use Rattle.std.specs.FinMap.{get, remove, empty, get-empty}
use Rattle.std.specs.Ordering.{nat_cmp}
use Rattle.std.specs.Cmp.Lexicographic.{slice_cmp}
use Rattle.wtf_model.specs.declared.answer.Answer.TheVariants as answer
use Rattle.wtf_model.specs.declared.item.Item.{Item}
use Rattle.wtf_model.specs.declared.item.Item.TheVariants.{NodeOf, BodyOf, LinksOf}
use Rattle.wtf_model.specs.declared.op.Op.TheVariants as op
use Rattle.wtf_model.specs.declared.event.Verb.TheVariants as verb
use Rattle.wtf_model.specs.declared.event.Event.TheVariants as event
use Rattle.wtf_model.specs.Tree.{only_path, path_list, Tree, Dir, File, root, root_alone, paths_of, paths_at}
use Rattle.wtf_model.specs.Session.{Session, Handle, fresh}
use Rattle.wtf_model.specs.Done.{Done}
use Rattle.wtf_model.specs.Call.{call}
use Rattle.wtf_model.specs.Items.{is_among, meets, source_reads, body_of, bodies_of, handle_reads, handle_changes, reads, unless_refused, writes, reads_from, reads_of, writes_of, file_changes, folder_changes}
use Rattle.wtf_model.specs.Transaction.{Transaction, Job}
use Rattle.wtf_model.specs.Jobs.{MayPut, is_job_touched}
use Rattle.wtf_model.specs.Lawful.{MayTry, May, is_touched}
use Rattle.wtf_model.specs.Steps.{Machine, after, cap_of, is_live, touch, touch_job}
use Rattle.wtf_model.specs.Examples.{a}
use Rattle.wtf_model.proofs.Laws.{get-node_same, get-node_other, get-handle_same}
use Rattle.wtf_model.proofs.PathLaws.{list-only}
use Rattle.wtf_model.proofs.ByteLaws.{append-none}
use Rattle.wtf_model.proofs.StepLaws.{after-client}
use Rattle.wtf_model.proofs.ItemLaws.{is_among-head, is_among-tail, meets-by, meets-none, reads_from-next, writes-okay, get-each_some}
use Rattle.wtf_model.proofs.Held.{handle, with_file, held, create_held, open_held}
use Rattle.wtf_model.proofs.MachineExamples.{asked, asks, live_try, left}
use Rattle.wtf_model.proofs.JobLaws.{may_put, put_may}

-- ---- calls by handles

pub appended : (s : Session) (f : ℕ) (h : Handle) (bytes : List ℕ) → get s.handles f ≡ Some h → reads s (op.Append f bytes) ≡ BodyOf h.path ∷ []
appended s f h bytes there = ap body_of there

pub sought_end : (s : Session) (f : ℕ) (h : Handle) → get s.handles f ≡ Some h → handle_reads s f ≡ BodyOf h.path ∷ []
sought_end s f h there = ap body_of there

pub written : (cap : ℕ) (s : Session) (f : ℕ) (h : Handle) (bytes : List ℕ) → get s.handles f ≡ Some h → (call cap s (op.Write f bytes)).answer ≡ answer.Okay
    → writes cap s (op.Write f bytes) ≡ map (λ q. BodyOf q) (path_list (paths_at s.tree h.path))
written cap s f h bytes there fine = writes-okay cap s (op.Write f bytes) fine ∙ ap (bodies_of s.tree) there

pub written_alone : (cap : ℕ) (s : Session) (f : ℕ) (h : Handle) (bytes old : List ℕ) → get s.handles f ≡ Some h → get s.tree h.path ≡ Some (File (only_path h.path) old)
    → (call cap s (op.Write f bytes)).answer ≡ answer.Okay → writes cap s (op.Write f bytes) ≡ BodyOf h.path ∷ []
written_alone cap s f h bytes old there file fine =
    written cap s f h bytes there fine
    ∙ ap (λ o. map (λ q. BodyOf q) (path_list (paths_of o))) file
    ∙ ap (map (λ q. BodyOf q)) (list-only h.path)

pub unopened : (cap : ℕ) (s : Session) (f : ℕ) (bytes : List ℕ) → get s.handles f ≡ None → writes cap s (op.Append f bytes) ≡ []
unopened cap s f bytes none = ap (λ (d : Done). unless_refused d.answer (handle_changes s f)) (append-none cap s f bytes none)

-- ---- what a commit lets others see

-- a transaction that has committed, by its line
committed_others : (m : Machine) (c d n : ℕ) (t u : Transaction) → get m.transactions c ≡ Some t → d ≢ c → get m.transactions d ≡ Some u
    → get (after m (event.Client c verb.Commit) (answer.Committed n)).transactions d ≡ Some (touch (writes_of (cap_of m) m.now t.ops) u)
committed_others m c d n t u here other there =
    ap (λ (x : Machine). get x.transactions d) (after-client m c verb.Commit (answer.Committed n) (Some t) here)
    ∙ get-each_some (touch (writes_of (cap_of m) m.now t.ops)) (remove m.transactions c) d u (left m.transactions c d other ∙ there)

pub seen_by_others : (m : Machine) (c d n : ℕ) (t u : Transaction) → get m.transactions c ≡ Some t → d ≢ c → get m.transactions d ≡ Some u
    → get (after m (event.Client c verb.Commit) (answer.Committed n)).transactions d ≡ Some (record u { touched = u.touched ++ writes_of (cap_of m) m.now t.ops })
seen_by_others m c d n t u here other there = committed_others m c d n t u here other there

pub seen_by_jobs : (m : Machine) (c j n : ℕ) (t : Transaction) (job : Job) → get m.transactions c ≡ Some t → get m.jobs j ≡ Some job
    → get (after m (event.Client c verb.Commit) (answer.Committed n)).jobs j ≡ Some (record job { touched = job.touched ++ writes_of (cap_of m) m.now t.ops })
seen_by_jobs m c j n t job here there =
    ap (λ (x : Machine). get x.jobs j) (after-client m c verb.Commit (answer.Committed n) (Some t) here)
    ∙ get-each_some (touch_job (writes_of (cap_of m) m.now t.ops)) m.jobs j job there

-- ---- retries

pub needless : (m : Machine) (c base now : ℕ) (t : Transaction) → get m.transactions c ≡ Some t → is_live t ≡ true → is_touched (cap_of m) t ≡ false
    → May m (event.Client c verb.Try) (answer.Retry base now) → ⊥
needless m c base now t there live none may =
    let both : MayTry m t (answer.Retry base now) = asks m c (Some t) there verb.Try (answer.Retry base now) (live_try t live) may in
    true≢false (sym both.1 ∙ none)

pub untouched : (m : Machine) (c base now : ℕ) (t : Transaction) → get m.transactions c ≡ Some t → is_live t ≡ true → t.touched ≡ []
    → May m (event.Client c verb.Try) (answer.Retry base now) → ⊥
untouched m c base now t there live none =
    needless m c base now t there live (ap (λ items. meets items (reads_of (cap_of m) t.tree t.ops)) none ∙ meets-none (reads_of (cap_of m) t.tree t.ops))

pub lawful : (m : Machine) (c : ℕ) (t : Transaction) (i : Item) → get m.transactions c ≡ Some t → is_live t ≡ true → t.base < m.number
    → is_among t.touched i ≡ true → is_among (reads_of (cap_of m) t.tree t.ops) i ≡ true → May m (event.Client c verb.Try) (answer.Retry t.base m.number)
lawful m c t i there live less one two =
    asked m c (Some t) there verb.Try (answer.Retry t.base m.number) (live_try t live) ((refl, refl, less), meets-by t.touched (reads_of (cap_of m) t.tree t.ops) i one two)

-- ---- runs of calls

pub of_one : (cap : ℕ) (t : Tree) (p : List ℕ) → reads_of cap t (op.Unlink p ∷ []) ≡ NodeOf p ∷ LinksOf p ∷ []
unfolding reads_from
of_one cap t p = refl

pub beside : (cap : ℕ) (t : Tree) → meets (BodyOf a ∷ folder_changes (codes "/d")) (reads_of cap t (op.Open 0 a ∷ op.Write 0 (codes "cd") ∷ op.Mkdir (codes "/e") ∷ [])) ≡ false
unfolding reads_from
beside cap t = refl

pub moved_away : (cap : ℕ) (t : Tree) → meets (file_changes a ++ file_changes (codes "/b")) (reads_of cap t (op.Open 0 a ∷ op.Write 0 (codes "cd") ∷ [])) ≡ true
unfolding reads_from
moved_away cap t = refl

pub taken_out : (cap : ℕ) (t : Tree) → meets (file_changes a) (reads_of cap t (op.Open 0 a ∷ op.Write 0 (codes "cd") ∷ [])) ≡ true
unfolding reads_from
taken_out cap t = refl

top : get root_alone root ≡ Some Dir
top = get-node_same empty root Dir

free : get root_alone a ≡ None
free = get-node_other empty root Dir a (λ e. cc) ∙ get-empty (slice_cmp nat_cmp) a

read_own : (cap : ℕ) (s : Session) (h : Handle) → get s.handles 0 ≡ Some h → reads_from cap s (op.Read 0 9 ∷ []) ≡ BodyOf h.path ∷ []
unfolding reads_from
read_own cap s h there = ap (λ o. body_of o ++ []) there

pub own : (cap : ℕ) → reads_of cap root_alone (op.Create a ∷ op.Open 0 a ∷ op.Read 0 9 ∷ []) ≡ NodeOf a ∷ NodeOf root ∷ NodeOf a ∷ BodyOf a ∷ []
own cap =
    let made : Session = fresh (with_file root_alone []) in
    let opened : Session = held root_alone [] 0 in
    let at_end : reads_from cap opened (op.Read 0 9 ∷ []) ≡ BodyOf a ∷ [] = read_own cap opened (handle 0) (get-handle_same empty 0 (handle 0)) in
    reads_from-next cap (fresh root_alone) made (op.Create a) answer.Okay (op.Open 0 a ∷ op.Read 0 9 ∷ []) (create_held cap root_alone top free)
    ∙ ap (λ l. reads (fresh root_alone) (op.Create a) ++ l)
    (reads_from-next cap made opened (op.Open 0 a) answer.Okay (op.Read 0 9 ∷ []) (open_held cap root_alone []) ∙ ap (λ l. reads made (op.Open 0 a) ++ l) at_end)

pub own_beside : (cap : ℕ) → meets (file_changes (codes "/b")) (reads_of cap root_alone (op.Create a ∷ op.Open 0 a ∷ op.Read 0 9 ∷ [])) ≡ false
own_beside cap = ap (meets (file_changes (codes "/b"))) (own cap)

pub own_same : (cap : ℕ) → meets (file_changes a) (reads_of cap root_alone (op.Create a ∷ op.Open 0 a ∷ op.Read 0 9 ∷ [])) ≡ true
own_same cap = ap (meets (file_changes a)) (own cap)

-- an append by a handle on the file
pub appends : (items : List Item) (b : Bool) (s : Session) (h : Handle) (bytes : List ℕ) → get s.handles 0 ≡ Some h → h.path ≡ a → meets items (BodyOf a ∷ []) ≡ b
    → meets items (reads s (op.Append 0 bytes)) ≡ b
appends items b s h bytes there path is = ap (meets items) (appended s 0 h bytes there ∙ ap (λ p. BodyOf p ∷ []) path) ∙ is

-- ---- stale jobs

pub stale_needless : (m : Machine) (j base now : ℕ) (job : Job) → get m.jobs j ≡ Some job → is_job_touched job ≡ false → May m (event.Put j) (answer.Stale base now) → ⊥
stale_needless m j base now job there none may =
    let both : MayPut m (Some job) (answer.Stale base now) = put_may m j (Some job) (answer.Stale base now) there may in
    true≢false (sym both.1 ∙ none)

pub stale_lawful : (m : Machine) (j : ℕ) (job : Job) (i : Item) → get m.jobs j ≡ Some job → job.base < m.number → is_among job.touched i ≡ true → is_among (source_reads job.path) i ≡ true
    → May m (event.Put j) (answer.Stale job.base m.number)
stale_lawful m j job i there less one two = may_put m j (Some job) (answer.Stale job.base m.number) there ((refl, refl, less), meets-by job.touched (source_reads job.path) i one two)

pub stale_node : (p : List ℕ) → is_among (source_reads p) (NodeOf p) ≡ true
stale_node p = is_among-head (NodeOf p) (BodyOf p ∷ [])

pub stale_body : (p : List ℕ) → is_among (source_reads p) (BodyOf p) ≡ true
stale_body p = is_among-tail (NodeOf p) (BodyOf p ∷ []) (BodyOf p) (is_among-head (BodyOf p) [])

pub another_file : (job : Job) → job.path ≡ a → job.touched ≡ file_changes (codes "/b") → is_job_touched job ≡ false
another_file job path touched = ap (λ p. meets job.touched (source_reads p)) path ∙ ap (λ items. meets items (source_reads a)) touched
