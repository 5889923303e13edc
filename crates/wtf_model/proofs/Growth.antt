-- How many paths a tree has behind calls, and behind lines: a call brings one at most, and a line no more than there were lines.
use Rattle.std.proofs.Common.{◌≡◌, ◌≢◌, ◌⊎◌, ℕ, suc, ◌+◌, ◌*◌, ◌≤◌, Bool, true, false, cond, if◌then◌else◌, List, [], ◌∷◌, ◌++◌, map, length}
use Rattle.std.proofs.Common.{is_some, Option, None, Some, Result, Ok, Err, IsSome, refl, sym, ap, subst, ◌∙◌, inl, inr, ⊎_elim, arith}
use Rattle.std.proofs.lemmas.Bool.{cases_Bool, cases_eq, true≢false}
use Rattle.std.proofs.lemmas.List.{length-append}
use Rattle.std.proofs.lemmas.List.Elements.{All-head, All-tail}
use Rattle.std.specs.List.{All}
use Rattle.std.specs.Option.{option_map}
use Rattle.std.specs.Cmp.{nat_cmp_total}
use Rattle.std.specs.Ordering.{nat_cmp, eq_by_cmp}
use Rattle.std.specs.FinMap.{FinMap, get, insert, remove, len, get-empty, get-remove}
use Rattle.std.specs.FinSet.{FinSet}
use Rattle.std.specs.FinSet as set
use Rattle.wtf_model.specs.declared.answer.Answer.{Answer, Aborted'}
use Rattle.wtf_model.specs.declared.answer.Answer.TheVariants.{Okay, Begun, Committed, Retry, Replayed, Planned, Installed, Stale, Scanning, More}
use Rattle.wtf_model.specs.declared.answer.Answer.TheVariants.{Done as AllDone, Saved, FaultSave}
use Rattle.wtf_base.specs.declared.settings.Settings.{Settings}
use Rattle.wtf_model.specs.declared.answer.Word.{Word}
use Rattle.wtf_model.specs.declared.op.Op.{Op}
use Rattle.wtf_model.specs.declared.op.Op.TheVariants as op
use Rattle.wtf_model.specs.declared.op.Seek.{Seek}
use Rattle.wtf_model.specs.declared.op.Seek.TheVariants as to
use Rattle.wtf_model.specs.declared.op.JobKind.{JobKind}
use Rattle.wtf_model.specs.declared.item.Item.{Item}
use Rattle.wtf_model.specs.declared.event.Verb.{Verb}
use Rattle.wtf_model.specs.declared.event.Verb.TheVariants as verb
use Rattle.wtf_model.specs.declared.event.Event.{Event}
use Rattle.wtf_model.specs.declared.event.Event.TheVariants as event
use Rattle.wtf_model.specs.Form.{IsData, IsFormOp, IsFormEvent}
use Rattle.wtf_model.specs.Tree.{PathSet, has_path, with_path, without_path, path_count, Tree, Dir, File, IsTree, ◌>>=◌, paths_of, target, source, sources, is_directory, is_empty}
use Rattle.wtf_model.specs.Session.{Session, Handle, fresh}
use Rattle.wtf_model.specs.Done.{Done, handle_at, is_unused, slice_at, is_closed, fits, in_range, refiled, set_bytes}
use Rattle.wtf_model.specs.NameCalls.{mkdir, create, is_not_root, rmdir, unlink, rename, link, list, shown_node, stat}
use Rattle.wtf_model.specs.HandleCalls.{open_file, close, seek, tell}
use Rattle.wtf_model.specs.ByteCalls.{read, write, append, truncate, punch}
use Rattle.wtf_model.specs.SliceCalls.{yank, peek, cut, paste, glue, concat, copy}
use Rattle.wtf_model.specs.Call.{call, or_refused}
use Rattle.wtf_model.specs.Items.{writes_of}
use Rattle.wtf_model.specs.Jobs.{job_changes}
use Rattle.wtf_model.specs.Transaction.{Transaction, session_from, session_after}
use Rattle.wtf_model.specs.Steps.{Machine, start, cap_of, is_logged, logged, called, ended, touch, with_each, installed, rebased, tried, stepped}
use Rattle.wtf_model.specs.Steps.{committed, saved}
use Rattle.wtf_model.specs.Steps.{with_transaction, with_down, with_job, put_in_place, dropped, scanning, scanned, after, after_client}
use Rattle.wtf_model.specs.Lines.{Line, state_after, after_line, machine_after}
use Rattle.wtf_model.specs.Sound.{IsSoundMachine}
use Rattle.wtf_model.proofs.ItemLaws.{get-each}
use Rattle.wtf_model.proofs.Laws.{get-node_same, get-node_other, get-number_same, get-number_other}
use Rattle.wtf_model.proofs.PathLaws.{in-with, in-without, get-refiled_gone, get-refiled_out}
use Rattle.wtf_model.proofs.Sizes.{len-within, len-put, len-taken}
use Rattle.wtf_model.proofs.SessionLaws.{IsFile, IsSession, IsSession-fresh, IsSession-call, file_from, handle_from}
use Rattle.wtf_model.proofs.SoundLaws.{IsSoundMachine-start, IsSoundMachine-after}
use Rattle.wtf_model.proofs.TreeLaws.{same_or_other}

-- all paths but one are paths of another tree
one_more : (t u : Tree) (q : List ℕ) → ((x : List ℕ) → x ≢ q → IsSome (get u x) → IsSome (get t x)) → len u ≤ len t + 1
one_more t u q all =
    let within : len u ≤ len (insert t q Dir) = len-within u (insert t q Dir) (λ x here. ⊎_elim
    (λ same. subst (λ y. IsSome (get (insert t q Dir) y)) (sym same) (subst (λ o. IsSome o) (sym (get-node_same t q Dir)) refl))
    (λ other. subst (λ o. IsSome o) (sym (get-node_other t q Dir x other)) (all x other here))
    (same_or_other x q)) in
    let put : len (insert t q Dir) ≤ len t + 1 = len-put t q Dir in
    omega (arith, within, put)

-- a file has no more paths than the tree
pub count-within : (t : Tree) (p : List ℕ) (paths : PathSet) (bytes : List ℕ) → IsTree t → get t p ≡ Some (File paths bytes) → path_count paths ≤ len t
count-within t p paths bytes tree file = len-within paths t (λ q has. subst (λ o. IsSome o) (sym ((tree.shared p paths bytes file).each q has)) refl)

-- a file with other paths, of which one is new at most
more_paths : (t : Tree) (p : List ℕ) (paths new : PathSet) (old bytes q : List ℕ) → IsTree t → get t p ≡ Some (File paths old)
    → ((x : List ℕ) → x ≢ q → has_path new x ≡ true → has_path paths x ≡ true) → len (refiled t paths new bytes) ≤ len t + 1
more_paths t p paths new old bytes q tree file only = one_more t (refiled t paths new bytes) q (λ x other here. ⊎_elim
    (λ has. subst (λ o. IsSome o) (sym ((tree.shared p paths old file).each x (only x other has))) refl)
    (λ not. ⊎_elim
    (λ was. absurd (true≢false (sym here ∙ ap is_some (get-refiled_gone t paths new bytes x not was))))
    (λ never. subst (λ o. IsSome o) (get-refiled_out t paths new bytes x not never) here)
    (cases_Bool (has_path paths x)))
    (cases_Bool (has_path new x)))

-- the paths of a file are those that the tree says
more_told : (s : Session) (p : List ℕ) (file : IsFile s.tree p) (f : PathSet → PathSet) (bytes q : List ℕ) → IsTree s.tree
    → ((x : List ℕ) → x ≢ q → has_path (f file.paths) x ≡ true → has_path file.paths x ≡ true)
    → len (refiled s.tree (paths_of (get s.tree p)) (f (paths_of (get s.tree p))) bytes) ≤ len s.tree + 1
more_told s p file f bytes q tree only = subst (λ o. len (refiled s.tree (paths_of o) (f (paths_of o)) bytes) ≤ len s.tree + 1) (sym file.there)
    (more_paths s.tree p file.paths (f file.paths) file.bytes bytes q tree file.there only)

same_paths : (s : Session) (p bytes : List ℕ) → IsSession s → IsFile s.tree p → len (set_bytes s p bytes).tree ≤ len s.tree + 1
same_paths s p bytes own file = more_told s p file (λ paths. paths) bytes p own.tree_is (λ x other has. has)

-- no more paths than were there, or one
stays : (t : Tree) → len t ≤ len t + 1
stays t = omega arith

fewer : (t : Tree) (p : List ℕ) → len (remove t p) ≤ len t + 1
fewer t p = let less : len (remove t p) ≤ len t = len-taken t p in omega (arith, less)

-- a refusal leaves the session
more_by : {A : Type 0} (s : Session) (r : Result A Word) (f : A → Result Done Word)
    → ((x : A) → r ≡ Ok x → len (or_refused s (f x)).session.tree ≤ len s.tree + 1) → len (or_refused s (r >>= f)).session.tree ≤ len s.tree + 1
more_by s (Ok x) f h = h x refl
more_by s (Err w) f h = stays s.tree

on_handle : (s : Session) (f : ℕ) (h : Handle) (bytes : List ℕ) → handle_at s f ≡ Ok h → IsSession s → len (set_bytes s h.path bytes).tree ≤ len s.tree + 1
on_handle s f h bytes e own = same_paths s h.path bytes own (own.files f h (handle_from (get s.handles f) h e))

more_write : (cap : ℕ) (s : Session) (f : ℕ) (bytes : List ℕ) → IsSession s → len (or_refused s (write cap s f bytes)).session.tree ≤ len s.tree + 1
unfolding write
more_write cap s f [] own = more_by s (handle_at s f) _ (λ h e. stays s.tree)
more_write cap s f (b ∷ bs) own =
    more_by s (handle_at s f) _ (λ h e. more_by s (fits cap (h.off + length (b ∷ bs))) _ (λ _ _. on_handle s f h _ e own))

more_append : (cap : ℕ) (s : Session) (f : ℕ) (bytes : List ℕ) → IsSession s → len (or_refused s (append cap s f bytes)).session.tree ≤ len s.tree + 1
unfolding append
more_append cap s f bytes own = more_by s (handle_at s f) _ (λ h e. more_by s (fits cap _) _ (λ _ _. on_handle s f h _ e own))

more_seek : (cap : ℕ) (s : Session) (f : ℕ) (place : Seek) → len (or_refused s (seek cap s f place)).session.tree ≤ len s.tree + 1
unfolding seek
more_seek cap s f (to.Set n) = more_by s (handle_at s f) _ (λ h e. more_by s (in_range cap n) _ (λ _ _. stays s.tree))
more_seek cap s f (to.Fwd n) = more_by s (handle_at s f) _ (λ h e. more_by s (in_range cap (h.off + n)) _ (λ _ _. stays s.tree))
more_seek cap s f (to.Back n) = more_by s (handle_at s f) _ (λ h e. more_by s (in_range h.off n) _ (λ _ _. stays s.tree))
more_seek cap s f to.End = more_by s (handle_at s f) _ (λ h e. stays s.tree)

-- a call brings one path at most
pub len-call : (cap : ℕ) (s : Session) (o : Op (List ℕ)) → IsSession s → len (call cap s o).session.tree ≤ len s.tree + 1
unfolding mkdir create rmdir unlink rename link list stat open_file close tell read truncate punch yank peek cut paste glue concat copy
len-call cap s (op.Mkdir p) own = more_by s (target s.tree p) _ (λ _ _. len-put s.tree p _)
len-call cap s (op.Rmdir p) own =
    more_by s (is_not_root p) _ (λ _ _. more_by s (is_directory (get s.tree p)) _ (λ _ _. more_by s (is_empty s.tree p) _ (λ _ _. fewer s.tree p)))
len-call cap s (op.Create p) own = more_by s (target s.tree p) _ (λ _ _. len-put s.tree p _)
len-call cap s (op.Unlink p) own = more_by s (source s.tree p) _ (λ bytes e. more_by s (is_closed s p) _ (λ _ _.
    let file = file_from s.tree p bytes (get s.tree p) refl e in
    more_told s p file (λ paths. without_path paths p) bytes p own.tree_is (λ x other has. (in-without file.paths p x has).1)))
len-call cap s (op.Rename p q) own = more_by s (source s.tree p) _ (λ bytes e. more_by s (is_closed s p) _ (λ _ _. more_by s (target s.tree q) _ (λ _ _.
    let file = file_from s.tree p bytes (get s.tree p) refl e in
    more_told s p file (λ paths. with_path (without_path paths p) q) bytes q own.tree_is (λ x other has. ⊎_elim
    (λ same. absurd (other same))
    (λ left. (in-without file.paths p x left).1)
    (in-with (without_path file.paths p) q x has)))))
len-call cap s (op.Link p q) own = more_by s (source s.tree p) _ (λ bytes e. more_by s (target s.tree q) _ (λ _ _.
    let file = file_from s.tree p bytes (get s.tree p) refl e in
    more_told s p file (λ paths. with_path paths q) bytes q own.tree_is (λ x other has. ⊎_elim
    (λ same. absurd (other same))
    (λ was. was)
    (in-with file.paths q x has))))
len-call cap s (op.List p) own = more_by s (is_directory (get s.tree p)) _ (λ _ _. stays s.tree)
len-call cap s (op.Stat p) own = more_by s (shown_node (get s.tree p)) _ (λ _ _. stays s.tree)
len-call cap s (op.Open f p) own = more_by s (is_unused (get s.handles f)) _ (λ _ _. more_by s (source s.tree p) _ (λ _ _. stays s.tree))
len-call cap s (op.Close f) own = more_by s (handle_at s f) _ (λ _ _. stays s.tree)
len-call cap s (op.Seek f place) own = more_seek cap s f place
len-call cap s (op.Tell f) own = more_by s (handle_at s f) _ (λ _ _. stays s.tree)
len-call cap s (op.Read f n) own = more_by s (handle_at s f) _ (λ _ _. stays s.tree)
len-call cap s (op.Write f bytes) own = more_write cap s f bytes own
len-call cap s (op.Append f bytes) own = more_append cap s f bytes own
len-call cap s (op.Truncate f n) own = more_by s (handle_at s f) _ (λ h e. more_by s (fits cap n) _ (λ _ _. on_handle s f h _ e own))
len-call cap s (op.Punch f n) own = more_by s (handle_at s f) _ (λ h e. on_handle s f h _ e own)
len-call cap s (op.Yank f n label) own = more_by s (handle_at s f) _ (λ _ _. stays s.tree)
len-call cap s (op.Peek label off n) own = more_by s (slice_at s label) _ (λ bytes _. more_by s (in_range (length bytes) (off + n)) _ (λ _ _. stays s.tree))
len-call cap s (op.Cut label off n made) own = more_by s (slice_at s label) _ (λ bytes _. more_by s (in_range (length bytes) (off + n)) _ (λ _ _. stays s.tree))
len-call cap s (op.Paste f label) own = more_by s (handle_at s f) _ (λ _ _. more_by s (slice_at s label) _ (λ bytes _. more_write cap s f bytes own))
len-call cap s (op.Glue f label) own = more_by s (handle_at s f) _ (λ _ _. more_by s (slice_at s label) _ (λ bytes _. more_append cap s f bytes own))
len-call cap s (op.Concat q paths) own = more_by s (target s.tree q) _ (λ _ _. more_by s (sources s.tree paths) _ (λ bytes _.
    more_by s (fits cap (length bytes)) _ (λ _ _. len-put s.tree q _)))
len-call cap s (op.Copy p q) own = more_by s (source s.tree p) _ (λ bytes _. more_by s (target s.tree q) _ (λ _ _. len-put s.tree q _))

-- and so many calls bring as many at most
len-session_from : (cap : ℕ) (s : Session) (ops : List (Op (List ℕ))) → All (IsFormOp IsData) ops → IsSession s
    → len (session_from cap s ops).tree ≤ len s.tree + length ops
unfolding session_from
len-session_from cap s [] form own = omega arith
len-session_from cap s (o ∷ ops) form own =
    let one : len (call cap s o).session.tree ≤ len s.tree + 1 = len-call cap s o own in
    let rest : len (session_from cap (call cap s o).session ops).tree ≤ len (call cap s o).session.tree + length ops =
    len-session_from cap (call cap s o).session ops (All-tail (IsFormOp IsData) o ops form) (IsSession-call cap s o (All-head (IsFormOp IsData) o ops form) own) in
    omega (arith, one, rest)

pub len-session_after : (cap : ℕ) (t : Tree) (ops : List (Op (List ℕ))) → All (IsFormOp IsData) ops → IsTree t → len (session_after cap t ops).tree ≤ len t + length ops
len-session_after cap t ops form tree = len-session_from cap (fresh t) ops form (IsSession-fresh t tree)

-- ---- behind lines

-- each open transaction has so many calls at most
abbrev AreFew : ℕ → FinMap nat_cmp Transaction → Type 0
AreFew n open_ones = (c : ℕ) (t : Transaction) → get open_ones c ≡ Some t → length t.ops ≤ n

few_more : (n : ℕ) (open_ones : FinMap nat_cmp Transaction) → AreFew n open_ones → AreFew (n + 1) open_ones
few_more n open_ones few c t there = let was : length t.ops ≤ n = few c t there in omega (arith, was)

put_few : (n : ℕ) (open_ones : FinMap nat_cmp Transaction) (c d : ℕ) (t u : Transaction) → (d ≡ c) ⊎ (d ≢ c) → AreFew n open_ones → length t.ops ≤ n
    → get (insert open_ones c t) d ≡ Some u → length u.ops ≤ n
put_few n open_ones c d t u (inl same) few one there =
    let found : Some t ≡ Some u = sym (get-number_same open_ones c t) ∙ subst (λ x. get (insert open_ones c t) x ≡ Some u) same there in
    let is : t ≡ u = cc in
    subst (λ (x : Transaction). length x.ops ≤ n) is one
put_few n open_ones c d t u (inr other) few one there = few d u (sym (get-number_other open_ones c t d other) ∙ there)

left_by : (b : Bool) (o : Option Transaction) (u : Transaction) → cond b None o ≡ Some u → o ≡ Some u
left_by true o u e = absurd (cc)
left_by false o u e = e

taken_few : (n : ℕ) (open_ones : FinMap nat_cmp Transaction) (c : ℕ) → AreFew n open_ones → AreFew n (remove open_ones c)
taken_few n open_ones c few d u there =
    few d u (left_by (eq_by_cmp nat_cmp d c) (get open_ones d) u (sym (get-remove nat_cmp_total open_ones c d) ∙ there))

touched_by : (n : ℕ) (items : List Item) (o : Option Transaction) (u : Transaction) → option_map (touch items) o ≡ Some u
    → ((t : Transaction) → o ≡ Some t → length t.ops ≤ n) → length u.ops ≤ n
touched_by n items None u e few = absurd (cc)
touched_by n items (Some t) u e few =
    let found : Some (touch items t) ≡ Some u = e in
    let is : touch items t ≡ u = cc in
    subst (λ (x : Transaction). length x.ops ≤ n) is (few t refl)

each_few : (n : ℕ) (open_ones : FinMap nat_cmp Transaction) (items : List Item) → AreFew n open_ones → AreFew n (with_each (touch items) open_ones)
each_few n open_ones items few d u there =
    touched_by n items (get open_ones d) u (sym (get-each (touch items) open_ones d) ∙ there) (λ t is. few d t is)

-- a machine of no more paths than were there and n, whose open transactions have one call more at most
record Grows (n : ℕ) (m next : Machine) : Type 0 where
  now : len next.now ≤ len m.now + n
  few : AreFew (n + 1) next.transactions

-- a line that installs nothing
module _ (n : ℕ) (m : Machine) (few : AreFew n m.transactions) where
  stays_few : Grows n m m
  stays_few = record { now = omega arith; few = few_more n m.transactions few }

  put_grows : (c : ℕ) (t : Transaction) → length t.ops ≤ n + 1 → Grows n m (with_transaction m c t)
  put_grows c t short = record {
    now = omega arith;
    few = λ d u there. put_few (n + 1) m.transactions c d t u (cases_eq d c) (few_more n m.transactions few) short there;
  }

  ended_grows : (c : ℕ) → Grows n m (ended m c)
  ended_grows c = record { now = omega arith; few = taken_few (n + 1) m.transactions c (few_more n m.transactions few) }

  same_grows : (c : ℕ) (t u : Transaction) → get m.transactions c ≡ Some t → u.ops ≡ t.ops → Grows n m (with_transaction m c u)
  same_grows c t u there same =
      let was : length t.ops ≤ n = few c t there in
      let is : length u.ops ≡ length t.ops = ap length same in
      put_grows c u (omega (arith, was, is))

  logged_grows : (c : ℕ) (t : Transaction) (o : Op (List ℕ)) (a : Answer) → get m.transactions c ≡ Some t → Grows n m (called m c t o a)
  logged_grows c t o a there =
      let was : length t.ops ≤ n = few c t there in
      let is : length (t.ops ++ o ∷ []) ≡ length t.ops + 1 = length-append t.ops (o ∷ []) in
      elim (is_logged a) as (λ b. Grows n m (if b then with_transaction m c (logged t o a) else m)) [
        | true ↦ put_grows c (logged t o a) (omega (arith, was, is))
        | false ↦ stays_few
      ]

  -- and one that does
  installed_grows : (c : ℕ) (t : Transaction) (k : ℕ) → get m.transactions c ≡ Some t → IsSoundMachine m → Grows n m (installed m c t k)
  installed_grows c t k there sound =
      let was : length t.ops ≤ n = few c t there in
      let more : len (session_after (cap_of m) m.now t.ops).tree ≤ len m.now + length t.ops =
      len-session_after (cap_of m) m.now t.ops (sound.open_are c t there).form sound.now_is in
      record {
        now = omega (arith, was, more);
        few = each_few (n + 1) (remove m.transactions c) (writes_of (cap_of m) m.now t.ops)
            (taken_few (n + 1) m.transactions c (few_more n m.transactions few));
      }

  tried_grows : (c : ℕ) (t : Transaction) (a : Answer) → get m.transactions c ≡ Some t → IsSoundMachine m → Grows n m (tried m c t a)
  tried_grows c t (Committed k) there sound = installed_grows c t k there sound
  tried_grows c t (Retry base now) there sound = same_grows c t (rebased m t) there refl
  tried_grows c t a there sound = stays_few

  stepped_grows : (c : ℕ) (t : Transaction) (a : Answer) → get m.transactions c ≡ Some t → Grows n m (stepped m c t a)
  stepped_grows c t (Replayed i) there = same_grows c t (record t { replayed = i }) there refl
  stepped_grows c t (Aborted' i box a) there = ended_grows c
  stepped_grows c t a there = stays_few

  committed_grows : (c : ℕ) (t : Transaction) (a : Answer) → get m.transactions c ≡ Some t → IsSoundMachine m → Grows n m (committed m c t a)
  committed_grows c t (Committed k) there sound = installed_grows c t k there sound
  committed_grows c t (Aborted' i box a) there sound = ended_grows c
  committed_grows c t a there sound = stays_few

  client_grows : (c : ℕ) (o : Option Transaction) (v : Verb) (a : Answer) → get m.transactions c ≡ o → IsSoundMachine m → Grows n m (after_client m c o v a)
  client_grows c None verb.Begin (Begun k) there sound = record {
    now = omega arith;
    few = λ d u here. put_few (n + 1) m.transactions c d _ u (cases_eq d c) (few_more n m.transactions few) (omega arith) here;
  }
  client_grows c None verb.Begin a there sound = stays_few
  client_grows c (Some t) verb.Try a there sound = tried_grows c t a there sound
  client_grows c (Some t) verb.Step a there sound = stepped_grows c t a there
  client_grows c (Some t) verb.Commit a there sound = committed_grows c t a there sound
  client_grows c (Some t) verb.Abort Okay there sound = ended_grows c
  client_grows c (Some t) verb.Abort a there sound = stays_few
  client_grows c (Some t) (verb.Call o) a there sound = logged_grows c t o a there
  client_grows c o v a there sound = stays_few

  down_grows : (down : FinSet nat_cmp) (a : Answer) → Grows n m (with_down m down a)
  down_grows down Okay = record { now = omega arith; few = few_more n m.transactions few }
  down_grows down a = stays_few

  saved_grows : (a : Answer) → Grows n m (saved m a)
  saved_grows (Saved k) = record { now = omega arith; few = few_more n m.transactions few }
  saved_grows FaultSave = record { now = omega arith; few = few_more n m.transactions few }
  saved_grows a = stays_few

  job_grows : (j : ℕ) (kind : JobKind) (p : List ℕ) (r : ℕ) (a : Answer) → Grows n m (with_job m j kind p r a)
  job_grows j kind p r Planned = record { now = omega arith; few = few_more n m.transactions few }
  job_grows j kind p r a = stays_few

  put_in_place_grows : (j : ℕ) (a : Answer) → Grows n m (put_in_place m j a)
  put_in_place_grows j (Installed k) = record {
    now = omega arith;
    few = each_few (n + 1) m.transactions (job_changes m.now (get m.jobs j)) (few_more n m.transactions few);
  }
  put_in_place_grows j (Stale base now) = record { now = omega arith; few = few_more n m.transactions few }
  put_in_place_grows j a = stays_few

  dropped_grows : (j : ℕ) (a : Answer) → Grows n m (dropped m j a)
  dropped_grows j Okay = record { now = omega arith; few = few_more n m.transactions few }
  dropped_grows j a = stays_few

  scanning_grows : (a : Answer) → Grows n m (scanning m a)
  scanning_grows Scanning = record { now = omega arith; few = few_more n m.transactions few }
  scanning_grows a = stays_few

  scanned_grows : (a : Answer) → Grows n m (scanned m a)
  scanned_grows (More left) = record { now = omega arith; few = few_more n m.transactions few }
  scanned_grows AllDone = record { now = omega arith; few = few_more n m.transactions few }
  scanned_grows a = stays_few

  event_grows : (e : Event) (a : Answer) → IsSoundMachine m → Grows n m (after m e a)
  event_grows (event.Client c v) a sound = client_grows c (get m.transactions c) v a refl sound
  event_grows (event.Plan j kind p r) a sound = job_grows j kind p r a
  event_grows (event.Put j) a sound = put_in_place_grows j a
  event_grows (event.DropJob j) a sound = dropped_grows j a
  event_grows event.Scan a sound = scanning_grows a
  event_grows (event.Piece k) a sound = scanned_grows a
  event_grows (event.Down k) a sound = down_grows (set.insert m.down k) a
  event_grows (event.Up k) a sound = down_grows (set.remove m.down k) a
  event_grows event.Save a sound = saved_grows a
  event_grows e a sound = stays_few

-- the event of a line is in form
abbrev pub IsLineInForm : Line → Type 0
IsLineInForm (Ok e) = IsFormEvent e
IsLineInForm (Err bad) = Unit {0}

line_grows : (n : ℕ) (m : Machine) (line : Line) (a : Answer) → AreFew n m.transactions → IsSoundMachine m → Grows n m (after_line m line a)
line_grows n m (Ok e) a few sound = event_grows n m few e a sound
line_grows n m (Err bad) a few sound = stays_few n m few

line_sound : (m : Machine) (line : Line) (a : Answer) → IsLineInForm line → IsSoundMachine m → IsSoundMachine (after_line m line a)
line_sound m (Ok e) a form sound = IsSoundMachine-after m e a form sound
line_sound m (Err bad) a form sound = sound

times_more : (k most : ℕ) → suc k * most ≡ most + k * most
times_more k most = grind (arith)

-- each of so many lines in form brings no more paths than there are lines
len-lines_from : {X : Type 0} (asks : X → Line) → ((x : X) → IsLineInForm (asks x)) → (most n : ℕ) (m : Machine) (lines : List X) (answers : List Answer)
    → AreFew n m.transactions → IsSoundMachine m → n + length lines ≤ most
    → len (machine_after m (map asks lines) answers).now ≤ len m.now + length lines * most
unfolding state_after
len-lines_from asks form most n m [] answers few sound room = omega arith
len-lines_from asks form most n m (x ∷ lines) [] few sound room = omega arith
len-lines_from asks form most n m (x ∷ lines) (a ∷ answers) few sound room =
    let one = line_grows n m (asks x) a few sound in
    let here : len (after_line m (asks x) a).now ≤ len m.now + n = one.now in
    let rest : len (machine_after (after_line m (asks x) a) (map asks lines) answers).now ≤ len (after_line m (asks x) a).now + length lines * most =
    len-lines_from asks form most (n + 1) (after_line m (asks x) a) lines answers one.few (line_sound m (asks x) a (form x) sound) (omega (arith, room)) in
    let all : length (x ∷ lines) * most ≡ most + length lines * most = times_more (length lines) most in
    omega (arith, here, rest, room, all)

pub len-lines : {X : Type 0} (asks : X → Line) → ((x : X) → IsLineInForm (asks x)) → (settings : Settings) (number : ℕ) (t : Tree) → IsTree t → (most : ℕ)
    (lines : List X) (answers : List Answer) → length lines ≤ most
    → len (machine_after (start settings number t) (map asks lines) answers).now ≤ len t + length lines * most
len-lines asks form settings number t tree most lines answers few = len-lines_from asks form most 0 (start settings number t) lines answers
    (λ c u there. absurd (let none : None ≡ Some u = sym (get-empty nat_cmp c) ∙ there in cc))
    (IsSoundMachine-start settings number t tree) (omega (arith, few))
