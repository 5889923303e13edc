-- The worked runs.
use Rattle.std.proofs.Common.{◌≡◌, ℕ, ◌*◌, List, [], ◌∷◌, Some, None, codes, refl, ap, ◌∙◌, lit<, lit≤}
use Rattle.std.specs.FinMap.{get, empty, get-empty}
use Rattle.std.specs.Ordering.{nat_cmp}
use Rattle.std.specs.Cmp.Lexicographic.{slice_cmp}
use Rattle.wtf_base.specs.declared.settings.Settings.{Settings}
use Rattle.wtf_model.specs.declared.answer.Answer.{Answer}
use Rattle.wtf_model.specs.declared.answer.Answer.TheVariants.{Shown, Committed}
use Rattle.wtf_model.specs.declared.op.Op.{Op}
use Rattle.wtf_model.specs.declared.op.Op.TheVariants as op
use Rattle.wtf_model.specs.Tree.{Dir}
use Rattle.wtf_model.specs.Tree.{root_alone, root}
use Rattle.wtf_model.specs.Session.{Session}
use Rattle.wtf_model.specs.Done.{Done}
use Rattle.wtf_model.specs.Call.{call}
use Rattle.wtf_model.specs.Transaction.{answers_from, answers_of}
use Rattle.wtf_model.specs.Steps.{Accepts, start}
use Rattle.wtf_model.proofs.Laws.{get-node_same, get-node_other}
use Rattle.wtf_model.specs.Examples.{a, first_file_events, first_file_answers, overwrite_events, overwrite_answers, gap_calls, gap_answers, fault_events, fault_answers}
use Rattle.wtf_model.proofs.Runs.{idle_at_start, step_begin, step_try, try_number, call_answer, cap_with}
use Rattle.wtf_model.proofs.Held.{with_file, create_held, open_held, write_held, seek_held, read_held, step_create, step_open, step_write, step_seek, step_read, step_write_fault, step_read_fault}

top : get root_alone root ≡ Some Dir
top = get-node_same empty root Dir

free : get root_alone a ≡ None
free = get-node_other empty root Dir a (λ e. cc) ∙ get-empty (slice_cmp nat_cmp) a

pub first_file : (settings : Settings) → Accepts (start settings 0 root_alone) first_file_events (first_file_answers (Shown (codes "abcdef")) (Committed 1))
unfolding Accepts
first_file settings =
    let b = step_begin settings 0 root_alone _ (idle_at_start settings 0 root_alone) in
    let c = step_create settings 0 root_alone 0 _ (lit< tt) root_alone b.1 top free in
    let o = step_open settings 0 root_alone 1 _ (lit< tt) root_alone [] c.1 in
    let w = step_write settings 0 root_alone 2 _ (lit< tt) root_alone [] 0 97 (codes "bcdef") o.1 (lit≤ tt) in
    let k = step_seek settings 0 root_alone 3 _ (lit< tt) root_alone (codes "abcdef") 6 0 w.1 (lit≤ tt) in
    let r = step_read settings 0 root_alone 4 _ (lit< tt) root_alone (codes "abcdef") 0 9 k.1 in
    let t = step_try settings 0 root_alone 5 _ _ r.1 in
    (b.0, (c.0, (o.0, (w.0, (k.0, (r.0, (t.0, tt)))))))

same_bytes : (xs ys : List ℕ) → Shown xs ≡ Shown ys → xs ≡ ys
same_bytes xs ys e = cc

pub first_file_bytes : (settings : Settings) (bytes : List ℕ) → Accepts (start settings 0 root_alone) first_file_events (first_file_answers (Shown bytes) (Committed 1)) → bytes ≡ codes "abcdef"
unfolding Accepts
first_file_bytes settings bytes h =
    let b = step_begin settings 0 root_alone _ (idle_at_start settings 0 root_alone) in
    let c = step_create settings 0 root_alone 0 _ (lit< tt) root_alone b.1 top free in
    let o = step_open settings 0 root_alone 1 _ (lit< tt) root_alone [] c.1 in
    let w = step_write settings 0 root_alone 2 _ (lit< tt) root_alone [] 0 97 (codes "bcdef") o.1 (lit≤ tt) in
    let k = step_seek settings 0 root_alone 3 _ (lit< tt) root_alone (codes "abcdef") 6 0 w.1 (lit≤ tt) in
    same_bytes bytes (codes "abcdef")
    (call_answer settings 0 root_alone 4 _ _ k.1 (op.Read 0 9) (Shown bytes) tt (lit< tt) h.1.1.1.1.1.0
    ∙ ap (λ d. d.answer) (read_held (cap_with settings) root_alone (codes "abcdef") 0 9))

pub first_file_number : (settings : Settings) (number : ℕ) → Accepts (start settings 0 root_alone) first_file_events (first_file_answers (Shown (codes "abcdef")) (Committed number)) → number ≡ 1
unfolding Accepts
first_file_number settings number h =
    let b = step_begin settings 0 root_alone _ (idle_at_start settings 0 root_alone) in
    let c = step_create settings 0 root_alone 0 _ (lit< tt) root_alone b.1 top free in
    let o = step_open settings 0 root_alone 1 _ (lit< tt) root_alone [] c.1 in
    let w = step_write settings 0 root_alone 2 _ (lit< tt) root_alone [] 0 97 (codes "bcdef") o.1 (lit≤ tt) in
    let k = step_seek settings 0 root_alone 3 _ (lit< tt) root_alone (codes "abcdef") 6 0 w.1 (lit≤ tt) in
    let r = step_read settings 0 root_alone 4 _ (lit< tt) root_alone (codes "abcdef") 0 9 k.1 in
    try_number settings 0 root_alone 5 _ _ r.1 number h.1.1.1.1.1.1.0

pub overwrite : (settings : Settings) → Accepts (start settings 0 root_alone) overwrite_events overwrite_answers
unfolding Accepts
overwrite settings =
    let old = codes "abcdef" in
    let new = codes "abXYef" in
    let first = with_file root_alone old in
    let second = with_file root_alone new in
    let b = step_begin settings 0 root_alone _ (idle_at_start settings 0 root_alone) in
    let c = step_create settings 0 root_alone 0 _ (lit< tt) root_alone b.1 top free in
    let o = step_open settings 0 root_alone 1 _ (lit< tt) root_alone [] c.1 in
    let w = step_write settings 0 root_alone 2 _ (lit< tt) root_alone [] 0 97 (codes "bcdef") o.1 (lit≤ tt) in
    let t = step_try settings 0 root_alone 3 _ _ w.1 in
    let b2 = step_begin settings 1 first _ t.1 in
    let o2 = step_open settings 1 first 0 _ (lit< tt) root_alone old b2.1 in
    let k2 = step_seek settings 1 first 1 _ (lit< tt) root_alone old 0 2 o2.1 (lit≤ tt) in
    let w2 = step_write settings 1 first 2 _ (lit< tt) root_alone old 2 88 (codes "Y") k2.1 (lit≤ tt) in
    let s2 = step_seek settings 1 first 3 _ (lit< tt) root_alone new 4 0 w2.1 (lit≤ tt) in
    let r2 = step_read settings 1 first 4 _ (lit< tt) root_alone new 0 6 s2.1 in
    let t2 = step_try settings 1 first 5 _ _ r2.1 in
    let b3 = step_begin settings 2 second _ t2.1 in
    let o3 = step_open settings 2 second 0 _ (lit< tt) root_alone new b3.1 in
    let r3 = step_read settings 2 second 1 _ (lit< tt) root_alone new 0 6 o3.1 in
    let t3 = step_try settings 2 second 2 _ _ r3.1 in
    (b.0, (c.0, (o.0, (w.0, (t.0, (b2.0, (o2.0, (k2.0, (w2.0, (s2.0, (r2.0, (t2.0, (b3.0, (o3.0, (r3.0, (t3.0, tt))))))))))))))))

pub faults : (settings : Settings) → Accepts (start settings 0 root_alone) fault_events fault_answers
unfolding Accepts
faults settings =
    let b = step_begin settings 0 root_alone _ (idle_at_start settings 0 root_alone) in
    let c = step_create settings 0 root_alone 0 _ (lit< tt) root_alone b.1 top free in
    let o = step_open settings 0 root_alone 1 _ (lit< tt) root_alone [] c.1 in
    let x = step_write_fault settings 0 root_alone 2 _ (lit< tt) root_alone [] 0 97 (codes "bcdef") o.1 (lit≤ tt) in
    let w = step_write settings 0 root_alone 2 _ (lit< tt) root_alone [] 0 97 (codes "bcdef") x.1 (lit≤ tt) in
    let k = step_seek settings 0 root_alone 3 _ (lit< tt) root_alone (codes "abcdef") 6 0 w.1 (lit≤ tt) in
    let y = step_read_fault settings 0 root_alone 4 _ (lit< tt) root_alone (codes "abcdef") 0 9 k.1 tt in
    let r = step_read settings 0 root_alone 4 _ (lit< tt) root_alone (codes "abcdef") 0 9 y.1 in
    let t = step_try settings 0 root_alone 5 _ _ r.1 in
    (b.0, (c.0, (o.0, (x.0, (w.0, (k.0, (y.0, (r.0, (t.0, tt)))))))))

-- the answers from a call on
next : (cap : ℕ) (s later : Session) (o : Op (List ℕ)) (answer : Answer) (ops : List (Op (List ℕ))) (answers : List Answer)
    → call cap s o ≡ record { session = later; answer = answer } → answers_from cap later ops ≡ answers → answers_from cap s (o ∷ ops) ≡ answer ∷ answers
unfolding answers_from
next cap s later o answer ops answers e rest =
    ap (λ (d : Done). d.answer ∷ answers_from cap d.session ops) e ∙ ap (λ l. answer ∷ l) rest

none_left : (cap : ℕ) (s : Session) → answers_from cap s [] ≡ []
unfolding answers_from
none_left cap s = refl

pub gap : answers_of (4096 * 64) root_alone gap_calls ≡ gap_answers
gap =
    let cap = 4096 * 64 in
    next cap _ _ _ _ _ _ (create_held cap root_alone top free)
    (next cap _ _ _ _ _ _ (open_held cap root_alone [])
    (next cap _ _ _ _ _ _ (seek_held cap root_alone [] 0 60 (lit≤ tt))
    (next cap _ _ _ _ _ _ (write_held cap root_alone [] 60 48 (codes "123456789") (lit≤ tt))
    (next cap _ _ _ _ _ _ (seek_held cap root_alone _ 70 58 (lit≤ tt))
    (next cap _ _ _ _ _ _ (read_held cap root_alone _ 58 20) (none_left cap _))))))
