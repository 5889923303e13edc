-- The worked examples of the machine's steps.
use Rattle.std.proofs.Common.{◌≡◌, ◌≢◌, ℕ, zero, suc, ◌+◌, ◌-◌, ◌≤◌, ◌<◌, true, false, if◌then◌else◌, List, [], ◌∷◌, length, take, Option, Some, None, refl, sym, ap, subst, ◌∙◌, inl, inr, arith}
use Rattle.std.specs.Prelude.{slice_get}
use Rattle.std.proofs.lemmas.Bool.{le-leb, lt-leb, eq-eqb, ne_eqb, cond-true, cond-false}
use Rattle.std.specs.FinMap.{FinMap, get, remove, get-remove}
use Rattle.std.specs.Ordering.{nat_cmp}
use Rattle.std.specs.Cmp.{nat_cmp_total, unsigned_tied}
use Rattle.wtf_model.specs.declared.answer.Answer.{Answer, Aborted'}
use Rattle.wtf_model.specs.declared.answer.Answer.TheVariants as answer
use Rattle.wtf_model.specs.declared.answer.Word.{Word}
use Rattle.wtf_model.specs.declared.answer.Word.TheVariants as word
use Rattle.wtf_model.specs.declared.op.Op.{Op}
use Rattle.wtf_model.specs.declared.event.Verb.{Verb}
use Rattle.wtf_model.specs.declared.event.Verb.TheVariants as verb
use Rattle.wtf_model.specs.declared.event.Event.TheVariants as event
use Rattle.wtf_model.specs.Tree.{PathSet, Dir, File}
use Rattle.wtf_model.specs.Transaction.{Transaction, answers_of}
use Rattle.wtf_model.specs.Lawful.{client_refusal, MayFailRead, MayAsk, MayClient, May, MayStepAt, Deviates, dump_answer}
use Rattle.wtf_model.specs.Steps.{Machine, after, after_client, cap_of, is_live, is_full}
use Rattle.wtf_model.specs.Examples.{Only, IsAborted}
use Rattle.wtf_model.proofs.StepLaws.{MayClient-asked, MayAsk-asked, MayClient-refused, after-client}

module _ (m : Machine) (c : ℕ) (o : Option Transaction) (there : get m.transactions c ≡ o) where
  pub to_may : (v : Verb) (a : Answer) → MayClient m o v a → May m (event.Client c v) a
  to_may v a h = subst (λ x. MayClient m x v a) (sym there) h

  pub from_may : (v : Verb) (a : Answer) → May m (event.Client c v) a → MayClient m o v a
  from_may v a h = subst (λ x. MayClient m x v a) there h

  -- a refusal of the machine is the only answer
  pub only_refused : (v : Verb) (w : Word) → client_refusal o v ≡ Some w → Only m (event.Client c v) (answer.Refused w)
  only_refused v w is b = (
    λ h. (MayClient-refused m o v w is b).0 (from_may v b h),
    λ e. to_may v b ((MayClient-refused m o v w is b).1 e),
  )

  pub asked : (v : Verb) (a : Answer) → client_refusal o v ≡ None → MayAsk m o v a → May m (event.Client c v) a
  asked v a none h = to_may v a (MayClient-asked m o v a none h)

  pub asks : (v : Verb) (a : Answer) → client_refusal o v ≡ None → May m (event.Client c v) a → MayAsk m o v a
  asks v a none h = MayAsk-asked m o v a none (from_may v a h)

-- the refusals of a transaction, live or not
pub live_call : (t : Transaction) (o : Op (List ℕ)) → is_live t ≡ true → is_full t ≡ false → client_refusal (Some t) (verb.Call o) ≡ None
live_call t o live room =
    ap (λ b. if b then (if is_full t then Some word.Full else None) else Some word.Replaying) live ∙ ap (λ b. if b then Some word.Full else None) room

pub full_call : (t : Transaction) (o : Op (List ℕ)) → is_live t ≡ true → 4096 ≤ length t.ops → client_refusal (Some t) (verb.Call o) ≡ Some word.Full
full_call t o live full =
    ap (λ b. if b then (if is_full t then Some word.Full else None) else Some word.Replaying) live ∙ ap (λ b. if b then Some word.Full else None) (le-leb 4096 (length t.ops) full)

pub replaying_call : (t : Transaction) (o : Op (List ℕ)) → is_live t ≡ false → client_refusal (Some t) (verb.Call o) ≡ Some word.Replaying
replaying_call t o live = ap (λ b. if b then (if is_full t then Some word.Full else None) else Some word.Replaying) live

pub live_try : (t : Transaction) → is_live t ≡ true → client_refusal (Some t) verb.Try ≡ None
live_try t live = ap (λ b. if b then None else Some word.Replaying) live

pub replaying_try : (t : Transaction) → is_live t ≡ false → client_refusal (Some t) verb.Try ≡ Some word.Replaying
replaying_try t live = ap (λ b. if b then None else Some word.Replaying) live

pub live_step : (t : Transaction) → is_live t ≡ true → client_refusal (Some t) verb.Step ≡ Some word.Live
live_step t live = ap (λ b. if b then Some word.Live else None) live

pub replaying_step : (t : Transaction) → is_live t ≡ false → client_refusal (Some t) verb.Step ≡ None
replaying_step t live = ap (λ b. if b then Some word.Live else None) live

-- what was taken out of the open transactions, or of the jobs
pub gone : {X : Type 0} (open_ones : FinMap nat_cmp X) (c : ℕ) → get (remove open_ones c) c ≡ None
gone open_ones c = get-remove nat_cmp_total open_ones c c ∙ cond-true _ _ _ (unsigned_tied c c ∙ eq-eqb c c refl)

pub left : {X : Type 0} (open_ones : FinMap nat_cmp X) (c d : ℕ) → d ≢ c → get (remove open_ones c) d ≡ get open_ones d
left open_ones c d ne = get-remove nat_cmp_total open_ones c d ∙ cond-false _ _ _ (unsigned_tied d c ∙ ne_eqb d c ne)

-- an abort, by its form

step_aborted : (m : Machine) (t : Transaction) (answers : List Answer) (a r : Answer) → slice_get answers t.replayed ≡ Some a → slice_get t.shown t.replayed ≢ Some a
    → IsAborted (t.replayed + 1) a r → MayStepAt m t answers r
step_aborted m t answers a (Aborted' j box b) is ne (same_i, same_a) = (same_i, is ∙ ap Some (sym same_a), λ e. ne (e ∙ ap Some same_a))
step_aborted m t answers a r is ne h = absurd h

pub may_abort_step : (m : Machine) (c : ℕ) (t : Transaction) (a r : Answer) → get m.transactions c ≡ Some t → is_live t ≡ false
    → slice_get (answers_of (cap_of m) t.tree t.ops) t.replayed ≡ Some a → slice_get t.shown t.replayed ≢ Some a → IsAborted (t.replayed + 1) a r → May m (event.Client c verb.Step) r
may_abort_step m c t a r there live is ne aborted =
    asked m c (Some t) there verb.Step r (replaying_step t live) (step_aborted m t (answers_of (cap_of m) t.tree t.ops) a r is ne aborted)

commit_aborted : (m : Machine) (t : Transaction) (i : ℕ) (a r : Answer) → Deviates (answers_of (cap_of m) m.now t.ops) t.shown i a → IsAborted i a r → MayAsk m (Some t) verb.Commit r
commit_aborted m t i a (Aborted' j box b) d (same_i, same_a) =
    subst (λ x. Deviates (answers_of (cap_of m) m.now t.ops) t.shown x b) (sym same_i) (subst (λ x. Deviates (answers_of (cap_of m) m.now t.ops) t.shown i x) (sym same_a) d)
commit_aborted m t i a r d h = absurd h

pub may_abort_commit : (m : Machine) (c : ℕ) (t : Transaction) (i : ℕ) (a r : Answer) → get m.transactions c ≡ Some t
    → Deviates (answers_of (cap_of m) m.now t.ops) t.shown i a → IsAborted i a r → May m (event.Client c verb.Commit) r
may_abort_commit m c t i a r there d aborted = asked m c (Some t) there verb.Commit r refl (commit_aborted m t i a r d aborted)

file_is : (a b : ℕ) → Some (answer.File a 1) ≡ Some (answer.File b 1) → a ≡ b
file_is a b e = cc

pub grew : (answers shown : List Answer) → answers ≡ answer.File 3 1 ∷ [] → shown ≡ answer.File 0 1 ∷ [] → Deviates answers shown 1 (answer.File 3 1)
grew answers shown is was =
    subst (λ x. Deviates x shown 1 (answer.File 3 1)) (sym is) (subst (λ x. Deviates (answer.File 3 1 ∷ []) x 1 (answer.File 3 1)) (sym was) (record {
      counted = omega arith;
      agree = refl;
      answer_is = refl;
      differs = λ e. let same : 0 ≡ 3 = file_is 0 3 e in absurd (omega arith);
    }))

pub never : (shown : List Answer) (i : ℕ) (a : Answer) → Deviates shown shown i a → ⊥
never shown i a d = d.differs d.answer_is

after_aborted : (m : Machine) (c : ℕ) (t : Transaction) (i : ℕ) (a r : Answer) → IsAborted i a r → after_client m c (Some t) verb.Commit r ≡ record m { transactions = remove m.transactions c }
after_aborted m c t i a (Aborted' j box b) h = refl
after_aborted m c t i a r h = absurd h

pub commit_ended : (m : Machine) (c i : ℕ) (t : Transaction) (a r : Answer) → get m.transactions c ≡ Some t → IsAborted i a r
    → after m (event.Client c verb.Commit) r ≡ record m { transactions = remove m.transactions c }
commit_ended m c i t a r there aborted = after-client m c verb.Commit r (Some t) there ∙ after_aborted m c t i a r aborted

-- what is shown of a file

short_file : (m : Machine) (p : List ℕ) (paths : PathSet) (bytes : List ℕ) → get m.now p ≡ Some (File paths bytes) → length bytes ≤ 1048576 → dump_answer m p ≡ answer.Shown bytes
short_file m p paths bytes file fit = rw (file, le-leb (length bytes) 1048576 fit) refl

pub dump_short : (m : Machine) (p : List ℕ) (paths : PathSet) (bytes : List ℕ) → get m.now p ≡ Some (File paths bytes) → length bytes ≤ 1048576 → May m (event.Dump p) (answer.Shown bytes)
dump_short m p paths bytes file fit = inl (sym (short_file m p paths bytes file fit))

refused_read : (servers : ℕ) (w : Word) (d a : Answer) → d ≡ answer.Refused w → MayFailRead servers d a → ⊥
refused_read servers w d a is h = subst (λ x. MayFailRead servers x a) is h

pub dump_refused : (m : Machine) (p : List ℕ) (w : Word) → dump_answer m p ≡ answer.Refused w → Only m (event.Dump p) (answer.Refused w)
dump_refused m p w is b = (λ h. elim h [ inl e ↦ e ∙ is | inr fails ↦ absurd (refused_read m.settings.servers w (dump_answer m p) b is fails) ], λ e. inl (e ∙ sym is))

pub dump_long : (m : Machine) (p : List ℕ) (paths : PathSet) (bytes : List ℕ) → get m.now p ≡ Some (File paths bytes) → 1048576 < length bytes → dump_answer m p ≡ answer.Refused word.Long
dump_long m p paths bytes file past = rw (file, lt-leb (length bytes) 1048576 past) refl

pub dump_directory : (m : Machine) (p : List ℕ) → get m.now p ≡ Some Dir → dump_answer m p ≡ answer.Refused word.IsDir
dump_directory m p dir = rw dir refl

pub dump_missing : (m : Machine) (p : List ℕ) → get m.now p ≡ None → dump_answer m p ≡ answer.Refused word.NoEnt
dump_missing m p none = rw none refl

-- of two calls that answer otherwise the first one tells
pub first_only : (i : ℕ) (a : Answer) → Deviates (answer.Okay ∷ answer.File 3 1 ∷ []) (answer.File 1 1 ∷ answer.File 0 1 ∷ []) i a → i ≡ 1
first_only zero a d = absurd (omega (arith, d.counted))
first_only (suc zero) a d = refl
first_only (suc (suc k)) a d =
    let less : suc (suc k) - 1 ≡ suc k = omega arith in
    let same : take (suc k) (answer.Okay ∷ answer.File 3 1 ∷ []) ≡ take (suc k) (answer.File 1 1 ∷ answer.File 0 1 ∷ []) =
    subst (λ n. take n (answer.Okay ∷ answer.File 3 1 ∷ []) ≡ take n (answer.File 1 1 ∷ answer.File 0 1 ∷ [])) less d.agree in
    absurd (cc)
