-- Laws of the machine's steps: what it may answer to a client whose transaction is known, and what leaves it as it is.
use Rattle.std.proofs.Common.{◌≡◌, ◌↔◌, ◌⊎◌, ℕ, ◌≢◌, ◌+◌, ◌<◌, ◌≤◌, ◌||◌, ◌&&◌, Bool, true, false, not, List, [], ◌∷◌, length, Option, Some, None, Result, Ok, Err, refl, sym, ap, subst, ◌∙◌, inl, inr, eqb, if◌then◌else◌}
use Rattle.std.specs.Prelude.{nat_le}
use Rattle.std.specs.Option.{MatchOption}
use Rattle.std.proofs.lemmas.Bool.{lt-ltb, le-ltb, eq-eqb, ne_eqb, cond-true, cond-false}
use Rattle.std.specs.Bool.{MatchBool}
use Rattle.std.specs.FinMap.{get}
use Rattle.std.specs.FinSet.{FinSet, contains, contains-empty, contains-insert, contains-remove}
use Rattle.std.specs.FinSet as set
use Rattle.std.specs.Ordering.{nat_cmp, eq_by_cmp}
use Rattle.std.specs.Cmp.{nat_cmp_total, unsigned_tied}
use Rattle.wtf_path.specs.Parts.{parent_of}
use Rattle.wtf_base.specs.declared.settings.Settings.{Settings}
use Rattle.wtf_model.specs.declared.answer.Answer.{Answer}
use Rattle.wtf_model.specs.declared.answer.Answer.TheVariants.{Okay, Shown, Len, Refused, FaultRead, FaultWrite, Damaged}
use Rattle.wtf_model.specs.declared.answer.Word.{Word}
use Rattle.wtf_model.specs.declared.answer.Word.TheVariants.{TooBig, Range, Root, Busy, NoServer}
use Rattle.wtf_model.specs.declared.op.Op.{Op}
use Rattle.wtf_model.specs.declared.op.Op.TheVariants as op
use Rattle.wtf_model.specs.declared.op.Seek.{Seek}
use Rattle.wtf_model.specs.declared.op.Seek.TheVariants as to
use Rattle.wtf_model.specs.declared.event.Verb.{Verb}
use Rattle.wtf_model.specs.declared.event.Verb.TheVariants as verb
use Rattle.wtf_model.specs.declared.event.Event.{Event}
use Rattle.wtf_model.specs.declared.event.Event.TheVariants as event
use Rattle.wtf_model.specs.Tree.{Tree, TreeNode, Dir, File, ◌>>=◌, is_parent, is_free, bytes_of, target_in, target, source, sources, is_directory, are_none, paths_in, is_empty}
use Rattle.wtf_model.specs.Session.{Session, Handle}
use Rattle.wtf_model.specs.Done.{Done, done, open_handle, handle_at, is_unused, known_slice, slice_at, bytes_of_handle, is_closed, fits, in_range}
use Rattle.wtf_model.specs.NameCalls.{mkdir, create, is_not_root, rmdir, unlink, rename, link, list, shown_node, stat}
use Rattle.wtf_model.specs.HandleCalls.{open_file, close, seek, tell}
use Rattle.wtf_model.specs.ByteCalls.{read, write, append, truncate, punch}
use Rattle.wtf_model.specs.SliceCalls.{yank, peek, cut, paste, glue, concat, copy}
use Rattle.wtf_model.specs.Call.{row_of, call, or_refused}
use Rattle.wtf_model.specs.Transaction.{Transaction}
use Rattle.wtf_model.specs.Examples.{ShowsBytes, IsStoreFault}
use Rattle.wtf_model.specs.Lawful.{client_refusal, IsReadFault, MayFailRead, MayFailYank, MayFailPeek, MayFailConcat, MayFailWrite, MayFail, MayCall, MayAsk, MayClient, server_answer, May}
use Rattle.wtf_model.specs.Steps.{Machine, session_of, cap_of, due, after, after_client, is_logged, IsLogged, is_call_refusal, logged, called, with_transaction, is_down, start}

-- a client's line
pub May-client : (m : Machine) (c : ℕ) (v : Verb) (a : Answer) (t : Option Transaction)
    → get m.transactions c ≡ t → MayClient m t v a → May m (event.Client c v) a
May-client m c v a t there h = subst (λ o. MayClient m o v a) (sym there) h

pub MayClient-may : (m : Machine) (c : ℕ) (v : Verb) (a : Answer) (t : Option Transaction)
    → get m.transactions c ≡ t → May m (event.Client c v) a → MayClient m t v a
MayClient-may m c v a t there h = subst (λ o. MayClient m o v a) there h

pub after-client : (m : Machine) (c : ℕ) (v : Verb) (a : Answer) (t : Option Transaction)
    → get m.transactions c ≡ t → after m (event.Client c v) a ≡ after_client m c t v a
after-client m c v a t there = ap (λ o. after_client m c o v a) there

-- what leaves the machine as it is

client_fault_read : (m : Machine) (c : ℕ) (t : Option Transaction) (v : Verb) (k : ℕ) → after_client m c t v (FaultRead k) ≡ m
client_fault_read m c None verb.Begin k = refl
client_fault_read m c (Some t) verb.Try k = refl
client_fault_read m c (Some t) verb.Step k = refl
client_fault_read m c (Some t) verb.Commit k = refl
client_fault_read m c (Some t) verb.Abort k = refl
client_fault_read m c (Some t) (verb.Call o) k = refl
client_fault_read m c t v k = refl

pub after-FaultRead : (m : Machine) (e : Event) (k : ℕ) → after m e (FaultRead k) ≡ m
after-FaultRead m (event.Client c v) k = client_fault_read m c (get m.transactions c) v k
after-FaultRead m e k = refl

client_damaged : (m : Machine) (c : ℕ) (t : Option Transaction) (v : Verb) (k : ℕ) → after_client m c t v (Damaged k) ≡ m
client_damaged m c None verb.Begin k = refl
client_damaged m c (Some t) verb.Try k = refl
client_damaged m c (Some t) verb.Step k = refl
client_damaged m c (Some t) verb.Commit k = refl
client_damaged m c (Some t) verb.Abort k = refl
client_damaged m c (Some t) (verb.Call o) k = refl
client_damaged m c t v k = refl

pub after-Damaged : (m : Machine) (e : Event) (k : ℕ) → after m e (Damaged k) ≡ m
after-Damaged m (event.Client c v) k = client_damaged m c (get m.transactions c) v k
after-Damaged m e k = refl

client_fault_write : (m : Machine) (c : ℕ) (t : Option Transaction) (v : Verb) → after_client m c t v FaultWrite ≡ m
client_fault_write m c None verb.Begin = refl
client_fault_write m c (Some t) verb.Try = refl
client_fault_write m c (Some t) verb.Step = refl
client_fault_write m c (Some t) verb.Commit = refl
client_fault_write m c (Some t) verb.Abort = refl
client_fault_write m c (Some t) (verb.Call o) = refl
client_fault_write m c t v = refl

pub after-FaultWrite : (m : Machine) (e : Event) → after m e FaultWrite ≡ m
after-FaultWrite m (event.Client c v) = client_fault_write m c (get m.transactions c) v
after-FaultWrite m e = refl

-- a refusal is one of a call
abbrev IsOwn : {A : Type 0} → Result A Word → Type 0
IsOwn (Ok x) = Unit {0}
IsOwn (Err w) = MatchBool (is_call_refusal w) (Unit {0}) ⊥

-- and so is the answer, refused or not
abbrev Logs : Result Done Word → Type 0
Logs (Ok d) = IsLogged d.answer
Logs (Err w) = MatchBool (is_call_refusal w) (Unit {0}) ⊥

own : {A B : Type 0} (r : Result A Word) (f : A → Result B Word) → IsOwn r → ((x : A) → IsOwn (f x)) → IsOwn (r >>= f)
own (Ok x) f is h = h x
own (Err w) f is h = is

logs : {A : Type 0} (r : Result A Word) (f : A → Result Done Word) → IsOwn r → ((x : A) → Logs (f x)) → Logs (r >>= f)
logs (Ok x) f is h = h x
logs (Err w) f is h = is

own_parent : (o : Option TreeNode) → IsOwn (is_parent o)
own_parent (Some Dir) = tt
own_parent (Some (File paths bytes)) = tt
own_parent None = tt

own_free : (o : Option TreeNode) → IsOwn (is_free o)
own_free (Some n) = tt
own_free None = tt

own_target : (t : Tree) (p : List ℕ) (up : Option (List ℕ)) → IsOwn (target_in t p up)
own_target t p None = tt
own_target t p (Some dir) = own (is_parent (get t dir)) _ (own_parent (get t dir)) (λ _. own_free (get t p))

own_source : (o : Option TreeNode) → IsOwn (bytes_of o)
own_source (Some (File paths bytes)) = tt
own_source (Some Dir) = tt
own_source None = tt

own_sources : (t : Tree) (ps : List (List ℕ)) → IsOwn (sources t ps)
own_sources t [] = tt
own_sources t (p ∷ ps) = own (source t p) _ (own_source (get t p)) (λ bytes. own (sources t ps) _ (own_sources t ps) (λ _. tt))

own_directory : (o : Option TreeNode) → IsOwn (is_directory o)
own_directory (Some Dir) = tt
own_directory (Some (File paths bytes)) = tt
own_directory None = tt

own_none : (ps : List (List ℕ)) → IsOwn (are_none ps)
own_none [] = tt
own_none (p ∷ ps) = tt

own_handle : (o : Option Handle) → IsOwn (open_handle o)
own_handle (Some h) = tt
own_handle None = tt

own_unused : (o : Option Handle) → IsOwn (is_unused o)
own_unused (Some h) = tt
own_unused None = tt

own_slice : (o : Option (List ℕ)) → IsOwn (known_slice o)
own_slice (Some bytes) = tt
own_slice None = tt

abbrev one_way : Bool → Word → Result (Unit {0}) Word
one_way b w = if b then Ok tt else Err w

abbrev other_way : Bool → Word → Result (Unit {0}) Word
other_way b w = if b then Err w else Ok tt

own_if : (b : Bool) (w : Word) → is_call_refusal w ≡ true → IsOwn (one_way b w)
own_if true w is = tt
own_if false w is = subst (λ b. MatchBool b (Unit {0}) ⊥) (sym is) tt

own_unless : (b : Bool) (w : Word) → is_call_refusal w ≡ true → IsOwn (other_way b w)
own_unless true w is = subst (λ b. MatchBool b (Unit {0}) ⊥) (sym is) tt
own_unless false w is = tt

-- the label of a handle or a slice
at_handle : (s : Session) (f : ℕ) (g : Handle → Result Done Word) → ((h : Handle) → Logs (g h)) → Logs (handle_at s f >>= g)
at_handle s f g h = logs (handle_at s f) g (own_handle (get s.handles f)) h

at_slice : (s : Session) (label : ℕ) (g : List ℕ → Result Done Word) → ((bytes : List ℕ) → Logs (g bytes)) → Logs (slice_at s label >>= g)
at_slice s label g h = logs (slice_at s label) g (own_slice (get s.slices label)) h

at_target : (s : Session) (p : List ℕ) (g : Unit {0} → Result Done Word) → ((u : Unit {0}) → Logs (g u)) → Logs (target s.tree p >>= g)
at_target s p g h = logs (target s.tree p) g (own_target s.tree p (parent_of p)) h

at_source : (s : Session) (p : List ℕ) (g : List ℕ → Result Done Word) → ((bytes : List ℕ) → Logs (g bytes)) → Logs (source s.tree p >>= g)
at_source s p g h = logs (source s.tree p) g (own_source (get s.tree p)) h

at_fits : (cap n : ℕ) (g : Unit {0} → Result Done Word) → ((u : Unit {0}) → Logs (g u)) → Logs (fits cap n >>= g)
at_fits cap n g h = logs (fits cap n) g (own_if (nat_le n cap) TooBig refl) h

at_range : (most n : ℕ) (g : Unit {0} → Result Done Word) → ((u : Unit {0}) → Logs (g u)) → Logs (in_range most n >>= g)
at_range most n g h = logs (in_range most n) g (own_if (nat_le n most) Range refl) h

stat_logs : (s : Session) (o : Option TreeNode) → Logs (shown_node o >>= (λ shown. done s shown))
stat_logs s (Some Dir) = tt
stat_logs s (Some (File paths bytes)) = tt
stat_logs s None = tt

write_logs : (cap : ℕ) (s : Session) (f : ℕ) (bytes : List ℕ) → Logs (write cap s f bytes)
unfolding write
write_logs cap s f [] = at_handle s f _ (λ h. tt)
write_logs cap s f (b ∷ bs) = at_handle s f _ (λ h. at_fits cap (h.off + length (b ∷ bs)) _ (λ _. tt))

append_logs : (cap : ℕ) (s : Session) (f : ℕ) (bytes : List ℕ) → Logs (append cap s f bytes)
unfolding append
append_logs cap s f bytes = at_handle s f _ (λ h. at_fits cap (length (bytes_of_handle s h) + length bytes) _ (λ _. tt))

seek_logs : (cap : ℕ) (s : Session) (f : ℕ) (place : Seek) → Logs (seek cap s f place)
unfolding seek
seek_logs cap s f (to.Set n) = at_handle s f _ (λ h. at_range cap n _ (λ _. tt))
seek_logs cap s f (to.Fwd n) = at_handle s f _ (λ h. at_range cap (h.off + n) _ (λ _. tt))
seek_logs cap s f (to.Back n) = at_handle s f _ (λ h. at_range h.off n _ (λ _. tt))
seek_logs cap s f to.End = at_handle s f _ (λ h. tt)

row_logs : (cap : ℕ) (s : Session) (o : Op (List ℕ)) → Logs (row_of cap s o)
unfolding mkdir create rmdir unlink rename link list stat open_file close tell read truncate punch yank peek cut paste glue concat copy
row_logs cap s (op.Mkdir p) = at_target s p _ (λ _. tt)
row_logs cap s (op.Rmdir p) =
    logs (is_not_root p) _ (own_unless _ Root refl) (λ _. logs (is_directory (get s.tree p)) _ (own_directory (get s.tree p)) (λ _.
    logs (is_empty s.tree p) _ (own_none (paths_in s.tree p)) (λ _. tt)))
row_logs cap s (op.Create p) = at_target s p _ (λ _. tt)
row_logs cap s (op.Unlink p) = at_source s p _ (λ _. logs (is_closed s p) _ (own_unless _ Busy refl) (λ _. tt))
row_logs cap s (op.Rename p q) = at_source s p _ (λ _. logs (is_closed s p) _ (own_unless _ Busy refl) (λ _. at_target s q _ (λ _. tt)))
row_logs cap s (op.Link p q) = at_source s p _ (λ _. at_target s q _ (λ _. tt))
row_logs cap s (op.List p) = logs (is_directory (get s.tree p)) _ (own_directory (get s.tree p)) (λ _. tt)
row_logs cap s (op.Stat p) = stat_logs s (get s.tree p)
row_logs cap s (op.Open f p) = logs (is_unused (get s.handles f)) _ (own_unused (get s.handles f)) (λ _. at_source s p _ (λ _. tt))
row_logs cap s (op.Close f) = at_handle s f _ (λ _. tt)
row_logs cap s (op.Seek f place) = seek_logs cap s f place
row_logs cap s (op.Tell f) = at_handle s f _ (λ _. tt)
row_logs cap s (op.Read f n) = at_handle s f _ (λ _. tt)
row_logs cap s (op.Write f bytes) = write_logs cap s f bytes
row_logs cap s (op.Append f bytes) = append_logs cap s f bytes
row_logs cap s (op.Truncate f n) = at_handle s f _ (λ h. at_fits cap n _ (λ _. tt))
row_logs cap s (op.Punch f n) = at_handle s f _ (λ _. tt)
row_logs cap s (op.Yank f n label) = at_handle s f _ (λ _. tt)
row_logs cap s (op.Peek label off n) = at_slice s label _ (λ bytes. at_range (length bytes) (off + n) _ (λ _. tt))
row_logs cap s (op.Cut label off n made) = at_slice s label _ (λ bytes. at_range (length bytes) (off + n) _ (λ _. tt))
row_logs cap s (op.Paste f label) = at_handle s f _ (λ _. at_slice s label _ (λ bytes. write_logs cap s f bytes))
row_logs cap s (op.Glue f label) = at_handle s f _ (λ _. at_slice s label _ (λ bytes. append_logs cap s f bytes))
row_logs cap s (op.Concat q paths) = at_target s q _ (λ _. logs (sources s.tree paths) _ (own_sources s.tree paths) (λ bytes. at_fits cap (length bytes) _ (λ _. tt)))
row_logs cap s (op.Copy p q) = at_source s p _ (λ bytes. at_target s q _ (λ _. tt))

answer_logs : (s : Session) (r : Result Done Word) → Logs r → IsLogged (or_refused s r).answer
answer_logs s (Ok d) h = h
answer_logs s (Err w) h = h

-- what a call answers is logged
pub IsLogged-call : (cap : ℕ) (s : Session) (o : Op (List ℕ)) → IsLogged (call cap s o).answer
IsLogged-call cap s o = answer_logs s (row_of cap s o) (row_logs cap s o)

logged_by : (b : Bool) (x y : Machine) → MatchBool b (Unit {0}) ⊥ → (if b then x else y) ≡ x
logged_by true x y h = refl
logged_by false x y h = absurd h

pub called-logged : (m : Machine) (c : ℕ) (t : Transaction) (o : Op (List ℕ)) (a : Answer) → IsLogged a → called m c t o a ≡ with_transaction m c (logged t o a)
called-logged m c t o a h = logged_by (is_logged a) _ m h

-- what is not logged leaves the machine
pub called-other : (m : Machine) (c : ℕ) (t : Transaction) (o : Op (List ℕ)) (a : Answer) → is_logged a ≡ false → called m c t o a ≡ m
called-other m c t o a h = ap (λ b. if b then with_transaction m c (logged t o a) else m) h

-- a call is answered by a refusal of the machine, by what is due, or by a fault

either : (b : Bool) (P Q : Type 0) → MatchBool b P Q → P ⊎ Q
either true P Q h = inl h
either false P Q h = inr h

pub refused_or : (r : Option Word) (a : Answer) (P : Type 0) → MatchOption r P (λ w. a ≡ Refused w) → ((w : Word) × (a ≡ Refused w)) ⊎ P
refused_or None a P h = inr h
refused_or (Some w) a P h = inl (w, h)

-- a line that is not refused
pub MayClient-asked : (m : Machine) (o : Option Transaction) (v : Verb) (a : Answer) → client_refusal o v ≡ None → MayAsk m o v a → MayClient m o v a
MayClient-asked m o v a none h = subst (λ r. MatchOption r (MayAsk m o v a) (λ w. a ≡ Refused w)) (sym none) h

pub MayAsk-asked : (m : Machine) (o : Option Transaction) (v : Verb) (a : Answer) → client_refusal o v ≡ None → MayClient m o v a → MayAsk m o v a
MayAsk-asked m o v a none h = subst (λ r. MatchOption r (MayAsk m o v a) (λ w. a ≡ Refused w)) none h

-- and one that is
pub MayClient-refused : (m : Machine) (o : Option Transaction) (v : Verb) (w : Word) → client_refusal o v ≡ Some w → (a : Answer) → MayClient m o v a ↔ (a ≡ Refused w)
MayClient-refused m o v w is a = (
  λ h. subst (λ r. MatchOption r (MayAsk m o v a) (λ x. a ≡ Refused x)) is h,
  λ h. subst (λ r. MatchOption r (MayAsk m o v a) (λ x. a ≡ Refused x)) (sym is) h,
)

logged_is_no_fault : (a : Answer) → IsLogged a → IsStoreFault a → ⊥
logged_is_no_fault (FaultRead k) own fault = own
logged_is_no_fault FaultWrite own fault = own
logged_is_no_fault (Damaged k) own fault = own
logged_is_no_fault a own fault = fault

-- a fault comes only where the call may fail so
pub fault_only : (m : Machine) (c : ℕ) (t : Transaction) (o : Op (List ℕ)) (a : Answer) → IsStoreFault a → get m.transactions c ≡ Some t
    → May m (event.Client c (verb.Call o)) a → MayFail m.settings.servers o (due m t o) a
fault_only m c t o a fault there h =
    elim (refused_or (client_refusal (Some t) (verb.Call o)) a (MayCall m t o a) (MayClient-may m c (verb.Call o) a (Some t) there h)) [
      | inl refused ↦ absurd (subst IsStoreFault refused.1 fault)
      | inr asked ↦ elim asked [
        | inl e ↦ absurd (logged_is_no_fault (due m t o) (IsLogged-call (cap_of m) (session_of m t) o) (subst IsStoreFault e fault))
        | inr fails ↦ fails
      ]
    ]

fails_by_fault : (servers : ℕ) (a : Answer) → IsReadFault servers a → IsStoreFault a
fails_by_fault servers (FaultRead k) h = tt
fails_by_fault servers (Damaged k) h = tt
fails_by_fault servers a h = absurd h

read_fails : (servers : ℕ) (d a : Answer) → MayFailRead servers d a → IsStoreFault a
read_fails servers (Shown (b ∷ bs)) a h = fails_by_fault servers a h
read_fails servers d a h = absurd h

yank_fails : (servers : ℕ) (d a : Answer) → MayFailYank servers d a → IsStoreFault a
yank_fails servers (Len n) a h = fails_by_fault servers a h.1
yank_fails servers d a h = absurd h

peek_fails : (servers : ℕ) (d a : Answer) → MayFailPeek servers d a → IsStoreFault a
peek_fails servers (Shown (b ∷ bs)) (FaultRead k) h = tt
peek_fails servers d a h = absurd h

concat_fails : (servers : ℕ) (d a : Answer) → MayFailConcat servers d a → IsStoreFault a
concat_fails servers Okay a h = fails_by_fault servers a h
concat_fails servers d a h = absurd h

write_fails : (d a : Answer) → MayFailWrite d a → IsStoreFault a
write_fails Okay FaultWrite h = tt
write_fails d a h = absurd h

-- how a call may fail is a fault
pub IsStoreFault-MayFail : (servers : ℕ) (o : Op (List ℕ)) (d a : Answer) → MayFail servers o d a → IsStoreFault a
IsStoreFault-MayFail servers (op.Read f n) d a h = read_fails servers d a h
IsStoreFault-MayFail servers (op.Yank f n label) d a h = yank_fails servers d a h
IsStoreFault-MayFail servers (op.Peek label off n) d a h = peek_fails servers d a h
IsStoreFault-MayFail servers (op.Concat q paths) d a h = concat_fails servers d a h
IsStoreFault-MayFail servers (op.Write f (b ∷ bs)) d a h = write_fails d a h
IsStoreFault-MayFail servers (op.Append f (b ∷ bs)) d a h = write_fails d a h
IsStoreFault-MayFail servers (op.Append f []) d a h = absurd h
IsStoreFault-MayFail servers o d a h = absurd h

-- an answer that is logged is the one that is due
pub MayCall-logged : (m : Machine) (t : Transaction) (o : Op (List ℕ)) (a : Answer) → IsLogged a → MayCall m t o a → a ≡ due m t o
MayCall-logged m t o a own (inl is) = is
MayCall-logged m t o a own (inr fails) = absurd (logged_is_no_fault a own (IsStoreFault-MayFail m.settings.servers o (due m t o) a fails))

may_fail_read : (servers : ℕ) (d a : Answer) → IsReadFault servers a → ShowsBytes d → MayFailRead servers d a
may_fail_read servers (Shown (b ∷ bs)) a below h = below
may_fail_read servers d a below h = absurd h

-- a read that is to show bytes may answer a fault of a server, and that what it reads is not as it was stored
pub May-read_fault : (m : Machine) (c : ℕ) (t : Transaction) (f n : ℕ) (a : Answer) → get m.transactions c ≡ Some t
    → client_refusal (Some t) (verb.Call (op.Read f n)) ≡ None → ShowsBytes (due m t (op.Read f n)) → IsReadFault m.settings.servers a → May m (event.Client c (verb.Call (op.Read f n))) a
May-read_fault m c t f n a there asked shows below =
    May-client m c (verb.Call (op.Read f n)) a (Some t) there
    (MayClient-asked m (Some t) (verb.Call (op.Read f n)) a asked (inr (may_fail_read m.settings.servers (due m t (op.Read f n)) a below shows)))

-- a write of at least one byte that is to answer `ok` may answer a fault
pub May-write_fault : (m : Machine) (c : ℕ) (t : Transaction) (f b : ℕ) (bs : List ℕ) → get m.transactions c ≡ Some t
    → client_refusal (Some t) (verb.Call (op.Write f (b ∷ bs))) ≡ None → due m t (op.Write f (b ∷ bs)) ≡ Okay
    → May m (event.Client c (verb.Call (op.Write f (b ∷ bs)))) FaultWrite
May-write_fault m c t f b bs there asked fine =
    May-client m c (verb.Call (op.Write f (b ∷ bs))) FaultWrite (Some t) there
    (MayClient-asked m (Some t) (verb.Call (op.Write f (b ∷ bs))) FaultWrite asked (inr (subst (λ d. MayFailWrite d FaultWrite) (sym fine) tt)))

-- servers that go down and come up

tied : (j k : ℕ) → eq_by_cmp nat_cmp j k ≡ eqb j k
tied j k = unsigned_tied j k

down_same : (s : FinSet nat_cmp) (k : ℕ) → contains (set.insert s k) k ≡ true
down_same s k = contains-insert nat_cmp_total s k k ∙ ap (λ b. b || contains s k) (tied k k ∙ eq-eqb k k refl)

down_other : (s : FinSet nat_cmp) (j k : ℕ) → j ≢ k → contains (set.insert s k) j ≡ contains s j
down_other s j k ne = contains-insert nat_cmp_total s k j ∙ ap (λ b. b || contains s j) (tied j k ∙ ne_eqb j k ne)

up_same : (s : FinSet nat_cmp) (k : ℕ) → contains (set.remove s k) k ≡ false
up_same s k = contains-remove nat_cmp_total s k k ∙ ap (λ b. not b && contains s k) (tied k k ∙ eq-eqb k k refl)

up_other : (s : FinSet nat_cmp) (j k : ℕ) → j ≢ k → contains (set.remove s k) j ≡ contains s j
up_other s j k ne = contains-remove nat_cmp_total s k j ∙ ap (λ b. not b && contains s j) (tied j k ∙ ne_eqb j k ne)

-- a server that was taken down is down, and the others are as they were
pub is_down-down : (m : Machine) (k : ℕ) → is_down (after m (event.Down k) Okay) k ≡ true
is_down-down m k = down_same m.down k

pub is_down-down_other : (m : Machine) (j k : ℕ) → j ≢ k → is_down (after m (event.Down k) Okay) j ≡ is_down m j
is_down-down_other m j k ne = down_other m.down j k ne

-- and so for one that was brought up
pub is_down-up : (m : Machine) (k : ℕ) → is_down (after m (event.Up k) Okay) k ≡ false
is_down-up m k = up_same m.down k

pub is_down-up_other : (m : Machine) (j k : ℕ) → j ≢ k → is_down (after m (event.Up k) Okay) j ≡ is_down m j
is_down-up_other m j k ne = up_other m.down j k ne

-- before the first event all servers are up
pub is_down-start : (settings : Settings) (number : ℕ) (tree : Tree) (k : ℕ) → is_down (start settings number tree) k ≡ false
is_down-start settings number tree k = contains-empty nat_cmp k

-- what a line that names a server is answered
pub server_answer-known : (m : Machine) (k : ℕ) → k < m.settings.servers → server_answer m k ≡ Okay
server_answer-known m k h = cond-true _ _ _ (lt-ltb k m.settings.servers h)

pub server_answer-unknown : (m : Machine) (k : ℕ) → m.settings.servers ≤ k → server_answer m k ≡ Refused NoServer
server_answer-unknown m k h = cond-false _ _ _ (le-ltb k m.settings.servers h)
