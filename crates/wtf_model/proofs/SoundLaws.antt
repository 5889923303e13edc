-- Each step keeps a machine sound.
use Rattle.std.proofs.Common.{◌≡◌, ◌≢◌, ◌⊎◌, ◌+◌, ℕ, List, [], ◌∷◌, ◌++◌, Option, Some, None, refl, sym, subst, ◌∙◌, inl, inr, true, false, cond, if◌then◌else◌, Bool}
use Rattle.std.proofs.lemmas.Bool.{cases_eq}
use Rattle.std.proofs.lemmas.List.Elements.{All-nil, All-push}
use Rattle.std.specs.Option.{option_map}
use Rattle.std.specs.FinMap.{FinMap, get, insert, remove, get-empty, get-remove}
use Rattle.std.specs.FinSet.{FinSet}
use Rattle.std.specs.FinSet as set
use Rattle.std.specs.Cmp.{nat_cmp_total}
use Rattle.std.specs.Ordering.{nat_cmp, eq_by_cmp}
use Rattle.wtf_base.specs.declared.settings.Settings.{Settings}
use Rattle.wtf_model.specs.declared.answer.Answer.{Answer, Aborted'}
use Rattle.wtf_model.specs.declared.answer.Answer.TheVariants.{Okay, Begun, Committed, Retry, Replayed, Planned, Installed, Stale, Scanning, More, Done, Saved, FaultSave}
use Rattle.wtf_model.specs.declared.op.Op.{Op}
use Rattle.wtf_model.specs.declared.op.JobKind.{JobKind}
use Rattle.wtf_model.specs.declared.item.Item.{Item}
use Rattle.wtf_model.specs.declared.event.Verb.{Verb}
use Rattle.wtf_model.specs.declared.event.Verb.TheVariants as verb
use Rattle.wtf_model.specs.declared.event.Event.{Event}
use Rattle.wtf_model.specs.declared.event.Event.TheVariants as event
use Rattle.wtf_model.specs.Form.{IsData, IsFormOp, IsFormVerb, IsFormEvent}
use Rattle.wtf_model.specs.Tree.{Tree, IsTree}
use Rattle.wtf_model.specs.Items.{writes_of}
use Rattle.wtf_model.specs.Transaction.{Transaction}
use Rattle.wtf_model.specs.Jobs.{job_changes}
use Rattle.wtf_model.specs.Steps.{Machine, start, cap_of, is_logged, logged, called, ended, touch, with_each, installed, rebased, tried, stepped, committed, saved, with_transaction, with_down, with_job, put_in_place, dropped, scanning, scanned, after, after_client}
use Rattle.wtf_model.specs.Sound.{IsSoundTransaction, IsSoundMachine}
use Rattle.wtf_model.proofs.Laws.{get-number_same, get-number_other}
use Rattle.wtf_model.proofs.SessionLaws.{IsTree-session_after}
use Rattle.wtf_model.proofs.ItemLaws.{get-each}

-- each open transaction is sound
abbrev AreSound : FinMap nat_cmp Transaction → Type 0
AreSound open_ones = (c : ℕ) (t : Transaction) → get open_ones c ≡ Some t → IsSoundTransaction t

put_sound : (m : FinMap nat_cmp Transaction) (c d : ℕ) (t u : Transaction) → (d ≡ c) ⊎ (d ≢ c) → AreSound m → IsSoundTransaction t → get (insert m c t) d ≡ Some u → IsSoundTransaction u
put_sound m c d t u (inl same) all one there =
    let found : Some t ≡ Some u = sym (get-number_same m c t) ∙ subst (λ x. get (insert m c t) x ≡ Some u) same there in
    let is : t ≡ u = cc in
    subst IsSoundTransaction is one
put_sound m c d t u (inr other) all one there = all d u (sym (get-number_other m c t d other) ∙ there)

left_by : (b : Bool) (o : Option Transaction) (u : Transaction) → cond b None o ≡ Some u → o ≡ Some u
left_by true o u e = absurd (cc)
left_by false o u e = e

taken_sound : (m : FinMap nat_cmp Transaction) (c d : ℕ) (u : Transaction) → AreSound m → get (remove m c) d ≡ Some u → IsSoundTransaction u
taken_sound m c d u all there = all d u (left_by (eq_by_cmp nat_cmp d c) (get m d) u (sym (get-remove nat_cmp_total m c d) ∙ there))

-- what others have changed is no part of it
touched_by : (items : List Item) (o : Option Transaction) (u : Transaction) → option_map (touch items) o ≡ Some u → ((t : Transaction) → o ≡ Some t → IsSoundTransaction t) → IsSoundTransaction u
touched_by items None u e all = absurd (cc)
touched_by items (Some t) u e all =
    let found : Some (touch items t) ≡ Some u = e in
    let is : touch items t ≡ u = cc in
    let one = all t refl in
    subst IsSoundTransaction is (record { base_is = one.base_is; form = one.form })

each_sound : (m : FinMap nat_cmp Transaction) (items : List Item) (d : ℕ) (u : Transaction) → AreSound m → get (with_each (touch items) m) d ≡ Some u → IsSoundTransaction u
each_sound m items d u all there = touched_by items (get m d) u (sym (get-each (touch items) m d) ∙ there) (λ t is. all d t is)

with_sound : (m : Machine) (c : ℕ) (t : Transaction) → IsSoundMachine m → IsSoundTransaction t → IsSoundMachine (with_transaction m c t)
with_sound m c t sound one = record { now_is = sound.now_is; saved_are = sound.saved_are; open_are = λ d u there. put_sound m.transactions c d t u (cases_eq d c) sound.open_are one there }

logged_sound : (t : Transaction) (o : Op (List ℕ)) (a : Answer) → IsFormOp IsData o → IsSoundTransaction t
    → IsSoundTransaction (record t { ops = t.ops ++ o ∷ []; shown = t.shown ++ a ∷ []; replayed = t.replayed + 1 })
logged_sound t o a form one = record { base_is = one.base_is; form = All-push (IsFormOp IsData) t.ops o one.form form }

called_sound : (m : Machine) (c : ℕ) (t : Transaction) (o : Op (List ℕ)) (a : Answer) → IsFormOp IsData o → IsSoundMachine m → IsSoundTransaction t → IsSoundMachine (called m c t o a)
called_sound m c t o a form sound one =
    elim (is_logged a) as (λ b. IsSoundMachine (if b then with_transaction m c (logged t o a) else m)) [
      | true ↦ with_sound m c _ sound (logged_sound t o a form one)
      | false ↦ sound
    ]

ended_sound : (m : Machine) (c : ℕ) → IsSoundMachine m → IsSoundMachine (ended m c)
ended_sound m c sound = record { now_is = sound.now_is; saved_are = sound.saved_are; open_are = λ d u here. taken_sound m.transactions c d u sound.open_are here }

installed_sound : (m : Machine) (c : ℕ) (t : Transaction) (n : ℕ) → IsSoundMachine m → IsSoundTransaction t → IsSoundMachine (installed m c t n)
installed_sound m c t n sound one = record {
  now_is = IsTree-session_after (cap_of m) m.now t.ops one.form sound.now_is;
  saved_are = sound.saved_are;
  open_are = λ d u here. each_sound (remove m.transactions c) (writes_of (cap_of m) m.now t.ops) d u (λ e v there. taken_sound m.transactions c e v sound.open_are there) here;
}

tried_sound : (m : Machine) (c : ℕ) (t : Transaction) (a : Answer) → IsSoundMachine m → IsSoundTransaction t → IsSoundMachine (tried m c t a)
tried_sound m c t (Committed n) sound one = installed_sound m c t n sound one
tried_sound m c t (Retry base now) sound one = with_sound m c (rebased m t) sound (record { base_is = sound.now_is; form = one.form })
tried_sound m c t a sound one = sound

stepped_sound : (m : Machine) (c : ℕ) (t : Transaction) (a : Answer) → IsSoundMachine m → IsSoundTransaction t → IsSoundMachine (stepped m c t a)
stepped_sound m c t (Replayed i) sound one = with_sound m c (record t { replayed = i }) sound (record { base_is = one.base_is; form = one.form })
stepped_sound m c t (Aborted' i box a) sound one = ended_sound m c sound
stepped_sound m c t a sound one = sound

committed_sound : (m : Machine) (c : ℕ) (t : Transaction) (a : Answer) → IsSoundMachine m → IsSoundTransaction t → IsSoundMachine (committed m c t a)
committed_sound m c t (Committed n) sound one = installed_sound m c t n sound one
committed_sound m c t (Aborted' i box a) sound one = ended_sound m c sound
committed_sound m c t a sound one = sound

client_sound : (m : Machine) (c : ℕ) (o : Option Transaction) (v : Verb) (a : Answer) → IsFormVerb v → get m.transactions c ≡ o → IsSoundMachine m → IsSoundMachine (after_client m c o v a)
client_sound m c None verb.Begin (Begun n) form there sound = record {
  now_is = sound.now_is;
  saved_are = sound.saved_are;
  open_are = λ d u there. put_sound m.transactions c d _ u (cases_eq d c) sound.open_are (record { base_is = sound.now_is; form = All-nil (IsFormOp IsData) }) there;
}
client_sound m c None verb.Begin a form there sound = sound
client_sound m c (Some t) verb.Try a form there sound = tried_sound m c t a sound (sound.open_are c t there)
client_sound m c (Some t) verb.Step a form there sound = stepped_sound m c t a sound (sound.open_are c t there)
client_sound m c (Some t) verb.Commit a form there sound = committed_sound m c t a sound (sound.open_are c t there)
client_sound m c (Some t) verb.Abort Okay form there sound = ended_sound m c sound
client_sound m c (Some t) verb.Abort a form there sound = sound
client_sound m c (Some t) (verb.Call o) a form there sound = called_sound m c t o a form sound (sound.open_are c t there)
client_sound m c o v a form there sound = sound

down_sound : (m : Machine) (down : FinSet nat_cmp) (a : Answer) → IsSoundMachine m → IsSoundMachine (with_down m down a)
down_sound m down Okay sound = record { now_is = sound.now_is; saved_are = sound.saved_are; open_are = sound.open_are }
down_sound m down a sound = sound

saved_sound : (m : Machine) (a : Answer) → IsSoundMachine m → IsSoundMachine (saved m a)
saved_sound m (Saved n) sound = record {
  now_is = sound.now_is;
  saved_are = All-push IsTree [] m.now (All-nil IsTree) sound.now_is;
  open_are = sound.open_are;
}
saved_sound m FaultSave sound = record {
  now_is = sound.now_is;
  saved_are = All-push IsTree m.may_be_saved m.now sound.saved_are sound.now_is;
  open_are = sound.open_are;
}
saved_sound m a sound = sound

-- jobs and scans hold no tree

job_sound : (m : Machine) (j : ℕ) (kind : JobKind) (p : List ℕ) (r : ℕ) (a : Answer) → IsSoundMachine m → IsSoundMachine (with_job m j kind p r a)
job_sound m j kind p r Planned sound = record { now_is = sound.now_is; saved_are = sound.saved_are; open_are = sound.open_are }
job_sound m j kind p r a sound = sound

put_in_place_sound : (m : Machine) (j : ℕ) (a : Answer) → IsSoundMachine m → IsSoundMachine (put_in_place m j a)
put_in_place_sound m j (Installed n) sound = record {
  now_is = sound.now_is;
  saved_are = sound.saved_are;
  open_are = λ d u here. each_sound m.transactions (job_changes m.now (get m.jobs j)) d u sound.open_are here;
}
put_in_place_sound m j (Stale base now) sound = record { now_is = sound.now_is; saved_are = sound.saved_are; open_are = sound.open_are }
put_in_place_sound m j a sound = sound

dropped_sound : (m : Machine) (j : ℕ) (a : Answer) → IsSoundMachine m → IsSoundMachine (dropped m j a)
dropped_sound m j Okay sound = record { now_is = sound.now_is; saved_are = sound.saved_are; open_are = sound.open_are }
dropped_sound m j a sound = sound

scanning_sound : (m : Machine) (a : Answer) → IsSoundMachine m → IsSoundMachine (scanning m a)
scanning_sound m Scanning sound = record { now_is = sound.now_is; saved_are = sound.saved_are; open_are = sound.open_are }
scanning_sound m a sound = sound

scanned_sound : (m : Machine) (a : Answer) → IsSoundMachine m → IsSoundMachine (scanned m a)
scanned_sound m (More left) sound = record { now_is = sound.now_is; saved_are = sound.saved_are; open_are = sound.open_are }
scanned_sound m Done sound = record { now_is = sound.now_is; saved_are = sound.saved_are; open_are = sound.open_are }
scanned_sound m a sound = sound

pub IsSoundMachine-start : (settings : Settings) (number : ℕ) (tree : Tree) → IsTree tree → IsSoundMachine (start settings number tree)
IsSoundMachine-start settings number tree is = record {
  now_is = is;
  saved_are = All-push IsTree [] tree (All-nil IsTree) is;
  open_are = λ c t there. absurd (let none : None ≡ Some t = sym (get-empty nat_cmp c) ∙ there in cc);
}

pub IsSoundMachine-after : (m : Machine) (e : Event) (a : Answer) → IsFormEvent e → IsSoundMachine m → IsSoundMachine (after m e a)
IsSoundMachine-after m (event.Client c v) a form sound = client_sound m c (get m.transactions c) v a form.1 refl sound
IsSoundMachine-after m (event.Plan j kind p r) a form sound = job_sound m j kind p r a sound
IsSoundMachine-after m (event.Put j) a form sound = put_in_place_sound m j a sound
IsSoundMachine-after m (event.DropJob j) a form sound = dropped_sound m j a sound
IsSoundMachine-after m event.Scan a form sound = scanning_sound m a sound
IsSoundMachine-after m (event.Piece k) a form sound = scanned_sound m a sound
IsSoundMachine-after m (event.Down k) a form sound = down_sound m (set.insert m.down k) a sound
IsSoundMachine-after m (event.Up k) a form sound = down_sound m (set.remove m.down k) a sound
IsSoundMachine-after m event.Save a form sound = saved_sound m a sound
IsSoundMachine-after m e a form sound = sound
