-- Ends of replays and of commits.
use Rattle.std.proofs.Common.{◌≡◌, ◌+◌, ℕ, List, Option, sym, ap, ◌∙◌, subst}
use Rattle.std.specs.Prelude.{Result, Ok, Err, OnOk, OnErr}
use Rattle.wtf_kv.specs.Edits.{Agree, versions_with}
use Rattle.wtf_kv.specs.Stores.{Store, versions_of}
use Rattle.wtf_model.specs.declared.answer.Answer.{Answer, Aborted'}
use Rattle.wtf_model.specs.declared.answer.Answer.TheVariants as answer
use Rattle.wtf_model.specs.declared.op.Op.{Op}
use Rattle.wtf_model.specs.Same.{IsAbortedAt}
use Rattle.wtf_values.specs.declared.key.Key.{Key}
use Rattle.wtf_values.specs.declared.value.Value.{Value}
use Rattle.wtf_values.specs.Keys.{key_cmp}
use Rattle.wtf_values.specs.Outcomes.{outcome_of}
use Rattle.wtf_meta.specs.Maps.{Map, AllFit, with, metadata_at}
use Rattle.wtf_meta.specs.Contents.{Told}
use Rattle.wtf_meta.specs.Trees.{Stands}
use Rattle.wtf_meta.specs.Calls.{IsRun}
use Rattle.wtf_replay.specs.Views.{TxnView}
use Rattle.wtf_model.specs.Transaction.{answers_of}
use Rattle.wtf_model.specs.Lawful.{Deviates}
use Rattle.wtf_meta.specs.Calls.{cap_for}
use Rattle.wtf_replay.specs.Sounds.{caller_at, did_by}
use Rattle.wtf_replay.specs.Tried.{IsFinal, KeepsVersions}
use Rattle.wtf_replay.specs.Replays.{DeviatesOn, IsEnded, IsTrueEnd}

-- what holds whatever the result is
pub on_ok_any : {T E P : Type 0} (r : Result T E) → P → OnOk r P
on_ok_any (Ok a) h = h
on_ok_any (Err e) h = tt

pub on_err_any : {T E P : Type 0} (r : Result T E) → P → OnErr r P
on_err_any (Ok a) h = tt
on_err_any (Err e) h = h

-- an answer that tells of calls that deviate
pub ended_aborted : (r : Answer) (i : ℕ) (a : Answer) (kv after : Store Key Value) → IsAbortedAt r i a → after.number ≡ kv.number → IsEnded kv after r
ended_aborted (Aborted' j box b) i a kv after is same = same
ended_aborted r i a kv after is same = absurd is

pub true_end_aborted : (r : Answer) (i : ℕ) (a : Answer) (size : ℕ) (told : Told × Told) (kv after : Store Key Value) (x : TxnView) (ops : List (Op (List ℕ)))
    → IsAbortedAt r i a
    → DeviatesOn (metadata_at kv kv.number) size told.0 x ops i a → IsTrueEnd size told kv after x ops r
true_end_aborted (Aborted' j box b) i a size told kv after x ops is deviates =
    subst (λ n. DeviatesOn (metadata_at kv kv.number) size told.0 x ops n b) (sym is.0)
    (subst (λ c. DeviatesOn (metadata_at kv kv.number) size told.0 x ops i c) (sym is.1) deviates)
true_end_aborted r i a size told kv after x ops is deviates = absurd is

-- deviations speak of the number and of what was shown alone
deviates_as : (w : Map) (size : ℕ) (told : Told) (x y : TxnView) (ops : List (Op (List ℕ))) (i : ℕ) (a : Answer) → y.tx ≡ x.tx → y.log ≡ x.log
    → DeviatesOn w size told x ops i a → DeviatesOn w size told y ops i a
deviates_as w size told x y ops i a tx log h t st =
    subst (λ n. Deviates (answers_of (cap_for (caller_at size n 0)) t ops) y.log.shown i a) (sym tx)
    (subst (λ l. Deviates (answers_of (cap_for (caller_at size x.tx 0)) t ops) l.shown i a) (sym log)
    (h t (subst (λ n. Stands size told n 0 w t) tx st)))

pub final_as : (size : ℕ) (told : Told) (kv after : Store Key Value) (x y : TxnView) (ops : List (Op (List ℕ))) (n : ℕ) → y.tx ≡ x.tx → y.log ≡ x.log
    → IsFinal size told kv after x ops n → IsFinal size told kv after y ops n
final_as size told kv after x y ops n tx log f = record {
  at = f.at;
  session = f.session;
  facts = f.facts;
  stored = f.stored;
  lists = f.lists;
  told_are = f.told_are;
  lists_are = f.lists_are;
  run = subst (λ c. IsRun (caller_at size c 0) (metadata_at kv f.at.base) f.session (did_by f.at f.facts f.stored f.lists) (ops, y.log.shown)) (sym tx)
      (subst (λ l. IsRun (caller_at size x.tx 0) (metadata_at kv f.at.base) f.session (did_by f.at f.facts f.stored f.lists) (ops, l.shown)) (sym log) f.run);
  agree = f.agree;
  fits = f.fits;
  next = f.next;
  number = f.number;
  map = f.map;
  versions = f.versions;
}

-- and so does the meaning of a commit
pub true_end_as : (r : Answer) (size : ℕ) (told : Told × Told) (kv after : Store Key Value) (x y : TxnView) (ops : List (Op (List ℕ))) → y.tx ≡ x.tx
    → y.log ≡ x.log → IsTrueEnd size told kv after x ops r → IsTrueEnd size told kv after y ops r
true_end_as (answer.Committed n) size told kv after x y ops tx log h = final_as size told.1 kv after x y ops n tx log h
true_end_as (Aborted' i box a) size told kv after x y ops tx log h = deviates_as (metadata_at kv kv.number) size told.0 x y ops i a tx log h
true_end_as r size told kv after x y ops tx log h = tt

-- the same of stores that show the same maps
final_along : (size : ℕ) (told : Told) (kv kv2 after after2 : Store Key Value) (x : TxnView) (ops : List (Op (List ℕ))) (n : ℕ) → kv2.number ≡ kv.number
    → ((m : ℕ) → metadata_at kv2 m ≡ metadata_at kv m) → KeepsVersions kv kv2
    → after2.number ≡ after.number → ((m : ℕ) → metadata_at after2 m ≡ metadata_at after m) → KeepsVersions after after2 → IsFinal size told kv after x ops n
    → IsFinal size told kv2 after2 x ops n
final_along size told kv kv2 after after2 x ops n number same keeps number2 maps keeps2 f =
    let map : metadata_at kv2 kv2.number ≡ metadata_at kv kv.number = ap (metadata_at kv2) number ∙ same kv.number in
    record {
      at = f.at;
      session = f.session;
      facts = f.facts;
      stored = f.stored;
      lists = f.lists;
      told_are = f.told_are;
      lists_are = f.lists_are;
      run = subst (λ w. IsRun (caller_at size x.tx 0) w f.session (did_by f.at f.facts f.stored f.lists) (ops, x.log.shown)) (sym (same f.at.base)) f.run;
      agree = subst (λ w. Agree f.at.reads (metadata_at kv2 f.at.base) w) (sym map)
          (subst (λ w. Agree f.at.reads w (metadata_at kv kv.number)) (sym (same f.at.base)) f.agree);
      fits = subst (AllFit f.at.changes) (sym map) f.fits;
      next = f.next ∙ ap (λ k. k + 1) (sym number);
      number = number2 ∙ f.number;
      map = maps n ∙ f.map ∙ ap (with f.at.changes) (sym map);
      versions = λ q.
          keeps2 q ∙ f.versions q
          ∙ ap (λ (w : Map). versions_with key_cmp outcome_of f.at.changes n q (w q) (versions_of key_cmp kv q)) (sym map)
          ∙ ap (λ (l : List (ℕ × Option Value)). versions_with key_cmp outcome_of f.at.changes n q (metadata_at kv2 kv2.number q) l) (sym (keeps q));
    }

pub true_end_along : (r : Answer) (size : ℕ) (told : Told × Told) (kv kv2 after after2 : Store Key Value) (x : TxnView) (ops : List (Op (List ℕ)))
    → kv2.number ≡ kv.number → ((m : ℕ) → metadata_at kv2 m ≡ metadata_at kv m) → KeepsVersions kv kv2
    → after2.number ≡ after.number → ((m : ℕ) → metadata_at after2 m ≡ metadata_at after m) → KeepsVersions after after2 → IsTrueEnd size told kv after x ops r
    → IsTrueEnd size told kv2 after2 x ops r
true_end_along (answer.Committed n) size told kv kv2 after after2 x ops number same keeps number2 maps keeps2 h =
    final_along size told.1 kv kv2 after after2 x ops n number same keeps number2 maps keeps2 h
true_end_along (Aborted' i box a) size told kv kv2 after after2 x ops number same keeps number2 maps keeps2 h =
    subst (λ w. DeviatesOn w size told.0 x ops i a) (sym (ap (metadata_at kv2) number ∙ same kv.number)) h
true_end_along r size told kv kv2 after after2 x ops number same keeps number2 maps keeps2 h = tt

pub ended_along : (r : Answer) (kv kv2 after after2 : Store Key Value) → kv2.number ≡ kv.number → after2.number ≡ after.number → IsEnded kv after r
    → IsEnded kv2 after2 r
ended_along (answer.Committed n) kv kv2 after after2 number number2 h = (h.0 ∙ ap (λ k. k + 1) (sym number), number2 ∙ h.1)
ended_along (Aborted' i box a) kv kv2 after after2 number number2 h = number2 ∙ h ∙ sym number
ended_along r kv kv2 after after2 number number2 h = absurd h
