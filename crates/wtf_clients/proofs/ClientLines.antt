-- What lines of a client that has a transaction do, by what its verbs are lent and leave.
use Rattle.wtf_clients.proofs.Common.{remove_key, Fault, OutOfMemory, StoreKind, KindLaws, IsRing, Store, IsPinnedOnceMore, Key, Value, Answer, Event, Verb, Op}
use Rattle.wtf_clients.proofs.Common.{metadata_at, seen, Dev, IsSoundDev, between, fault_answer, call_refusal, step_refusal, Turn, turn, CallOf, StepOf}
use Rattle.wtf_clients.proofs.Common.{CommitOf, TxnView, line_asked, lent_by, LeavesAlone, Line, line, LineOf, no_load, AreSound, Sets, IsAlike, Clients}
use Rattle.wtf_clients.proofs.Common.{TablesView, of_client, without_hand, ◌≡◌, ℕ, List, None, Some, Result, Ok, Err, IfOk, IfSome, nat_eq, true, false, refl}
use Rattle.wtf_clients.proofs.Common.{ap, ◌∙◌, arith, NoTx, Refuses, TurnOf}
use Rattle.wtf_clients.proofs.{Lives.AreInside, Making.as_words, Making.step_goes, Making.step_ends, Making.step_gone}
use Rattle.wtf_clients.proofs.{Caused.call_grows, Lining.answered_line, Making.commit_failed, Serving.fault_serves, Serving.leaves_names, ToldServing.ends_told}
use Rattle.wtf_clients.proofs.{Caused.has_failed, Known.lent_to, Leaving.leaves_by, Leaving.none_made, Making.call_turn, Serving.ends_names, Serving.step_plain}
use Rattle.wtf_clients.proofs.{Leaving.leaves_read, ToldServing.call_failed_told, ToldServing.step_failed_told, ToldServing.leaves_told, ToldServing.stays_told}
use Rattle.wtf_clients.proofs.{Leaving.refused_lists, Lists.Writes, Serving.commit_caused, ToldServing.call_told, ToldServing.step_told, ToldServing.commit_why}
use Rattle.wtf_clients.proofs.{Lining.failed_line, Serving.read_failed, Serving.stays_names, Serving.step_caused, Serving.ended_plain, Serving.past_memory}
use Rattle.wtf_clients.proofs.{Lining.refused_line, Making.refused_same, Making.commit_stays, Serving.call_serves, Serving.read_serves, ToldServing.step_why}
use Rattle.wtf_clients.proofs.{Making.call_failed, Making.step_failed, Making.commit_turn, Making.commit_gone, Serving.goes_names, Serving.same_names}

-- a client that has none is refused
pub not_begun : {S : Type 0} {kind : StoreKind S} (laws : KindLaws kind) (dev : Dev S) → IsSoundDev kind dev → (old : TablesView) → AreSound old
    → AreInside kind dev old → (clients : Clients) → clients ≡ old.clients → (c : ℕ) (v : Verb)
    → (Refuses old (record old { clients = clients }) c NoTx (Answer.Refused NoTx)
    → TurnOf (line kind dev dev old (record old { clients = clients })) (Event.Client c v) (Answer.Refused NoTx))
    → LineOf (line kind dev dev old (record old { clients = clients })) (Event.Client c v) (Ok (Answer.Refused NoTx))
not_begun laws dev lent old sound inside clients same c v turn =
    refused_line laws dev lent old (record old { clients = clients }) (ap (λ (l : Clients). record old { clients = l }) same) sound inside
    (Event.Client c v) NoTx (turn (refused_same old clients c NoTx same))

module _ {S : Type 0} {kind : StoreKind S} (laws : KindLaws kind) (dev new : Dev S) (lent : IsSoundDev kind dev)
    (ring : IsRing dev.settings.servers dev.ring.now.points) (old : TablesView) (sound : AreSound old)
    (inside : AreInside kind dev old) (c : ℕ) (x y : TxnView) (clients : Clients) (writes : Writes c old.clients x y clients) where
  abbrev by_verb : Store Key Value → Turn S
  by_verb left = turn kind dev new old.kv left x y

  abbrev set_line : Line S
  set_line = line kind dev new old (record old { clients = clients })

  -- want of memory leaves all that is seen of the store of versions
  set_alike : without_hand y ≡ without_hand x → IsAlike old (record old { clients = clients })
  set_alike same =
      record { clients = writes.alike same; number = refl; map = refl; versions = λ q. refl; pins = λ n. refl; next_tx = refl; beside = refl }

  -- ---- a call
  module _ (o : Op (List ℕ)) where
    abbrev e : Event
    e = Event.Client c (Verb.Call o)

    call_leaves : (r : Result Answer Fault) → CallOf (by_verb old.kv) o r → LeavesAlone kind (between dev new) (lent_by dev new) old e
    call_leaves r did =
        leaves_by kind dev new old e did.leaves.down did.dev.past did.leaves.syncs
        (call_grows kind dev new (seen old.kv x.at) x.session o (line_asked kind (between dev new) (lent_by dev new) old e).goes_to did.leaves
        (λ place at. (dev, new, lent_to dev new ring, (x, writes.there, at))))
        (λ none. refused_lists dev new _ _ (call_refusal x) (as_words x y dev new r (call_refusal x) did.instead)
        (none_made old c x (Verb.Call o) writes.there none))

    pub call_line : (a : Answer) → CallOf (by_verb old.kv) o (Ok a) → LineOf set_line e (Ok a)
    call_line a did = answered_line set_line e a
        (record {
          turn = call_turn kind dev new ring old c x y writes.there clients writes.sets o a did;
          serves = call_serves laws dev new did.dev lent old sound inside clients c x y writes.there writes.sets did.inside ring o a did;
          told = λ tells. call_told laws dev new did.dev lent old sound inside tells clients c x y writes.there writes.sets o a did;
        })
        (call_leaves (Ok a) did) did.dev

    pub call_lost : (why : Fault) (r : Result Answer OutOfMemory) → IfOk r (λ a. fault_answer why ≡ Some a) → CallOf (by_verb old.kv) o (Err why)
        → LineOf set_line e r
    call_lost why r is did = failed_line set_line e why r is
        (λ a same. record {
          turn = call_failed kind dev new ring old c x y writes.there clients writes.sets o why a same did;
          serves = fault_serves laws dev new did.dev lent old sound inside clients c x y writes.there writes.sets did.inside ring o why a same did;
          told = λ tells. call_failed_told laws dev new did.dev lent old sound inside tells clients c x y writes.there writes.sets o why a same did;
        })
        (call_leaves (Err why) did) (set_alike (ap without_hand did.err_hand)) did.dev

  -- ---- a step
  abbrev stepping : Event
  stepping = Event.Client c Verb.Step

  step_leaves : (r : Result Answer Fault) → StepOf (by_verb old.kv) r → LeavesAlone kind (between dev new) (lent_by dev new) old stepping
  step_leaves r did =
      leaves_read kind dev new old stepping did.reads did.dev
      (λ none. refused_lists dev new _ _ (step_refusal x) did.refused (none_made old c x Verb.Step writes.there none))

  pub step_line : (a : Answer) → StepOf (by_verb old.kv) (Ok a) → y.ended ≡ false → LineOf set_line stepping (Ok a)
  step_line a did still = answered_line set_line stepping a
      (record {
        turn = step_goes kind dev new ring old c x y writes.there clients writes.sets a did still;
        serves = read_serves laws dev new did.dev lent old sound inside _ _ _ _ a
            (goes_names laws dev new did.dev lent old sound inside clients c x y writes.there writes.sets did.named) did.reads
            (step_plain (by_verb old.kv) a did);
        told = λ tells. step_told laws dev new did.dev lent old sound inside tells clients c x y writes.there writes.sets a did;
      })
      (step_leaves (Ok a) did) did.dev

  pub step_lost : (why : Fault) (r : Result Answer OutOfMemory) → IfOk r (λ a. fault_answer why ≡ Some a) → StepOf (by_verb old.kv) (Err why)
      → LineOf set_line stepping r
  step_lost why r is did = failed_line set_line stepping why r is
      (λ a same. record {
        turn = step_failed kind dev new ring old c x y writes.there clients writes.sets why a same did;
        serves = read_failed laws dev new did.dev lent old sound inside _ _ _ _ a
            (same_names laws dev new did.dev lent old sound inside clients c x y writes.there writes.sets did.err) did.reads
            (step_caused laws dev new did.dev lent old sound inside c x why a writes.there same did.fault)
            (has_failed _ why a same (dev, new, lent_to dev new ring, (x, writes.there, past_memory why a same did.fault)));
        told = λ tells. step_failed_told laws dev new did.dev lent old sound inside tells clients c x y writes.there writes.sets a did.err
            (step_why laws dev new did.dev lent old sound inside tells c x why a writes.there same did.fault);
      })
      (step_leaves (Err why) did) (set_alike (ap without_hand did.err)) did.dev

  -- ---- the transaction goes
  module _ (after : TablesView) (kv : Store Key Value) (taken : Sets c None clients after.clients) (next : after.next_tx ≡ old.next_tx)
      (beside : after.beside ≡ old.beside)
      (is_kv : IfSome (of_client clients c) (λ q. after.kv ≡ record kv { pins = remove_key (nat_eq q.at.base) kv.pins }))
      (unpinned : IfSome (of_client clients c) (λ q. IsPinnedOnceMore q.at.base after.kv kv)) where
    abbrev end_line : Line S
    end_line = line kind dev new old after

    -- by a step
    pub step_over : (a : Answer) → kv ≡ old.kv → x.ended ≡ false → StepOf (by_verb old.kv) (Ok a) → y.ended ≡ true → LineOf end_line stepping (Ok a)
    step_over a same going did over =
        let gone = step_gone kind dev new ring old c x y writes.there clients writes.sets after kv taken next beside is_kv unpinned a same going did over in
        answered_line end_line stepping a
        (record {
          turn = step_ends kind dev new ring old c x y writes.there clients writes.sets after kv taken next beside is_kv unpinned a same going did over;
          serves = read_serves laws dev new did.dev lent old sound inside _ _ _ _ a
              (leaves_names laws dev new did.dev lent old sound inside after c x gone) did.reads (step_plain (by_verb old.kv) a did);
          told = λ tells. leaves_told laws dev new did.dev lent old sound inside tells after c x a gone (step_plain (by_verb old.kv) a did);
        })
        (step_leaves (Ok a) did) did.dev

    -- by a commit
    pub commit_line : (a : Answer) → CommitOf (by_verb kv) (Ok a) → LineOf end_line (Event.Client c Verb.Commit) (Ok a)
    commit_line a did =
        let gone = commit_gone kind dev new ring old c x y writes.there clients writes.sets after kv taken next beside is_kv unpinned a did in
        let plain = ended_plain old.kv kv a did.ended in
        answered_line end_line (Event.Client c Verb.Commit) a
        (record {
          turn = commit_turn kind dev new ring old c x y writes.there clients writes.sets after kv taken next beside is_kv unpinned a did;
          serves = read_serves laws dev new did.dev lent old sound inside _ _ _ _ a
              (ends_names laws dev new did.dev lent old sound inside after kv c x writes.there gone did.named) did.reads plain;
          told = λ tells. ends_told laws dev new did.dev lent old sound inside tells after kv c x a writes.there gone did.named plain;
        })
        (commit_leaves (Ok a) did) did.dev
      where
        commit_leaves : (r : Result Answer Fault) → CommitOf (by_verb kv) r
            → LeavesAlone kind (between dev new) (lent_by dev new) old (Event.Client c Verb.Commit)
        commit_leaves r q =
            leaves_read kind dev new old (Event.Client c Verb.Commit) q.reads q.dev (λ none. absurd (none_made old c x Verb.Commit writes.there none))

  -- one that failed
  pub commit_lost : (kv : Store Key Value) (why : Fault) (r : Result Answer OutOfMemory) → IfOk r (λ a. fault_answer why ≡ Some a)
      → CommitOf (by_verb kv) (Err why) → LineOf (line kind dev new old (record old { kv = kv; clients = clients })) (Event.Client c Verb.Commit) r
  commit_lost kv why r is did =
      let stays = commit_stays kind dev new ring old c x y writes.there clients writes.sets kv why did in
      let after : TablesView = record old { kv = kv; clients = clients } in
      failed_line (line kind dev new old after) (Event.Client c Verb.Commit) why r is
      (λ a same. record {
        turn = commit_failed kind dev new ring old c x y writes.there clients writes.sets kv why did a same;
        serves = read_failed laws dev new did.dev lent old sound inside after _ _ _ a
            (stays_names laws dev new did.dev lent old sound inside after c stays) did.reads
            (commit_caused laws dev new did.dev lent old sound inside c x why a writes.there same did.fault)
            (has_failed _ why a same (dev, new, lent_to dev new ring, (x, writes.there, did.fault)));
        told = λ tells. stays_told laws dev new did.dev lent old sound inside tells after c no_load a stays
            (commit_why laws dev new did.dev lent old sound inside tells c x why a writes.there same did.fault);
      })
      (leaves_read kind dev new old (Event.Client c Verb.Commit) did.reads did.dev (λ none. absurd (none_made old c x Verb.Commit writes.there none)))
      (record {
        clients = writes.alike (ap without_hand did.err);
        number = did.err_store.0;
        map = ap (metadata_at kv) did.err_store.0 ∙ did.maps old.kv.number (omega arith);
        versions = did.err_store.1;
        pins = did.pins;
        next_tx = refl;
        beside = refl;
      })
      did.dev
