-- What holds of a transaction goes on holding.
use Rattle.std.proofs.Common.{◌≡◌, suc, zero, ◌<◌, ◌≤◌, ℕ, ◌+◌, length, take, List, [], ◌∷◌, ◌++◌, Some, refl, sym, ap, ◌∙◌, subst, arith, slice_get}
use Rattle.std.specs.Prelude.{Bool, Option}
use Rattle.std.proofs.Math.Seq.{take-length}
use Rattle.std.proofs.lemmas.List.{length-take-le, length_push}
use Rattle.std.proofs.lemmas.List.Elements.{All-pop}
use Rattle.wtf_base.specs.declared.kept.Kept.{Kept}
use Rattle.wtf_base.specs.declared.slice.Slice.{Slice}
use Rattle.wtf_base.specs.Slices.{len_of}
use Rattle.wtf_overlay.specs.Origin.{Place, part_origin}
use Rattle.wtf_overlay.specs.declared.part.Part.TheVariants.{Held}
use Rattle.wtf_overlay.specs.declared.part.Piece.{Piece}
use Rattle.wtf_kv.specs.Stores.{Store}
use Rattle.wtf_occ.specs.Attempts.{Attempted, GrowsBy}
use Rattle.wtf_model.specs.declared.answer.Answer.{Answer}
use Rattle.wtf_model.specs.declared.op.Op.{Op}
use Rattle.wtf_values.specs.declared.key.Key.{Key}
use Rattle.wtf_values.specs.declared.value.Value.{Value}
use Rattle.wtf_values.specs.declared.value.Delta.{Delta}
use Rattle.wtf_log.specs.Calls.{with_call, own_of}
use Rattle.wtf_log.specs.Standing.{OpStandsFor, OpsStandFor}
use Rattle.wtf_log.proofs.StandingLaws.{OpsStandFor-length, OpsStandFor-push, OpsStandFor-weaker}
use Rattle.wtf_meta.specs.Maps.{Map, with, metadata_at, seen}
use Rattle.wtf_meta.specs.Lists.{ListFact}
use Rattle.wtf_meta.specs.Contents.{Told, is_told, lists_in}
use Rattle.wtf_meta.proofs.Named.{PiecesBytes-append}
use Rattle.wtf_meta.proofs.ListFacts.{TellLists-append}
use Rattle.wtf_meta.proofs.Weaker.{pieces_stay}
use Rattle.wtf_meta.specs.Sessions.{SessionView}
use Rattle.wtf_meta.specs.Calls.{Fact, Did, TellFacts, IsCall, IsRun}
use Rattle.wtf_meta.proofs.Facts.{TellFacts-append}
use Rattle.wtf_meta.proofs.Running.{run_on}
use Rattle.wtf_meta.proofs.Telling.{TellsOn, TellBytes-later, is_told-later, TellLists-later}
use Rattle.wtf_overlay.specs.Origin.{pieces_len, pieces_origin}
use Rattle.wtf_rw.specs.Stored.{SliceBytes}
use Rattle.wtf_replay.specs.Views.{TxnView, hand_of}
use Rattle.wtf_replay.specs.Fits.{IsLog}
use Rattle.wtf_replay.specs.Insides.{LogBytes}
use Rattle.wtf_replay.specs.Sounds.{tells_slice, caller_at, did_by, first_of, LogStands, IsToldStep}
use Rattle.wtf_replay.proofs.Insiding.{log_at}

-- one element more
pub take_one : {A : Type 0} (xs : List A) (k : ℕ) (x : A) → slice_get xs k ≡ Some x → take (suc k) xs ≡ take k xs ++ x ∷ []
take_one [] k x is = absurd (cc)
take_one (y ∷ xs) zero x is = let same : y ≡ x = cc in ap (λ z. z ∷ []) same
take_one (y ∷ xs) (suc k) x is = ap (λ l. y ∷ l) (take_one xs k x is)

-- there is an element
pub element : {A : Type 0} (xs : List A) (k : ℕ) → k < length xs → (x : A) × (slice_get xs k ≡ Some x)
element [] k lt = absurd (omega arith)
element (x ∷ xs) zero lt = (x, refl)
element (x ∷ xs) (suc k) lt = element xs k (omega arith)

-- what was told stays told
facts_later : (told later : Told) (es : List Fact) → TellsOn told later → TellFacts told es → TellFacts later es
facts_later told later [] on h = tt
facts_later told later (e ∷ es) on h = (
  TellBytes-later told later (pieces_len e.pieces) (pieces_origin e.pieces) e.bytes on h.0,
  facts_later told later es on h.1,
)

-- a transaction over stores that tell more
pub sound_later : (size : ℕ) (kv : Store Key Value) (told later : Told) (x : TxnView) (ops : List (Op (List ℕ))) → TellsOn told later
    → LogStands size kv told x ops → LogStands size kv later x ops
sound_later size kv told later x ops on sound = record {
  facts = sound.facts;
  stored = sound.stored;
  lists = sound.lists;
  ops_are = OpsStandFor-weaker (tells_slice told) (tells_slice later) x.log.ops ops
      (λ k s bytes own. TellBytes-later told later (len_of s) (part_origin (Held s)) bytes on) sound.ops_are;
  told_are = facts_later told later sound.facts on sound.told_are;
  stored_are = pieces_stay (is_told told) (is_told later) (λ places h. is_told-later told later places on h) sound.stored sound.stored_are;
  kept = sound.kept;
  lists_are = TellLists-later told later size sound.lists on sound.lists_are;
  run = sound.run;
}

-- a transaction over a store that shows the same at its base
pub sound_along : (size : ℕ) (kv after : Store Key Value) (told : Told) (x : TxnView) (ops : List (Op (List ℕ)))
    → metadata_at after x.at.base ≡ metadata_at kv x.at.base → LogStands size kv told x ops → LogStands size after told x ops
sound_along size kv after told x ops same sound = record {
  facts = sound.facts;
  stored = sound.stored;
  lists = sound.lists;
  ops_are = sound.ops_are;
  told_are = sound.told_are;
  stored_are = sound.stored_are;
  kept = sound.kept;
  lists_are = sound.lists_are;
  run = subst (λ w. IsRun (caller_at size x.tx 0) w x.session (did_by x.at sound.facts sound.stored sound.lists) (first_of x ops x.replayed))
      (sym same) sound.run;
}

-- a run goes on by a call
run_goes_on : (size tx : ℕ) (b : Map) (s t : SessionView) (old new : Attempted Key Delta) (facts : List Fact) (stored : List Piece) (lists : List ListFact)
    (more : Did) (ops : List (Op (List ℕ))) (shown : List Answer) (o : Op (List ℕ)) (a : Answer)
    → IsRun (caller_at size tx 0) b s (did_by old facts stored lists) (ops, shown) → GrowsBy old new more.keys more.edits
    → IsCall (caller_at size tx (length ops)) (with old.changes b) s t more o a
    → IsRun (caller_at size tx 0) b t (did_by new (facts ++ more.facts) (stored ++ more.stored) (lists ++ more.lists)) (ops ++ o ∷ [], shown ++ a ∷ [])
run_goes_on size tx b s t old new facts stored lists more ops shown o a run grows one =
    subst (λ ks. IsRun (caller_at size tx 0) b t (record {
      keys =
          ks;
      edits = new.changes;
      facts = facts ++ more.facts;
      stored = stored ++ more.stored;
      lists = lists ++ more.lists;
    }) (ops ++ o ∷ [], shown ++ a ∷ []))
    (sym grows.reads)
    (subst (λ es. IsRun (caller_at size tx 0) b t
    (record { keys = old.reads ++ more.keys; edits = es; facts = facts ++ more.facts; stored = stored ++ more.stored; lists = lists ++ more.lists })
    (ops ++ o ∷ [], shown ++ a ∷ [])) (sym grows.changes)
    (run_on (caller_at size tx 0) b s t (did_by old facts stored lists) more ops shown o a run one))

module _ (size : ℕ) (kv : Store Key Value) (told : Told) where
  -- one more call is done
  pub sound_on : (old new : TxnView) (ops ops2 : List (Op (List ℕ))) (own : Option Slice) (o : Op (List ℕ)) (a : Answer) → LogStands size kv told old ops
      → IsToldStep told own (caller_at size old.tx old.replayed) (seen kv old.at) (hand_of old) (hand_of new) o a
      → ((P : List Place → Bool) → LogBytes P new.log → LogBytes P old.log × SliceBytes P own)
      → new.tx ≡ old.tx → length (take old.replayed ops) ≡ old.replayed → OpsStandFor (tells_slice told) new.log.ops ops2
      → take new.replayed ops2 ≡ take old.replayed ops ++ o ∷ [] → take new.replayed new.log.shown ≡ take old.replayed old.log.shown ++ a ∷ []
      → LogStands size kv told new ops2
  sound_on old new ops ops2 own o a sound step log tx count stand done shown =
      let did : Did = step.step.did in
      let base : new.at.base ≡ old.at.base = step.step.grows.base in
      let b : Map = metadata_at kv old.at.base in
      let whole : Did = did_by new.at (sound.facts ++ did.facts) (sound.stored ++ did.stored) (sound.lists ++ did.lists) in
      let is_call : IsCall (caller_at size old.tx (length (take old.replayed ops))) (seen kv old.at) old.session new.session did o a =
      subst (λ n. IsCall (caller_at size old.tx n) (seen kv old.at) old.session new.session did o a) (sym count) step.step.is_call in
      let run = run_goes_on size old.tx b old.session new.session old.at new.at sound.facts sound.stored sound.lists did (take old.replayed ops)
      (take old.replayed old.log.shown) o a sound.run step.step.grows is_call in
      record {
        facts = sound.facts ++ did.facts;
        stored = sound.stored ++ did.stored;
        lists = sound.lists ++ did.lists;
        ops_are = stand;
        told_are = TellFacts-append told sound.facts did.facts sound.told_are step.told_are;
        stored_are = PiecesBytes-append (is_told told) sound.stored did.stored sound.stored_are step.stored_are;
        kept = λ P has. PiecesBytes-append P sound.stored did.stored (sound.kept P (log P has).0) (step.kept P (log P has).1);
        lists_are = TellLists-append (lists_in size told) sound.lists did.lists sound.lists_are step.lists_are;
        run = subst (λ c. IsRun (caller_at size c 0) (metadata_at kv new.at.base) new.session whole (first_of new ops2 new.replayed)) (sym tx)
            (subst (λ n. IsRun (caller_at size old.tx 0) (metadata_at kv n) new.session whole (first_of new ops2 new.replayed)) (sym base)
            (subst (λ l. IsRun (caller_at size old.tx 0) b new.session whole (l, take new.replayed new.log.shown)) (sym done)
            (subst (λ l. IsRun (caller_at size old.tx 0) b new.session whole (take old.replayed ops ++ o ∷ [], l)) (sym shown) run)));
      }

  -- a call is logged
  pub sound_called : (old new : TxnView) (ops : List (Op (List ℕ))) (o : Op (List ℕ)) (a : Answer) (kept : Op Kept) → LogStands size kv told old ops
      → IsLog old.log → old.replayed ≡ length old.log.ops
      → IsToldStep told (own_of kept) (caller_at size old.tx old.replayed) (seen kv old.at) (hand_of old) (hand_of new) o a
      → new.tx ≡ old.tx → new.log ≡ with_call old.log kept a → new.replayed ≡ old.replayed + 1 → OpStandsFor (tells_slice told) kept o
      → LogStands size kv told new (ops ++ o ∷ [])
  sound_called old new ops o a kept sound log live step tx logged replayed stand =
      let same : length old.log.ops ≡ length ops = OpsStandFor-length (tells_slice told) old.log.ops ops sound.ops_are in
      let count : old.replayed ≡ length ops = live ∙ same in
      let shown : old.replayed ≡ length old.log.shown = live ∙ sym log.answers in
      let longer : length (ops ++ o ∷ []) ≡ new.replayed = length_push ops o ∙ ap (λ n. n + 1) (sym count) ∙ sym replayed in
      let longer2 : length (old.log.shown ++ a ∷ []) ≡ new.replayed = length_push old.log.shown a ∙ ap (λ n. n + 1) (sym shown) ∙ sym replayed in
      let done : take old.replayed ops ≡ ops = ap (λ n. take n ops) count ∙ take-length ops in
      let told_so : take old.replayed old.log.shown ≡ old.log.shown = ap (λ n. take n old.log.shown) shown ∙ take-length old.log.shown in
      sound_on old new ops (ops ++ o ∷ []) (own_of kept) o a sound step
      (λ P has. All-pop (λ (q : Op Kept). SliceBytes P (own_of q)) (old.log.ops ++ kept ∷ []) old.log.ops (Some kept) refl (subst (LogBytes P) logged has)) tx
      (ap length done ∙ sym count)
      (subst (λ l. OpsStandFor (tells_slice told) l (ops ++ o ∷ [])) (sym (ap (λ l. l.ops) logged))
      (OpsStandFor-push (tells_slice told) old.log.ops ops kept o sound.ops_are stand))
      (ap (λ n. take n (ops ++ o ∷ [])) (sym longer) ∙ take-length (ops ++ o ∷ []) ∙ ap (λ l. l ++ o ∷ []) (sym done))
      (ap (λ l. take new.replayed l.shown) logged ∙ ap (λ n. take n (old.log.shown ++ a ∷ [])) (sym longer2) ∙ take-length (old.log.shown ++ a ∷ [])
      ∙ ap (λ l. l ++ a ∷ []) (sym told_so))

  -- a call was made once more, and answered what was shown
  pub sound_replayed : (old new : TxnView) (ops : List (Op (List ℕ))) (o : Op (List ℕ)) (a : Answer) (kept : Op Kept) → LogStands size kv told old ops
      → old.replayed ≤ length old.log.ops
      → IsToldStep told (own_of kept) (caller_at size old.tx old.replayed) (seen kv old.at) (hand_of old) (hand_of new) o a
      → slice_get old.log.ops old.replayed ≡ Some kept → slice_get ops old.replayed ≡ Some o → slice_get old.log.shown old.replayed ≡ Some a
      → new.tx ≡ old.tx → new.log ≡ old.log → new.replayed ≡ old.replayed + 1
      → LogStands size kv told new ops
  sound_replayed old new ops o a kept sound most step at_kept at_op at_shown tx log replayed =
      let same : length old.log.ops ≡ length ops = OpsStandFor-length (tells_slice told) old.log.ops ops sound.ops_are in
      let le : old.replayed ≤ length ops = omega (arith, most, same) in
      let up : new.replayed ≡ suc old.replayed = omega (arith, replayed) in sound_on old new ops ops (own_of kept) o a sound step
      (λ P has. let was : LogBytes P old.log = subst (LogBytes P) log has in (was, log_at P old.log old.replayed kept at_kept was)) tx
      (length-take-le old.replayed ops le)
      (subst (λ l. OpsStandFor (tells_slice told) l.ops ops) (sym log) sound.ops_are)
      (ap (λ n. take n ops) up ∙ take_one ops old.replayed o at_op)
      (ap (λ l. take new.replayed l.shown) log ∙ ap (λ n. take n old.log.shown) up ∙ take_one old.log.shown old.replayed a at_shown)
