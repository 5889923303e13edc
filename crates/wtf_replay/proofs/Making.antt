-- The steps of calls on handles and bytes, over stores that tell what they name.
use Rattle.std.proofs.Common.{◌≡◌, ℕ, ◌+◌, Bool, List, [], ◌∷◌, ◌++◌, length, Option, None, Some, Ok, refl, sym, ap, ◌∙◌, subst}
use Rattle.std.specs.Prelude.{Result, Err}
use Rattle.std.specs.List.{All}
use Rattle.std.proofs.lemmas.List.{append-nil}
use Rattle.std.proofs.lemmas.List.Elements.{All-nil}
use Rattle.wtf_base.specs.declared.slice.Slice.{Slice}
use Rattle.wtf_dev.specs.Store.{Range}
use Rattle.wtf_overlay.specs.Origin.{Place}
use Rattle.wtf_kv.specs.Stores.{Store}
use Rattle.wtf_kv.proofs.EditLaws.{Agree-itself, Fits-append}
use Rattle.wtf_occ.specs.Attempts.{Grows}
use Rattle.wtf_model.specs.declared.answer.Answer.{Answer}
use Rattle.wtf_model.specs.declared.answer.Answer.TheVariants as answer
use Rattle.wtf_model.specs.declared.answer.Word.{Word}
use Rattle.wtf_model.specs.declared.op.Op.{Op}
use Rattle.wtf_model.specs.declared.op.Op.TheVariants as op
use Rattle.wtf_model.specs.Session.{Session, Handle}
use Rattle.wtf_model.specs.Tree.{◌>>=◌}
use Rattle.wtf_model.specs.Done.{Done, done, handle_at, fits, moved, set_bytes, bytes_of_handle}
use Rattle.wtf_model.specs.ByteCalls.{write, append, written}
use Rattle.wtf_model.specs.Call.{call, or_refused}
use Rattle.wtf_values.specs.declared.key.Key.{Key}
use Rattle.wtf_values.specs.declared.value.Value.{Value}
use Rattle.wtf_values.specs.Keys.{key_cmp}
use Rattle.wtf_values.specs.Outcomes.{outcome_of}
use Rattle.wtf_meta.specs.Bytes.{EntryBytes}
use Rattle.wtf_meta.specs.Contents.{Told}
use Rattle.wtf_meta.specs.Lists.{ListFact}
use Rattle.wtf_meta.specs.declared.session.Handle as meta
use Rattle.wtf_meta.specs.Appends.{append_keys as file_append_keys}
use Rattle.wtf_meta.specs.FileEdits.{file_of}
use Rattle.wtf_meta.specs.Maps.{Map, AllFit, metadata_at, seen}
use Rattle.wtf_meta.specs.Sessions.{SessionView, handle_in}
use Rattle.wtf_meta.specs.Calls.{Caller, Did, InHand, TellFacts, IsCall, IsStep, IsDone, cap_for}
use Rattle.wtf_meta.proofs.FeetFiles.{looks_feet}
use Rattle.wtf_meta.proofs.Named.{PiecesBytes-none}
use Rattle.wtf_meta.proofs.Moves.{done-same}
use Rattle.wtf_rw.specs.declared.op.Given.TheVariants.{Fresh, Stored}
use Rattle.wtf_rw.specs.declared.op.RwOp.{RwOp}
use Rattle.wtf_rw.specs.declared.op.RwOp.TheVariants as rw
use Rattle.wtf_steps.specs.Steps.{IsStepWith, IsRefusal}
use Rattle.wtf_rw.specs.Stored.{SliceBytes, TellSlice, Answers}
use Rattle.wtf_steps.specs.Recorded.{append_keys}
use Rattle.wtf_steps.specs.Scenes.{Scene}
use Rattle.wtf_steps.proofs.Ways.{only_keys, KeysRead, file_keys}
use Rattle.wtf_rw.specs.Ops.{DoesRw, op_of, RwBytes, rw_keys, size_of}
use Rattle.wtf_rw.proofs.InsideWays.{does_named}
use Rattle.wtf_region.specs.Devs.{inside_of, told_in}
use Rattle.wtf_replay.specs.Built.{call_data}
use Rattle.wtf_replay.specs.Sounds.{TellsMap, IsToldStep, IsDue, tells_slice}
use Rattle.wtf_replay.specs.Works.{Work, IsWork, saw, scene_of, told_now}
use Rattle.wtf_replay.proofs.ReadLists.{rw_read, read_told}
use Rattle.wtf_replay.proofs.RwLaws.{tell_some, RwTell, Lacks}
use Rattle.wtf_replay.proofs.SliceLaws.{no_facts}

-- what a call read or stored is told afterwards
facts_told : {S : Type 0} (sc : Scene S) (r : RwOp) (own : Option Slice) (bytes : List ℕ) (did : Did) → DoesRw sc r own bytes did → (ranges : List (ℕ × Range))
    → TellsMap sc.kind sc.before ranges sc.map
    → RwTell (tells_slice (told_in sc.kind sc.after)) r bytes → TellFacts (told_in sc.kind sc.after) did.facts
facts_told sc (rw.Read f n) own bytes did does ranges tells tell =
    does.0.told tells.map (read_told sc did.lists (rw_read sc (rw.Read f n) own bytes did does) ranges tells)
facts_told sc (rw.Write f (Fresh bs)) own bytes did does ranges tells tell = does.told tells.all
facts_told sc (rw.Append f (Fresh bs)) own bytes did does ranges tells tell = does.told tells.all
facts_told sc (rw.Write f (Stored kept)) own bytes did does ranges tells tell =
    does.0.told (told_in sc.kind sc.after) (tell_some (told_in sc.kind sc.after) kept.slice bytes tell)
facts_told sc (rw.Append f (Stored kept)) own bytes did does ranges tells tell =
    does.0.told (told_in sc.kind sc.after) (tell_some (told_in sc.kind sc.after) kept.slice bytes tell)
facts_told sc r own bytes did does ranges tells tell = no_facts (told_in sc.kind sc.after) did.facts does.0.facts

-- what a call did on handles and bytes: P holds of what it brings where it holds of the slice that it stored or was given
pub rw_work : {S : Type 0} (w : Work S) (r : RwOp) (stored : Option Slice) (bytes : List ℕ) (x : Caller) (o : Op (List ℕ)) (a : Answer) (own : Option Slice)
    → ((P : List Place → Bool) → SliceBytes P own → RwBytes P r) → ((P : List Place → Bool) → SliceBytes P own → SliceBytes P stored)
    → IsStepWith (DoesRw (scene_of w) r stored bytes) x (saw w) w.old w.new (op_of r bytes) a → op_of r bytes ≡ o
    → (TellSlice (told_now w) own (call_data o) → RwTell (tells_slice (told_now w)) r bytes) → IsWork w x own o a
rw_work w r stored bytes x o a own given brought one is tell =
    let read = rw_read (scene_of w) r stored bytes one.did one.more in
    record {
      step = record { did = one.did; grows = one.grows; is_call = subst (λ q. IsCall x (saw w) w.old.session w.new.session one.did q a) is one.is_call };
      kept = λ P whole. does_named P (scene_of w) r stored bytes one.did one.more (given P whole) (brought P whole);
      inside = read.inside;
      lists = read.told;
      facts = λ ranges tells own_told. facts_told (scene_of w) r stored bytes one.did one.more ranges tells.seen (tell own_told);
    }

-- it answers what is due
pub due_step : (told : Told) (own : Option Slice) (x : Caller) (b : Map) (old new : InHand) (o : Op (List ℕ)) (a : Answer) → IsToldStep told own x b old new o a
    → IsDue told x b old.session o a
due_step told own x b old new o a one = λ S st holds.
    let done = one.step.is_call.acts told b S (Agree-itself one.step.did.keys b) one.step.is_call.fits one.told_are one.lists_are st holds in
    sym done.answer

pub due_alone : (told : Told) (x : Caller) (b : Map) (s : SessionView) (keys : List Key) (o : Op (List ℕ)) (a : Answer)
    → Answers x b s keys o a → IsDue told x b s o a
due_alone told x b s keys o a one = λ S st holds. one.due told b S (Agree-itself keys b) one.fits st holds

-- after a step the changes fit at the base
pub fits_step : (kv : Store Key Value) (x : Caller) (old new : InHand) (o : Op (List ℕ)) (a : Answer)
    → AllFit old.at.changes (metadata_at kv old.at.base) → IsStep x (seen kv old.at) old new o a
    → AllFit new.at.changes (metadata_at kv new.at.base)
fits_step kv x old new o a fit step =
    subst (λ n. AllFit new.at.changes (metadata_at kv n)) (sym step.grows.base)
    (subst (λ cs. AllFit cs (metadata_at kv old.at.base)) (sym step.grows.changes)
    (Fits-append key_cmp outcome_of old.at.changes step.did.edits (metadata_at kv old.at.base) fit step.is_call.fits))

-- a call that writes, where it is refused, leaves the session of the definitions
after_fits : (S T : Session) (q : Result (Unit {0}) Word) → IsRefusal (or_refused S (q >>= (λ _. done T answer.Okay))).answer
    → (or_refused S (q >>= (λ _. done T answer.Okay))).session ≡ S
after_fits S T (Ok u) h = absurd h
after_fits S T (Err w) h = refl

after_handle : (S : Session) (r : Result Handle Word) (g : Handle → Session) (c : Handle → Result (Unit {0}) Word)
    → IsRefusal (or_refused S (r >>= (λ h. c h >>= (λ _. done (g h) answer.Okay)))).answer
    → (or_refused S (r >>= (λ h. c h >>= (λ _. done (g h) answer.Okay)))).session ≡ S
after_handle S (Ok h) g c refused = after_fits S (g h) (c h) refused
after_handle S (Err w) g c refused = refl

write_refused : (cap : ℕ) (S : Session) (f : ℕ) (bytes : List ℕ) → IsRefusal (call cap S (op.Write f bytes)).answer
    → (call cap S (op.Write f bytes)).session ≡ S
unfolding write
write_refused cap S f [] h = after_handle S (handle_at S f) (λ g. S) (λ g. Ok tt) h
write_refused cap S f (b ∷ bs) h =
    after_handle S (handle_at S f) (λ g. moved (set_bytes S g.path (written (bytes_of_handle S g) g.off (b ∷ bs))) f g (g.off + length (b ∷ bs)))
    (λ g. fits cap (g.off + length (b ∷ bs))) h

append_refused : (cap : ℕ) (S : Session) (f : ℕ) (bytes : List ℕ) → IsRefusal (call cap S (op.Append f bytes)).answer
    → (call cap S (op.Append f bytes)).session ≡ S
unfolding append
append_refused cap S f bytes h =
    after_handle S (handle_at S f) (λ g. set_bytes S g.path (bytes_of_handle S g ++ bytes))
    (λ g. fits cap (length (bytes_of_handle S g) + length bytes)) h

refused_stays : (cap : ℕ) (S : Session) (r : RwOp) (bytes : List ℕ) → Lacks r → IsRefusal (call cap S (op_of r bytes)).answer
    → (call cap S (op_of r bytes)).session ≡ S
refused_stays cap S (rw.Write f d) bytes lacks h = write_refused cap S f bytes h
refused_stays cap S (rw.Append f d) bytes lacks h = append_refused cap S f bytes h
refused_stays cap S r bytes lacks h = absurd lacks

as_done : (d : Done) (S : Session) (a : Answer) → d.session ≡ S → d.answer ≡ a → d ≡ record { session = S; answer = a }
as_done d S a session is = ap (λ T. record { session = T; answer = d.answer }) session ∙ ap (λ b. record { session = S; answer = b }) is

module _ (x : Caller) (b : Map) (s : SessionView) (size : ℕ) where
  bare_keys : (f n : ℕ) (bytes : List ℕ) (h : Option meta.Handle) → handle_in s f ≡ h → KeysRead x b s (append_keys size b h n) (op.Append f bytes)
  bare_keys f n bytes None is = λ told w S agree st holds. tt
  bare_keys f n bytes (Some h) is = file_keys x b s f h is (file_append_keys size (file_of h.inode b) n) (op.Append f bytes) (λ S. refl)

  -- a call whose bytes were not kept recorded keys of the file that it reads
  lacks_read : (r : RwOp) (bytes : List ℕ) → Lacks r → KeysRead x b s (rw_keys size b s r) (op_of r bytes)
  lacks_read (rw.Write f d) bytes lacks = λ told w S agree st holds. tt
  lacks_read (rw.Append f d) bytes lacks = bare_keys f (size_of d) bytes (handle_in s f) refl
  lacks_read r bytes lacks = absurd lacks

-- a refused call whose bytes were not kept
refused_call : (x : Caller) (b : Map) (s : SessionView) (size : ℕ) (r : RwOp) (bytes : List ℕ) (a : Answer) → Lacks r → IsRefusal a
    → Answers x b s (rw_keys size b s r) (op_of r bytes) a → IsCall x b s s (only_keys (rw_keys size b s r)) (op_of r bytes) a
refused_call x b s size r bytes a lacks refused one = record {
  fits = refl;
  names = λ P Q hole map old stored lists. record { edits = tt; facts = tt; slices = old; lists = tt };
  acts = λ told w S agree fit facts lists st holds.
      let due = one.due told w S agree (subst (λ es. AllFit es w) (sym (one.refused refused)) fit) st holds in
      let d : Done = call (cap_for x) S (op_of r bytes) in
      let stays : d.session ≡ S = refused_stays (cap_for x) S r bytes lacks (subst IsRefusal (sym due) refused) in
      subst (λ (e : Done). IsDone x told w w s e a) (sym (as_done d S a stays due)) (done-same x told w s S st holds a);
  feet = looks_feet x b s (only_keys (rw_keys size b s r)) (op_of r bytes) refl (lacks_read x b s size r bytes lacks);
}

pub refused_work : {S : Type 0} (w : Work S) (own : Option Slice) (x : Caller) (size : ℕ) (r : RwOp) (bytes : List ℕ) (o : Op (List ℕ)) (a : Answer)
    → Lacks r → IsRefusal a → Answers x (saw w) w.old.session (rw_keys size (saw w) w.old.session r) (op_of r bytes) a → op_of r bytes ≡ o
    → Grows w.old.at w.new.at → w.new.at.reads ≡ w.old.at.reads ++ rw_keys size (saw w) w.old.session r → w.new.at.changes ≡ w.old.at.changes
    → w.new.session ≡ w.old.session → IsWork w x own o a
refused_work w own x size r bytes o a lacks refused one is grows reads changes same =
    let did : Did = only_keys (rw_keys size (saw w) w.old.session r) in
    record {
      step = record {
        did = did;
        grows = record { base = grows.base; reads = reads; changes = changes ∙ sym (append-nil w.old.at.changes) };
        is_call = subst (λ u. IsCall x (saw w) w.old.session u did o a) (sym same)
            (subst (λ q. IsCall x (saw w) w.old.session w.old.session did q a) is (refused_call x (saw w) w.old.session size r bytes a lacks refused one));
      };
      kept = λ P has. PiecesBytes-none P;
      inside = All-nil (λ (f : ListFact). All (EntryBytes (inside_of w.kind w.after)) f.list);
      lists = λ ranges cache known. tt;
      facts = λ ranges tells tell. tt;
    }
