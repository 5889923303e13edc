-- What follows of what a call did: its step over stores that tell what was named, what it names, and that its changes fit.
use Rattle.std.proofs.Common.{◌≡◌, ◌≤◌, ℕ, List, [], length, replicate, Option, None, Some, slice_get, refl, sym, ap, ◌∙◌, subst, inl, inr}
use Rattle.std.specs.Prelude.{IfSome, ⊤}
use Rattle.std.proofs.lemmas.List.{length-replicate}
use Rattle.wtf_base.specs.declared.kept.Kept.{Kept}
use Rattle.wtf_base.specs.declared.settings.Settings.{Settings}
use Rattle.wtf_base.specs.declared.slice.Slice.{Slice}
use Rattle.wtf_base.specs.Slices.{len_of}
use Rattle.wtf_dev.specs.Store.{Range, StoreKind, KindLaws}
use Rattle.wtf_kv.specs.Stores.{Store}
use Rattle.wtf_overlay.specs.Origin.{part_origin}
use Rattle.wtf_overlay.specs.declared.part.Part.TheVariants.{Held}
use Rattle.wtf_model.specs.declared.answer.Answer.{Answer}
use Rattle.wtf_model.specs.declared.op.Op.{Op}
use Rattle.wtf_model.specs.declared.op.Op.TheVariants as op
use Rattle.wtf_values.specs.declared.key.Key.{Key}
use Rattle.wtf_values.specs.declared.value.Value.{Value}
use Rattle.wtf_log.specs.Calls.{Calls, own_of}
use Rattle.wtf_log.specs.Standing.{IsGiven, OpStandsFor}
use Rattle.wtf_log.proofs.StandingLaws.{OpStandsFor-weaker}
use Rattle.wtf_meta.specs.Bytes.{any_slice}
use Rattle.wtf_meta.specs.Contents.{Told, is_told, lists_in}
use Rattle.wtf_meta.specs.Lists.{TellLists}
use Rattle.wtf_meta.specs.Maps.{AllFit, metadata_at}
use Rattle.wtf_meta.specs.Calls.{Caller, InHand}
use Rattle.wtf_meta.specs.Sessions.{SessionView}
use Rattle.wtf_meta.proofs.Telling.{TellBytes-later}
use Rattle.wtf_region.specs.declared.dev.Dev.{Dev}
use Rattle.wtf_region.specs.Devs.{GoesOn, stores}
use Rattle.wtf_region.specs.Inside.{is_inside}
use Rattle.wtf_rw.specs.Stored.{SliceBytes, TellSlice}
use Rattle.wtf_slicing.specs.Sights.{sight}
use Rattle.wtf_replay.specs.Views.{TxnView}
use Rattle.wtf_replay.specs.Built.{call_data, with_data}
use Rattle.wtf_replay.specs.Fits.{IsLog}
use Rattle.wtf_replay.specs.Insides.{IsHandInside, IsLogInside, NamesHand, NamesAgain}
use Rattle.wtf_replay.specs.Sounds.{TellsHand, IsToldStep, IsDue, tells_slice, caller_at}
use Rattle.wtf_replay.specs.Effects.{Acts, CallHolds, CallReads, kept_len, scope, MakesAgain, Redoes}
use Rattle.wtf_replay.specs.Works.{Work, IsCaller, IsWork, IsNext, inode_at, saw, work_region_size, told_then, told_now}
use Rattle.wtf_replay.proofs.Insiding.{hand_later, log_later, named_step, named_same, log_at}
use Rattle.wtf_replay.proofs.Later.{tells_on}
use Rattle.wtf_replay.proofs.Making.{fits_step}
use Rattle.wtf_replay.proofs.Naming.{named_none, named_by, named_inside, hand_known}
use Rattle.wtf_replay.proofs.RwLaws.{told_slice, tell_some}

module _ {S : Type 0} (w : Work S) (x : Caller) (own : Option Slice) (o : Op (List ℕ)) (a : Answer) (does : IsWork w x own o a) where
  -- over stores that tell what was named, and its slice
  pub told_of : x.size ≡ w.after.settings.region → (ranges : List (ℕ × Range)) → TellsHand w.kind w.before ranges (saw w) w.old.session
      → TellSlice (told_now w) own (call_data o) → IsToldStep (told_now w) own x (saw w) w.old w.new o a
  told_of size ranges tells tell = record {
    step = does.step;
    told_are = does.facts ranges tells tell;
    stored_are = does.kept (is_told (told_now w)) (told_slice (told_now w) own (call_data o) tell);
    kept = does.kept;
    lists_are = subst (λ (z : ℕ). TellLists (lists_in z (told_now w)) does.step.did.lists) (sym size)
        (does.lists ranges tells.seen.cache (tells.seen.map, tells.seen.away));
  }

  pub named_of : NamesHand w.kind w.before w.after w.kv w.old w.new own
  named_of = record {
    lists = does.step.did.lists;
    inside = does.inside;
    told = λ ranges cache known. does.lists ranges cache (hand_known w.kind w.before ranges w.kv w.old known);
    names = λ P Q hole were lists has. named_step P Q hole w.kv x w.old w.new o a were does.step (does.kept P has) lists;
  }

  pub fit_of : AllFit w.old.at.changes (metadata_at w.kv w.old.at.base) → AllFit w.new.at.changes (metadata_at w.kv w.new.at.base)
  fit_of fit = fits_step w.kv x w.old w.new o a fit does.step

-- what is named by a call, and lay inside the stores, lies inside them
pub inside_by : {S : Type 0} {kind : StoreKind S} → KindLaws kind → {old new : Dev S} → GoesOn kind old new [] → old.settings.servers ≤ length (stores old)
    → (kv : Store Key Value) (was is : InHand) (own : Option Slice) → NamesHand kind old new kv was is own → IsHandInside kind (stores old) old.settings kv was
    → SliceBytes (is_inside kind (stores new) old.settings) own → IsHandInside kind (stores new) old.settings kv is
inside_by {kind = kind} laws {old = old} {new = new} goes enough kv was is own named inside has =
    named.names (is_inside kind (stores new) old.settings) any_slice refl (hand_later laws goes.each old.settings enough kv was inside)
    (named_inside kind old new goes named.lists named.inside) has

-- and by calls of a log
pub again_inside : {S : Type 0} {kind : StoreKind S} → KindLaws kind → {old new : Dev S} → GoesOn kind old new [] → old.settings.servers ≤ length (stores old)
    → (kv : Store Key Value) (was is : InHand) (log : Calls) → NamesAgain kind old new kv was is log → IsHandInside kind (stores old) old.settings kv was
    → IsLogInside kind (stores old) old.settings log → IsHandInside kind (stores new) old.settings kv is
again_inside {kind = kind} laws {old = old} {new = new} goes enough kv was is log named inside logged =
    named.names (is_inside kind (stores new) old.settings) any_slice refl
    (hand_later laws goes.each old.settings enough kv was inside, log_later laws goes.each old.settings enough log logged)
    (named_inside kind old new goes named.lists named.inside)

-- a logged call stands for some call
any_slice_stands : (o : Option Slice) → IfSome o (λ s. ⊤)
any_slice_stands None = tt
any_slice_stands (Some s) = tt

some_given : (kept : Kept) (call : List ℕ → Op (List ℕ)) → IsGiven (λ s bytes. ⊤) kept call (call (replicate kept.len 0))
some_given kept call = record {
  bytes = replicate kept.len 0;
  is = refl;
  stands = record { len = sym (length-replicate kept.len 0); slice = any_slice_stands kept.slice };
}

pub some_call : (k : Op Kept) → (o : Op (List ℕ)) × OpStandsFor (λ s bytes. ⊤) k o
some_call (op.Write f kept) = (op.Write f (replicate kept.len 0), some_given kept (op.Write f))
some_call (op.Append f kept) = (op.Append f (replicate kept.len 0), some_given kept (op.Append f))
some_call k = (with_data [] k, refl)

-- the stores tell the bytes of the slice of one that stands for a call
tell_given : (told : Told) (kept : Kept) (call : List ℕ → Op (List ℕ)) (o : Op (List ℕ)) (g : IsGiven (tells_slice told) kept call o)
    → ((bytes : List ℕ) → call_data (call bytes) ≡ bytes) → TellSlice told kept.slice (call_data o)
tell_given told kept call o g same =
    subst (TellSlice told kept.slice) (sym (ap call_data g.is ∙ same g.bytes)) (tell_some told kept.slice g.bytes g.stands.slice)

pub tell_of : (told : Told) (k : Op Kept) (o : Op (List ℕ)) → OpStandsFor (tells_slice told) k o → TellSlice told (own_of k) (call_data o)
tell_of told (op.Write f kept) o g = tell_given told kept (op.Write f) o g (λ bytes. refl)
tell_of told (op.Append f kept) o g = tell_given told kept (op.Append f) o g (λ bytes. refl)
tell_of told k o g = tt

-- call k of a log was made once more
module _ {S : Type 0} (w : Work S) (tx : ℕ) (log : Calls) (k : ℕ) (a : Answer) (next : IsNext w tx log k a) where
  is_caller : IsCaller (work_region_size w) (inode_at tx k) (caller_at (work_region_size w) tx k)
  is_caller = record { size_is = refl; next = record { tx = refl; index = refl } }

  at_next : NamesHand w.kind w.before w.after w.kv w.old w.new (own_of next.op)
  at_next = elim next.again.whole [
    | inl whole ↦
        let some = some_call next.op in
        named_of w (caller_at (work_region_size w) tx k) (own_of next.op) some.0 a
        (next.again.does (inl whole) (caller_at (work_region_size w) tx k) some.0 is_caller some.1)
    | inr looked ↦
        named_none (λ P Q hole were has. named_same P Q w.kv w.old w.new next.again.acted.acts.base looked.0 looked.1 were)
  ]

  -- it names what was named, also by the log
  pub next_named : NamesAgain w.kind w.before w.after w.kv w.old w.new log
  next_named = named_by at_next (λ P Q were. were.0) (λ P Q hole were are. are (log_at P log k next.op next.at_op were.1))

  pub next_fit : AllFit w.old.at.changes (metadata_at w.kv w.old.at.base) → AllFit w.new.at.changes (metadata_at w.kv w.new.at.base)
  next_fit fit = elim next.again.whole [
    | inl whole ↦
        let some = some_call next.op in
        fit_of w (caller_at (work_region_size w) tx k) (own_of next.op) some.0 a
        (next.again.does (inl whole) (caller_at (work_region_size w) tx k) some.0 is_caller some.1) fit
    | inr looked ↦
        subst (λ n. AllFit w.new.at.changes (metadata_at w.kv n)) (sym next.again.acted.acts.base)
        (subst (λ cs. AllFit cs (metadata_at w.kv w.old.at.base)) (sym looked.0) fit)
  ]

  same_call : (kept : Op Kept) → slice_get log.ops k ≡ Some kept → kept ≡ next.op
  same_call kept at = let there : Some kept ≡ Some next.op = sym at ∙ next.at_op in cc

  -- it is the call for which it stands, where it answered what was shown
  pub next_told : KindLaws w.kind → GoesOn w.kind w.before w.after [] → IsLog log → slice_get log.shown k ≡ Some a
      → (ranges : List (ℕ × Range)) (kept : Op Kept) (o : Op (List ℕ)) → slice_get log.ops k ≡ Some kept
      → TellsHand w.kind w.before ranges (saw w) w.old.session → OpStandsFor (tells_slice (told_then w)) kept o
      → IsToldStep (told_now w) (own_of kept) (caller_at (work_region_size w) tx k) (saw w) w.old w.new o a
  next_told laws goes is_log shown ranges kept o at tells stands =
      let same : kept ≡ next.op = same_call kept at in
      let here : OpStandsFor (tells_slice (told_then w)) next.op o = subst (λ (q : Op Kept). OpStandsFor (tells_slice (told_then w)) q o) same stands in
      let any = OpStandsFor-weaker (tells_slice (told_then w)) (λ s bytes. Unit {0}) next.op o (λ s bytes has h. tt) here in
      let later = OpStandsFor-weaker (tells_slice (told_then w)) (tells_slice (told_now w)) next.op o
      (λ s bytes has. TellBytes-later (told_then w) (told_now w) (len_of s) (part_origin (Held s)) bytes (tells_on laws goes.each)) here in
      let size : work_region_size w ≡ w.after.settings.region = sym (ap (λ (st : Settings). st.region) goes.settings) in
      subst (λ (q : Op Kept). IsToldStep (told_now w) (own_of q) (caller_at (work_region_size w) tx k) (saw w) w.old w.new o a) (sym same)
      (told_of w (caller_at (work_region_size w) tx k) (own_of next.op) o a
      (next.again.does (is_log.kept k next.op a next.at_op shown) (caller_at (work_region_size w) tx k) o
      is_caller any) size ranges tells (tell_of (told_now w) next.op o later))

  -- and its answer is due
  pub next_due : (ranges : List (ℕ × Range)) (kept : Op Kept) (o : Op (List ℕ)) → slice_get log.ops k ≡ Some kept
      → TellsHand w.kind w.before ranges (saw w) w.old.session → OpStandsFor (tells_slice (told_then w)) kept o
      → IsDue (told_now w) (caller_at (work_region_size w) tx k) (saw w) w.old.session o a
  next_due ranges kept o at tells stands =
      next.again.due (caller_at (work_region_size w) tx k) o is_caller ranges tells
      (subst (λ (q : Op Kept). OpStandsFor (tells_slice (told_then w)) q o) (same_call kept at) stands)

  -- and by what it did it is the next of a transaction with this log
  unfoldable pub next_makes : (y : TxnView) → y.tx ≡ tx → y.log ≡ log → MakesAgain (scope w.kind w.before w.after) w.kv y k a w.old w.new
  next_makes y number logs =
      let acted = next.again.acted in
      let z : ℕ = work_region_size w in
      let s : SessionView = w.old.session in
      record {
        op = next.op;
        at_op = subst (λ (l : Calls). slice_get l.ops k ≡ Some next.op) (sym logs) next.at_op;
        lists = acted.lists;
        known = acted.known;
        reads = subst (λ (n : ℕ). CallReads (sight z (saw w) s (inode_at n k) acted.lists) next.op a) (sym number) acted.reads;
        acts = subst (λ (n : ℕ). Acts (sight z (saw w) s (inode_at n k) acted.lists) (kept_len next.op) (own_of next.op) next.op a w.old.at w.new.at)
            (sym number) acted.acts;
        holds = subst (λ (n : ℕ). CallHolds (sight z (saw w) s (inode_at n k) acted.lists) (own_of next.op) next.op a s w.new.session)
            (sym number) acted.holds;
        logged = next.again.logged;
      }

  unfoldable pub next_redoes : slice_get log.shown k ≡ Some a → (y : TxnView) → y.tx ≡ tx → y.log ≡ log
      → Redoes (scope w.kind w.before w.after) w.kv y k w.old w.new
  next_redoes shown y number logs = record {
    shown = a;
    at_shown = subst (λ (l : Calls). slice_get l.shown k ≡ Some a) (sym logs) shown;
    makes = next_makes y number logs;
  }
