-- What any call does, from what its own does.
use Rattle.std.proofs.Common.{◌≡◌, ℕ, [], ◌++◌, List, Result, Ok, Err, refl, sym, subst, append-nil}
use Rattle.std.specs.Prelude.{IfOk, IfErr, OnOk, OnErr}
use Rattle.std.specs.Borrow.{Bor}
use Rattle.wtf_base.specs.declared.fault.Fault.{Fault}
use Rattle.wtf_base.specs.declared.fault.Fault.TheVariants as fault
use Rattle.wtf_base.specs.declared.ids.InodeId.{InodeId}
use Rattle.wtf_base.specs.declared.memory.OutOfMemory.{OutOfMemory}
use Rattle.wtf_dev.specs.Store.{StoreKind, KindLaws}
use Rattle.wtf_occ.specs.Attempts.{Attempted}
use Rattle.wtf_occ.proofs.AttemptLaws.{GrowsBy-nothing, Grows-by}
use Rattle.wtf_model.specs.declared.answer.Answer.{Answer}
use Rattle.wtf_model.specs.declared.op.Op.TheVariants as op
use Rattle.wtf_values.specs.declared.key.Key.{Key}
use Rattle.wtf_values.specs.declared.value.Delta.{Delta}
use Rattle.wtf_meta.specs.Maps.{Map}
use Rattle.wtf_meta.specs.Calls.{Caller, InHand}
use Rattle.wtf_meta.specs.Sessions.{SessionView, handle_in, slice_in}
use Rattle.wtf_region.specs.declared.dev.Dev.{Dev}
use Rattle.wtf_region.specs.Devs.{IsSoundDev, stores, is_down_in}
use Rattle.wtf_region.proofs.ShowLaws.{reads_nothing}
use Rattle.wtf_region.proofs.Spans.{goes_nowhere}
use Rattle.wtf_steps.specs.Faults.{MayFault}
use Rattle.wtf_steps.specs.Holding.{LeavesHand}
use Rattle.wtf_steps.specs.Made.{Makes}
use Rattle.wtf_steps.specs.Recorded.{read_keys}
use Rattle.wtf_steps.specs.Scenes.{Scene}
use Rattle.wtf_steps.specs.Steps.{IsStepWith, in_hand}
use Rattle.wtf_steps.proofs.Making.{makes_nothing}
use Rattle.wtf_slicing.specs.declared.op.SliceOp.{SliceOp}
use Rattle.wtf_slicing.specs.declared.op.SliceOp.TheVariants.{Yank, Peek, Concat}
use Rattle.wtf_slicing.specs.Called.{LaysSlice, ShowsPart, SliceLeft, TakesSlice, SlicingOf, plain_of}
use Rattle.wtf_slicing.specs.Changed.{SliceMade}
use Rattle.wtf_slicing.specs.Held.{SliceHolds, SliceReads, SliceDone, sees}
use Rattle.wtf_slicing.specs.Ops.{IsSliceStep, IsSliceFault, IsYankFault, IsConcatFault, slice_keys}
use Rattle.wtf_slicing.specs.Recorded.{concat_keys}
use Rattle.wtf_slicing.specs.Shown.{TellsLists, TellsSlices, LacksSlice}
use Rattle.wtf_slicing.specs.Steps.{IsNewFor}
use Rattle.wtf_slicing.proofs.DoneWays.{hand_same, done_plain}

-- the same call by another name
pub named : {S : Type 0} (sc : Scene S) (made : InodeId) (old new : InHand) (o p : SliceOp) (r : Result Answer Fault) → o ≡ p
    → SlicingOf sc made old new p r → SlicingOf sc made old new o r
named sc made old new o p r is call = subst (λ (q : SliceOp). SlicingOf sc made old new q r) (sym is) call

-- no key is recorded
pub no_keys : {A E : Type 0} (r : Result A E) (at : Attempted Key Delta) → OnOk r (at.reads ≡ at.reads ++ [])
no_keys (Ok a) at = sym (append-nil at.reads)
no_keys (Err e) at = tt

-- what is so whatever comes of a call
pub on_err_all : {A E : Type 0} (P : Type 0) (r : Result A E) → P → OnErr r P
on_err_all P (Ok a) has = tt
on_err_all P (Err e) has = has

pub if_ok_all : {A E : Type 0} (P : A → Type 0) (r : Result A E) → ((a : A) → P a) → IfOk r P
if_ok_all P (Ok a) all = all a
if_ok_all P (Err e) all = tt

-- a call that is lent no store
abbrev pub still : {S : Type 0} → StoreKind S → Dev S → Map → Scene S
still kind dev w = record { kind = kind; before = dev; after = dev; map = w }

-- what it does, with its result
pub record Plain {S : Type 0} (sc : Scene S) (made : InodeId) (old new : InHand) (p : SliceOp) (r : Result Answer OutOfMemory) : Type 0 where
  pub keys : OnOk r (new.at.reads ≡ old.at.reads ++ slice_keys sc.before.settings.region sc.map old.session p)
  pub step : IfOk r (λ a. IsSliceStep sc sc.before.settings.region made old new p a)
  pub makes : IfOk r (λ a. Makes a (SliceMade (sees sc made old.session []) p) old.at new.at)
  pub holds : IfOk r (λ a. LeavesHand a (SliceHolds (sees sc made old.session []) p) old.session new.session)
  pub lays : LaysSlice old new r

plain_is : {S : Type 0} {kind : StoreKind S} → KindLaws kind → (dev : Dev S) → IsSoundDev kind dev → (w : Map) (made : InodeId) (old new : InHand) (p : SliceOp)
    (r : Result Answer OutOfMemory) → SliceReads (sees (still kind dev w) made old.session []) p → IsSliceFault kind dev dev w old.session p fault.Memory
    → Plain (still kind dev w) made old new p r → SlicingOf (still kind dev w) made old new p (plain_of r)
plain_is {kind = kind} laws dev sound w made old new p (Ok a) none memory call = record {
  keys = call.keys;
  step = call.step;
  done = done_plain (still kind dev w) made p a old new none refl call.makes call.holds;
  logged = call.lays.logged;
  refused = λ h. (refl, call.lays.refused h, call.holds.refused h);
  fault = tt;
  due = tt;
  err = tt;
  grows = call.lays.grows;
  still = λ needs. refl;
  reads = reads_nothing kind (is_down_in dev) (stores dev);
  dev = goes_nowhere laws dev sound;
}
plain_is {kind = kind} laws dev sound w made old new p (Err e) none memory call = record {
  keys = tt;
  step = tt;
  done = tt;
  logged = tt;
  refused = tt;
  fault = memory;
  due = λ x told T size st holds. tt;
  err = call.lays.err;
  grows = call.lays.grows;
  still = λ needs. refl;
  reads = reads_nothing kind (is_down_in dev) (stores dev);
  dev = goes_nowhere laws dev sound;
}

pub plain_call : {S : Type 0} {kind : StoreKind S} → KindLaws kind → (dev : Dev S) → IsSoundDev kind dev
    → (w : Map) (made : InodeId) (old new : InHand) (o p : SliceOp)
    (r : Result Answer OutOfMemory) (q : Result Answer Fault) → o ≡ p → q ≡ plain_of r
    → SliceReads (sees (still kind dev w) made old.session []) p → IsSliceFault kind dev dev w old.session p fault.Memory
    → Plain (still kind dev w) made old new p r → SlicingOf (still kind dev w) made old new o q
plain_call {kind = kind} laws dev sound w made old new o p r q is out none memory call =
    named (still kind dev w) made old new o p q is
    (subst (λ (u : Result Answer Fault). SlicingOf (still kind dev w) made old new p u) (sym out) (plain_is laws dev sound w made old new p r none memory call))

module _ {S : Type 0} (kind : StoreKind S) (dev left : Dev S) (w : Map) (made : InodeId) where
  -- what is lent to a call, and what is left of it
  abbrev lent : Scene S
  lent = record { kind = kind; before = dev; after = left; map = w }

  -- a call that shows a part of a slice
  pub peek_of : (at : Attempted Key Delta) (s t : SessionView) (label off n : ℕ) (r : Result Answer Fault)
      → IfOk r (λ a. (x : Caller) (b : Map) (now : InHand) → now.session ≡ s
      → IsStepWith (TellsSlices kind (stores dev) (stores left) s) x b now now (op.Peek label off n) a)
      → IfErr r (LacksSlice kind dev left (slice_in s label) off n) → IfErr r (λ why. (b : Map) → MayFault dev.settings b s (op.Peek label off n) why)
      → ShowsPart kind dev left s t r → SlicingOf lent made (in_hand at s) (in_hand at t) (Peek label off n) r
  peek_of at s t label off n (Ok a) step lacks due shows = record {
    keys = sym (append-nil at.reads);
    step = λ x size own. subst (λ (u : SessionView). IsStepWith (TellsSlices kind (stores dev) (stores left) s) x w (in_hand at s) (in_hand at u)
        (op.Peek label off n) a) (sym shows.same) (step x w (in_hand at s) refl);
    done = done_plain lent made (Peek label off n) a (in_hand at s) (in_hand at t) refl shows.lists
        (makes_nothing a (SliceMade (sees lent made s []) (Peek label off n)) at at refl refl) (hand_same a s t shows.same);
    logged = shows.logged;
    refused = λ h. (shows.refused h, refl, shows.same);
    fault = tt;
    due = tt;
    err = tt;
    grows = Grows-by at at [] [] (GrowsBy-nothing at);
    still = λ needs. absurd needs;
    reads = shows.reads;
    dev = shows.dev;
  }
  peek_of at s t label off n (Err why) step lacks due shows = record {
    keys = tt;
    step = tt;
    done = tt;
    logged = tt;
    refused = tt;
    fault = lacks;
    due = due w;
    err = shows.same;
    grows = Grows-by at at [] [] (GrowsBy-nothing at);
    still = λ needs. absurd needs;
    reads = shows.reads;
    dev = shows.dev;
  }

  -- one that takes bytes of a file for a slice
  pub yank_of : (old new : InHand) (f n label : ℕ) (r : Result Answer Fault)
      → OnOk r (new.at.reads ≡ old.at.reads ++ read_keys dev.settings.region w (handle_in old.session f) n)
      → IfOk r (λ a. (x : Caller) → x.size ≡ dev.settings.region → IsStepWith (TellsLists kind dev left w) x w old new (op.Yank f n label) a)
      → IfOk r (λ a. (i : InodeId) → SliceDone lent i (Yank f n label) a old new) → IfErr r (IsYankFault kind dev left w (handle_in old.session f) n)
      → IfErr r (MayFault dev.settings w old.session (op.Yank f n label)) → TakesSlice kind dev left old new r
      → SlicingOf lent made old new (Yank f n label) r
  yank_of old new f n label (Ok a) keys step done lacks due takes = record {
    keys = keys;
    step = λ x size own. step x size;
    done = done made;
    logged = takes.logged;
    refused = λ h. let same = takes.refused h in (same.0, same.1, (done made).holds.refused h);
    fault = tt;
    due = tt;
    err = tt;
    grows = takes.grows;
    still = λ needs. absurd needs;
    reads = takes.reads;
    dev = takes.dev;
  }
  yank_of old new f n label (Err why) keys step done lacks due takes = record {
    keys = tt;
    step = tt;
    done = tt;
    logged = tt;
    refused = tt;
    fault = lacks;
    due = due;
    err = takes.err;
    grows = takes.grows;
    still = λ needs. absurd needs;
    reads = takes.reads;
    dev = takes.dev;
  }

  -- and one that takes all bytes of files for another
  pub concat_of : (was now : Attempted Key Delta) (s : SessionView) (q : Bor (List ℕ)) (ps : Bor (List (List ℕ))) (r : Result Answer Fault)
      → OnOk r (now.reads ≡ was.reads ++ concat_keys w q.now ps.now)
      → IfOk r (λ a. (x : Caller) (u : SessionView) → x.size ≡ dev.settings.region → IsNewFor x made
      → IsStepWith (TellsLists kind dev left w) x w (in_hand was u) (in_hand now u) (op.Concat q.now ps.now) a)
      → IfOk r (λ a. (u : SessionView) → SliceDone lent made (Concat q ps) a (in_hand was u) (in_hand now u)) → IfErr r (IsConcatFault kind dev left w ps.now)
      → IfErr r (λ why. (u : SessionView) → MayFault dev.settings w u (op.Concat q.now ps.now) why) → SliceLeft kind dev left was now r
      → SlicingOf lent made (in_hand was s) (in_hand now s) (Concat q ps) r
  concat_of was now s q ps (Ok a) keys step done lacks due left = record {
    keys = keys;
    step = λ x size own. step x s size own;
    done = done s;
    logged = left.logged;
    refused = λ h. let same = left.refused h in (same.0, same.1, refl);
    fault = tt;
    due = tt;
    err = tt;
    grows = left.grows;
    still = λ needs. absurd needs;
    reads = left.reads;
    dev = left.dev;
  }
  concat_of was now s q ps (Err why) keys step done lacks due left = record {
    keys = tt;
    step = tt;
    done = tt;
    logged = tt;
    refused = tt;
    fault = lacks;
    due = due s;
    err = refl;
    grows = left.grows;
    still = λ needs. absurd needs;
    reads = left.reads;
    dev = left.dev;
  }
