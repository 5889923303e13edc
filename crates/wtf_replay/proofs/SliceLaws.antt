-- Calls on slices, and those that make a file of others, as calls of a transaction.
use Rattle.std.proofs.Common.{◌≡◌, ℕ, Bool, false, List, [], ◌∷◌, Option, Some, None, refl, sym, ap, ◌∙◌, subst, inl, inr}
use Rattle.std.specs.Prelude.{⊤}
use Rattle.wtf_base.specs.declared.fault.Fault.{Fault}
use Rattle.wtf_base.specs.declared.fault.Fault.TheVariants as fault
use Rattle.wtf_base.specs.declared.kept.Kept.{Kept}
use Rattle.wtf_base.specs.declared.settings.Settings.{Settings}
use Rattle.wtf_base.specs.declared.slice.Slice.{Slice}
use Rattle.wtf_dev.specs.Store.{Range, StoreKind}
use Rattle.wtf_overlay.specs.Origin.{Place}
use Rattle.wtf_overlay.specs.declared.part.Piece.{Piece}
use Rattle.wtf_model.specs.declared.answer.Answer.{Answer}
use Rattle.wtf_model.specs.declared.op.Op.{Op}
use Rattle.wtf_model.specs.declared.op.Op.TheVariants as op
use Rattle.wtf_model.specs.Form.{IsFormOp}
use Rattle.wtf_meta.specs.Bytes.{PiecesBytes}
use Rattle.wtf_meta.specs.Contents.{Told}
use Rattle.wtf_meta.specs.Maps.{Map}
use Rattle.wtf_meta.specs.Sessions.{SessionView, slice_in}
use Rattle.wtf_meta.specs.Calls.{Caller, Fact, Did, TellFacts, IsCall}
use Rattle.wtf_meta.proofs.Named.{PiecesBytes-none}
use Rattle.wtf_region.specs.declared.dev.Dev.{Dev}
use Rattle.wtf_meta.specs.Lists.{ListFact}
use Rattle.wtf_region.specs.Cached.{recalled}
use Rattle.wtf_region.specs.Devs.{told_in, remembered}
use Rattle.wtf_region.specs.Reads.{Recalls}
use Rattle.wtf_steps.specs.Faults.{MayFault}
use Rattle.wtf_steps.specs.Steps.{IsStepWith}
use Rattle.wtf_steps.specs.Scenes.{Scene}
use Rattle.wtf_rw.specs.Stored.{IsPutFault}
use Rattle.wtf_slicing.specs.declared.op.SliceOp.{SliceOp}
use Rattle.wtf_slicing.specs.declared.op.SliceOp.TheVariants.{Yank, Peek, Cut, Paste, Glue, Concat, Copy}
use Rattle.wtf_slicing.specs.Ops.{op_of, IsFormSlice, DoesSlice, IsSliceFault, NeedsNoStore}
use Rattle.wtf_slicing.specs.Shown.{LacksSlice}
use Rattle.wtf_slicing.specs.Sights.{Sight}
use Rattle.wtf_replay.specs.Built.{is_rw_op, IsPlainOp, IsSliceOpOf}
use Rattle.wtf_replay.specs.Causes.{FaultOf, IsOwnOf, IsCallFault, IsAgainFault, IsStillOp, grown_place}
use Rattle.wtf_replay.specs.Effects.{CallReads}
use Rattle.wtf_replay.specs.Keeps.{IsWholeOp, LacksData}
use Rattle.wtf_replay.specs.Sounds.{TellsHand}
use Rattle.wtf_replay.specs.Works.{Work, IsWork, saw, scene_of}
use Rattle.wtf_replay.proofs.ReadLists.{slice_read}

-- where bytes of a slice were not shown, the lists that are remembered are what they were
lists_stay : {S : Type 0} (kind : StoreKind S) (old new : Dev S) (slice : Option (List Piece)) (off n : ℕ) (why : Fault)
    → LacksSlice kind old new slice off n why → remembered new ≡ remembered old
lists_stay kind old new None off n why h = absurd h
lists_stay kind old new (Some ps) off n why h = h.1

module _ {S D : Type 0} (kind : StoreKind S) (old new : Dev S) (w : Map) (s : SessionView) where
  -- what a call k is that is made as r
  pub record SliceWays (r : SliceOp) (k : Op D) : Type 0 where
    pub is : (o : Op (List ℕ)) → IsPlainOp k o → op_of r ≡ o
    pub form : IsFormOp (λ (d : D). ⊤) k → IsFormSlice r
    pub still : IsStillOp k → NeedsNoStore r
    pub fault : (why : Fault) → IsSliceFault kind old new w s r why → IsAgainFault kind old new w s k why

  pub slice_ways : (r : SliceOp) (k : Op D) → IsSliceOpOf r k → SliceWays r k
  slice_ways (Yank f n l) k e =
      subst (SliceWays (Yank f n l)) (sym e) (record { is = λ o h. sym h; form = λ h. (h.0, h.2); still = λ h. absurd h; fault = λ why h. h })
  slice_ways (Peek l off n) k e =
      subst (SliceWays (Peek l off n)) (sym e) (record {
        is = λ o h. sym h;
        form = λ h. h;
        still = λ h. absurd h;
        fault = λ why h. (inr h, lists_stay kind old new (slice_in s l) off n why h);
      })
  slice_ways (Cut l off n to) k e =
      subst (SliceWays (Cut l off n to)) (sym e) (record { is = λ o h. sym h; form = λ h. h; still = λ h. tt; fault = λ why h. h })
  slice_ways (Paste f l) k e = subst (SliceWays (Paste f l)) (sym e) (record { is = λ o h. sym h; form = λ h. h; still = λ h. tt; fault = λ why h. h })
  slice_ways (Glue f l) k e = subst (SliceWays (Glue f l)) (sym e) (record { is = λ o h. sym h; form = λ h. h; still = λ h. tt; fault = λ why h. h })
  slice_ways (Concat q paths) k e =
      subst (SliceWays (Concat q paths)) (sym e) (record { is = λ o h. sym h; form = λ h. tt; still = λ h. absurd h; fault = λ why h. h })
  slice_ways (Copy p q) k e = subst (SliceWays (Copy p q)) (sym e) (record { is = λ o h. sym h; form = λ h. tt; still = λ h. tt; fault = λ why h. h })

-- a call that shows bytes of a slice
abbrev pub Peeks : {D : Type 0} → Op D → Type 0
Peeks (op.Peek l off n) = ⊤
Peeks o = ⊥

-- asks for no list
pub peek_left : {S D : Type 0} (kind : StoreKind S) (old new : Dev S) (x : Sight) (o : Op D) (a : Answer) → CallReads x o a → Recalls kind old new x.lists
    → Peeks o → remembered new ≡ remembered old
peek_left kind old new x (op.Peek l off n) a reads recalls peeks =
    recalls.left ∙ ap (λ (facts : List ListFact). recalled facts (remembered old)) reads
peek_left kind old new x o a reads recalls peeks = absurd peeks

-- memory may be short for each call
pub memory_fault : {S D : Type 0} (sc : Scene S) (P : D → Fault → Type 0) (s : SessionView) (o : Op D) (why : Fault) → ((d : D) → P d why)
    → (Peeks o → remembered sc.after ≡ remembered sc.before) → why ≡ fault.Memory → FaultOf sc P s o why
memory_fault sc P s (op.Write f d) why puts stay e = puts d
memory_fault sc P s (op.Append f d) why puts stay e = puts d
memory_fault sc P s (op.Read f n) why puts stay e = inl e
memory_fault sc P s (op.Yank f n l) why puts stay e = inl e
memory_fault sc P s (op.Peek l off n) why puts stay e = (inl e, stay tt)
memory_fault sc P s (op.Concat q paths) why puts stay e = inl e
memory_fault sc P s o why puts stay e = e

put_short : {S : Type 0} (kind : StoreKind S) (old new : Dev S) (bytes : List ℕ) (why : Fault) → why ≡ fault.Memory → IsPutFault kind old new bytes why
put_short kind old new [] why e = e
put_short kind old new (b ∷ bs) why e = inl e

pub call_short : {S : Type 0} (kind : StoreKind S) (old new : Dev S) (w : Map) (s : SessionView) (o : Op (List ℕ)) (why : Fault)
    → (Peeks o → remembered new ≡ remembered old) → why ≡ fault.Memory → IsCallFault kind old new w s o why
call_short kind old new w s o why stay e =
    memory_fault (record { kind = kind; before = old; after = new; map = w }) (IsPutFault kind old new) s o why
    (λ bytes. put_short kind old new bytes why e) stay e

-- a call stored nothing
stored_none : {S : Type 0} (sc : Scene S) (s : SessionView) (r : SliceOp) (did : Did) → DoesSlice sc s r did → did.stored ≡ []
stored_none sc s (Yank f n l) did does = does.stored
stored_none sc s r did does = does.stored

pub no_facts : (told : Told) (facts : List Fact) → facts ≡ [] → TellFacts told facts
no_facts told facts e = subst (TellFacts told) (sym e) tt

slice_facts : {S : Type 0} (sc : Scene S) (ranges : List (ℕ × Range)) (s : SessionView) (r : SliceOp) (did : Did) → DoesSlice sc s r did
    → TellsHand sc.kind sc.before ranges sc.map s → TellFacts (told_in sc.kind sc.after) did.facts
slice_facts sc ranges s (Peek l off n) did does tells = does.told tells.slices
slice_facts sc ranges s r did does tells = no_facts (told_in sc.kind sc.after) did.facts does.facts

-- P holds of what it stored, which is nothing
stored_bytes_none : {S : Type 0} (P : List Place → Bool) (sc : Scene S) (s : SessionView) (r : SliceOp) (did : Did) → DoesSlice sc s r did
    → PiecesBytes P did.stored
stored_bytes_none P sc s r did does = subst (PiecesBytes P) (sym (stored_none sc s r did does)) (PiecesBytes-none P)

-- what it did
pub slice_work : {S : Type 0} (w : Work S) (own : Option Slice) (r : SliceOp) (x : Caller) (o : Op (List ℕ)) (a : Answer)
    → IsStepWith (DoesSlice (scene_of w) w.old.session r) x (saw w) w.old w.new (op_of r) a → op_of r ≡ o → IsWork w x own o a
slice_work w own r x o a one is =
    let read = slice_read (scene_of w) w.old.session r one.did one.more in
    record {
      step = record { did = one.did; grows = one.grows; is_call = subst (λ q. IsCall x (saw w) w.old.session w.new.session one.did q a) is one.is_call };
      kept = λ P has. stored_bytes_none P (scene_of w) w.old.session r one.did one.more;
      inside = read.inside;
      lists = read.told;
      facts = λ ranges tells tell. slice_facts (scene_of w) ranges w.old.session r one.did one.more tells;
    }

module _ {S : Type 0} (kind : StoreKind S) (old new : Dev S) (w : Map) (s : SessionView) where
  -- what a call without data stored: nothing
  pub plain_own : (o : Op (List ℕ)) → is_rw_op o ≡ false → (IsStillOp o → new ≡ old) → IsOwnOf kind old new w s o None
  plain_own (op.Write f bytes) b still = absurd (cc)
  plain_own (op.Append f bytes) b still = absurd (cc)
  plain_own (op.Read f n) b still = absurd (cc)
  plain_own (op.Yank f n l) b still = refl
  plain_own (op.Peek l off n) b still = refl
  plain_own (op.Concat q paths) b still = refl
  plain_own o b still = (still tt, refl)

  -- its fault is that of a call
  pub plain_fault : (o : Op (List ℕ)) → is_rw_op o ≡ false → (why : Fault) → IsAgainFault kind old new w s o why → IsCallFault kind old new w s o why
  plain_fault (op.Write f bytes) b why h = absurd (cc)
  plain_fault (op.Append f bytes) b why h = absurd (cc)
  plain_fault o b why h = h

-- a call without data lacks none of it
pub plain_lacks : (o : Op (List ℕ)) (a : Answer) → is_rw_op o ≡ false → LacksData o None a
plain_lacks (op.Write f bytes) a b = absurd (cc)
plain_lacks (op.Append f bytes) a b = absurd (cc)
plain_lacks o a b = λ none. inl refl

-- and stores none
pub plain_place : {S : Type 0} (dev : Dev S) (w : Map) (s : SessionView) (o : Op (List ℕ)) → is_rw_op o ≡ false → grown_place dev w s o ≡ None
plain_place dev w s (op.Write f bytes) b = absurd (cc)
plain_place dev w s (op.Append f bytes) b = absurd (cc)
plain_place dev w s o b = refl

pub plain_whole : (k : Op Kept) → is_rw_op k ≡ false → IsWholeOp k
plain_whole (op.Write f kept) b = absurd (cc)
plain_whole (op.Append f kept) b = absurd (cc)
plain_whole k b = tt

-- want of memory may come in place of whatever is due
pub memory_due : (settings : Settings) (w : Map) (s : SessionView) (o : Op (List ℕ)) (why : Fault) → why ≡ fault.Memory → MayFault settings w s o why
memory_due settings w s o why e = subst (MayFault settings w s o) (sym e) (λ x told S size st holds. tt)
